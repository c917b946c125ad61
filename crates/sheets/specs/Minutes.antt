-- Last minutes, included; none where there is no such minute.
use Rattle.std.specs.Prelude.{ℕ, ◌-◌, Bool, false, cond, Some, None, Option, nat_le}

-- so many minutes ahead of a minute; a negative limit is none
abbrev pub ahead_of : ℕ → ℕ → Option ℕ
ahead_of minute lead = cond (nat_le lead minute) (Some (minute - lead)) None

-- is it no later than the last minute? None is never met
abbrev pub not_past : Option ℕ → ℕ → Bool
not_past None minute = false
not_past (Some last) minute = nat_le minute last

-- the limit that follows from a minute, where there is one
abbrev pub given : Option ℕ → (ℕ → Option ℕ) → Option ℕ
given None limit = None
given (Some minute) limit = limit minute
