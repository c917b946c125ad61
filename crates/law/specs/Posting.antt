-- Postings: lines that move MW, and days gone through one by one.
use Rattle.std.specs.Prelude.{ℕ, zero, suc, ◌+◌, max, Bool, true, cond, ◌&&◌, List, [], ◌∷◌, ◌++◌, ◌==◌}
use Rattle.journal.specs.declared.line.Line.{Line}
use Rattle.journal.specs.declared.line.LineKind.{LineKind}
use Rattle.journal.specs.Accounts.{free, held, balance}

-- one line at most: nothing is written of no MW
unfoldable pub post : ℕ → LineKind → ℕ → ℕ → ℕ → ℕ → List Line → List Line
post minute kind a b day mw ls = cond (mw == 0) ls (ls ++ record { minute = minute; kind = kind; a = a; b = b; day = day; mw = mw } ∷ [])

-- for each of n days from a day on
unfoldable pub by_day : (ℕ → List Line → List Line) → ℕ → ℕ → List Line → List Line
by_day f day zero ls = ls
by_day f day (suc n) ls = by_day f (suc day) n (f day ls)

-- does a test hold on each of n days from a day on?
unfoldable pub each_day : (ℕ → Bool) → ℕ → ℕ → Bool
each_day p day zero = true
each_day p day (suc n) = p day && each_day p (suc day) n

-- the largest of n days' amounts from a day on
unfoldable pub largest : (ℕ → ℕ) → ℕ → ℕ → ℕ
largest f day zero = 0
largest f day (suc n) = max (f day) (largest f (suc day) n)

-- on how many of n days from a day on there is something
unfoldable pub busy_days : (ℕ → ℕ) → ℕ → ℕ → ℕ
busy_days f day zero = 0
busy_days f day (suc n) = busy_days f day n + cond (f (day + n) == 0) 0 1

-- what an AREF holds on a day, and what is free
abbrev pub holding : List Line → ℕ → ℕ → ℕ
holding ls a day = balance ls (held a) day

abbrev pub free_on : List Line → ℕ → ℕ
free_on ls day = balance ls free day
