-- When a record falls due.
use Rattle.std.specs.Prelude.{ℕ, ◌+◌, cond}
use Rattle.terms.specs.declared.request.Standing.{Standing}
use Rattle.terms.specs.Days.{first_minute}
use Rattle.terms.specs.Words.{is_pending}
use Rattle.sheets.specs.Rules.{Rules}

-- a record that now stands so: a pending one a confirm time later, any other when its last day is over
abbrev pub due_of : Rules → ℕ → Standing → ℕ
due_of R minute d = cond (is_pending d.state) (minute + R.confirm_time d) (first_minute (d.request.start + d.request.length))
