-- What is read off the standing of a record.
use Rattle.std.specs.Prelude.{Bool, not, ◌||◌}
use Rattle.terms.specs.declared.request.Standing.{Standing}
use Rattle.terms.specs.Words.{is_pending}

-- a record is committed if it is preconfirmed or not pending
abbrev pub committed : Standing → Bool
committed d = d.request.preconfirmed || not (is_pending d.state)
