-- What a call answers, in the words of the rules.
use Rattle.std.specs.Prelude.{Ok, Err, Result}
use Rattle.terms.specs.declared.refusal.Refusal.{Refusal}
use Rattle.law.specs.Calls.{Answer, refusal, done}
use Rattle.answers.specs.declared.Done.{Done}

abbrev pub told : Result Done Refusal → Answer
told (Ok d) = done d.aref d.state d.first d.count
told (Err e) = refusal e
