-- What every call keeps of a book, all together, and so every list of calls.
use Rattle.std.proofs.Common.{◌≡◌, ℕ, ◌≤◌, List, [], ◌∷◌, length, sym, refl, ap, ◌∙◌, subst, arith}
use Rattle.std.specs.List.{AllByRecursion}
use Rattle.std.proofs.lemmas.Bool.{false≢true}
use Rattle.terms.specs.Days.{Days}
use Rattle.sheets.specs.Rules.{Rules}
use Rattle.journal.specs.Accounts.{held, aside}
use Rattle.law.specs.View.{View, nobody, posted_on}
use Rattle.law.specs.Keeps.{Kept, Termed}
use Rattle.law.specs.Opened.{opened}
use Rattle.law.specs.Calls.{Call, step, run}
use Rattle.law.specs.TurnLaw.{IsChecked}
use Rattle.law.specs.KeepsLaw.{EveryCallKeeps}
use Rattle.law.proofs.Finds.{count-nobody}
use Rattle.law.proofs.OpenedKeeps.{all_alike}
use Rattle.law.proofs.Postings.{postings_elsewhere}
use Rattle.law.proofs.OwnSums.{Accounted}
use Rattle.law.proofs.HoldersInPlaces.{Whole}
use Rattle.law.proofs.EveryCallKeeps.{whole_step}
use Rattle.law.proofs.SoundSteps.{Sound, sound_step, sound_opened}
use Rattle.law.proofs.Terms.{terms_step, days_stay}

-- the accounts are sound with p posted, and whoever holds MW stands in the places
pub record Right (p : ℕ → ℕ) (v : View) : Type 0 where
  pub sound : Sound p v
  pub whole : Whole v.lines v.places

pub right_step : (R : Rules) (p : ℕ → ℕ) (v : View) → Right p v → (c : Call) → Right p (step R c v).1
right_step R p v r c = record { sound = sound_step R p v r.sound c; whole = whole_step R v r.whole r.sound.low c }

pub right_run : (R : Rules) (p : ℕ → ℕ) (cs : List Call) (v : View) → Right p v → Right p (run R cs v)
unfolding run
right_run R p [] v r = r
right_run R p (c ∷ cs) v r = right_run R p cs (step R c v).1 (right_step R p v r c)

pub right_opened : (days : Days) (places room : ℕ) → Right (posted_on days) (opened days places room)
right_opened days places room = record {
  sound = sound_opened days places room;
  whole = record {
    supp = record {
      solvent = (sound_opened days places room).fine.solvent;
      holds = λ a k p. absurd (let z = postings_elsewhere days.amounts (held a) k (omega arith) in omega arith);
      asides = λ a b k p. absurd (let z = postings_elsewhere days.amounts (aside a b) k (omega arith) in omega arith);
    };
    once = λ a. omega (arith, count-nobody a places);
  };
}

pub right_at : (R : Rules) (days : Days) (places room : ℕ) (cs : List Call) → Right (posted_on days) (run R cs (opened days places room))
right_at R days places room cs = right_run R (posted_on days) cs (opened days places room) (right_opened days places room)

pub terms_run : (R : Rules) (cs : List Call) (v : View) → AllByRecursion IsChecked cs → AllByRecursion (Termed v.days) v.places → AllByRecursion (Termed (run R cs v).days) (run R cs v).places
unfolding run
terms_run R [] v h t = t
terms_run R (c ∷ cs) v h t = terms_run R cs (step R c v).1 h.1 (subst (λ days. AllByRecursion (Termed days) (step R c v).1.places) (sym (days_stay R c v)) (terms_step R v t c h.0))

pub terms_at : (R : Rules) (days : Days) (places room : ℕ) (cs : List Call) → AllByRecursion IsChecked cs →
    AllByRecursion (Termed (run R cs (opened days places room)).days) (run R cs (opened days places room)).places
terms_at R days places room cs h = terms_run R cs (opened days places room) h (all_alike (Termed days) places nobody (omega arith, omega arith, λ l. absurd (false≢true l)))

-- no list of calls changes the posted days
pub days_at : (R : Rules) (cs : List Call) (v : View) → (run R cs v).days ≡ v.days
unfolding run
days_at R [] v = refl
days_at R (c ∷ cs) v = days_at R cs (step R c v).1 ∙ days_stay R c v

pub accounted_right : (days : Days) (v : View) → v.days ≡ days → Right (posted_on days) v → Accounted v
accounted_right days v e I = record {
  solvent = I.sound.fine.solvent;
  named = I.sound.fine.names;
  posted = λ day. I.sound.fine.whole day ∙ ap (λ ds. posted_on ds day) (sym e);
  holders = I.whole.supp.holds;
  challenged = λ a b day p. (I.whole.supp.asides a b day p).0;
  once = I.whole.once;
  accepted = I.sound.low;
}

right_kept : (v : View) → Kept v → Right (posted_on v.days) v
right_kept v K = record {
  sound = record { fine = record { solvent = K.solvent; names = K.named; whole = K.posted }; low = K.accepted };
  whole = record { supp = record { solvent = K.solvent; holds = K.holders; asides = λ a b day p. (K.challenged a b day p, K.competing a b day p) }; once = K.once };
}

pub every_call_keeps : EveryCallKeeps
every_call_keeps R v c K h =
    let w = (step R c v).1 in
    let I = right_step R (posted_on v.days) v (right_kept v K) c in
    let e = sym (days_stay R c v) in
    record {
      solvent = I.sound.fine.solvent;
      named = I.sound.fine.names;
      posted = λ day. I.sound.fine.whole day ∙ ap (λ days. posted_on days day) e;
      amounts = λ day. subst (λ days. posted_on days day ≤ 20000) e (K.amounts day);
      days = subst (λ days. length days.amounts ≤ 400) e K.days;
      prescheduled = subst (λ days. length days.preschedule ≡ length days.amounts) e K.prescheduled;
      holders = I.whole.supp.holds;
      challenged = λ a b day p. (I.whole.supp.asides a b day p).0;
      competing = λ a b day p. (I.whole.supp.asides a b day p).1;
      once = I.whole.once;
      terms = subst (λ days. AllByRecursion (Termed days) w.places) e (terms_step R v K.terms c h);
      accepted = I.sound.low;
    }
