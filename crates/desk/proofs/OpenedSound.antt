-- A desk newly opened is sound: its view is a book newly opened, and its memory shows the accounts.
use Rattle.std.proofs.Common.{◌≡◌, ℕ, zero, suc, ◌≤◌, Bool, true, false, eqb, leb, List, [], ◌∷◌, ◌++◌, map, length, get_or, replicate, Some, None, Option, sym, refl, ap, ◌∙◌, subst, arith}
use lib.LanesLaws.{map-replicate}
use Rattle.std.specs.List.{AllByRecursion}
use Rattle.std.proofs.lemmas.List.{take-append-le, take_all, get_or-replicate, length-append}
use Rattle.std.proofs.lemmas.Bool.{and_parts, leb-true, eqb-true}
use Rattle.terms.specs.declared.refusal.Refusal.{Refusal}
use Rattle.terms.specs.Days.{Days}
use Rattle.journal.specs.declared.line.Line.{Line}
use Rattle.journal.specs.Accounts.{Account, free, balance}
use Rattle.law.specs.View.{View, Entry}
use Rattle.law.specs.Keeps.{Kept}
use Rattle.law.specs.Opened.{postings, opened}
use Rattle.law.proofs.OpenedKeeps.{Fit, all_alike, kept_opened}
use Rattle.law.proofs.Postings.{postings_free}
use Rattle.desk.specs.declared.memory.Desk.{Desk}
use Rattle.desk.specs.declared.memory.Memory.{Memory}
use Rattle.desk.specs.Desks.{view, days_lent, refusal_over, New, OpenedOver}
use Rattle.desk.specs.Opening.{postings_fit, unless, opening_refusal}
use Rattle.desk.specs.Records.{entry_of, vacant}
use Rattle.desk.specs.Soundness.{Shows, Sound}

views_alike : (days days' : Days) (room : ℕ) (ls ls' : List Line) (es es' : List Entry) (clock clock' top top' : ℕ) →
    days ≡ days' → ls ≡ ls' → es ≡ es' → clock ≡ clock' → top ≡ top' →
    ◌≡◌ {A = View} (record { days = days; room = room; lines = ls; places = es; clock = clock; top = top }) (record { days = days'; room = room; lines = ls'; places = es'; clock = clock'; top = top' })
views_alike days days' room ls ls' es es' clock clock' top top' a b c e f = rw (a, b, c, e, f) refl

vacant_shows : (B : Account → ℕ → ℕ) → Shows B vacant
vacant_shows B = record {
  held_days = refl;
  aside_days = refl;
  holds = λ j h. get_or-replicate 31 j 0 0 h;
  sets_aside = λ j h. get_or-replicate 31 j 0 0 h;
}

module _ (d : Desk) (days : Days) (places : ℕ) (rest : List Line) (fit : Fit days)
    (N : New d days days.amounts (replicate places vacant) (postings 0 days.amounts ++ rest) (length (postings 0 days.amounts))) where
  lines_are : (view d).lines ≡ postings 0 days.amounts
  lines_are =
      let P = postings 0 days.amounts in
      let h : length P ≤ length P = omega arith in
      rw (N.used, N.lines) (take-append-le (length P) P rest h ∙ take_all (length P) P h)

  pub view_is : view d ≡ opened days places (length d.lines.now)
  view_is = views_alike _ _ (length d.lines.now) _ _ _ _ _ _ _ _ N.days lines_are (ap (map entry_of) N.places ∙ map-replicate entry_of places vacant) N.clock N.top

  pub sound_new : Sound d
  sound_new = record {
    kept = subst Kept (sym view_is) (kept_opened days places (length d.lines.now) fit);
    written = rw (N.used, N.lines) (simp length-append (omega arith));
    each_day = ap length N.free ∙ ap (λ x. length x.amounts) (sym N.days);
    shown = record {
      frees = λ day h. ap (λ xs. get_or xs day 0) N.free ∙ (sym (postings_free days.amounts day) ∙ ap (λ ls. balance ls free day) (sym lines_are));
      records = subst (AllByRecursion (Shows (balance (view d).lines))) (sym N.places) (all_alike (Shows (balance (view d).lines)) places vacant (vacant_shows (balance (view d).lines)));
    };
  }

pub goes_on : (passed : Bool) (refusal : Refusal) (rest : Option Refusal) → unless passed refusal rest ≡ None → (passed ≡ true) × (rest ≡ None)
goes_on true refusal rest h = (refl, h)
goes_on false refusal rest h = absurd (let z : ◌≡◌ {A = ℕ} 0 1 = cc in omega arith)

small_postings : (start : ℕ) (amounts preschedule : List ℕ) → postings_fit start amounts preschedule ≡ true → (day : ℕ) → get_or amounts day 0 ≤ 20000
small_postings start [] preschedule h day = omega arith
small_postings start (mw ∷ amounts) preschedule h zero = leb-true mw 20000 (and_parts _ _ (and_parts _ _ h).0).0
small_postings start (mw ∷ amounts) preschedule h (suc day) = small_postings (suc start) amounts preschedule (and_parts _ _ h).1 day

-- what the tests of an opening pass is fit to open a book over
pub fit_if_passed : (days : Days) (frees places room : ℕ) → opening_refusal days frees places room ≡ None → Fit days
fit_if_passed days frees places room h =
    let first = goes_on _ _ _ h in
    let second = goes_on _ _ _ first.1 in
    let d = and_parts (leb 1 (length days.amounts)) _ first.0 in
    let e = and_parts (leb (length days.amounts) 400) _ d.1 in
    let f = and_parts (eqb (length days.preschedule) (length days.amounts)) _ e.1 in
    record {
      few = leb-true (length days.amounts) 400 e.0;
      alike = eqb-true _ _ f.0;
      small = small_postings 0 days.amounts days.preschedule second.0;
    }

pub fit_none : Fit (record { amounts = []; preschedule = [] })
fit_none = record { few = omega arith; alike = refl; small = λ day. omega arith }

-- whatever was lent, the desk opened over it is sound
pub sound_opened : (m : Memory) (d : Desk) (r : Option Refusal) → refusal_over m ≡ r → OpenedOver m d r → Sound d
sound_opened m d None e N = sound_new d (days_lent m) (length m.places.now) _ (fit_if_passed (days_lent m) (length m.free.now) (length m.places.now) (length m.lines.now) e) N
sound_opened m d (Some refusal) e N = sound_new d (record { amounts = []; preschedule = [] }) 0 [] fit_none N
