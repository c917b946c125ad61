-- The tests of a call, in their order.
use Rattle.std.proofs.Common.{◌≡◌, ℕ, ◌<◌, ◌≤◌, Bool, true, false, not, ◌&&◌, ◌||◌, ltb, ◌⊎◌, refl, ap, ◌∙◌, inl, inr}
use Rattle.std.proofs.lemmas.Bool.{or_left, or_right, or_from, lt-ltb, le-ltb, and_parts, not-true, not_from_false, not_from_true}
use Rattle.terms.specs.declared.refusal.Refusal.{Refusal}
use Rattle.terms.specs.declared.refusal.Refusal.TheVariants.{BadMinute, ItemDue, NoRecord, WrongState}
use Rattle.terms.specs.Words.{is_gone}
use Rattle.sheets.specs.Laws.{last_minute}
use Rattle.sheets.specs.Rules.{Rules}
use Rattle.law.specs.View.{View, Entry, find, nobody}
use Rattle.law.specs.Places.{some}
use Rattle.law.specs.Calls.{Call, Made, refused, stop_if, minute_of, is_settle, makes_of, asked, is_due}
use Rattle.admitting.specs.declared.MustBe.{MustBe}
use Rattle.admitting.specs.Admission.{is_in, entry_at, Found, ByAref, AtPlace}

pub stops : (b : Bool) (e : Refusal) (m : Made) → b ≡ true → stop_if b e m ≡ refused e
unfolding stop_if
stops b e m q = rw q

pub passes : (b : Bool) (e : Refusal) (m : Made) → b ≡ false → stop_if b e m ≡ m
unfolding stop_if
passes b e m q = rw q

module _ (v : View) (t : ℕ) (s : Bool) (R : Rules) (c : Call) (m : minute_of c ≡ t) (i : is_settle c ≡ s) where
  pub late : (last_minute < t) ⊎ (t < v.clock) → asked R c v ≡ refused BadMinute
  late h = stops _ BadMinute _ (rw m (elim h [ inl q ↦ or_left _ _ (lt-ltb last_minute t q) | inr q ↦ or_right _ _ (lt-ltb t v.clock q) ]))

  module _ (a : t ≤ last_minute) (b : v.clock ≤ t) where
    in_time : (ltb last_minute (minute_of c) || ltb (minute_of c) v.clock) ≡ false
    in_time = rw m (or_from _ _ (le-ltb last_minute t a) (le-ltb t v.clock b))

    pub unsettled : s ≡ false → some (is_due t) v.places ≡ true → asked R c v ≡ refused ItemDue
    unsettled f q = passes _ BadMinute _ in_time ∙ stops _ ItemDue _ (rw (i, f, m) q)

    pub begins : (s ≡ true) ⊎ (some (is_due t) v.places ≡ false) → asked R c v ≡ makes_of R c v
    begins h = passes _ BadMinute _ in_time ∙ passes _ ItemDue _ (elim h [ inl q ↦ rw (i, q) | inr q ↦ rw (i, m, q) (none (not s)) ])
      where
        none : (x : Bool) → (x && false) ≡ false
        none true = refl
        none false = refl

-- by AREF
module _ (v : View) (t a : ℕ) (w : MustBe) (begun : (R : Rules) (c : Call) → minute_of c ≡ t → is_settle c ≡ false → asked R c v ≡ makes_of R c v) where
  onward : (R : Rules) (c : Call) (f : Entry → Made) (C : ByAref R v t a w c f) → asked R c v ≡ makes_of R c v
  onward R c f C = begun R c C.at_minute C.settles_not

  pub nobody_there : find a v.places ≡ nobody → (R : Rules) (c : Call) (f : Entry → Made) → ByAref R v t a w c f → asked R c v ≡ refused NoRecord
  nobody_there n R c f C = onward R c f C ∙ (C.is_by_aref ∙ stops _ NoRecord _ (ap (λ (x : Entry). is_gone x.standing.state) n))

  module _ (i : ℕ) (F : Found v.places a i) where
    alive : is_gone (find a v.places).standing.state ≡ false
    alive = ap (λ (x : Entry). is_gone x.standing.state) F.found ∙ not-true _ (and_parts _ _ F.stands).0

    pub wrong_state : is_in w (entry_at v.places i).standing.state ≡ false → (R : Rules) (c : Call) (f : Entry → Made) → ByAref R v t a w c f → asked R c v ≡ refused WrongState
    wrong_state q R c f C = onward R c f C ∙ (C.is_by_aref ∙ (passes _ NoRecord _ alive ∙ stops _ WrongState _ (not_from_false _ (ap (λ (x : Entry). is_in w x.standing.state) F.found ∙ q))))

    pub at_place : is_in w (entry_at v.places i).standing.state ≡ true → t ≤ last_minute → AtPlace v t a w i
    at_place q early = record {
      early = early;
      within = F.within;
      stands = F.stands;
      found = F.found;
      state = q;
      goes = λ R c f C. onward R c f C ∙ (C.is_by_aref ∙ (passes _ NoRecord _ alive ∙ (passes _ WrongState _ (not_from_true _ (ap (λ (x : Entry). is_in w x.standing.state) F.found ∙ q)) ∙ ap f F.found)));
    }
