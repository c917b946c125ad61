-- A visit that begins: who is passed over, and who gives from which place to which.
use Rattle.std.proofs.Common.{◌≡◌, ℕ, zero, suc, ◌+◌, ◌<◌, ◌≤◌, min, Bool, true, false, ◌||◌, eqb, ◌≢◌, ◌⊎◌, List, length, set, sym, refl, ap, ◌∙◌, subst, inl, inr, arith}
use Rattle.std.proofs.lemmas.List.{length-map, length-set, get_or-set_same, get_or-set_other}
use Rattle.std.proofs.lemmas.Bool.{or_cases, eqb-true, not-false}
use Rattle.terms.specs.declared.request.Request.{Request}
use Rattle.sheets.specs.Rules.{Rules}
use Rattle.journal.specs.declared.line.Line.{Line}
use Rattle.law.specs.View.{View, Entry, aref_of, start_of, length_of, living}
use Rattle.law.specs.Posting.{by_day, holding}
use Rattle.law.specs.Preemption.{short, meets_shortage, give}
use Rattle.law.proofs.ShrinkingShortage.{each_true}
use Rattle.desk.specs.declared.memory.Desk.{Desk}
use Rattle.desk.specs.Desks.{view}
use Rattle.desk.specs.Records.{entry_of}
use Rattle.posting.proofs.OneLine.{none_posted}
use Rattle.defending.specs.LinedUp.{entry_at}
use Rattle.preempting.specs.declared.giving.Giving.{Giving}
use Rattle.preempting.specs.Giving.{Giveable, Seated, giving_of}
use Rattle.preempting.specs.Visits.{StandsReady}

-- steps that change nothing on any of n days
pub by_day_still : (f : ℕ → List Line → List Line) (ls : List Line) (s n : ℕ) → ((k : ℕ) → s ≤ k → k < s + n → f k ls ≡ ls) → by_day f s n ls ≡ ls
unfolding by_day
by_day_still f ls s zero h = refl
by_day_still f ls s (suc n) h = ap (by_day f (suc s) n) (h s (omega arith) (omega arith)) ∙ by_day_still f ls (suc s) n (λ k lo hi. h k (omega arith) (omega arith))

-- a record that meets no shortage gives nothing
pub unneeded_gives_none : (R : Rules) (t : ℕ) (r : Request) (e : Entry) (ls : List Line) → meets_shortage r e ls ≡ false → give R t r e ls ≡ ls
unneeded_gives_none R t r e ls q = by_day_still _ ls (start_of e) (length_of e) (λ k lo hi. none_posted _ _ _ _ _ _ _ (none k (or_cases (eqb (holding ls (aref_of e) k) 0) (eqb (short r k ls) 0) (each_true (λ day. eqb (holding ls (aref_of e) day) 0 || eqb (short r day ls) 0) (start_of e) (length_of e) (not-false _ q) k lo hi))))
  where
    none : (k : ℕ) → (eqb (holding ls (aref_of e) k) 0 ≡ true) ⊎ (eqb (short r k ls) 0 ≡ true) → min (holding ls (aref_of e) k) (short r k ls) ≤ 0
    none k (inl z) = omega (arith, eqb-true (holding ls (aref_of e) k) 0 z)
    none k (inr z) = omega (arith, eqb-true (short r k ls) 0 z)

module _ (R : Rules) (t : ℕ) (r : Request) (v : View) (c p : ℕ) (h : p < length v.places) (ready : StandsReady r v (entry_at v.places p)) (S : Seated v r c) where
  abbrev e : Entry
  e = entry_at v.places p

  apart : c ≢ p
  apart q = ready.other (ap (λ (i : ℕ). aref_of (entry_at v.places i)) (sym q) ∙ S.who)

  -- in a desk where the record is as it was, or challenged by r
  module _ (d : Desk) (x : Entry) (who : aref_of x ≡ aref_of (entry_at v.places p)) (lives : living x ≡ true) (starts : start_of x ≡ start_of (entry_at v.places p))
      (against : R.may_match r (entry_at v.places p).standing ≡ true → x.against ≡ r.aref) (days : (view d).days ≡ v.days) (V : (view d).places ≡ set v.places p x) where
    at_p : entry_at (view d).places p ≡ x
    at_p = ap (λ es. entry_at es p) V ∙ get_or-set_same v.places p x _ h

    at_c : entry_at (view d).places c ≡ entry_at v.places c
    at_c = ap (λ es. entry_at es c) V ∙ get_or-set_other v.places p c x _ apart

    long : length d.places.now ≡ length v.places
    long = sym (length-map d.places.now entry_of) ∙ (ap length V ∙ length-set v.places p x)

    pub giveable_then : Giveable d (giving_of R t r c p (entry_at v.places p)) r
    giveable_then = record {
      within = omega (arith, long);
      who = ap aref_of at_p ∙ who;
      lives = ap living at_p ∙ lives;
      starts = ap start_of at_p ∙ starts;
      month = ready.month;
      inside = subst (λ ds. start_of e + length_of e ≤ length ds.amounts) (sym days) ready.inside;
      against = λ q. ap (λ (y : Entry). y.against) at_p ∙ against q;
      taker_within = omega (arith, long, S.within);
      taker = ap aref_of at_c ∙ S.who;
      taker_lives = ap living at_c ∙ S.lives;
      taker_starts = ap start_of at_c ∙ S.starts;
      other = ready.other;
    }

-- what the code makes of the record that it reads is what the rules make of the entry
pub giving_read : (R : Rules) (t : ℕ) (r : Request) (c p : ℕ) (x e : Entry) → x ≡ e → (right : Bool) → right ≡ R.may_match r x.standing →
    ◌≡◌ {A = Giving} (record { minute = t; right = right; aref = aref_of x; place = p; challenger = c; start = start_of x; days = length_of x }) (giving_of R t r c p e)
giving_read R t r c p x e same right q = ap (λ (b : Bool). record { minute = t; right = b; aref = aref_of x; place = p; challenger = c; start = start_of x; days = length_of x }) q ∙ ap (giving_of R t r c p) same
