-- A line that may be posted: what its two puts are, and what memory shows then.
use Rattle.std.proofs.Common.{◌≡◌, ℕ, ◌+◌, ◌-◌, ◌<◌, ◌≤◌, false, cond, ◌&&◌, eqb, ◌≢◌, ◌⊎◌, List, map, length, take, set, sym, refl, ap, ◌∙◌, subst, inl, inr, arith}
use Rattle.std.proofs.lemmas.List.{take_more_set}
use Rattle.std.proofs.lemmas.Bool.{eq-eqb, ne_eqb, true≢false}
use Rattle.terms.specs.Days.{Days}
use Rattle.journal.specs.declared.line.Line.{Line}
use Rattle.journal.specs.declared.line.LineKind.{LineKind}
use Rattle.journal.specs.Accounts.{Account, flown, same, sort, balance}
use Rattle.law.specs.View.{View, Entry, count}
use Rattle.law.specs.Posting.{post}
use Rattle.law.proofs.PostingEffects.{same_self, balance-post}
use Rattle.desk.specs.declared.memory.Desk.{Desk}
use Rattle.desk.specs.declared.record.Record.{Record}
use Rattle.desk.specs.Desks.{view}
use Rattle.desk.specs.Records.{entry_of}
use Rattle.desk.specs.Soundness.{Shown}
use Rattle.posting.specs.declared.sides.Side.{Side}
use Rattle.posting.specs.declared.sides.Side.TheVariants.{Free, Flown, Held, Aside}
use Rattle.posting.specs.Postable.{Showing, Postable}
use Rattle.posting.specs.Sides.{There, Reach, stands, put_free, put_places, account, with_in}
use Rattle.posting.proofs.ShownPut.{shown_put, stands_is, reach_is}
use Rattle.posting.proofs.TwoPuts.{put_entries, put_entry, put_length, put_free_length, account_stays, there_stays, shown_alike, moved}

inner : (places : List Record) (side : Side) → 0 < sort (account places side)
inner places Free = omega arith
inner places Flown = omega arith
inner places (Held i) = omega arith
inner places (Aside i) = omega arith

flies : (places : List Record) (side : Side) → (side ≡ Flown) ⊎ ((side ≢ Flown) × (same (account places side) flown ≡ false))
flies places Free = inr ((λ e. let z : ◌≡◌ {A = ℕ} 0 1 = cc in omega arith), refl)
flies places Flown = inl refl
flies places (Held i) = inr ((λ e. let z : ◌≡◌ {A = ℕ} 0 1 = cc in omega arith), refl)
flies places (Aside i) = inr ((λ e. let z : ◌≡◌ {A = ℕ} 0 1 = cc in omega arith), refl)

from_flown : (places : List Record) (side : Side) → side ≢ Flown → same flown (account places side) ≡ false
from_flown places Free n = refl
from_flown places Flown n = absurd (n refl)
from_flown places (Held i) n = refl
from_flown places (Aside i) n = refl

module _ (d : Desk) (K : Showing d) (t : ℕ) (κ : LineKind) (a b : ℕ) (g y : Side) (k m : ℕ) (P : Postable d t κ a b g y k m) (hm : 0 < m) where
  abbrev fs : List ℕ
  fs = d.free.now

  abbrev ps : List Record
  ps = d.places.now

  abbrev F : Account
  F = account d.places.now g

  abbrev T : Account
  T = account d.places.now y

  abbrev B : Account → ℕ → ℕ
  B = balance (view d).lines

  abbrev C : Account → ℕ → ℕ
  C = balance (post t κ a b k m (view d).lines)

  abbrev left : ℕ
  left = stands d.free.now d.places.now g k - m

  abbrev fs1 : List ℕ
  fs1 = put_free d.free.now g k (stands d.free.now d.places.now g k - m)

  abbrev ps1 : List Record
  ps1 = put_places d.places.now g k (stands d.free.now d.places.now g k - m)

  pub reach_giver : Reach (length d.free.now) d.places.now g k
  reach_giver = reach_is B fs ps K.shown P.once g k P.at_giver

  stands_giver : stands fs ps g k ≡ B F k
  stands_giver = stands_is B fs ps K.shown P.once g k P.at_giver P.not_flown

  paid : m ≤ B F k
  paid = subst (λ x. m ≤ B x k) (sym P.gives) P.paid

  pub has_it : m ≤ stands d.free.now d.places.now g k
  has_it = omega (arith, stands_giver, paid)

  shown1 : Shown (with_in B F k (B F k - m)) fs1 ps1
  shown1 = subst (λ n. Shown (with_in B F k (n - m)) fs1 ps1) stands_giver (shown_put B fs ps K.shown P.once g k left P.at_giver)

  once1 : (c : ℕ) → count c (map entry_of ps1) ≤ 1
  once1 c = subst (λ es. count c es ≤ 1) (sym (put_entries ps g k left)) (P.once c)

  there1 : There (length fs1) ps1 y k
  there1 = there_stays ps ps1 (put_length ps g k left) (put_entry (length fs) ps g k left P.at_giver) (length fs) (length fs1) (put_free_length fs g k left) y k (P.at_taker hm)

  same_account : account ps1 y ≡ T
  same_account = account_stays ps ps1 (put_length ps g k left) (put_entry (length fs) ps g k left P.at_giver) y

  pub reach_taker : Reach (length fs1) ps1 y k
  reach_taker = reach_is _ fs1 ps1 shown1 once1 y k there1

  eq : (x : Account) (j : ℕ) → 0 < sort x → C x j + cond (eqb k j && same x F) m 0 ≡ B x j + cond (eqb k j && same x T) m 0
  eq x j h = rw (P.gives, P.gets hm) (balance-post (view d).lines P.solvent t κ a b k m P.paid x j h)

  fits : C T k ≤ 20000
  fits = subst (λ x. C x k ≤ 20000) (sym (P.gets hm)) P.fits

  two : (x : Account) (j : ℕ) → 0 < sort x → same x flown ≡ false → with_in (with_in B F k (B F k - m)) T k (stands fs1 ps1 y k + m) x j ≡ C x j
  two x j h nf = moved B C F T k m (stands fs1 ps1 y k + m) paid eq x j h (λ e. go e (flies ps y))
    where
      go : x ≡ T → (y ≡ Flown) ⊎ ((y ≢ Flown) × (same (account ps y) flown ≡ false)) → stands fs1 ps1 y k + m ≡ with_in B F k (B F k - m) T k + m
      go e (inl q) = absurd (true≢false (sym (ap (λ s. same (account ps s) flown) q) ∙ (ap (λ z. same z flown) (sym e) ∙ nf)))
      go e (inr q) = ap (λ n. n + m) (stands_is _ fs1 ps1 shown1 once1 y k there1 q.0 ∙ ap (λ z. with_in B F k (B F k - m) z k) same_account)

  pub shown2 : Shown C (put_free fs1 y k (stands fs1 ps1 y k + m)) (put_places ps1 y k (stands fs1 ps1 y k + m))
  shown2 = shown_alike _ C _ _
      (subst (λ z. Shown (with_in (with_in B F k (B F k - m)) z k (stands fs1 ps1 y k + m)) (put_free fs1 y k (stands fs1 ps1 y k + m)) (put_places ps1 y k (stands fs1 ps1 y k + m))) same_account
      (shown_put _ fs1 ps1 shown1 once1 y k (stands fs1 ps1 y k + m) there1)) two

  pub small : stands fs1 ps1 y k + m ≤ 20000
  small = go (flies ps y)
    where
      go : (y ≡ Flown) ⊎ ((y ≢ Flown) × (same (account ps y) flown ≡ false)) → stands fs1 ps1 y k + m ≤ 20000
      go (inl q) =
          let e = eq T k (inner ps y) in
          let w = rw (q, eq-eqb k k refl, from_flown ps g P.not_flown) at e in
          let f = rw q at fits in
          rw q (omega arith)
      go (inr q) = let e = two T k (inner ps y) q.1 in let w = rw (eq-eqb k k refl, same_self T) at e in omega (arith, fits)

  -- by the values that the code has: what it read on the giver's side, and what the first put left
  module _ (x : ℕ) (fs1' : List ℕ) (ps1' : List Record) (e : x ≡ stands d.free.now d.places.now g k) (ef : fs1' ≡ put_free d.free.now g k (x - m)) (ep : ps1' ≡ put_places d.places.now g k (x - m)) where
    f1 : fs1' ≡ fs1
    f1 = cc

    p1 : ps1' ≡ ps1
    p1 = cc

    pub reach_taker' : Reach (length fs1') ps1' y k
    reach_taker' = rw (f1, p1) reach_taker

    pub small' : stands fs1' ps1' y k + m ≤ 20000
    small' = rw (f1, p1) small

    pub shown' : (z : ℕ) (fs2 : List ℕ) (ps2 : List Record) → z ≡ stands fs1' ps1' y k → fs2 ≡ put_free fs1' y k (z + m) → ps2 ≡ put_places ps1' y k (z + m) → Shown C fs2 ps2
    shown' z fs2 ps2 ez ef2 ep2 = rw (ef2, ep2, ez, f1, p1) shown2

    pub entries' : (z : ℕ) (ps2 : List Record) → ps2 ≡ put_places ps1' y k (z + m) → map entry_of ps2 ≡ map entry_of d.places.now
    entries' z ps2 ep2 = ap (map entry_of) ep2 ∙ (put_entries ps1' y k (z + m) ∙ (ap (map entry_of) ep ∙ put_entries ps g k (x - m)))

  -- the line stands after the others
  pub line_stands : take (d.used + 1) (set d.lines.now d.used (record { minute = t; kind = κ; a = a; b = b; day = k; mw = m })) ≡ post t κ a b k m (view d).lines
  unfolding post
  line_stands = take_more_set d.lines.now d.used _ (P.roomy hm) ∙ rw (ne_eqb m 0 (λ (q : m ≡ 0). omega arith)) refl

pub none_posted : (t : ℕ) (κ : LineKind) (a b k m : ℕ) (ls : List Line) → m ≤ 0 → post t κ a b k m ls ≡ ls
unfolding post
none_posted t κ a b k m ls h = rw (eq-eqb m 0 (omega arith)) refl

pub same_view : (v w : View) → v.days ≡ w.days → v.room ≡ w.room → v.lines ≡ w.lines → v.places ≡ w.places → v.clock ≡ w.clock → v.top ≡ w.top → v ≡ w
same_view v w days room lines places clock top = six v.days w.days v.room w.room v.lines w.lines v.places w.places v.clock w.clock v.top w.top days room lines places clock top
  where
    six : (d d' : Days) (r r' : ℕ) (l l' : List Line) (p p' : List Entry) (c c' t t' : ℕ) → d ≡ d' → r ≡ r' → l ≡ l' → p ≡ p' → c ≡ c' → t ≡ t' →
        ◌≡◌ {A = View} (record { days = d; room = r; lines = l; places = p; clock = c; top = t }) (record { days = d'; room = r'; lines = l'; places = p'; clock = c'; top = t' })
    six d d' r r' l l' p p' c c' t t' e1 e2 e3 e4 e5 e6 = cc
