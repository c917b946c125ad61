-- Preemption line by line.
use Rattle.std.proofs.Common.{◌≡◌, ℕ, ◌+◌, ◌<◌, ◌≤◌, min, Bool, true, false, cond, ◌||◌, eqb, ◌⊎◌, List, [], ◌∷◌, ◌++◌, sym, refl, ap, ◌∙◌, subst, inl, inr, arith}
use Rattle.std.specs.List.{AllByRecursion}
use Rattle.std.proofs.ByRecursion.{All-push}
use Rattle.std.proofs.lemmas.List.{append_assoc, append-nil}
use Rattle.std.proofs.lemmas.Bool.{eq-eqb, ne_eqb, eqb-false, cases_eq, or_parts, not-true, false≢true}
use Rattle.terms.specs.declared.request.Request.{Request}
use Rattle.terms.specs.Words.{is_pending}
use Rattle.sheets.specs.Rules.{Rules}
use Rattle.journal.specs.declared.line.Line.{Line}
use Rattle.journal.specs.declared.line.LineKind.{LineKind}
use Rattle.journal.specs.declared.line.LineKind.TheVariants.{Posted, Granted, Superseded, Recalled, SetAside, Lost, Kept, Extended, Ceded, Released, Flown}
use Rattle.journal.specs.Accounts.{NeverBelowZero}
use Rattle.law.specs.View.{Entry, aref_of, start_of, length_of}
use Rattle.law.specs.Posting.{post, by_day, holding}
use Rattle.law.specs.Preemption.{short, meets_shortage, supersede, give, grant, supersede_all, give_all}
use Rattle.law.proofs.ShrinkingShortage.{Later, later_refl, later_trans, later_granted, later_given, later_superseded, later_give, later_supersede, GivenUp, given_up_later, InTerm, give_up, supersede_up, each_false}
use Rattle.law.proofs.Holders.{days_ind}
use Rattle.law.proofs.WrittenLines.{Writes, at_first, writes_trans, writes_post, writes_days, writes_grows}

post_is : (t : ℕ) (κ : LineKind) (a b k m : ℕ) (ls : List Line) → 0 < m → post t κ a b k m ls ≡ ls ++ record { minute = t; kind = κ; a = a; b = b; day = k; mw = m } ∷ []
unfolding post
post_is t κ a b k m ls h = rw (ne_eqb m 0 (λ (e : m ≡ 0). omega arith))

post_none : (t : ℕ) (κ : LineKind) (a b k m : ℕ) (ls : List Line) → m ≡ 0 → post t κ a b k m ls ≡ ls
unfolding post
post_none t κ a b k m ls h = rw (eq-eqb m 0 h)

-- of those before d in turn, none holds MW on a day that is short
pub record Took (r : Request) (ds : List Entry) (ms : List Line) (l : Line) : Type 0 where
  pub pre : List Entry
  pub rest : List Entry
  pub giver : Entry
  pub split : ds ≡ pre ++ giver ∷ rest
  pub from_giver : l.a ≡ aref_of giver
  pub for_r : l.b ≡ r.aref
  pub is_short : 0 < short r l.day ms
  pub done : AllByRecursion (λ e. GivenUp r e ms) pre

pub record Ousted (r : Request) (base : List Line) (ds : List Entry) (ms : List Line) (l : Line) : Type 0 where
  pub pre : List Entry
  pub rest : List Entry
  pub giver : Entry
  pub split : ds ≡ pre ++ giver ∷ rest
  pub from_giver : l.a ≡ aref_of giver
  pub for_r : l.b ≡ r.aref
  pub was_pending : is_pending giver.standing.state ≡ true
  -- before its first line, and what was written since
  pub before : List Line
  pub since : List Line
  pub now : ms ≡ before ++ since
  pub start : (us : List Line) × (before ≡ base ++ us)
  pub own : AllByRecursion (λ x. (x.kind ≡ Superseded) × (x.a ≡ aref_of giver)) since
  pub day' : ℕ
  pub held_some : 0 < holding before (aref_of giver) day'
  pub was_short : 0 < short r day' before
  pub left : Later r before ms
  pub done : AllByRecursion (λ e. is_pending e.standing.state ≡ true → GivenUp r e before) pre

abbrev pub Told : Request → List Line → List Entry → List Line → Line → LineKind → Type 0
Told r base ds ms l Posted = ⊥
Told r base ds ms l Granted = Unit {0}
Told r base ds ms l Superseded = Ousted r base ds ms l
Told r base ds ms l Recalled = Took r ds ms l
Told r base ds ms l SetAside = Took r ds ms l
Told r base ds ms l Lost = ⊥
Told r base ds ms l Kept = ⊥
Told r base ds ms l Extended = ⊥
Told r base ds ms l Ceded = ⊥
Told r base ds ms l Released = ⊥
Told r base ds ms l Flown = ⊥

abbrev pub Fact : Request → List Line → List Entry → List Line → Line → Type 0
Fact r base ds ms l = Later r ms (ms ++ l ∷ []) × Told r base ds ms l l.kind

abbrev pub Other : Request → Entry → Type 0
Other r e = aref_of e ≡ r.aref → ⊥

in_term_later : (r : Request) (d : Entry) (ms ns : List Line) → Other r d → Later r ms ns → InTerm r d ms → InTerm r d ns
in_term_later r d ms ns ne p h k q = h k (omega (arith, p.less (aref_of d) k ne))

module _ (R : Rules) (t : ℕ) (r : Request) (base : List Line) (whole : List Entry) where
  -- granting
  pub writes_grant : (s d : ℕ) (ls : List Line) → NeverBelowZero ls → Writes (Fact r base whole) ls (by_day (grant t r) s d ls)
  writes_grant s d ls f = writes_days (Fact r base whole) NeverBelowZero (grant t r) (λ k ms p. (
    (later_granted r t 0 k _ ms p (omega arith)).solvent,
    writes_post (Fact r base whole) t Granted 0 r.aref k _ ms (λ q. (subst (λ x. Later r ms x) (post_is t Granted 0 r.aref k _ ms q) (later_granted r t 0 k _ ms p (omega arith)), tt)),
  )) s d ls f

  pub later_grant : (s d : ℕ) (ls : List Line) → NeverBelowZero ls → Later r ls (by_day (grant t r) s d ls)
  later_grant s d ls f = days_ind (grant t r) (Later r ls) s d (λ k ms lo hi p. later_trans r ls ms _ p (later_granted r t 0 k _ ms p.solvent (omega arith))) ls (later_refl r ls f)

  -- one giver
  took_line : (c : Bool) (d : Entry) (pre rest : List Entry) (k m : ℕ) (ms : List Line) → whole ≡ pre ++ d ∷ rest → 0 < short r k ms → AllByRecursion (λ e. GivenUp r e ms) pre →
      Told r base whole ms (record { minute = t; kind = cond c SetAside Recalled; a = aref_of d; b = r.aref; day = k; mw = m }) (cond c SetAside Recalled)
  took_line true d pre rest k m ms e s g = record { pre = pre; rest = rest; giver = d; split = e; from_giver = refl; for_r = refl; is_short = s; done = g }
  took_line false d pre rest k m ms e s g = record { pre = pre; rest = rest; giver = d; split = e; from_giver = refl; for_r = refl; is_short = s; done = g }

  ups_later : (es : List Entry) (ms ns : List Line) → AllByRecursion (Other r) es → Later r ms ns → AllByRecursion (λ e. GivenUp r e ms) es → AllByRecursion (λ e. GivenUp r e ns) es
  ups_later [] ms ns o p h = tt
  ups_later (e ∷ es) ms ns o p h = (given_up_later r e ms ns o.0 p h.0, ups_later es ms ns o.1 p h.1)

  terms_later : (es : List Entry) (ms ns : List Line) → AllByRecursion (Other r) es → Later r ms ns → AllByRecursion (λ e. InTerm r e ms) es → AllByRecursion (λ e. InTerm r e ns) es
  terms_later [] ms ns o p h = tt
  terms_later (e ∷ es) ms ns o p h = (in_term_later r e ms ns o.0 p h.0, terms_later es ms ns o.1 p h.1)

  pends_later : (es : List Entry) (ms ns : List Line) → AllByRecursion (Other r) es → Later r ms ns → AllByRecursion (λ e. is_pending e.standing.state ≡ true → GivenUp r e ms) es → AllByRecursion (λ e. is_pending e.standing.state ≡ true → GivenUp r e ns) es
  pends_later [] ms ns o p h = tt
  pends_later (e ∷ es) ms ns o p h = ((λ q. given_up_later r e ms ns o.0 p (h.0 q)), pends_later es ms ns o.1 p h.1)

  writes_give : (pre rest : List Entry) (d : Entry) → whole ≡ pre ++ d ∷ rest → AllByRecursion (Other r) pre → Other r d → (ls : List Line) → NeverBelowZero ls → AllByRecursion (λ e. GivenUp r e ls) pre → Writes (Fact r base whole) ls (give R t r d ls)
  writes_give pre rest d e o n ls f g = writes_days (Fact r base whole) (Later r ls) _ (λ k ms p.
      let one : Later r ms (post t (cond (R.may_match r d.standing) SetAside Recalled) (aref_of d) r.aref k (min (holding ms (aref_of d) k) (short r k ms)) ms) = later_given r (R.may_match r d.standing) t (aref_of d) k _ ms p.solvent (omega arith) in (
        later_trans r ls ms _ p one,
        writes_post (Fact r base whole) t _ (aref_of d) r.aref k _ ms (λ q. (
          subst (λ x. Later r ms x) (post_is t _ (aref_of d) r.aref k _ ms q) one,
          took_line (R.may_match r d.standing) d pre rest k _ ms e (omega arith) (ups_later pre ls ms o p g),
        )),
      )) (start_of d) (length_of d) ls (later_refl r ls f)

  pub writes_give_all : (pre ds : List Entry) → whole ≡ pre ++ ds → AllByRecursion (Other r) pre → AllByRecursion (Other r) ds → (ls : List Line) → NeverBelowZero ls → AllByRecursion (λ e. InTerm r e ls) ds →
      AllByRecursion (λ e. GivenUp r e ls) pre → AllByRecursion (λ e. is_pending e.standing.state ≡ true → GivenUp r e ls) ds → Writes (Fact r base whole) ls (give_all R t r ds ls) × Later r ls (give_all R t r ds ls)
  unfolding give_all
  writes_give_all pre [] e o n ls f i g h = (at_first refl, later_refl r ls f)
  writes_give_all pre (d ∷ ds) e o n ls f i g h =
      go (λ (ms : List Line) (p : NeverBelowZero ms) (u : AllByRecursion (λ x. InTerm r x ms) ds) (v : AllByRecursion (λ x. GivenUp r x ms) (pre ++ d ∷ [])) (w : AllByRecursion (λ x. is_pending x.standing.state ≡ true → GivenUp r x ms) ds).
      writes_give_all (pre ++ d ∷ []) ds (e ∙ sym (append_assoc pre (d ∷ []) ds)) (All-push (Other r) pre d o n.0) n.1 ms p u v w)
      (is_pending d.standing.state) refl
    where
      go : ((ms : List Line) → NeverBelowZero ms → AllByRecursion (λ x. InTerm r x ms) ds → AllByRecursion (λ x. GivenUp r x ms) (pre ++ d ∷ []) → AllByRecursion (λ x. is_pending x.standing.state ≡ true → GivenUp r x ms) ds → Writes (Fact r base whole) ms (give_all R t r ds ms) × Later r ms (give_all R t r ds ms)) →
          (c : Bool) → is_pending d.standing.state ≡ c → Writes (Fact r base whole) ls (give_all R t r ds (cond c ls (give R t r d ls))) × Later r ls (give_all R t r ds (cond c ls (give R t r d ls)))
      go ih true q = ih ls f i.1 (All-push (λ x. GivenUp r x ls) pre d g (h.0 q)) h.1
      go ih false q =
          let ms = give R t r d ls in
          let L : Later r ls ms = later_give r R t d n.0 ls f in
          let w = ih ms L.solvent (terms_later ds ls ms n.1 L i.1) (All-push (λ x. GivenUp r x ms) pre d (ups_later pre ls ms o L g) (give_up r R t d n.0 ls f i.0)) (pends_later ds ls ms n.1 L h.1) in
          (writes_trans (Fact r base whole) ls ms (writes_give pre ds d e o n.0 ls f g) w.0, later_trans r ls ms _ L w.1)

  -- one that is superseded
  writes_supersede : (pre rest : List Entry) (d : Entry) → whole ≡ pre ++ d ∷ rest → is_pending d.standing.state ≡ true → (ls : List Line) → (us : List Line) × (ls ≡ base ++ us) → NeverBelowZero ls → AllByRecursion (λ e. is_pending e.standing.state ≡ true → GivenUp r e ls) pre → Writes (Fact r base whole) ls (supersede t r d ls)
  writes_supersede pre rest d e pe ls from-base f g = go (meets_shortage r d ls) refl
    where
      Since : List Line → Type 0
      Since ms = Later r ls ms × ((ws : List Line) × (ms ≡ ls ++ ws) × AllByRecursion (λ x. (x.kind ≡ Superseded) × (x.a ≡ aref_of d)) ws)

      one : (k : ℕ) × (start_of d ≤ k) × (k < start_of d + length_of d) × ((eqb (holding ls (aref_of d) k) 0 || eqb (short r k ls) 0) ≡ false) → (k : ℕ) (ms : List Line) → Later r ls ms × ((ws : List Line) × (ms ≡ ls ++ ws) × AllByRecursion (λ x. (x.kind ≡ Superseded) × (x.a ≡ aref_of d)) ws) →
          (Later r ls (post t Superseded (aref_of d) r.aref k (holding ms (aref_of d) k) ms) × ((ws : List Line) × (post t Superseded (aref_of d) r.aref k (holding ms (aref_of d) k) ms ≡ ls ++ ws) × AllByRecursion (λ x. (x.kind ≡ Superseded) × (x.a ≡ aref_of d)) ws))
          × Writes (Fact r base whole) ms (post t Superseded (aref_of d) r.aref k (holding ms (aref_of d) k) ms)
      one w k ms p =
          let L = later_superseded r t (aref_of d) k (holding ms (aref_of d) k) ms p.0.solvent (omega arith) in
          let z = or_parts (eqb (holding ls (aref_of d) w.0) 0) (eqb (short r w.0 ls) 0) w.3 in
          let n1 = eqb-false (holding ls (aref_of d) w.0) 0 z.0 in
          let n2 = eqb-false (short r w.0 ls) 0 z.1 in (
            (later_trans r ls ms _ p.0 L, grown ms p.1 k (cases_eq (holding ms (aref_of d) k) 0)),
            writes_post (Fact r base whole) t Superseded (aref_of d) r.aref k (holding ms (aref_of d) k) ms (λ q. (
              subst (λ x. Later r ms x) (post_is t Superseded (aref_of d) r.aref k (holding ms (aref_of d) k) ms q) L,
              record {
                pre = pre;
                rest = rest;
                giver = d;
                split = e;
                from_giver = refl;
                for_r = refl;
                was_pending = pe;
                before = ls;
                since = p.1.0;
                now = p.1.1;
                start = from-base;
                own = p.1.2;
                day' = w.0;
                held_some = omega arith;
                was_short = omega arith;
                left = p.0;
                done = g;
              },
            )),
          )
        where
          grown : (ms : List Line) → (ws : List Line) × (ms ≡ ls ++ ws) × AllByRecursion (λ x. (x.kind ≡ Superseded) × (x.a ≡ aref_of d)) ws → (k : ℕ) → (holding ms (aref_of d) k ≡ 0) ⊎ (holding ms (aref_of d) k ≡ 0 → ⊥) →
              (ws : List Line) × (post t Superseded (aref_of d) r.aref k (holding ms (aref_of d) k) ms ≡ ls ++ ws) × AllByRecursion (λ x. (x.kind ≡ Superseded) × (x.a ≡ aref_of d)) ws
          grown ms u k (inl z) = (u.0, post_none t Superseded (aref_of d) r.aref k (holding ms (aref_of d) k) ms z ∙ u.1, u.2)
          grown ms u k (inr ne) =
              let l : Line = record { minute = t; kind = Superseded; a = aref_of d; b = r.aref; day = k; mw = holding ms (aref_of d) k } in
              (u.0 ++ l ∷ [], post_is t Superseded (aref_of d) r.aref k (holding ms (aref_of d) k) ms (omega arith) ∙ (ap (λ x. x ++ l ∷ []) u.1 ∙ append_assoc ls u.0 (l ∷ [])), All-push (λ x. (x.kind ≡ Superseded) × (x.a ≡ aref_of d)) u.0 l u.2 (refl, refl))

      go : (c : Bool) → meets_shortage r d ls ≡ c → Writes (Fact r base whole) ls (cond c (by_day (λ k ms. post t Superseded (aref_of d) r.aref k (holding ms (aref_of d) k) ms) (start_of d) (length_of d) ls) ls)
      go true q = writes_days (Fact r base whole) (λ ms. Later r ls ms × ((ws : List Line) × (ms ≡ ls ++ ws) × AllByRecursion (λ x. (x.kind ≡ Superseded) × (x.a ≡ aref_of d)) ws)) _
          (one (each_false _ (start_of d) (length_of d) (not-true _ q))) (start_of d) (length_of d) ls (later_refl r ls f, ([], sym (append-nil ls), tt))
      go false q = at_first refl

  pub writes_supersede_all : (pre ds : List Entry) → whole ≡ pre ++ ds → AllByRecursion (Other r) pre → AllByRecursion (Other r) ds → (ls : List Line) → (us : List Line) × (ls ≡ base ++ us) → NeverBelowZero ls → AllByRecursion (λ e. InTerm r e ls) ds →
      AllByRecursion (λ e. is_pending e.standing.state ≡ true → GivenUp r e ls) pre →
      Writes (Fact r base whole) ls (supersede_all t r ds ls) × Later r ls (supersede_all t r ds ls) × AllByRecursion (λ e. is_pending e.standing.state ≡ true → GivenUp r e (supersede_all t r ds ls)) ds
  unfolding supersede_all
  writes_supersede_all pre [] e o n ls B f i g = (at_first refl, later_refl r ls f, tt)
  writes_supersede_all pre (d ∷ ds) e o n ls B f i g =
      go (λ (ms : List Line) (B' : (us : List Line) × (ms ≡ base ++ us)) (p : NeverBelowZero ms) (u : AllByRecursion (λ x. InTerm r x ms) ds) (v : AllByRecursion (λ x. is_pending x.standing.state ≡ true → GivenUp r x ms) (pre ++ d ∷ [])).
      writes_supersede_all (pre ++ d ∷ []) ds (e ∙ sym (append_assoc pre (d ∷ []) ds)) (All-push (Other r) pre d o n.0) n.1 ms B' p u v)
      (is_pending d.standing.state) refl
    where
      go : ((ms : List Line) → (us : List Line) × (ms ≡ base ++ us) → NeverBelowZero ms → AllByRecursion (λ x. InTerm r x ms) ds → AllByRecursion (λ x. is_pending x.standing.state ≡ true → GivenUp r x ms) (pre ++ d ∷ []) →
          Writes (Fact r base whole) ms (supersede_all t r ds ms) × Later r ms (supersede_all t r ds ms) × AllByRecursion (λ x. is_pending x.standing.state ≡ true → GivenUp r x (supersede_all t r ds ms)) ds) →
          (c : Bool) → is_pending d.standing.state ≡ c →
          Writes (Fact r base whole) ls (supersede_all t r ds (cond c (supersede t r d ls) ls)) × Later r ls (supersede_all t r ds (cond c (supersede t r d ls) ls)) ×
          ((is_pending d.standing.state ≡ true → GivenUp r d (supersede_all t r ds (cond c (supersede t r d ls) ls))) × AllByRecursion (λ x. is_pending x.standing.state ≡ true → GivenUp r x (supersede_all t r ds (cond c (supersede t r d ls) ls))) ds)
      go ih true q =
          let ms = supersede t r d ls in
          let L : Later r ls ms = later_supersede r t d n.0 ls f in
          let up : GivenUp r d ms = supersede_up r t d n.0 ls f i.0 in
          let B' = writes_grows (Fact r base whole) ls (writes_supersede pre ds d e q ls B f g) in
          let w = ih ms (B.0 ++ B'.0, B'.1 ∙ (ap (λ x. x ++ B'.0) B.1 ∙ append_assoc base B.0 B'.0)) L.solvent (terms_later ds ls ms n.1 L i.1) (All-push (λ x. is_pending x.standing.state ≡ true → GivenUp r x ms) pre d (pends_later pre ls ms o L g) (λ _. up)) in
          (writes_trans (Fact r base whole) ls ms (writes_supersede pre ds d e q ls B f g) w.0, later_trans r ls ms _ L w.1, ((λ _. given_up_later r d ms _ n.0 w.1 up), w.2))
      go ih false q =
          let no' : is_pending d.standing.state ≡ true → GivenUp r d ls = λ p. absurd (false≢true (sym q ∙ p)) in
          let w = ih ls B f i.1 (All-push (λ x. is_pending x.standing.state ≡ true → GivenUp r x ls) pre d g no') in
          (w.0, w.1, ((λ p. absurd (false≢true (sym q ∙ p))), w.2))

  -- all of it
  pub writes_preempt : (s d : ℕ) → AllByRecursion (Other r) whole → (ls : List Line) → (us : List Line) × (ls ≡ base ++ us) → NeverBelowZero ls → AllByRecursion (λ e. InTerm r e ls) whole →
      Writes (Fact r base whole) ls (give_all R t r whole (by_day (grant t r) s d (supersede_all t r whole ls)))
  writes_preempt s d o ls B f i =
      let a = writes_supersede_all [] whole refl tt o ls B f i tt in
      let ms = supersede_all t r whole ls in
      let L = later_grant s d ms a.1.solvent in
      let M = later_trans r ls ms _ a.1 L in
      let b = writes_give_all [] whole refl tt o (by_day (grant t r) s d ms) L.solvent (terms_later whole ls _ o M i) tt (pends_later whole ms _ o L a.2) in
      writes_trans (Fact r base whole) ls ms a.0 (writes_trans (Fact r base whole) ms _ (writes_grant s d ms a.1.solvent) b.0)
