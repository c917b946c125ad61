-- The defenders of a book: no two have one AREF, and the pending ones come before the confirmed ones in turn.
use Rattle.std.proofs.Common.{◌≡◌, Bool, true, false, cond, ◌||◌, ◌⊎◌, List, [], ◌∷◌, ◌++◌, sym, refl, ap, ◌∙◌, inl, inr}
use Rattle.std.specs.List.{AllByRecursion}
use Rattle.std.proofs.lemmas.Bool.{cases_Bool, false≢true, or_cases, not_from_true}
use Rattle.terms.specs.declared.words.State.{State}
use Rattle.terms.specs.declared.words.State.TheVariants.{Confirmed, Accepted, Offered, Competing, Challenged, Gone}
use Rattle.terms.specs.Words.{is_pending, is_confirmed}
use Rattle.sheets.specs.Rules.{Rules}
use Rattle.sheets.specs.Laws.{Possible, Lawful}
use Rattle.shelf.specs.Order.{put}
use Rattle.law.specs.View.{Entry, aref_of}
use Rattle.law.specs.Preemption.{gives_before, in_turn}
use Rattle.law.proofs.AllPlaces.{all_put, all_in_turn}
use Rattle.law.proofs.DefendersInTurn.{Sorted, Different}
use Rattle.visits.proofs.AllVisits.{Pending, NotPending}

-- putting one of another AREF among them
different_put : (before : Entry → Entry → Bool) (d : Entry) (es : List Entry) → AllByRecursion (λ e. aref_of d ≡ aref_of e → ⊥) es → Different es → Different (put before es d)
different_put before d [] n D = (tt, tt)
different_put before d (e ∷ es) n D = go (different_put before d es n.1 D.1) (before e d)
  where
    go : Different (put before es d) → (c : Bool) → Different (cond c (e ∷ put before es d) (d ∷ (e ∷ es)))
    go ih true = (all_put (λ x. aref_of e ≡ aref_of x → ⊥) before d es (λ q. n.0 (sym q)) D.0, ih)
    go ih false = (n, D)

pub different_in_turn : (R : Rules) (es : List Entry) → Different es → Different (in_turn R es)
unfolding in_turn
different_in_turn R [] D = tt
different_in_turn R (d ∷ ds) D = different_put (gives_before R) d (in_turn R ds) (all_in_turn (λ e. aref_of d ≡ aref_of e → ⊥) R ds D.0) (different_in_turn R ds D.1)

-- a defender can exist, and is pending or confirmed
abbrev pub Defends : Entry → Type 0
Defends e = Possible e.standing.request × ((is_pending e.standing.state || is_confirmed e.standing.state) ≡ true)

confirmed_is : (s : State) → is_confirmed s ≡ true → s ≡ Confirmed
confirmed_is Confirmed q = refl
confirmed_is Accepted q = absurd (false≢true q)
confirmed_is Offered q = absurd (false≢true q)
confirmed_is Competing q = absurd (false≢true q)
confirmed_is Challenged q = absurd (false≢true q)
confirmed_is Gone q = absurd (false≢true q)

module _ (R : Rules) (L : Lawful R) where
  -- nobody pending comes after one that is not
  none_pending_after : (d : Entry) → Defends d → NotPending d → (es : List Entry) → AllByRecursion Defends es → AllByRecursion (λ e. gives_before R d e ≡ true) es → AllByRecursion (λ e. aref_of d ≡ aref_of e → ⊥) es → AllByRecursion NotPending es
  none_pending_after d p n [] a s o = tt
  none_pending_after d p n (e ∷ es) a s o = (go (cases_Bool (is_pending e.standing.state)), none_pending_after d p n es a.1 s.1 o.1)
    where
      confirmed : (is_pending d.standing.state ≡ true) ⊎ (is_confirmed d.standing.state ≡ true) → d.standing.state ≡ Confirmed
      confirmed (inl q) = absurd (false≢true (sym n ∙ q))
      confirmed (inr q) = confirmed_is d.standing.state q

      go : (is_pending e.standing.state ≡ true) ⊎ (is_pending e.standing.state ≡ false) → NotPending e
      go (inr q) = q
      go (inl q) =
          let x = L.pending_first e.standing d.standing a.0.0 p.0 q (confirmed (or_cases (is_pending d.standing.state) (is_confirmed d.standing.state) p.1)) in
          let y = L.one_first d.standing e.standing p.0 a.0.0 o.0 in
          absurd (false≢true (sym (y ∙ not_from_true _ x) ∙ s.0))

  -- pending defenders, then those that are not
  pub record Split (ds : List Entry) : Type 0 where
    pub ps : List Entry
    pub cs : List Entry
    pub whole : ds ≡ ps ++ cs
    pub first : AllByRecursion Pending ps
    pub then : AllByRecursion NotPending cs

  pub pending_come_first : (ds : List Entry) → AllByRecursion Defends ds → Sorted R ds → Different ds → Split ds
  pending_come_first [] a s o = record { ps = []; cs = []; whole = refl; first = tt; then = tt }
  pending_come_first (d ∷ ds) a s o = go (pending_come_first ds a.1 s.1 o.1) (cases_Bool (is_pending d.standing.state))
    where
      go : Split ds → (is_pending d.standing.state ≡ true) ⊎ (is_pending d.standing.state ≡ false) → Split (d ∷ ds)
      go S (inl q) = record { ps = d ∷ S.ps; cs = S.cs; whole = ap (λ x. d ∷ x) S.whole; first = (q, S.first); then = S.then }
      go S (inr q) = record { ps = []; cs = d ∷ ds; whole = refl; first = tt; then = (q, none_pending_after d a.0 q ds a.1 s.0 o.0) }
