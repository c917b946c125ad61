-- Every call writes only lines that are paid for.
use Rattle.std.proofs.Common.{ℕ, ◌<◌, min, Bool, true, false, cond, List, [], ◌∷◌, arith}
use Rattle.std.specs.List.{AllByRecursion}
use Rattle.terms.specs.declared.request.Request.{Request}
use Rattle.terms.specs.Words.{is_pending}
use Rattle.sheets.specs.Rules.{Rules}
use Rattle.journal.specs.declared.line.Line.{Line}
use Rattle.journal.specs.declared.line.LineKind.TheVariants.{Granted, Superseded, Recalled, SetAside, Lost, Kept, Extended, Ceded, Released, Flown}
use Rattle.journal.specs.Accounts.{aside, balance}
use Rattle.law.specs.Preemption.{wanted, grant, short, meets_shortage, supersede, give, supersede_all, give_all, defenders, preempt}
use Rattle.law.specs.View.{Entry, View, aref_of, start_of, length_of}
use Rattle.law.specs.Posting.{post, by_day, holding, free_on}
use Rattle.law.specs.Calls.{release, fly, lose, keep, extend}
use Rattle.law.proofs.SoundLines.{Fine, fine_post, fine_days}

module _ (n : ℕ) (p : ℕ → ℕ) where
  pub fine_release : (t a s d : ℕ) (ls : List Line) → a < n → Fine n p ls → Fine n p (by_day (release t a) s d ls)
  fine_release t a s d ls h f = fine_days n p (release t a) (λ k ms g. fine_post n p t Released a 0 k (holding ms a k) ms g (omega arith) (omega arith) h (omega arith)) s d ls f

  pub fine_fly : (t a s d : ℕ) (ls : List Line) → a < n → Fine n p ls → Fine n p (by_day (fly t a) s d ls)
  fine_fly t a s d ls h f = fine_days n p (fly t a) (λ k ms g. fine_post n p t Flown a 0 k (holding ms a k) ms g (omega arith) (omega arith) h (omega arith)) s d ls f

  pub fine_grant : (t : ℕ) (r : Request) (s d : ℕ) (ls : List Line) → r.aref < n → Fine n p ls → Fine n p (by_day (grant t r) s d ls)
  fine_grant t r s d ls h f = fine_days n p (grant t r) (λ k ms g. fine_post n p t Granted 0 r.aref k (min (free_on ms k) (wanted r k)) ms g (omega arith) (omega arith) (omega arith) h) s d ls f

  pub fine_lose : (t a b s d : ℕ) (ls : List Line) → a < n → b < n → Fine n p ls → Fine n p (by_day (lose t a b) s d ls)
  fine_lose t a b s d ls h j f = fine_days n p (lose t a b) (λ k ms g. fine_post n p t Lost a b k (balance ms (aside a b) k) ms g (omega arith) (omega arith) h j) s d ls f

  pub fine_keep : (t a b s d : ℕ) (ls : List Line) → a < n → b < n → Fine n p ls → Fine n p (by_day (keep t a b) s d ls)
  fine_keep t a b s d ls h j f = fine_days n p (keep t a b) (λ k ms g. fine_post n p t Kept a b k (balance ms (aside a b) k) ms g (omega arith) (omega arith) h j) s d ls f

  pub fine_extend : (t x a b s d : ℕ) (ls : List Line) → a < n → b < n → Fine n p ls → Fine n p (by_day (extend t x a b) s d ls)
  fine_extend t x a b s d ls h j f = fine_days n p (extend t x a b) (λ k ms g. fine_post n p t Ceded b a k _ _ (fine_post n p t Extended a b k (min (free_on ms k) x) ms g (omega arith) (omega arith) h j) (omega arith) (omega arith) j h) s d ls f

  fine_supersede : (t : ℕ) (r : Request) (d : Entry) (ls : List Line) → r.aref < n → aref_of d < n → Fine n p ls → Fine n p (supersede t r d ls)
  fine_supersede t r d ls h j f = go (meets_shortage r d ls)
    where
      one : ℕ → List Line → List Line
      one k ms = post t Superseded (aref_of d) r.aref k (holding ms (aref_of d) k) ms

      go : (c : Bool) → Fine n p (cond c (by_day (λ k ms. post t Superseded (aref_of d) r.aref k (holding ms (aref_of d) k) ms) (start_of d) (length_of d) ls) ls)
      go true = fine_days n p _ (λ k ms g. fine_post n p t Superseded (aref_of d) r.aref k (holding ms (aref_of d) k) ms g (omega arith) (omega arith) j h) (start_of d) (length_of d) ls f
      go false = f

  fine_give : (R : Rules) (t : ℕ) (r : Request) (d : Entry) (ls : List Line) → r.aref < n → aref_of d < n → Fine n p ls → Fine n p (give R t r d ls)
  fine_give R t r d ls h j f = go (R.may_match r d.standing)
    where
      go : (c : Bool) → Fine n p (by_day (λ k ms. post t (cond c SetAside Recalled) (aref_of d) r.aref k (min (holding ms (aref_of d) k) (short r k ms)) ms) (start_of d) (length_of d) ls)
      go true = fine_days n p _ (λ k ms g. fine_post n p t SetAside (aref_of d) r.aref k (min (holding ms (aref_of d) k) (short r k ms)) ms g (omega arith) (omega arith) j h) (start_of d) (length_of d) ls f
      go false = fine_days n p _ (λ k ms g. fine_post n p t Recalled (aref_of d) r.aref k (min (holding ms (aref_of d) k) (short r k ms)) ms g (omega arith) (omega arith) j h) (start_of d) (length_of d) ls f

  fine_supersede_all : (t : ℕ) (r : Request) (ds : List Entry) (ls : List Line) → r.aref < n → AllByRecursion (λ d. aref_of d < n) ds → Fine n p ls → Fine n p (supersede_all t r ds ls)
  unfolding supersede_all
  fine_supersede_all t r [] ls h a f = f
  fine_supersede_all t r (d ∷ ds) ls h a f = fine_supersede_all t r ds _ h a.1 (go (is_pending d.standing.state))
    where
      go : (c : Bool) → Fine n p (cond c (supersede t r d ls) ls)
      go true = fine_supersede t r d ls h a.0 f
      go false = f

  fine_give_all : (R : Rules) (t : ℕ) (r : Request) (ds : List Entry) (ls : List Line) → r.aref < n → AllByRecursion (λ d. aref_of d < n) ds → Fine n p ls → Fine n p (give_all R t r ds ls)
  unfolding give_all
  fine_give_all R t r [] ls h a f = f
  fine_give_all R t r (d ∷ ds) ls h a f = fine_give_all R t r ds _ h a.1 (go (is_pending d.standing.state))
    where
      go : (c : Bool) → Fine n p (cond c ls (give R t r d ls))
      go true = f
      go false = fine_give R t r d ls h a.0 f

  pub fine_preempt : (R : Rules) (t : ℕ) (r : Request) (v : View) → r.aref < n → AllByRecursion (λ d. aref_of d < n) (defenders R t r v) → Fine n p v.lines → Fine n p (preempt R t r v)
  fine_preempt R t r v h a f = fine_give_all R t r _ _ h a (fine_grant t r _ _ _ h (fine_supersede_all t r _ _ h a f))
