-- Line by line, and which calls take.
use Rattle.std.proofs.Common.{◌≡◌, ℕ, ◌<◌, ◌≤◌, Bool, false, ◌⊎◌, List, length, take, sym, refl, ◌∙◌, inl, inr, arith}
use Rattle.std.proofs.lemmas.List.{take-take, take_all, length-take}
use Rattle.std.proofs.lemmas.Bool.{cases_lt, false≢true}
use Rattle.journal.specs.declared.line.Line.{Line}
use Rattle.journal.specs.declared.line.LineKind.{LineKind}
use Rattle.journal.specs.declared.line.LineKind.TheVariants.{Posted, Granted, Superseded, Recalled, SetAside, Lost, Kept, Extended, Ceded, Released, Flown}
use Rattle.journal.specs.Accounts.{into, out_of, NeverBelowZero}
use Rattle.law.specs.Calls.{run}
use Rattle.journal.specs.Kinds.{gives_way}
use Rattle.law.specs.Opened.{opened}
use Rattle.law.specs.TurnLaw.{OnlySubmitsTake, is_submit}
use Rattle.law.proofs.WrittenLines.{writes_split}
use Rattle.law.proofs.LinesOfCalls.{Sane, Okay, subject, pays_step}

pub solvent_take : (n : ℕ) (ls : List Line) → NeverBelowZero ls → NeverBelowZero (take n ls)
solvent_take n ls f m k x p = go (cases_lt n m)
  where
    go : (n < m) ⊎ (m ≤ n) → out_of x k (take m (take n ls)) ≤ into x k (take m (take n ls))
    go (inl h) = let l = length-take n ls in let q : length (take n ls) ≤ m = omega arith in rw (take_all m (take n ls) q) (f n k x p)
    go (inr h) = rw (take-take m n ls h) (f m k x p)

other_kind : (q : Bool) (n x : ℕ) (κ : LineKind) (a b : ℕ) → q ≡ false → Okay q n x κ a b → gives_way κ ≡ false
other_kind q n x Posted a b e o = refl
other_kind q n x Granted a b e o = refl
other_kind q n x Superseded a b e o = absurd (false≢true (sym e ∙ o))
other_kind q n x Recalled a b e o = absurd (false≢true (sym e ∙ o))
other_kind q n x SetAside a b e o = absurd (false≢true (sym e ∙ o.0))
other_kind q n x Lost a b e o = refl
other_kind q n x Kept a b e o = refl
other_kind q n x Extended a b e o = refl
other_kind q n x Ceded a b e o = refl
other_kind q n x Released a b e o = refl
other_kind q n x Flown a b e o = refl

pub only_submits_take : OnlySubmitsTake
only_submits_take R days places room cs c h xs zs l e =
    let v = run R cs (opened days places room) in
    let w = writes_split (Sane (is_submit c) v.top (subject 0 c v)) (λ ms ns. Unit {0}) (λ a b d p q. tt) (λ ms y q. tt) v.lines (pays_step R v 0 c) xs zs l e in
    other_kind (is_submit c) v.top (subject 0 c v) l.kind l.a l.b h w.0.2
