-- A list that is gone through from its last element to its first.
use Rattle.std.proofs.Common.{◌≡◌, ◌+◌, List, [], ◌∷◌, ◌++◌, length, take, drop, sym, refl, ap, ◌∙◌}
use Rattle.std.specs.List.{push}
use Rattle.std.proofs.lemmas.List.{take-append-drop, append_assoc, length-append, take_at, drop_at}

-- one element further back: the rest are still the first ones, and the element stands between them and those behind
pub record OneBack {T : Type 0} (all rest next : List T) (one : T) : Type 0 where
  pub count : length rest ≡ length next + 1
  pub firsts : next ≡ take (length next) all
  pub behind : drop (length next) all ≡ one ∷ drop (length rest) all

pub one_back : {T : Type 0} (all rest next : List T) (one : T) → rest ≡ take (length rest) all → rest ≡ push next one → OneBack all rest next one
one_back all rest next one firsts last =
    let later = drop (length rest) all in
    let whole : all ≡ next ++ (one ∷ later) =
    sym (take-append-drop (length rest) all) ∙ ap (λ s. s ++ later) (sym firsts ∙ last) ∙ append_assoc next (one ∷ []) later in
    record {
      count = ap length last ∙ length-append next (one ∷ []);
      firsts = sym (ap (take (length next)) whole ∙ take_at next (one ∷ later) (length next) refl);
      behind = ap (drop (length next)) whole ∙ drop_at next (one ∷ later) (length next) refl;
    }
