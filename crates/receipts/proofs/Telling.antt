-- Whom lines tell, and what each line adds to the notices of those before it.
use Rattle.std.proofs.Common.{◌≡◌, ℕ, ◌+◌, ◌<◌, ◌≤◌, true, false, cond, ◌&&◌, ◌||◌, ◌==◌, List, [], ◌∷◌, ◌++◌, length, get_or, take, drop, refl, sym, ap, ◌∙◌, append_assoc, append-nil, arith, length-append}
use Rattle.std.specs.List.{list_any}
use Rattle.std.proofs.lemmas.List.{take_more, take-append-drop}
use Rattle.journal.specs.declared.line.Line.{Line}
use Rattle.journal.specs.Kinds.{gives_way}
use Rattle.receipts.specs.Notices.{notice, told, gives_notice, notices}

pub told_any : (a : ℕ) (ls : List Line) → told a ls ≡ list_any (λ l. gives_way l.kind && l.a == a) ls
unfolding told
told_any a [] = refl
told_any a (l ∷ ls) = ap (λ t. (gives_way l.kind && l.a == a) || t) (told_any a ls)

notices-append : (earlier xs ys : List Line) → notices earlier (xs ++ ys) ≡ notices earlier xs ++ notices (earlier ++ xs) ys
unfolding notices
notices-append earlier [] ys = simp append-nil
notices-append earlier (x ∷ xs) ys = simp (notices-append (earlier ++ (x ∷ [])) xs ys, append_assoc)

notices_more : (ls : List Line) (i : ℕ) (d : Line) → i < length ls → notices [] (take (i + 1) ls) ≡ notices [] (take i ls) ++ cond (gives_notice (take i ls) (get_or ls i d)) (notice (get_or ls i d)) []
unfolding notices
notices_more ls i d within = rw (take_more ls i d within) (notices-append [] (take i ls) (get_or ls i d ∷ []) ∙ simp append-nil)

pub notices_with : (ls : List Line) (i : ℕ) (d : Line) → i < length ls → true ≡ gives_notice (take i ls) (get_or ls i d) → notices [] (take (i + 1) ls) ≡ notices [] (take i ls) ++ notice (get_or ls i d)
notices_with ls i d within gives = rw (← gives) at (notices_more ls i d within)

pub notices_without : (ls : List Line) (i : ℕ) (d : Line) → i < length ls → false ≡ gives_notice (take i ls) (get_or ls i d) → notices [] (take (i + 1) ls) ≡ notices [] (take i ls)
notices_without ls i d within silent = rw (← silent, append-nil) at (notices_more ls i d within)

-- there is room for the notice of a line where there is room for those of all
pub notice_fits : (ls : List Line) (i : ℕ) (d : Line) → i < length ls → true ≡ gives_notice (take i ls) (get_or ls i d) → length (notices [] (take i ls)) + length (notice (get_or ls i d)) ≤ length (notices [] ls)
notice_fits ls i d within gives =
    let front = notices [] (take (i + 1) ls) in
    let rest = notices (take (i + 1) ls) (drop (i + 1) ls) in
    let all = ap (notices []) (sym (take-append-drop (i + 1) ls)) ∙ notices-append [] (take (i + 1) ls) (drop (i + 1) ls) in
    let longer = ap length (notices_with ls i d within gives) ∙ length-append (notices [] (take i ls)) (notice (get_or ls i d)) in
    omega (arith, ap length all, length-append front rest, longer)
