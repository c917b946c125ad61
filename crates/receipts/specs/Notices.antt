-- What the notices of journal lines say: who gives way, by which kind of line, and to which challenger.
use Rattle.std.specs.Prelude.{ℕ, Bool, false, cond, not, ◌&&◌, ◌||◌, List, [], ◌∷◌, ◌++◌, take, drop, decimal, ◌==◌}
use Rattle.journal.specs.declared.line.Line.{Line}
use Rattle.journal.specs.Kinds.{line_number, gives_way}

-- a number in decimal, and the byte that ends it
abbrev pub field : ℕ → ℕ → List ℕ
field n end = decimal n ++ (end ∷ [])

-- AREF a, the kind's number and the challenger's AREF, each ended by a blank (32), the last by a line feed (10)
abbrev pub notice : Line → List ℕ
notice l = field l.a 32 ++ (field (line_number l.kind) 32 ++ field l.b 10)

-- was a record told by one of the lines that it gives way
unfoldable pub told : ℕ → List Line → Bool
told a [] = false
told a (l ∷ ls) = (gives_way l.kind && l.a == a) || told a ls

-- a line gives a notice where somebody gives way by it whom no earlier line told
abbrev pub gives_notice : List Line → Line → Bool
gives_notice earlier l = gives_way l.kind && not (told l.a earlier)

-- the notices of lines in their order, behind earlier lines of the same receipt
unfoldable pub notices : List Line → List Line → List ℕ
notices earlier [] = []
notices earlier (l ∷ ls) = cond (gives_notice earlier l) (notice l) [] ++ notices (earlier ++ (l ∷ [])) ls

-- the lines that a receipt names
abbrev pub receipt_lines : ℕ → ℕ → List Line → List Line
receipt_lines first count lines = take count (drop first lines)
