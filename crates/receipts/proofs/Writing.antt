-- Laws of putting bytes into an output: nothing, and one piece behind another.
use Rattle.std.proofs.Common.{◌≡◌, ℕ, ◌+◌, ◌≤◌, List, [], ◌++◌, length, sym, refl, ap, ◌∙◌, rules, arith, add-zero, length-append}
use lib.Seq.{paste}
use Rattle.std.proofs.lemmas.List.{take-append-drop}
use Rattle.std.proofs.lemmas.List.Edits.{paste_all, paste-paste}
use Rattle.std.proofs.lemmas.Slice.{overwrites}
use Rattle.receipts.specs.declared.output.Output.{Output}
use Rattle.receipts.specs.Output.{Puts, written}

written_is_paste : (at : ℕ) (xs out : List ℕ) → written at xs out ≡ paste out at xs (length xs)
written_is_paste at xs out = sym (paste_all out at xs (length xs) refl)

written_behind : (at : ℕ) (xs ys out : List ℕ) → at ≤ length out → written (at + length xs) ys (written at xs out) ≡ written at (xs ++ ys) out
written_behind at xs ys out within =
    cc (written_is_paste (at + length xs) ys (written at xs out), written_is_paste at xs out, written_is_paste at (xs ++ ys) out, paste-paste out at xs ys (length xs) (length ys) refl refl within, length-append xs ys)

pub length-puts : (a b : Output) (xs : List ℕ) → Puts a xs b → length b.bytes.now ≡ length a.bytes.now
length-puts a b xs puts = let fit = puts.fit in ap length puts.bytes_written ∙ search (rules, overwrites)

pub puts_nothing : (a : Output) → a.at ≤ length a.bytes.now → Puts a [] a
puts_nothing a within = record {
  same_output = refl;
  fit = omega arith;
  bytes_written = rw add-zero (sym (take-append-drop a.at a.bytes.now));
  end = omega arith;
}

pub puts_behind : (a b c : Output) (xs ys : List ℕ) → Puts a xs b → Puts b ys c → Puts a (xs ++ ys) c
puts_behind a b c xs ys first second = record {
  same_output = second.same_output ∙ first.same_output;
  fit = omega (arith, length-append xs ys, length-puts a b xs first);
  bytes_written = cc (written_behind a.at xs ys a.bytes.now (omega arith));
  end = omega (arith, length-append xs ys);
}
