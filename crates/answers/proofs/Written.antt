-- What is answered once a call has made its lines: refused where they do not fit, else done.
use Rattle.std.proofs.Common.{◌≡◌, ℕ, ◌+◌, ◌-◌, ◌<◌, ◌≤◌, ltb, List, length, sym, ap, ◌∙◌, arith}
use Rattle.std.proofs.lemmas.Bool.{lt-ltb, le-ltb, cond-true, cond-false}
use Rattle.terms.specs.declared.refusal.Refusal.TheVariants.{JournalFull}
use Rattle.terms.specs.declared.words.State.{State}
use Rattle.journal.specs.declared.line.Line.{Line}
use Rattle.law.specs.View.{View, Entry}
use Rattle.law.specs.Calls.{Call, Answer, refusal, done, makes, minute_of, new_top, written}

-- the book after a call
abbrev pub book_after : View → List Line → List Entry → ℕ → ℕ → View
book_after v ls es clock top = record { days = v.days; room = v.room; lines = ls; places = es; clock = clock; top = top }

module _ (c : Call) (v : View) (ls : List Line) (es : List Entry) (a : ℕ) (s : State) where
  pub written_full : v.room < length ls → written c v (makes ls es a s) ≡ (refusal JournalFull, v)
  written_full h = cond-true (ltb v.room (length ls)) _ _ (lt-ltb _ _ h)

  pub written_done : length ls ≤ v.room → (first count : ℕ) → first ≡ length v.lines → length ls ≡ first + count →
      written c v (makes ls es a s) ≡ (done a s first count, book_after v ls es (minute_of c) (new_top c v.top))
  written_done h first count e f =
      let n : length ls - length v.lines ≡ count = omega arith in
      cond-false (ltb v.room (length ls)) _ _ (le-ltb _ _ h) ∙ ap (λ (x : Answer). (x, book_after v ls es (minute_of c) (new_top c v.top))) (ap (λ (i : ℕ). done a s i (length ls - length v.lines)) (sym e) ∙ ap (λ (i : ℕ). done a s first i) n)
