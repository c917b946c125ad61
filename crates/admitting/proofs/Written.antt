-- What a call makes is written whole, or not at all where the journal has too few lines left.
use Rattle.std.proofs.Common.{◌≡◌, ℕ, ◌+◌, ◌-◌, ◌<◌, ◌≤◌, List, length, sym, refl, ap, ◌∙◌, arith}
use Rattle.std.proofs.lemmas.Bool.{lt-ltb, le-ltb}
use Rattle.terms.specs.declared.refusal.Refusal.TheVariants.{JournalFull}
use Rattle.terms.specs.declared.words.State.{State}
use Rattle.journal.specs.declared.line.Line.{Line}
use Rattle.law.specs.View.{View, Entry}
use Rattle.law.specs.Calls.{makes, refusal, done}
use Rattle.admitting.specs.Writing.{Writes}

-- the book after a call, but for the highest AREF
abbrev pub book_after : View → List Line → List Entry → ℕ → View
book_after v ls es minute = record { days = v.days; room = v.room; lines = ls; places = es; clock = minute; top = v.top }

module _ (v : View) (minute : ℕ) (ls : List Line) (es : List Entry) (a : ℕ) (s : State) where
  pub writes_none : v.room < length ls → Writes v minute (makes ls es a s) (refusal JournalFull) v
  writes_none h c m t = sym (rw (lt-ltb v.room (length ls) h) refl)

  pub writes_all : length ls ≤ v.room → (first count : ℕ) → first ≡ length v.lines → length ls ≡ length v.lines + count → (w : View) → w ≡ book_after v ls es minute → Writes v minute (makes ls es a s) (done a s first count) w
  writes_all h first count ef ec w ew c m t =
      let k : count ≡ length ls - length v.lines = omega arith in
      ap (λ (x : View). (done a s first count, x)) ew
      ∙ (ap (λ (x : ℕ). (done a s x count, book_after v ls es minute)) ef
      ∙ (ap (λ (x : ℕ). (done a s (length v.lines) x, book_after v ls es minute)) k
      ∙ sym (rw (le-ltb v.room (length ls) h, m, t) refl)))
