-- A desk newly opened has at most 128 places and 65,536 journal lines: no more can be lent.
use Rattle.std.proofs.Common.{◌≡◌, ℕ, suc, ◌+◌, ◌≤◌, Bool, true, false, cond, leb, ltb, List, [], ◌∷◌, ◌++◌, length, drop, Some, None, Option, refl, sym, ap, ◌∙◌, arith}
use Rattle.std.proofs.lemmas.List.{length-append, length-drop, length-replicate}
use Rattle.std.proofs.lemmas.List.Sums.{sum_by-cons}
use Rattle.std.proofs.lemmas.Bool.{and_parts, leb-true}
use Rattle.terms.specs.declared.refusal.Refusal.{Refusal}
use Rattle.terms.specs.declared.refusal.Refusal.TheVariants.{BadDayCount, BadPosting, BadPlaceCount, BadJournalSize}
use Rattle.terms.specs.Days.{Days}
use Rattle.journal.specs.declared.line.Line.{Line}
use Rattle.journal.specs.declared.line.LineKind.TheVariants.{Posted}
use Rattle.law.specs.Opened.{postings}
use Rattle.desk.specs.declared.memory.Desk.{Desk}
use Rattle.desk.specs.declared.memory.Memory.{Memory}
use Rattle.desk.specs.Desks.{days_lent, refusal_over, OpenedOver}
use Rattle.desk.specs.Opening.{days_fit, postings_fit, places_fit, busy_days, journal_fits, unless, opening_refusal}
use Rattle.desk.specs.Records.{vacant}
use Rattle.desk.proofs.OpenedSound.{goes_on}

few_if_passed : (days : Days) (frees places room : ℕ) → opening_refusal days frees places room ≡ None → (places ≤ 128) × (room ≤ 65536) × (busy_days days.amounts ≤ room)
few_if_passed days frees places room h =
    let last = unless (journal_fits days.amounts room) BadJournalSize None in
    let rest = unless (places_fit places) BadPlaceCount last in
    let posted = unless (postings_fit 0 days.amounts days.preschedule) BadPosting rest in
    let first = goes_on (days_fit days frees) BadDayCount posted h in
    let second = goes_on (postings_fit 0 days.amounts days.preschedule) BadPosting rest first.1 in
    let third = goes_on (places_fit places) BadPlaceCount last second.1 in
    let fourth = goes_on (journal_fits days.amounts room) BadJournalSize None third.1 in
    let p = and_parts (leb 1 places) (leb places 128) third.0 in
    let l = and_parts (leb room 65536) (leb (busy_days days.amounts) room) fourth.0 in
    (leb-true places 128 p.1, leb-true room 65536 l.0, leb-true (busy_days days.amounts) room l.1)

-- a line for each busy day
length-postings : (start : ℕ) (amounts : List ℕ) → length (postings start amounts) ≡ busy_days amounts
length-postings start [] = refl
length-postings start (mw ∷ amounts) = go (length-postings (suc start) amounts) (ltb 0 mw) ∙ sym (sum_by-cons (λ n. cond {A = ℕ} (ltb 0 n) 1 0) mw amounts)
  where
    go : length (postings (suc start) amounts) ≡ busy_days amounts → (c : Bool) →
        length (cond c (record { minute = 0; kind = Posted; a = 0; b = 0; day = start; mw = mw } ∷ postings (suc start) amounts) (postings (suc start) amounts)) ≡ cond c 1 0 + busy_days amounts
    go ih true = omega arith
    go ih false = omega arith

-- the journal has as many lines as were lent
length-journal : (days : Days) (lent : List Line) → busy_days days.amounts ≤ length lent →
    length (postings 0 days.amounts ++ drop (length (postings 0 days.amounts)) lent) ≡ length lent
length-journal days lent h = simp (length-append, length-drop) (omega (arith, length-postings 0 days.amounts))

pub few_opened : (m : Memory) (d : Desk) (r : Option Refusal) → refusal_over m ≡ r → OpenedOver m d r → (length d.places.now ≤ 128) × (length d.lines.now ≤ 65536)
few_opened m d None e N =
    let few = few_if_passed (days_lent m) (length m.free.now) (length m.places.now) (length m.lines.now) e in
    let long = ap length N.lines ∙ length-journal (days_lent m) m.lines.now few.2 in
    let wide = ap length N.places ∙ length-replicate (length m.places.now) vacant in
    (omega (arith, few.0, wide), omega (arith, few.1, long))
few_opened m d (Some refusal) e N = (omega (arith, ap length N.places), omega (arith, ap length N.lines))
