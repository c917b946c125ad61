-- What a receipt is when it is issued and when it is spent, and what writing its notices answers and leaves.
use Rattle.std.specs.Prelude.{ℕ, ◌+◌, true, false, cond, List, [], ◌++◌, length, drop, Ok, Err, Result, nat_lt}
use Rattle.terms.specs.declared.refusal.Refusal.{Refusal}
use Rattle.terms.specs.declared.refusal.Refusal.TheVariants.{PastJournal, OutputTooSmall}
use Rattle.journal.specs.declared.line.Line.{Line}
use Rattle.receipts.specs.declared.receipt.Receipt.{Receipt}
use Rattle.receipts.specs.Notices.{notices, receipt_lines}

-- a receipt for count lines from first on, not yet spent
abbrev pub owed : ℕ → ℕ → Receipt
owed first count = record { first = first; count = count; spent = false }

-- the same receipt, spent
abbrev pub settled : Receipt → Receipt
settled r = record { first = r.first; count = r.count; spent = true }

-- the notices that a receipt tells of a journal
abbrev pub told_by : Receipt → List Line → List ℕ
told_by r lines = notices [] (receipt_lines r.first r.count lines)

-- how many bytes are written; refused where the receipt reaches past the journal, then where the output is too small
abbrev pub answered : Receipt → List Line → List ℕ → Result ℕ Refusal
answered r lines out =
    cond (nat_lt (length lines) (r.first + r.count)) (Err PastJournal)
    (cond (nat_lt (length out) (length (told_by r lines))) (Err OutputTooSmall)
    (Ok (length (told_by r lines))))

-- the output starts with the bytes and stays as it was behind them; a refusal leaves all of it
abbrev pub filled : Result ℕ Refusal → List ℕ → List ℕ → List ℕ
filled (Ok n) bytes out = bytes ++ drop n out
filled (Err refusal) bytes out = out

-- writing spends the receipt; a refusal leaves it owed
abbrev pub kept_or_settled : Result ℕ Refusal → Receipt → Receipt
kept_or_settled (Ok n) r = settled r
kept_or_settled (Err refusal) r = r
