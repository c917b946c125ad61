-- What an output holds once bytes were put into it.
use Rattle.std.specs.Prelude.{◌≡◌, ℕ, ◌+◌, ◌≤◌, List, ◌++◌, length, take, drop}
use Rattle.receipts.specs.declared.output.Output.{Output}

-- bytes written at a place: what stands before and behind them stays
abbrev pub written : ℕ → List ℕ → List ℕ → List ℕ
written at bytes out = take at out ++ (bytes ++ drop (at + length bytes) out)

-- there is room for the bytes, and they are put behind those put before, into the same output
pub record Puts (old : Output) (bytes : List ℕ) (new : Output) : Type 0 where
  pub same_output : new.bytes.ghost_name ≡ old.bytes.ghost_name
  pub fit : old.at + length bytes ≤ length old.bytes.now
  pub bytes_written : new.bytes.now ≡ written old.at bytes old.bytes.now
  pub end : new.at ≡ old.at + length bytes
