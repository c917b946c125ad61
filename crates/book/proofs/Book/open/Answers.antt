use Rattle.std.proofs.Common.{refl}
use Rattle.desk.specs.Desks.{refusal_over}
use Rattle.desk.proofs.OpenedSound.{sound_opened}
use Rattle.moving.proofs.FromSound.{midway_of}
use Rattle.book.proofs.Book.open.Goals as goal

pub invariant_of-result : goal.invariant_of-result
invariant_of-result g c = record { midway = ∣ midway_of c.open-desk.result (sound_opened c.args.memory c.open-desk.result (refusal_over c.args.memory) refl c.open-desk.ensures) ∣₁ }

pub invariant_of-result-2 : goal.invariant_of-result-2
invariant_of-result-2 g c = record { sound = ∣ sound_opened c.args.memory c.open-desk.result (refusal_over c.args.memory) refl c.open-desk.ensures ∣₁ }
