use Rattle.std.proofs.Common.{arith}
use Rattle.std.proofs.lemmas.List.{length-take-le}
use Rattle.desk.proofs.SoundProp.{sound_of}
use Rattle.desk.proofs.memory.Desk.journal.Goals as goal

pub slice_bounds-result-end : goal.slice_bounds-result-end
slice_bounds-result-end c = let d = c.args.self.now in omega (arith, length-take-le d.used d.lines.now (sound_of d c.requires).written)
