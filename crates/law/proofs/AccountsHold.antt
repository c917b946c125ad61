-- Over every list of calls no megawatt is lost.
use Rattle.std.proofs.Common.{suc, take}
use Rattle.std.proofs.ByRecursion.{All-take}
use Rattle.journal.proofs.Conservation.{none_lost}
use Rattle.law.specs.Opened.{opened}
use Rattle.law.specs.Calls.{run}
use Rattle.law.specs.AccountsLaw.{NoMegawattLost}
use Rattle.law.proofs.LineByLine.{solvent_take}
use Rattle.law.proofs.OwnSums.{four_sums}
use Rattle.law.proofs.KeptOverRuns.{right_at, days_at, accounted_right}

pub no_megawatt_lost : NoMegawattLost
no_megawatt_lost R days places room cs =
    let v = run R cs (opened days places room) in
    let I = right_at R days places room cs in
    record {
      solvent = I.sound.fine.solvent;
      each_line = λ n day. none_lost (suc v.top) day (take n v.lines) (solvent_take n v.lines I.sound.fine.solvent) (All-take _ n v.lines I.sound.fine.names);
      in_the_end = I.sound.fine.whole;
      answered = λ day. four_sums v (accounted_right days v (days_at R cs (opened days places room)) I) day;
    }
