-- Each call of the list writes what its row says.
use Rattle.std.proofs.Common.{◌≡◌, List, ◌++◌, refl}
use Rattle.journal.specs.declared.line.Line.{Line}
use Rattle.law.specs.View.{View}
use Rattle.examples.specs.Witness.{Witness}
use Rattle.examples.proofs.Stages.{after_0, after_1, after_2, after_3, after_4, after_5, after_6, after_7, after_8, after_9, after_10, after_11}

-- what is so of two books is so of their like
told : {v w x y : View} (ls : List Line) → v ≡ x → w ≡ y → y.lines ≡ x.lines ++ ls → w.lines ≡ v.lines ++ ls
told ls p q r = cc

pub witness : Witness
witness = record {
  checked = (refl, (refl, (refl, (refl, (tt, (tt, (refl, (tt, (refl, (tt, (tt, tt)))))))))));
  grants = (refl, told _ after_0 after_1 refl);
  supersedes = (refl, told _ after_1 after_2 refl);
  recalls = (refl, told _ after_2 after_3 refl);
  sets_aside = (refl, told _ after_3 after_4 refl);
  matches = (refl, told _ after_4 after_5 refl);
  releases = (refl, told _ after_5 after_6 refl);
  challenges = (refl, told _ after_6 after_7 refl);
  declines = (refl, told _ after_7 after_8 refl);
  challenges_again = (refl, told _ after_8 after_9 refl);
  lapses = (refl, told _ after_9 after_10 refl);
  flies = (refl, told _ after_10 after_11 refl);
  all = refl;
}
