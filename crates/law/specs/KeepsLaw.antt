-- What every book keeps is kept by every call.
use Rattle.sheets.specs.Rules.{Rules}
use Rattle.law.specs.View.{View}
use Rattle.law.specs.Keeps.{Kept}
use Rattle.law.specs.Calls.{Call, step}
use Rattle.law.specs.TurnLaw.{IsChecked}

-- under every sheet, refused or not
abbrev pub EveryCallKeeps : Type 0
EveryCallKeeps = (R : Rules) (v : View) (c : Call) → Kept v → IsChecked c → Kept (step R c v).1
