-- What confirming a record makes.
use Rattle.terms.specs.declared.words.State.TheVariants.{Confirmed}
use Rattle.law.specs.View.{View, Entry, aref_of}
use Rattle.law.specs.Places.{change, stand_confirmed}
use Rattle.law.specs.Calls.{Made, makes}

-- no lines; the record stands confirmed
abbrev pub confirms : Entry → View → Made
confirms e v = makes v.lines (change (aref_of e) stand_confirmed v.places) (aref_of e) Confirmed
