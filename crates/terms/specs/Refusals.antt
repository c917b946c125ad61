-- The number of each refusal.
use Rattle.std.specs.Prelude.{ℕ}
use Rattle.terms.specs.declared.refusal.Refusal.{Refusal}
use Rattle.terms.specs.declared.refusal.Refusal.TheVariants.{BadDayCount, BadPosting, BadPlaceCount, BadJournalSize, UnknownNumber, BadLength, BadAmount, BadPrice, NoAref, BadMinute, ItemDue, OldAref, TermNotOffered, NotCarried, NoPlace, MatchOpen, NothingFree, NoRecord, WrongState, NoExtension, NothingDue, JournalFull, DayNotPosted, PastJournal, OutputTooSmall}

abbrev pub refusal_number : Refusal → ℕ
refusal_number BadDayCount = 1
refusal_number BadPosting = 2
refusal_number BadPlaceCount = 3
refusal_number BadJournalSize = 4
refusal_number UnknownNumber = 5
refusal_number BadLength = 6
refusal_number BadAmount = 7
refusal_number BadPrice = 8
refusal_number NoAref = 9
refusal_number BadMinute = 10
refusal_number ItemDue = 11
refusal_number OldAref = 12
refusal_number TermNotOffered = 13
refusal_number NotCarried = 14
refusal_number NoPlace = 15
refusal_number MatchOpen = 16
refusal_number NothingFree = 17
refusal_number NoRecord = 18
refusal_number WrongState = 19
refusal_number NoExtension = 20
refusal_number NothingDue = 21
refusal_number JournalFull = 22
refusal_number DayNotPosted = 23
refusal_number PastJournal = 24
refusal_number OutputTooSmall = 25
