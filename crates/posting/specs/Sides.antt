-- The sides that a line moves MW between, as memory has them.
use Rattle.std.specs.Prelude.{◌≡◌, ℕ, ◌-◌, ◌<◌, ◌≤◌, true, false, cond, ◌&&◌, List, [], length, ◌==◌, slice_index, slice_index_or, slice_set}
use Rattle.terms.specs.declared.words.Kind.TheVariants.{PointToPoint}
use Rattle.terms.specs.declared.words.Product.TheVariants.{Daily}
use Rattle.terms.specs.declared.words.State.TheVariants.{Confirmed}
use Rattle.journal.specs.Accounts.{Account, free, flown, held, aside, same}
use Rattle.law.specs.View.{living, aref_of}
use Rattle.desk.specs.declared.record.Record.{Record}
use Rattle.desk.specs.Records.{entry_of}
use Rattle.posting.specs.declared.sides.Side.{Side}
use Rattle.posting.specs.declared.sides.Side.TheVariants.{Free, Flown, Held, Aside}

-- what is read past the last place
abbrev pub unread : Record
unread = record {
  standing = record {
    request = record { aref = 0; kind = PointToPoint; product = Daily; start = 0; length = 0; mw = 0; preconfirmed = false; price = 0 };
    state = Confirmed;
    queued = 0;
  };
  due = 0;
  against = 0;
  held = [];
  aside = [];
}

abbrev pub place : List Record → ℕ → Record
place places i = slice_index_or places i unread

-- the day, counted from a record's start
abbrev pub offset : List Record → ℕ → ℕ → ℕ
offset places i day = day - (place places i).standing.request.start

-- a place's amounts reach the day
abbrev pub InPlace : List Record → ℕ → ℕ → Type 0
InPlace places i day = (i < length places) × ((place places i).standing.request.start ≤ day) × (offset places i day < 31)
    × (length (place places i).held ≡ 31) × (length (place places i).aside ≡ 31)

-- the side is there on that day
abbrev pub Reach : ℕ → List Record → Side → ℕ → Type 0
Reach days places Free day = day < days
Reach days places Flown day = Unit {0}
Reach days places (Held i) day = InPlace places i day
Reach days places (Aside i) day = InPlace places i day

-- what stands on a side on a day
abbrev pub stands : List ℕ → List Record → Side → ℕ → ℕ
stands amounts places Free day = slice_index amounts day
stands amounts places Flown day = 0
stands amounts places (Held i) day = slice_index (place places i).held (offset places i day)
stands amounts places (Aside i) day = slice_index (place places i).aside (offset places i day)

abbrev pub with_held : Record → List ℕ → Record
with_held r amounts = record { standing = r.standing; due = r.due; against = r.against; held = amounts; aside = r.aside }

abbrev pub with_aside : Record → List ℕ → Record
with_aside r amounts = record { standing = r.standing; due = r.due; against = r.against; held = r.held; aside = amounts }

-- the free amounts with an amount put on a side
abbrev pub put_free : List ℕ → Side → ℕ → ℕ → List ℕ
put_free amounts Free day mw = slice_set amounts day mw
put_free amounts Flown day mw = amounts
put_free amounts (Held i) day mw = amounts
put_free amounts (Aside i) day mw = amounts

-- the places with an amount put on a side
abbrev pub put_places : List Record → Side → ℕ → ℕ → List Record
put_places places Free day mw = places
put_places places Flown day mw = places
put_places places (Held i) day mw = slice_set places i (with_held (place places i) (slice_set (place places i).held (offset places i day) mw))
put_places places (Aside i) day mw = slice_set places i (with_aside (place places i) (slice_set (place places i).aside (offset places i day) mw))

-- the account that a side is
abbrev pub account : List Record → Side → Account
account places Free = free
account places Flown = flown
account places (Held i) = held (aref_of (entry_of (place places i)))
account places (Aside i) = aside (aref_of (entry_of (place places i))) (place places i).against

-- the accounts with an amount in one of them on a day
abbrev pub with_in : (Account → ℕ → ℕ) → Account → ℕ → ℕ → Account → ℕ → ℕ
with_in B x day mw y j = cond (day == j && same y x) mw (B y j)

-- the side is there on that day, and is of a living record
abbrev pub There : ℕ → List Record → Side → ℕ → Type 0
There days places Free day = day < days
There days places Flown day = Unit {0}
There days places (Held i) day = (i < length places) × ((place places i).standing.request.start ≤ day) × (offset places i day < 31) × (living (entry_of (place places i)) ≡ true)
There days places (Aside i) day = (i < length places) × ((place places i).standing.request.start ≤ day) × (offset places i day < 31) × (living (entry_of (place places i)) ≡ true)
