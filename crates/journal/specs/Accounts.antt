-- The journal as double entry: on its day each line takes its MW out of one account and brings them into another.
use Rattle.std.specs.Prelude.{◌≡◌, ℕ, zero, suc, ◌+◌, ◌-◌, ◌<◌, ◌≤◌, Bool, cond, ◌&&◌, List, [], ◌∷◌, take, ◌==◌}
use Rattle.std.specs.List.{AllByRecursion}
use Rattle.journal.specs.declared.line.Line.{Line}
use Rattle.journal.specs.declared.line.LineKind.{LineKind}
use Rattle.journal.specs.declared.line.LineKind.TheVariants.{Posted, Granted, Superseded, Recalled, SetAside, Lost, Kept, Extended, Ceded, Released, Flown}

-- the outside is where posted MW come from; held a is what AREF a holds; aside a b is what is set aside of a for b
pub data Account : Type 0 where
  outside free flown : Account
  held : ℕ → Account
  aside : ℕ → ℕ → Account

-- the account that a line of a kind takes from
abbrev pub from : LineKind → ℕ → ℕ → Account
from Posted a b = outside
from Granted a b = free
from Superseded a b = held a
from Recalled a b = held a
from SetAside a b = held a
from Lost a b = aside a b
from Kept a b = aside a b
from Extended a b = free
from Ceded a b = held a
from Released a b = held a
from Flown a b = held a

-- the account that it brings to
abbrev pub to : LineKind → ℕ → ℕ → Account
to Posted a b = free
to Granted a b = held b
to Superseded a b = free
to Recalled a b = held b
to SetAside a b = aside a b
to Lost a b = held b
to Kept a b = held a
to Extended a b = held a
to Ceded a b = held b
to Released a b = free
to Flown a b = flown

abbrev pub source : Line → Account
source l = from l.kind l.a l.b

abbrev pub target : Line → Account
target l = to l.kind l.a l.b

-- three numbers tell an account: its sort, whose MW it has, and for whom
abbrev pub sort : Account → ℕ
sort outside = 0
sort free = 1
sort flown = 2
sort (held a) = 3
sort (aside a b) = 4

abbrev pub owner : Account → ℕ
owner outside = 0
owner free = 0
owner flown = 0
owner (held a) = a
owner (aside a b) = a

abbrev pub claimant : Account → ℕ
claimant outside = 0
claimant free = 0
claimant flown = 0
claimant (held a) = 0
claimant (aside a b) = b

abbrev pub same : Account → Account → Bool
same x y = sort x == sort y && (claimant x == claimant y && owner x == owner y)

-- what one line brings into an account on a day, and what it takes out
abbrev pub brings : Account → ℕ → Line → ℕ
brings x day l = cond (l.day == day && same x (target l)) l.mw 0

abbrev pub takes : Account → ℕ → Line → ℕ
takes x day l = cond (l.day == day && same x (source l)) l.mw 0

-- what the lines bring into an account on a day in all, and what they take out
unfoldable pub into : Account → ℕ → List Line → ℕ
into x day [] = 0
into x day (l ∷ ls) = brings x day l + into x day ls

unfoldable pub out_of : Account → ℕ → List Line → ℕ
out_of x day [] = 0
out_of x day (l ∷ ls) = takes x day l + out_of x day ls

-- an account starts at zero and follows the lines: what stands in it on a day
unfoldable pub balance : List Line → Account → ℕ → ℕ
balance ls x day = into x day ls - out_of x day ls

-- after every line no account is below zero; only the outside gives without having
abbrev pub NeverBelowZero : List Line → Type 0
NeverBelowZero ls = (n day : ℕ) (x : Account) → 0 < sort x → out_of x day (take n ls) ≤ into x day (take n ls)

-- what was posted on a day: what came from outside
abbrev pub brought : List Line → ℕ → ℕ
brought ls day = out_of outside day ls

-- the sum of f over the numbers below n
unfoldable pub sum_below : ℕ → (ℕ → ℕ) → ℕ
sum_below zero f = 0
sum_below (suc n) f = sum_below n f + f n

-- what AREFs below n hold on a day, and what is set aside of them and for them
abbrev pub held_below : ℕ → List Line → ℕ → ℕ
held_below n ls day = sum_below n (λ a. balance ls (held a) day)

abbrev pub aside_below : ℕ → List Line → ℕ → ℕ
aside_below n ls day = sum_below n (λ a. sum_below n (λ b. balance ls (aside a b) day))

-- on a day the accounts of AREFs below n, free and flown add up to what was posted
abbrev pub AddsUp : ℕ → List Line → ℕ → Type 0
AddsUp n ls day = balance ls free day + held_below n ls day + aside_below n ls day + balance ls flown day ≡ brought ls day

-- the lines name only AREFs below n
abbrev pub NamesBelow : ℕ → List Line → Type 0
NamesBelow n ls = AllByRecursion (λ l. (l.a < n) × (l.b < n)) ls

-- of lines after none of which an account is below zero, no MW is lost
abbrev pub NoneLost : Type 0
NoneLost = (n day : ℕ) (ls : List Line) → NeverBelowZero ls → NamesBelow n ls → AddsUp n ls day
