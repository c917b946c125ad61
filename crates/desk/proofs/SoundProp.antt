-- What a desk keeps is a proposition, so it comes out of the book's ghost field whole.
use Rattle.std.proofs.Common.{◌≡◌, ℕ, suc, ◌+◌, ◌<◌, ◌≤◌, true, cond, List, [], ◌∷◌, length, get_or}
use mathlib.Core.Logic.{∥∥₁_elim}
use denote.Struct.Props.{props}
use std.HLevel.{Π_prop}
use Rattle.std.specs.List.{AllByRecursion}
use Rattle.terms.specs.Days.{Days}
use Rattle.terms.specs.Words.{is_challenged, is_competing}
use Rattle.journal.specs.declared.line.Line.{Line}
use Rattle.journal.specs.Accounts.{Account, free, held, aside, balance, brought, NeverBelowZero, NamesBelow}
use Rattle.law.specs.View.{View, Entry, aref_of, start_of, living, find, count, posted_on}
use Rattle.law.specs.Keeps.{Kept, InTerm, Termed, AcceptedBy}
use Rattle.desk.specs.declared.memory.Desk.{Desk}
use Rattle.desk.specs.declared.record.Record.{Record}
use Rattle.desk.specs.Desks.{view}
use Rattle.desk.specs.Records.{entry_of}
use Rattle.desk.specs.Soundness.{Shows, Shown, Sound}

all_prop : {X : Type 0} (P : X → Type 0) → ((x : X) → IsProp (P x)) → (xs : List X) → IsProp (AllByRecursion P xs)
all_prop P h [] p q = λ i. tt
all_prop P h (x ∷ xs) p q = λ i. (h x p.0 q.0 i, all_prop P h xs p.1 q.1 i)

three_prop : {A B C : Type 0} → IsProp A → IsProp B → IsProp C → IsProp (A × B × C)
three_prop a b c p q = λ i. (a p.0 q.0 i, b p.1 q.1 i, c p.2 q.2 i)

two_prop : {A B : Type 0} → IsProp A → IsProp B → IsProp (A × B)
two_prop a b p q = λ i. (a p.0 q.0 i, b p.1 q.1 i)

in_term_prop : (e : Entry) (day : ℕ) → IsProp (InTerm e day)
in_term_prop e day = hlevel props

pub solvent_prop : (ls : List Line) → IsProp (NeverBelowZero ls)
solvent_prop ls = hlevel props

names_prop : (n : ℕ) (ls : List Line) → IsProp (NamesBelow n ls)
names_prop n ls = all_prop (λ l. (l.a < n) × (l.b < n)) (λ l. two_prop (hlevel props) (hlevel props)) ls

termed_prop : (days : Days) (e : Entry) → IsProp (Termed days e)
termed_prop days e = hlevel props

module _ (v : View) where
  pub posted_prop : IsProp ((day : ℕ) → brought v.lines day ≡ posted_on v.days day)
  posted_prop = hlevel props

  pub amounts_prop : IsProp ((day : ℕ) → posted_on v.days day ≤ 20000)
  amounts_prop = hlevel props

  holders_prop : IsProp ((a day : ℕ) → 0 < balance v.lines (held a) day → InTerm (find a v.places) day)
  holders_prop = Π_prop (λ a. Π_prop (λ day. Π_prop (λ h. in_term_prop (find a v.places) day)))

  challenged_prop : IsProp ((a b day : ℕ) → 0 < balance v.lines (aside a b) day →
      InTerm (find a v.places) day × (is_challenged (find a v.places).standing.state ≡ true) × ((find a v.places).against ≡ b))
  challenged_prop = Π_prop (λ a. Π_prop (λ b. Π_prop (λ day. Π_prop (λ h. three_prop (in_term_prop (find a v.places) day) (hlevel props) (hlevel props)))))

  competing_prop : IsProp ((a b day : ℕ) → 0 < balance v.lines (aside a b) day →
      InTerm (find b v.places) day × (is_competing (find b v.places).standing.state ≡ true))
  competing_prop = Π_prop (λ a. Π_prop (λ b. Π_prop (λ day. Π_prop (λ h. two_prop (in_term_prop (find b v.places) day) (hlevel props)))))

  pub few_prop : IsProp (length v.days.amounts ≤ 400)
  few_prop = hlevel props

  alike_prop : IsProp (length v.days.preschedule ≡ length v.days.amounts)
  alike_prop = hlevel props

  pub once_prop : IsProp ((a : ℕ) → count a v.places ≤ 1)
  once_prop = hlevel props

  kept_prop : IsProp (Kept v)
  kept_prop p q = λ i. record {
    solvent = solvent_prop v.lines p.solvent q.solvent i;
    named = names_prop (suc v.top) v.lines p.named q.named i;
    posted = posted_prop p.posted q.posted i;
    amounts = amounts_prop p.amounts q.amounts i;
    days = few_prop p.days q.days i;
    prescheduled = alike_prop p.prescheduled q.prescheduled i;
    holders = holders_prop p.holders q.holders i;
    challenged = challenged_prop p.challenged q.challenged i;
    competing = competing_prop p.competing q.competing i;
    once = once_prop p.once q.once i;
    terms = all_prop (Termed v.days) (termed_prop v.days) v.places p.terms q.terms i;
    accepted = all_prop (AcceptedBy v.top) (λ e. two_prop (hlevel props) (hlevel props)) v.places p.accepted q.accepted i;
  }

module _ (B : Account → ℕ → ℕ) (r : Record) where
  days_prop : (xs : List ℕ) → IsProp (length xs ≡ 31)
  days_prop xs = hlevel props

  holds_prop : IsProp ((j : ℕ) → j < 31 → get_or r.held j 0 ≡ cond (living (entry_of r)) (B (held (aref_of (entry_of r))) (start_of (entry_of r) + j)) 0)
  holds_prop = hlevel props

  sets_aside_prop : IsProp ((j : ℕ) → j < 31 → get_or r.aside j 0 ≡ cond (living (entry_of r)) (B (aside (aref_of (entry_of r)) r.against) (start_of (entry_of r) + j)) 0)
  sets_aside_prop = hlevel props

  shows_prop : IsProp (Shows B r)
  shows_prop p q = λ i. record {
    held_days = days_prop r.held p.held_days q.held_days i;
    aside_days = days_prop r.aside p.aside_days q.aside_days i;
    holds = holds_prop p.holds q.holds i;
    sets_aside = sets_aside_prop p.sets_aside q.sets_aside i;
  }

module _ (B : Account → ℕ → ℕ) (amounts : List ℕ) (places : List Record) where
  frees_prop : IsProp ((day : ℕ) → day < length amounts → get_or amounts day 0 ≡ B free day)
  frees_prop = hlevel props

  pub shown_prop : IsProp (Shown B amounts places)
  shown_prop p q = λ i. record {
    frees = frees_prop p.frees q.frees i;
    records = all_prop (Shows B) (shows_prop B) places p.records q.records i;
  }

module _ (d : Desk) where
  pub written_prop : IsProp (d.used ≤ length d.lines.now)
  written_prop = hlevel props

  pub each_day_prop : IsProp (length d.free.now ≡ length d.posted.amounts.now)
  each_day_prop = hlevel props

  pub sound_prop : IsProp (Sound d)
  sound_prop p q = λ i. record {
    kept = kept_prop (view d) p.kept q.kept i;
    written = written_prop p.written q.written i;
    each_day = each_day_prop p.each_day q.each_day i;
    shown = shown_prop (balance (view d).lines) d.free.now d.places.now p.shown q.shown i;
  }

  pub sound_of : ∥ Sound d ∥₁ → Sound d
  sound_of t = ∥∥₁_elim t sound_prop (λ s. s)
