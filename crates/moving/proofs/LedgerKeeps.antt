-- What a ledger's type keeps is a proposition, so it comes out of the ghost field whole.
use Rattle.std.proofs.Common.{ℕ}
use mathlib.Core.Logic.{∥∥₁_elim}
use Rattle.journal.specs.Accounts.{balance}
use Rattle.desk.specs.declared.memory.Desk.{Desk}
use Rattle.desk.specs.Desks.{view}
use Rattle.desk.proofs.SoundProp.{solvent_prop, posted_prop, amounts_prop, few_prop, once_prop, written_prop, each_day_prop, shown_prop}
use Rattle.posting.specs.Postable.{Showing}
use Rattle.moving.specs.Midway.{Midway}
use Rattle.moving.specs.declared.ledger.Ledger.{Ledger}

module _ (d : Desk) where
  showing_prop : IsProp (Showing d)
  showing_prop p q = λ i. record {
    written = written_prop d p.written q.written i;
    each_day = each_day_prop d p.each_day q.each_day i;
    shown = shown_prop (balance (view d).lines) d.free.now d.places.now p.shown q.shown i;
  }

  midway_prop : IsProp (Midway d)
  midway_prop p q = λ i. record {
    showing = showing_prop p.showing q.showing i;
    solvent = solvent_prop (view d).lines p.solvent q.solvent i;
    posted = posted_prop (view d) p.posted q.posted i;
    amounts = amounts_prop (view d) p.amounts q.amounts i;
    days = few_prop (view d) p.days q.days i;
    once = once_prop (view d) p.once q.once i;
  }

pub midway_in : (l : Ledger) → Midway l.desk
midway_in l = ∥∥₁_elim l.midway (midway_prop l.desk) (λ m. m)

-- the minute of the last accepted call and the highest AREF are nothing to the accounts
pub midway_told : (d : Desk) (clock top : ℕ) → Midway d →
    Midway (record { posted = d.posted; free = d.free; places = d.places; lines = d.lines; used = d.used; clock = clock; top = top })
midway_told d clock top M = record {
  showing = record { written = M.showing.written; each_day = M.showing.each_day; shown = M.showing.shown };
  solvent = M.solvent;
  posted = M.posted;
  amounts = M.amounts;
  days = M.days;
  once = M.once;
}
