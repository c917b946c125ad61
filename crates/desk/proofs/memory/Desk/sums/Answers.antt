use Rattle.std.proofs.Common.{◌≡◌, ◌+◌, ◌-◌, ◌<◌, length, sum_by, get_or, ◌∙◌, arith, rules}
use Rattle.std.proofs.lemmas.Bool.{lt-ltb}
use Rattle.journal.specs.Accounts.{free, flown, balance}
use Rattle.desk.specs.Desks.{view}
use Rattle.desk.specs.Records.{held_on, aside_on}
use Rattle.desk.proofs.DeskSums.{held_is, aside_is, all_is, held_within, aside_within}
use Rattle.desk.proofs.SoundProp.{sound_of}
use Rattle.desk.proofs.memory.Desk.sums.Goals as goal

pub bounds-self-day : goal.bounds-self-day
bounds-self-day c =
    let posted : c.args.day < length c.args.self.now.posted.amounts.now = search rules in
    omega (arith, (sound_of c.args.self.now c.requires).each_day)

pub held_and_aside-held-requires : goal.held_and_aside-held-requires
held_and_aside-held-requires c =
    let d = c.args.self.now in let S = sound_of d c.requires in
    record { held = held_within d S c.args.day; aside = aside_within d S c.args.day }

module _ (c : goal.After-held_and_aside-held) where
  posted : c.args.day < length c.args.self.now.posted.amounts.now
  posted = search rules

  held_read : c.held_and_aside-held.result.0 ≡ sum_by (held_on c.args.day) c.args.self.now.places.now
  held_read = c.held_and_aside-held.ensures.held

  aside_read : c.held_and_aside-held.result.1 ≡ sum_by (aside_on c.args.day) c.args.self.now.places.now
  aside_read = c.held_and_aside-held.ensures.aside

  amount_read : c.in_ok-amount.field-0.now ≡ get_or c.args.self.now.posted.amounts.now c.args.day 0
  amount_read = search rules

  free_read : get_or c.args.self.now.free.now c.args.day 0 ≡ balance (view c.args.self.now).lines free c.args.day
  free_read = let S = sound_of c.args.self.now c.requires in S.shown.frees c.args.day (omega (arith, S.each_day, posted))

  -- what was read, and flown by the journal, are what was posted
  in_all : get_or c.args.self.now.free.now c.args.day 0 + c.held_and_aside-held.result.0 + c.held_and_aside-held.result.1 + balance (view c.args.self.now).lines flown c.args.day ≡ c.in_ok-amount.field-0.now
  in_all = omega (arith, free_read, held_read, aside_read, amount_read, all_is c.args.self.now (sound_of c.args.self.now c.requires) c.args.day)

pub overflow_sub-result : goal.overflow_sub-result
overflow_sub-result c = omega (arith, in_all c)

pub overflow_sub-result-2 : goal.overflow_sub-result-2
overflow_sub-result-2 c = omega (arith, in_all c)

pub overflow_sub-result-3 : goal.overflow_sub-result-3
overflow_sub-result-3 c = omega (arith, in_all c)

pub returns-clause-value : goal.returns-clause-value
returns-clause-value c =
    let d = c.args.self.now in let S = sound_of d c.requires in let day = c.args.day in
    let f = free_read c in
    let h = held_read c ∙ held_is d S day in
    let a = aside_read c ∙ aside_is d S day in
    let w : c.in_ok-amount.field-0.now - get_or d.free.now day 0 - c.held_and_aside-held.result.0 - c.held_and_aside-held.result.1 ≡ balance (view d).lines flown day = omega (arith, in_all c) in
    rw (lt-ltb day (length d.posted.amounts.now) (posted c)) cc

pub returns-clause-whole : goal.returns-clause-whole
returns-clause-whole c = omega (arith, in_all c, amount_read c)
