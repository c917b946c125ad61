use Rattle.std.proofs.Common.{◌≡◌, ℕ, ◌<◌, length, Some, sym, ap, ◌∙◌, arith, rules}
use Rattle.std.proofs.lemmas.List.{length-map, get_or-map}
use Rattle.std.proofs.lemmas.Result.{err_from_is_err_and}
use Rattle.terms.specs.declared.refusal.Refusal.TheVariants.{NoRecord}
use Rattle.law.specs.View.{Entry, is, nobody}
use Rattle.desk.specs.declared.memory.Desk.{Desk}
use Rattle.desk.specs.Desks.{view}
use Rattle.desk.specs.Records.{entry_of}
use Rattle.looking.specs.FirstPlace.{first_place}
use Rattle.admitting.specs.Admission.{is_in}
use Rattle.admitting.proofs.AtPlace.{found_there, found_nowhere}
use Rattle.admitting.proofs.Ladder.{nobody_there, wrong_state, at_place}
use Rattle.admitting.proofs.by_aref.Goals as goal

within : (d : Desk) (a i : ℕ) → Some i ≡ first_place (is a) (view d).places → i < length d.places.now
within d a i q = omega (arith, (found_there a i (view d).places q).within, length-map d.places.now entry_of)

pub returns-in_err-i : goal.returns-in_err-i
returns-in_err-i c =
    let v = view c.args.desk.now in
    let p = err_from_is_err_and c.from_residual-in_err-i.result c.from_residual-in_err-i.ensures.1 in
    let none : c.in_err-i.field-0.0 ≡ NoRecord = let v = c.in_err-i.ensures.value in let o = c.in_err-i.ensures.ok_part in grind arith in
    rw (p.1, p.2, none)
    (nobody_there v _ _ c.args.wanted c.in_ok-begin.ensures.1 (found_nowhere _ v.places (sym c.in_err-i.ensures.ok_part ∙ c.place_of.ensures)))

pub offset_bounds-desk-i : goal.offset_bounds-desk-i
offset_bounds-desk-i c = let h = within c.args.desk.now c.args.aref c.in_ok-i.i (sym c.in_ok-i.ensures.ok_part ∙ c.place_of.ensures) in search rules

pub bounds-desk-i : goal.bounds-desk-i
bounds-desk-i c = within c.args.desk.now c.args.aref c.in_ok-i.i (sym c.in_ok-i.ensures.ok_part ∙ c.place_of.ensures)

pub returns-then-not-is_in : goal.returns-then-not-is_in
returns-then-not-is_in c =
    let d = c.args.desk.now in let i = c.in_ok-i.i in let q = sym c.in_ok-i.ensures.ok_part ∙ c.place_of.ensures in
    wrong_state (view d) _ _ c.args.wanted c.in_ok-begin.ensures.1 i (found_there _ i (view d).places q)
    (ap (λ (e : Entry). is_in c.args.wanted e.standing.state) (get_or-map entry_of d.places.now i _ nobody (within d _ i q)) ∙ sym c.if-not-is_in.ensures)

pub returns : goal.returns
returns c =
    let d = c.args.desk.now in let i = c.in_ok-i.i in let q = sym c.in_ok-i.ensures.ok_part ∙ c.place_of.ensures in
    at_place (view d) _ _ c.args.wanted c.in_ok-begin.ensures.1 i (found_there _ i (view d).places q)
    (ap (λ (e : Entry). is_in c.args.wanted e.standing.state) (get_or-map entry_of d.places.now i _ nobody (within d _ i q)) ∙ sym c.if-not-is_in.ensures)
    c.in_ok-begin.ensures.0
