-- `dropping::removal::remove` meets its contract, by the place that `position` gives. Assumes nothing.
use Rattle.std.proofs.Common.{rules, ◌≡◌, eqb, take, arith}
use Rattle.std.proofs.lemmas.Iterator.{YieldsList-from_slice}
use Rattle.std.proofs.lemmas.Iterator.Search.{position_from_yields_List}
use Rattle.model.specs.Calls.{no_booking}
use Rattle.model.specs.declared.Booking.{Booking}
use Rattle.dropping.proofs.RemovalLaws.{missing, there, removed, standing-left}
use Rattle.dropping.proofs.removal.remove.Goals as goal

pub returns-in_default-clause-found : goal.returns-in_default-clause-found
returns-in_default-clause-found c =
    let desk = c.args.desk.now in
    let given = position_from_yields_List (λ (b : Booking). eqb b.name c.args.name) _ _ _ c.position.ensures.ran (YieldsList-from_slice (take desk.day.count desk.rows) cc) (λ x b q k. search rules) in
    missing c.args.name desk.rows desk.day.count c.position.result given c.in_default.is

pub returns-clause-found : goal.returns-clause-found
returns-clause-found c =
    let desk = c.args.desk.now in
    let given = position_from_yields_List (λ (b : Booking). eqb b.name c.args.name) _ _ _ c.position.ensures.ran (YieldsList-from_slice (take desk.day.count desk.rows) cc) (λ x b q k. search rules) in
    there c.args.name desk.rows desk.day.count c.position.result given (omega arith) c.in-Some.i c.in-Some.is

pub returns-clause-leaves : goal.returns-clause-leaves
returns-clause-leaves c =
    let desk = c.args.desk.now in
    let given = position_from_yields_List (λ (b : Booking). eqb b.name c.args.name) _ _ _ c.position.ensures.ran (YieldsList-from_slice (take desk.day.count desk.rows) cc) (λ x b q k. search rules) in
    let r = removed c.args.name desk.rows desk.day.count c.position.result given (omega arith) c.in-Some.i c.in-Some.is in
    let zero : c.default.result ≡ no_booking = search rules in
    rw (c.copy_within.ensures.after, zero, r)

pub returns-clause-standing : goal.returns-clause-standing
returns-clause-standing c = λ yes.
    let desk = c.args.desk.now in
    let given = position_from_yields_List (λ (b : Booking). eqb b.name c.args.name) _ _ _ c.position.ensures.ran (YieldsList-from_slice (take desk.day.count desk.rows) cc) (λ x b q k. search rules) in
    let r = standing-left c.args.name desk.rows desk.day.count c.position.result given (omega arith) c.in-Some.i c.in-Some.is in
    let zero : c.default.result ≡ no_booking = search rules in
    rw (c.copy_within.ensures.after, zero, r)
