-- `booking::place` meets its contract: the sheet laid is that of the standing bookings, so the start found is the model's, and one
-- booking more makes the model's sheet. Assumes nothing.
use Rattle.std.proofs.Common.{arith, sym, ◌∙◌}
use Rattle.booking.specs.Placed.{summable, in-range, window, leaves_none, in_window, appends, record-fits, leaves_at}
use Rattle.booking.proofs.place.Goals as goal

pub sum_sheet-requires : goal.sum_sheet-requires
sum_sheet-requires c = rw c.deref.ensures.0 (summable _ _ _ _ c.requires)

pub start_in_window-requires : goal.start_in_window-requires
start_in_window-requires c =
    let laid = rw c.deref.ensures.0 at c.sum_sheet.ensures.summed in
    record { in_range = in-range _ _ _ _ c.requires; window = rw c.deref-2.ensures.0 (window _ _ _ _ c.requires c.sum_sheet.new.sheet laid) }

pub returns-in_default-clause-leaves : goal.returns-in_default-clause-leaves
returns-in_default-clause-leaves c =
    let laid = rw c.deref.ensures.0 at c.sum_sheet.ensures.summed in
    let found = rw c.deref-2.ensures.0 at c.start_in_window.ensures in
    leaves_none _ _ _ _ c.requires c.sum_sheet.new.sheet laid (sym c.in_default.is ∙ found)

pub sum_appended-requires : goal.sum_appended-requires
sum_appended-requires c =
    let laid = rw c.deref.ensures.0 at c.sum_sheet.ensures.summed in
    let found = rw c.deref-2.ensures.0 at c.start_in_window.ensures in
    let window = in_window _ _ _ _ c.requires c.sum_sheet.new.sheet laid _ (sym c.in-Some.is ∙ found) in
    appends _ _ _ _ c.requires c.sum_sheet.new.sheet laid _ (omega (arith, window.1))

pub record_of-requires : goal.record_of-requires
record_of-requires c =
    let laid = rw c.deref.ensures.0 at c.sum_sheet.ensures.summed in
    let found = rw c.deref-2.ensures.0 at c.start_in_window.ensures in
    let fits = record-fits _ _ _ _ c.requires c.sum_sheet.new.sheet laid _ (sym c.in-Some.is ∙ found) (λ k. omega (arith, c.type_inv.file k)) in
    (fits.0, fits.1, fits.2, omega (arith, fits.3))

pub returns-clause-leaves : goal.returns-clause-leaves
returns-clause-leaves c =
    let laid = rw c.deref.ensures.0 at c.sum_sheet.ensures.summed in
    let found = rw c.deref-2.ensures.0 at c.start_in_window.ensures in
    rw c.record_of.ensures (leaves_at _ _ _ _ c.requires c.sum_sheet.new.sheet laid _ (sym c.in-Some.is ∙ found) c.sum_appended.new.sheet c.sum_appended.ensures.summed)
