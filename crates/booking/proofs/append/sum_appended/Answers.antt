-- `booking::append::sum_appended` meets its contract: each of the streams, x too, is playable. Assumes nothing.
use Rattle.std.proofs.Common.{◌∙◌}
use Rattle.booking.specs.Append.{appends-summable}
use Rattle.booking.proofs.append.sum_appended.Goals as goal

pub sum_sheet-requires : goal.sum_sheet-requires
sum_sheet-requires c = rw (c.deref.ensures.0 ∙ c.push.ensures.items, c.end.ensures) (appends-summable _ _ _ _ _ _ c.requires)
