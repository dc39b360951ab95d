-- `playing::with_lines` meets its contract: the lines over blank ones. Assumes nothing.
use Rattle.std.proofs.Common.{◌∙◌, ap, List, ◌++◌, length, drop, replicate}
use Rattle.limits.specs.Bounds.{max_bookings}
use Rattle.model.specs.declared.Line.{Line}
use Rattle.playing.specs.LineLaws.{padded-stored}
use Rattle.playing.proofs.with_lines.Goals as goal

pub returns-clause-lines : goal.returns-clause-lines
returns-clause-lines c =
    let lines = c.args.lines.now in
    let z = c.default-places.result in
    ap (λ (front : List Line). front ++ drop (length lines) (replicate max_bookings z)) c.copy_from_slice.ensures.after
    ∙ padded-stored lines z c.default-places.ensures
