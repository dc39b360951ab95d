-- `lines::Splitter::feed_line` meets its contract. The invariant: the bytes left do to the splitter what all do to it at the start.
-- Assumes nothing.
use Rattle.std.proofs.Common.{◌≡◌, drop}
use Rattle.lines.specs.Feeding.{fed_line, after_line}
use Rattle.lines.proofs.Splitter.feed_line.Given as goal

abbrev pub invariant-loop-i : goal.invariant-loop-i
invariant-loop-i l =
    (fed_line l.initial.self l.bytes ≡ fed_line l.self (drop l.i l.bytes))
    × (after_line l.initial.self l.bytes ≡ after_line l.self (drop l.i l.bytes))
