-- `text::line_of` meets its contract. The invariant: the first field and the numbers so far are written. Assumes nothing.
use Rattle.std.proofs.Common.{◌≡◌, ◌≤◌, ◌+◌, ◌*◌, length, take}
use Rattle.text.specs.Text.{fields}
use Rattle.text.proofs.line_of.Given as goal

abbrev pub invariant-loop-number : goal.invariant-loop-number
invariant-loop-number l =
    (length l.line.bytes ≤ length l.first + 21 * l.number-index) × (l.line.bytes ≡ fields l.first (take l.number-index l.numbers))
