-- `playing::lines::lines_of` meets its contract. The invariant: the lines are those of the bookings before this one. Assumes
-- nothing.
use Rattle.std.proofs.Common.{◌≡◌, ◌≤◌, length, take}
use Rattle.model.specs.Report.{lines_of}
use Rattle.questions.specs.Given.{setting_at}
use Rattle.playing.proofs.lines.lines_of.Given as goal

abbrev pub invariant-loop-b : goal.invariant-loop-b
invariant-loop-b l = (l.lines.items ≡ lines_of (setting_at l.film_file.bytes.now l.desk.day) l.desk.day.now (take l.b-index l.rows)) × (length l.lines.items ≤ l.b-index)
