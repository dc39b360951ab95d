-- The invariant: `left` is the carry of the rounds from t on.
use Rattle.std.proofs.Common.{◌≡◌, ◌≤◌, min}
use Rattle.load.specs.Stream.{end_of, carry_from}
use Rattle.rounds.proofs.carry.Playing.carry_back.Given as goal

abbrev pub invariant-loop-t : goal.invariant-loop-t
invariant-loop-t l =
    record { place : min l.from (end_of l.self.stream) ≤ l.t; carried : l.left ≡ carry_from l.self.file.now l.t l.self.stream }
