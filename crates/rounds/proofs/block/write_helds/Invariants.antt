-- The invariant: the words from k on are written, and `left` is the carry of the rounds from `from` + k on.
use Rattle.std.proofs.Common.{◌≡◌, ◌+◌, ◌-◌, length, drop}
use Rattle.model.specs.Calls.{per_round}
use Rattle.load.specs.Stream.{holds_in, carry_from}
use Rattle.rounds.proofs.block.write_helds.Given as goal

abbrev pub invariant-loop-k : goal.invariant-loop-k
invariant-loop-k l =
    record {
      size : length l.part ≡ length l.initial.part;
      carried : l.left ≡ carry_from l.x.file.now (l.from + l.k) l.x.stream;
      written : drop l.k l.part ≡ per_round (λ t. holds_in l.x.file.now t l.x.stream) (l.from + l.k) (length l.initial.part - l.k);
    }
