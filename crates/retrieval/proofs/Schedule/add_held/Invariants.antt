use Rattle.retrieval.specs.Stored.{sends_in}
use Rattle.retrieval.proofs.SheetLaws.{Added}
use Rattle.retrieval.proofs.Schedule.add_held.Given as goal

abbrev pub invariant-loop-k : goal.invariant-loop-k
invariant-loop-k l = Added l.initial.part (sends_in l.self.sizes l.self.prefetch) l.self.reserve l.a l.e l.part l.left l.k
