-- A booking has a schedule exactly if its first mark is 0. Assumes nothing.
use Rattle.std.specs.Prelude.{◌≡◌, refl, Bool, ◌&&◌, List, [], ◌∷◌, map, ℕ, ◌+◌, ◌-◌, ◌*◌, eqb, get_or, drop}
use Rattle.std.specs.List.{list_all}
use Rattle.laws.specs.Tests.{all}
use Rattle.std.proofs.Common.{ap, ap₂, ◌∙◌, arith}
use Rattle.retrieval.specs.Carry.{carry}
use Rattle.retrieval.proofs.Minimality.{exists_by-test}
use Rattle.load.specs.Stream.{sends_of}
use Rattle.load.specs.declared.stream.Stream.{Stream}
use Rattle.rounds.specs.Table.{mark_rounds, marks_of, marked_of}
use Rattle.rounds.specs.declared.marks.Marked.{Marked}
use Rattle.rounds.specs.TableLaws.{mark-at}
use Rattle.rounds.specs.Kept.{feasible}

pub mark-feasible : (f : List ℕ) (x : Stream) → eqb (get_or (marks_of f x) 0 0) 0 ≡ feasible f x
unfolding feasible
mark-feasible f x =
    let first : x.start + mark_rounds * 0 - x.start ≡ 0 = omega arith in
    let mark : get_or (marks_of f x) 0 0 ≡ carry x.reserve (sends_of f x) =
    mark-at f x 0 (omega arith) ∙ ap (λ (j : ℕ). carry x.reserve (drop j (sends_of f x))) first in
    exists_by-test x.reserve (get_or (marks_of f x) 0 0) (sends_of f x) mark

pub marked-feasible : (f : List ℕ) (xs : List Stream)
    → list_all (λ (m : Marked). eqb (get_or m.carries 0 0) 0) (map (marked_of f) xs) ≡ all (feasible f) xs
marked-feasible f [] = refl
marked-feasible f (x ∷ xs) = ap₂ (λ (a b : Bool). a && b) (mark-feasible f x) (marked-feasible f xs)
