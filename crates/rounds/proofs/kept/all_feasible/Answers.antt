use Rattle.std.proofs.Common.{◌∙◌, ap, rules, tests, eqb, get_or}
use Rattle.std.specs.List.{list_all}
use Rattle.std.proofs.lemmas.Iterator.{YieldsList-from_slice}
use Rattle.std.proofs.lemmas.Iterator.Search.{all_from_yields_List}
use Rattle.rounds.specs.Table.{streams_in}
use Rattle.rounds.specs.FeasibleLaws.{marked-feasible}
use Rattle.rounds.specs.declared.marks.Marked.{Marked}
use Rattle.rounds.proofs.kept.all_feasible.Goals as goal

pub returns : goal.returns
returns c =
    let ms = c.args.bookings.now in
    λ f b.
    all_from_yields_List (λ (m : Marked). eqb (get_or m.carries 0 0) 0) _ _ c.all.result c.all.ensures.ran (YieldsList-from_slice ms cc) (λ x b q k. search (rules, tests))
    ∙ ap (list_all (λ (m : Marked). eqb (get_or m.carries 0 0) 0)) b.marked
    ∙ marked-feasible f (streams_in ms)
