-- `search::query::Query::after_clash` meets its contract: the standing streams end within the day, and one that clashes ends
-- after the new stream has begun to show. Assumes nothing.
use Rattle.std.proofs.Common.{rules, arith, ◌≡◌, ap, ◌∙◌, sym, get_or, Bor}
use Rattle.std.specs.Prelude.{Some, option_map}
use Rattle.std.specs.List.{find}
use Rattle.std.proofs.lemmas.List.{get_or_default}
use Rattle.std.proofs.lemmas.Iterator.{YieldsList-from_slice}
use Rattle.std.proofs.lemmas.Iterator.Adapters.{serves_from_places}
use Rattle.std.proofs.lemmas.Iterator.Search.{find_from_yields_List}
use Rattle.load.specs.Stream.{no_stream, clashes}
use Rattle.load.specs.declared.stream.Stream.{Stream}
use Rattle.search.specs.Fit.{start_at}
use Rattle.search.proofs.FitLaws.{clash-later, clashes-found}
use Rattle.search.proofs.query.Query.after_clash.Goals as goal

pub find-requires-clause-callable : goal.find-requires-clause-callable
find-requires-clause-callable c =
    let q = c.args.self.now in
    serves_from_places (YieldsList-from_slice q.standing.now cc) (λ x q r. search rules)
    (λ x k h e.
    let same : x.now ≡ get_or q.standing.now k no_stream = e ∙ get_or_default q.standing.now k x.now no_stream h in
    let ends = q.walks.window.standing k h in
    search rules)

pub overflow_sub-result : goal.overflow_sub-result
overflow_sub-result c =
    let q = c.args.self.now in
    let found = find_from_yields_List (λ x. clashes x (start_at c.args.s q.stream)) _ _ c.find.result c.find.ensures.ran (YieldsList-from_slice q.standing.now cc) (λ x b q k. search rules) in
    let x = c.in_ok-x.x.now in
    let is : find (λ x. clashes x (start_at c.args.s q.stream)) q.standing.now ≡ Some x = sym found ∙ ap (option_map (λ (r : Bor Stream). r.now)) c.in_ok-x.was in
    omega (arith, clash-later x q.stream c.args.s (clashes-found q.standing.now x q.stream c.args.s is))
