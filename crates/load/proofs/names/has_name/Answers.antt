use Rattle.std.proofs.Common.{◌∙◌, rules, tests, eqb}
use Rattle.std.proofs.lemmas.Iterator.{YieldsList-from_slice}
use Rattle.std.proofs.lemmas.Iterator.Search.{any_from_yields_List}
use Rattle.model.specs.declared.Booking.{Booking}
use Rattle.load.proofs.NameLaws.{has_name-any}
use Rattle.load.proofs.names.has_name.Goals as goal

pub returns : goal.returns
returns c =
    let a = c.args in
    any_from_yields_List (λ (b : Booking). eqb b.name a.name) _ _ _ c.any.ensures.ran (YieldsList-from_slice a.rows.now cc) (λ x b q k. search (rules, tests))
    ∙ has_name-any a.name a.rows.now
