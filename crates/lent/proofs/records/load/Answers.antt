use Rattle.std.proofs.Common.{◌∙◌}
use Rattle.lent.proofs.Lists.{stored-blank}
use Rattle.lent.proofs.records.load.Goals as goal

pub returns : goal.returns
returns c = c.store.ensures ∙ stored-blank c.args.list.now c.default-rows.result c.default-rows.ensures
