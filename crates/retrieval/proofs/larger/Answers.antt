-- `retrieval::larger` meets its contract: what a is more than b is added to b. Assumes nothing.
use mathlib.Core.Path.{refl}
use Prim.Native.Nat.{◌+◌, ◌-◌, ◌^◌}
use native.Mathlib.Omega.{arith}
use Rattle.retrieval.proofs.LargerLaws.{more}
use Rattle.retrieval.proofs.larger.Goals as goal

pub overflow_mul-result : goal.overflow_mul-result
overflow_mul-result c = let a = c.args in omega (arith, more a.a a.b (a.a + 2 ^ 63 - a.b) c.requires.0 c.requires.1 refl)

pub overflow_add-result : goal.overflow_add-result
overflow_add-result c = let a = c.args in omega (arith, more a.a a.b (a.a + 2 ^ 63 - a.b) c.requires.0 c.requires.1 refl)

pub returns : goal.returns
returns c = let a = c.args in omega (arith, more a.a a.b (a.a + 2 ^ 63 - a.b) c.requires.0 c.requires.1 refl)
