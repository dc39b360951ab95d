-- `rounds::block::block_rounds` meets its contract: 256 rows of 62 words fit. Assumes nothing.
use mathlib.Core.Path.{◌≡◌}
use Prim.Native.Nat.{◌+◌, ◌-◌, ◌/◌, ◌<◌}
use native.Mathlib.Nat.{div-mul-le_self, le-div_iff_mul-le}
use native.Mathlib.Omega.{arith}
use Rattle.rounds.proofs.block.block_rounds.Goals as goal

pub overflow_sub-result : goal.overflow_sub-result
overflow_sub-result c =
    let n = c.args.n in
    let some : 0 < n = omega arith in
    omega (arith, (le-div_iff_mul-le {k = n} {x = 11} {y = 3000} some).1 (omega arith))

pub returns : goal.returns
returns c =
    let n = c.args.n in
    let some : 0 < n = omega arith in
    let wide = (le-div_iff_mul-le {k = n} {x = 11} {y = 3000} some).1 (omega arith) in
    let few : 5 + (3000 / n - 5) ≡ 3000 / n = omega arith in
    (omega arith, rw few (div-mul-le_self 3000 n))
