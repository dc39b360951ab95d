use Rattle.std.proofs.Common.{◌≡◌, take, arith, take_all}
use Rattle.films.specs.Sizes.{sizes}
use Rattle.films.proofs.SizeLaws.{length-sizes}
use Rattle.planning.proofs.Sizes.{largest-take}
use Rattle.planning.proofs.reserves.largest.Goals as goal

pub loop-i-preserved : goal.loop-i-preserved
loop-i-preserved c =
    let z = c.args.film.now in
    let xs = sizes z.file.now z.at z.rounds in
    let lx = length-sizes z.file.now z.at z.rounds in
    omega (arith, largest-take xs c.loop-i.i (omega arith))

pub returns : goal.returns
returns c =
    let z = c.args.film.now in
    let xs = sizes z.file.now z.at z.rounds in
    let lx = length-sizes z.file.now z.at z.rounds in
    let all : take c.loop-i.i xs ≡ xs = take_all c.loop-i.i xs (omega arith) in
    rw all at c.loop-i.invariant.0
