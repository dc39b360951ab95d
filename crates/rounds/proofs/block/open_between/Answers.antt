use Rattle.std.proofs.Common.{◌≡◌, not, sym, lt-ltb, leb, ltb, ℕ, Bool, true, false, refl, leb-true, leb-false, le-ltb}
use Rattle.load.specs.Basic.{ends_by}
use Rattle.load.specs.Stream.{end_of}
use Rattle.rounds.specs.Rows.{open_between}
use Rattle.rounds.proofs.block.open_between.Goals as goal

not-leb : (a b : ℕ) → not (leb a b) ≡ ltb b a
not-leb a b = go (leb a b) refl
  where
    go : (v : Bool) → leb a b ≡ v → not v ≡ ltb b a
    go true e = sym (le-ltb b a (leb-true a b e))
    go false e = sym (lt-ltb b a (leb-false a b e))

pub returns-then-x-to : goal.returns-then-x-to
unfolding open_between ends_by
returns-then-x-to c =
    let a = c.args in
    rw (c.ends_by.ensures, lt-ltb _ _ c.if-x-to.true) (not-leb (end_of a.x) a.from)
