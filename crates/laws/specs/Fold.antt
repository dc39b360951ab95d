-- A fold over a list by index: what the rest of the list still does to the accumulator. A loop's invariant is
-- `fold f a₀ (take n l) ≡ fold f a (slice i n l)`, so a turn needs no algebra of f. Assumes nothing.
use Rattle.std.specs.Prelude.{ℕ, ◌+◌, ◌<◌, ◌≤◌, ◌≡◌, List, length, get_or, fold}
use Rattle.std.proofs.Common.{add-one}
use Rattle.std.proofs.Math.Seq.{slice, slice-cons, slice_empty}

-- one turn
pub fold_next : {A B : Type 0} (f : A → B → A) (a : A) (l : List B) (i n : ℕ) (d : B) → i < n → n ≤ length l
    → fold f a (slice i n l) ≡ fold f (f a (get_or l i d)) (slice (i + 1) n l)
fold_next f a l i n d h k = simp (slice-cons i n l d h k, add-one)

-- no more turns
pub fold_end : {A B : Type 0} (f : A → B → A) (a : A) (l : List B) (i n : ℕ) → i ≡ n → fold f a (slice i n l) ≡ a
fold_end f a l i n e = rw (e, slice_empty)
