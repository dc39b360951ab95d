-- A part of a slice that is lent from an index to the end, `&mut l[s..]`: the callee is handed
-- `mid_of s (length l - s) l`, and `put_mid` is the whole once the part is back. Assumes nothing.
use Rattle.std.specs.Prelude.{ℕ, ◌-◌, ◌≤◌, ◌≡◌, List, [], ◌++◌, length, take, drop}
use Rattle.std.proofs.Common.{ap, ◌∙◌, append-nil, arith, length-drop, drop_of_length-le, take_all}
use borrow.Rule.Slice.PartMut.{mid_of, put_mid}

pub tail-part : (s : ℕ) (l : List ℕ) → mid_of s (length l - s) l ≡ drop s l
tail-part s l = take_all (length l - s) (drop s l) (omega (arith, length-drop s l))

pub tail-length : (s : ℕ) (l : List ℕ) → length (mid_of s (length l - s) l) ≡ length l - s
tail-length s l = ap length (tail-part s l) ∙ length-drop s l

pub tail-back : (s : ℕ) (l p : List ℕ) → put_mid s (length l - s) l p ≡ take s l ++ p
tail-back s l p =
    let h : length (drop s l) ≤ length l - s = omega (arith, length-drop s l) in
    let e : drop (length l - s) (drop s l) ≡ [] = drop_of_length-le (drop s l) h in
    rw (e, append-nil)
