-- A record taken out of a list. Assumes nothing.
use Rattle.std.specs.Prelude.{◌≡◌, refl, Bool, true, false, cond, ◌||◌, Option, Some, None, List, [], ◌∷◌, ◌++◌, ℕ, suc, ◌+◌, ◌-◌, ◌≤◌, ◌<◌, eqb, ltb, length, get_or, set, take, drop}
use Rattle.std.specs.List.{position_or_len, copy_within}
use Rattle.std.proofs.Common.{sym, ap, ap₂, ◌∙◌, add-one, arith, length-append, length-drop, length-take-le, drop-cons, take_at, take-take, ltb-true, lt-ltb}
use Rattle.std.proofs.lemmas.List.{set_at, drop-take}
use Rattle.load.specs.Lists.{ltb-same}
use Rattle.std.proofs.lemmas.List.Recursion.{is_position_or_len}
use Rattle.model.specs.Questions.{has_name}
use Rattle.model.specs.Calls.{no_booking, without}
use Rattle.model.specs.declared.Booking.{Booking}

module _ (name : ℕ) where
  -- the place of the first record that bears the name, or the length of the list
  abbrev place : List Booking → ℕ
  place [] = 0
  place (b ∷ bs) = cond (eqb b.name name) 0 (suc (place bs))

  place-is : (rows : List Booking) → place rows ≡ position_or_len (λ b. eqb b.name name) rows
  place-is = is_position_or_len place (λ b. eqb b.name name) refl (λ b bs. ap (cond (eqb b.name name) 0) (omega arith))

  found : (rows : List Booking) → has_name name rows ≡ ltb (place rows) (length rows)
  found [] = refl
  found (b ∷ bs) = go (eqb b.name name) (found bs)
    where
      go : (t : Bool) → has_name name bs ≡ ltb (place bs) (length bs)
          → t || has_name name bs ≡ ltb (cond t 0 (suc (place bs))) (suc (length bs))
      go true i = sym (lt-ltb 0 (suc (length bs)) (omega arith))
      go false i = i ∙ ltb-same (place bs) (length bs) (suc (place bs)) (suc (length bs)) (λ h. omega arith) (λ h. omega arith)

  rest : (rows : List Booking) → without name rows ≡ take (place rows) rows ++ drop (suc (place rows)) rows
  rest [] = refl
  rest (b ∷ bs) = go (eqb b.name name) (rest bs)
    where
      go : (t : Bool) → without name bs ≡ take (place bs) bs ++ drop (suc (place bs)) bs
          → cond t bs (b ∷ without name bs) ≡ take (cond t 0 (suc (place bs))) (b ∷ bs) ++ drop (suc (cond t 0 (suc (place bs)))) (b ∷ bs)
      go true i = refl
      go false i = ap (λ (r : List Booking). b ∷ r) i

  -- what `position` gives
  abbrev Answers : List Booking → Option ℕ → Type 0
  Answers rows r =
      r ≡ cond (ltb (position_or_len (λ b. eqb b.name name) rows) (length rows)) (Some (position_or_len (λ b. eqb b.name name) rows)) None

  -- of the first n rows
  module _ (rows : List Booking) (n : ℕ) (r : Option ℕ) (given : Answers (take n rows) r) where
    abbrev standing : List Booking
    standing = take n rows

    answer : r ≡ cond (has_name name standing) (Some (place standing)) None
    answer = given ∙ rw (sym (place-is standing), sym (found standing))

    pub missing : r ≡ None → false ≡ has_name name standing
    missing e = go (has_name name standing) (sym answer ∙ e)
      where
        go : (t : Bool) → cond t (Some (place standing)) None ≡ None → false ≡ t
        go true e = absurd cc
        go false e = refl

    module _ (room : n ≤ length rows) (i : ℕ) (e : r ≡ Some i) where
      at : (true ≡ has_name name standing) × (place standing ≡ i)
      at = go (has_name name standing) (sym answer ∙ e)
        where
          go : (t : Bool) → cond t (Some (place standing)) None ≡ Some i → (true ≡ t) × (place standing ≡ i)
          go true e = (refl, cc)
          go false e = absurd cc

      pub there : true ≡ has_name name standing
      there = at.0

      pub inside : i < n
      inside =
          let l : i < length standing = rw (sym at.1) (ltb-true _ _ (sym (found standing) ∙ sym there)) in
          omega (arith, length-take-le n rows room)

      -- without the record: those before it and those after it
      parts : without name standing ≡ take i rows ++ take (n - (i + 1)) (drop (i + 1) rows)
      parts =
          let m : i + 1 + (n - (i + 1)) ≡ n = omega (arith, inside) in
          let before : take i standing ≡ take i rows = take-take i n rows (omega (arith, inside)) in
          let after : drop (suc i) standing ≡ take (n - (i + 1)) (drop (i + 1) rows) =
          ap₂ (λ (k l : ℕ). drop k (take l rows)) (sym (add-one i)) (sym m) ∙ drop-take (i + 1) (n - (i + 1)) rows in
          rw (sym at.1) (rest standing) ∙ ap₂ (λ (a b : List Booking). a ++ b) before after

      length-parts : length (take i rows ++ take (n - (i + 1)) (drop (i + 1) rows)) ≡ n - 1
      length-parts =
          omega (
            arith,
            inside,
            length-append (take i rows) (take (n - (i + 1)) (drop (i + 1) rows)),
            length-take-le i rows (omega (arith, inside)),
            length-take-le (n - (i + 1)) (drop (i + 1) rows) (omega (arith, inside, length-drop (i + 1) rows)),
            length-drop (i + 1) rows,
          )

      -- those after it close the gap, and the place freed is zeroed
      pub removed : set (copy_within rows (i + 1) n i) (n - 1) no_booking ≡ without name standing ++ (no_booking ∷ drop n rows)
      removed =
          let inside : i < n = inside in
          let d : Booking = get_or rows (n - 1) no_booking in
          let end : i + (n - (i + 1)) ≡ n - 1 = omega arith in
          let next : suc (n - 1) ≡ n = omega arith in
          let last : drop (n - 1) rows ≡ d ∷ drop n rows =
          drop-cons rows (n - 1) no_booking (omega arith) ∙ ap (λ (k : ℕ). d ∷ drop k rows) next in
          let zeroed = set_at (take i rows ++ take (n - (i + 1)) (drop (i + 1) rows)) d (drop n rows) no_booking (n - 1) length-parts in
          let rest = parts in
          cc

      -- and one fewer stands
      pub standing-left : take (n - 1) (set (copy_within rows (i + 1) n i) (n - 1) no_booking) ≡ without name standing
      standing-left =
          ap (take (n - 1)) removed
          ∙ take_at (without name standing) (no_booking ∷ drop n rows) (n - 1) (ap length parts ∙ length-parts)
