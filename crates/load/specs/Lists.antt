-- Tests that say the same. Assumes nothing.
use Rattle.std.specs.Prelude.{◌≡◌, refl, Bool, true, false, ℕ, ◌<◌, ltb, List, [], ◌∷◌, map, zero, suc, ◌+◌, ◌-◌, ◌≤◌, length, get_or, leb}
use Rattle.std.proofs.Common.{sym, ◌∙◌, arith, lt-ltb, ltb-true, ltb-false, add-one, le-leb, leb-true, leb-false}
use Rattle.std.proofs.Math.Seq.{slice, slice-cons, slice_empty}
use Rattle.laws.specs.Tests.{all}

pub ltb-same : (a b c d : ℕ) → (a < b → c < d) → (c < d → a < b) → ltb a b ≡ ltb c d
ltb-same a b c d f g = go (ltb c d) refl
  where
    go : (v : Bool) → ltb c d ≡ v → ltb a b ≡ ltb c d
    go true e = lt-ltb a b (g (ltb-true c d e)) ∙ sym e
    go false e = go' (ltb a b) refl
      where
        go' : (v : Bool) → ltb a b ≡ v → ltb a b ≡ ltb c d
        go' true u = absurd (omega (arith, f (ltb-true a b u), ltb-false c d e))
        go' false u = u ∙ sym e

module _ {A : Type 0} (f : A → Bool) (l : List A) (i n : ℕ) (d : A) (h : i < n) (k : n ≤ length l) where
  -- one that fails
  pub all-no : f (get_or l i d) ≡ false → all f (slice i n l) ≡ false
  all-no e = simp (slice-cons i n l d h k, e)

  -- one that passes: the rest decides
  pub all-next : f (get_or l i d) ≡ true → all f (slice i n l) ≡ all f (slice (i + 1) n l)
  all-next e = simp (slice-cons i n l d h k, e, add-one)

-- none is left
pub all_end : {A : Type 0} (f : A → Bool) (l : List A) (i n : ℕ) → i ≡ n → all f (slice i n l) ≡ true
all_end f l i n e = rw (e, slice_empty)

pub map_at : {A B : Type 0} (f : A → B) (l : List A) (i : ℕ) (d : A) (e : B) → i < length l → get_or (map f l) i e ≡ f (get_or l i d)
map_at f [] i d e h = absurd (omega arith)
map_at f (a ∷ l) zero d e h = refl
map_at f (a ∷ l) (suc i) d e h = map_at f l i d e (omega arith)

pub leb-same : (a b c d : ℕ) → (a ≤ b → c ≤ d) → (c ≤ d → a ≤ b) → leb a b ≡ leb c d
leb-same a b c d f g = go (leb c d) refl
  where
    go : (v : Bool) → leb c d ≡ v → leb a b ≡ leb c d
    go true e = le-leb a b (g (leb-true c d e)) ∙ sym e
    go false e = go' (leb a b) refl
      where
        go' : (v : Bool) → leb a b ≡ v → leb a b ≡ leb c d
        go' true u = absurd (omega (arith, f (leb-true a b u), leb-false c d e))
        go' false u = u ∙ sym e
