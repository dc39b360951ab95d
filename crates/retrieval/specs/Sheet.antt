-- A list by round, such as the day sheet's, to whose first places a film's profile is added. Document 01, 'A day at the desk':
-- "each film's profile is added to the part of the list that begins at its start".
use Rattle.std.specs.Prelude.{◌≡◌, List, [], ◌∷◌, ℕ, ◌+◌, ◌^◌, ◌≤◌, ◌<◌, length, get_or, drop}
use Rattle.std.proofs.Math.Seq.{slice}
use Rattle.retrieval.specs.Carry.{carry, profile}
use Rattle.retrieval.specs.Stored.{sends_at}

-- f of what stands and of what comes, in the first places of s
abbrev pub onto : (ℕ → ℕ → ℕ) → List ℕ → List ℕ → List ℕ
onto f [] hs = []
onto f (x ∷ s) [] = x ∷ s
onto f (x ∷ s) (h ∷ hs) = f x h ∷ onto f s hs

-- hs is added to the first places of s
abbrev pub plus : List ℕ → List ℕ → List ℕ
plus s hs = onto (λ x h. x + h) s hs

-- every sum stays below 2 ^ 63
abbrev pub Room : List ℕ → List ℕ → Type 0
Room s hs = (t : ℕ) → get_or s t 0 + get_or hs t 0 < 2 ^ 63

-- what the just-in-time schedule holds in its rounds from a to e - 1, counted from the film's start
abbrev pub held_in : List ℕ → ℕ → ℕ → ℕ → ℕ → ℕ → ℕ → List ℕ
held_in s at n p b a e = slice a e (profile b (sends_at s at n p))

-- of a film that sends xs, the rounds from a to e - 1 are to be added to the first places of a list, where c is the carry of
-- the rounds from e on and no sum grows too large
pub record Adds (part xs : List ℕ) (b a e c : ℕ) : Type 0 where
  pub order : a ≤ e
  pub rounds : e ≤ length xs
  pub places : e ≤ a + length part
  pub carried : c ≡ carry b (drop e xs)
  pub room : Room part (slice a e (profile b xs))
