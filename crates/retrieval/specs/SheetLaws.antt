-- Laws of lists by round to whose first places another list is laid. Assumes nothing.
use Rattle.std.specs.Prelude.{List, [], ◌∷◌, ℕ, zero, suc}
use Rattle.retrieval.specs.Sheet.{onto}

-- ---- a loop that lays from the last place backward

-- hs is laid from place k on
abbrev pub onto_from : ℕ → (ℕ → ℕ → ℕ) → List ℕ → List ℕ → List ℕ
onto_from zero f s hs = onto f s hs
onto_from (suc k) f [] hs = []
onto_from (suc k) f (x ∷ s) [] = x ∷ s
onto_from (suc k) f (x ∷ s) (h ∷ hs) = x ∷ onto_from k f s hs
