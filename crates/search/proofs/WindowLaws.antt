-- The starts of a window, tried in order. Assumes nothing.
use Rattle.std.specs.Prelude.{◌≡◌, refl, Bool, true, false, cond, ℕ, zero, suc, ◌+◌, ◌-◌, ◌≤◌, ◌<◌}
use Rattle.std.proofs.Common.{sym, ap, ◌∙◌, true≢false, arith, ap₂}
use Rattle.std.proofs.Math.Decide.{dec_le}
use Rattle.model.specs.Fit.{nowhere, at, search, first_of, Found}

module _ (f : ℕ → Bool) where
  -- no number from a to e - 1 passes
  abbrev pub NonePass : ℕ → ℕ → Type 0
  NonePass a e = (u : ℕ) → a ≤ u → u < e → f u ≡ true → ⊥

  found : (n a s : ℕ) → a ≤ s → s < a + n → NonePass a s → f s ≡ true → search f a n ≡ at s
  found zero a s h k g e = absurd (omega arith)
  found (suc n) a s h k g e =
      go (f a) refl (dec_le s a) (λ l. found n (suc a) s l (omega arith) (λ u v w. g u (omega arith) w) e)
    where
      go : (b : Bool) → f a ≡ b → Dec (s ≤ a) → (a < s → search f (suc a) n ≡ at s) → cond b (at a) (search f (suc a) n) ≡ at s
      go true d (yes l) i = let same : a ≡ s = omega arith in ap at same
      go true d (no l) i = absurd (g a (omega arith) (omega arith) d)
      go false d (yes l) i = let same : a ≡ s = omega arith in absurd (true≢false (sym e ∙ ap f (sym same) ∙ d))
      go false d (no l) i = i (omega arith)

  missing : (n a : ℕ) → NonePass a (a + n) → search f a n ≡ nowhere
  missing zero a g = refl
  missing (suc n) a g = go (f a) refl (missing n (suc a) (λ u v w. g u (omega arith) (omega arith)))
    where
      go : (b : Bool) → f a ≡ b → search f (suc a) n ≡ nowhere → cond b (at a) (search f (suc a) n) ≡ nowhere
      go true d i = absurd (g a (omega arith) (omega arith) d)
      go false d i = i

  -- the first that passes
  pub first_found : (first last s : ℕ) → first ≤ s → s ≤ last → NonePass first s → f s ≡ true → first_of f first last ≡ at s
  first_found first last s h k g e = found (suc last - first) first s h (omega arith) g e

  -- none does
  pub none_found : (first last s : ℕ) → last < s → NonePass first s → first_of f first last ≡ nowhere
  none_found first last s h g = missing (suc last - first) first (λ u v w. g u v (omega arith))

-- two tests that agree on the window have the same first start
search-same : (f g : ℕ → Bool) (n a : ℕ) → ((u : ℕ) → a ≤ u → u < a + n → f u ≡ g u) → search f a n ≡ search g a n
search-same f g zero a e = refl
search-same f g (suc n) a e =
    ap₂ (λ (b : Bool) (o : Found). cond b (at a) o) (e a (omega arith) (omega arith))
    (search-same f g n (suc a) (λ u h k. e u (omega arith) (omega arith)))

pub first-same : (f g : ℕ → Bool) (first last : ℕ) → ((u : ℕ) → first ≤ u → u ≤ last → f u ≡ g u) → first_of f first last ≡ first_of g first last
first-same f g first last e = search-same f g (suc last - first) first (λ u h k. e u h (omega arith))
