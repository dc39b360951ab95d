-- A line's words are its bytes between single spaces: joined by single spaces they are the line, and no word holds a space.
-- Assumes nothing.
use Rattle.std.specs.Prelude.{ℕ, ◌≡◌, refl, Bool, true, false, cond, not, List, [], ◌∷◌, ◌++◌, eqb, Option, Some, None}
use Rattle.std.specs.Borrow.{Bor}
use Rattle.std.proofs.Common.{sym, ap, ◌∙◌, eqb-true}
use Rattle.laws.specs.Tests.{all, left, right, join}
use Rattle.commands.specs.Bytes.{space}
use Rattle.commands.specs.Grammar.{first_word, later_words}

-- a word, and the others, each after a space
abbrev pub spaced : List ℕ → List (List ℕ) → List ℕ
spaced w [] = w
spaced w (v ∷ ws) = w ++ space ∷ spaced v ws

longer-first : (b : ℕ) (w : List ℕ) (ws : List (List ℕ)) → spaced (b ∷ w) ws ≡ b ∷ spaced w ws
longer-first b w [] = refl
longer-first b w (v ∷ ws) = refl

pub words-line : (line : List ℕ) → spaced (first_word line) (later_words line) ≡ line
words-line [] = refl
words-line (b ∷ l) = go (eqb b space) refl (words-line l)
  where
    go : (t : Bool) → eqb b space ≡ t → spaced (first_word l) (later_words l) ≡ l
        → spaced (cond t [] (b ∷ first_word l)) (cond t (first_word l ∷ later_words l) (later_words l)) ≡ b ∷ l
    go true e ih = ap (λ (x : List ℕ). space ∷ x) ih ∙ ap (λ (x : ℕ). x ∷ l) (sym (eqb-true b space e))
    go false e ih = longer-first b (first_word l) (later_words l) ∙ ap (λ (x : List ℕ). b ∷ x) ih

abbrev plain : ℕ → Bool
plain b = not (eqb b space)

pub words-plain : (line : List ℕ) → all (all (λ b. not (eqb b space))) (first_word line ∷ later_words line) ≡ true
words-plain [] = refl
words-plain (b ∷ l) = go (eqb b space) refl (words-plain l)
  where
    go : (t : Bool) → eqb b space ≡ t → all (all plain) (first_word l ∷ later_words l) ≡ true
        → all (all plain) (cond t [] (b ∷ first_word l) ∷ cond t (first_word l ∷ later_words l) (later_words l)) ≡ true
    go true e ih = ih
    go false e ih =
        join (join (ap not e) (left (all plain (first_word l)) (all (all plain) (later_words l)) ih))
        (right (all plain (first_word l)) ih)

-- the words of what follows a space, if one does
abbrev pub words_from : Option (Bor (List ℕ)) → List (List ℕ)
words_from None = []
words_from (Some rest) = first_word rest.now ∷ later_words rest.now
