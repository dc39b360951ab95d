-- A line parted at its first space. Assumes nothing.
use Rattle.std.specs.Prelude.{ℕ, ◌+◌, ◌<◌, ◌≤◌, ◌≡◌, refl, Bool, true, false, cond, List, [], ◌∷◌, eqb, ltb, length, take, drop, Option, Some, None}
use Rattle.std.specs.List.{position_or_len}
use Rattle.std.proofs.Common.{arith, ap, add-one, add_comm, ltb-true, ltb-false}
use Rattle.commands.specs.Bytes.{space}
use Rattle.commands.specs.Grammar.{first_word, later_words}

abbrev pub is_space : ℕ → Bool
is_space b = eqb b space

-- where the first space stands, or the length
abbrev pub word_end : List ℕ → ℕ
word_end line = position_or_len is_space line

pub word-take : (line : List ℕ) → first_word line ≡ take (word_end line) line
word-take [] = refl
word-take (b ∷ l) = go (eqb b space) refl (word-take l)
  where
    go : (t : Bool) → eqb b space ≡ t → first_word l ≡ take (word_end l) l → first_word (b ∷ l) ≡ take (word_end (b ∷ l)) (b ∷ l)
    go true e ih = rw e
    go false e ih = rw (e, add_comm 1 (word_end l), add-one) (ap (λ (w : List ℕ). b ∷ w) ih)

pub words-drop : (line : List ℕ) → word_end line < length line
    → later_words line ≡ first_word (drop (word_end line + 1) line) ∷ later_words (drop (word_end line + 1) line)
words-drop [] h = absurd (omega arith)
words-drop (b ∷ l) h = go (eqb b space) refl (words-drop l)
  where
    go : (t : Bool) → eqb b space ≡ t
        → (word_end l < length l → later_words l ≡ first_word (drop (word_end l + 1) l) ∷ later_words (drop (word_end l + 1) l))
        → later_words (b ∷ l) ≡ first_word (drop (word_end (b ∷ l) + 1) (b ∷ l)) ∷ later_words (drop (word_end (b ∷ l) + 1) (b ∷ l))
    go true e ih = rw e
    go false e ih =
        let more : word_end l < length l = (let z = rw e at h in omega arith) in
        rw (e, add-one, add_comm 1 (word_end l)) (ih more)

pub words-none : (line : List ℕ) → length line ≤ word_end line → later_words line ≡ []
words-none [] h = refl
words-none (b ∷ l) h = go (eqb b space) refl (words-none l)
  where
    go : (t : Bool) → eqb b space ≡ t → (length l ≤ word_end l → later_words l ≡ []) → later_words (b ∷ l) ≡ []
    go true e ih = absurd (let z = rw e at h in omega arith)
    go false e ih = rw e (ih (let z = rw e at h in omega arith))

-- where `position` finds a space
abbrev pub found_at : List ℕ → Option ℕ
found_at line = cond (ltb (word_end line) (length line)) (Some (word_end line)) None

pub found : (line : List ℕ) (n : ℕ) → found_at line ≡ Some n → (n ≡ word_end line) × (word_end line < length line)
found line n = go (ltb (word_end line) (length line)) refl
  where
    go : (t : Bool) → ltb (word_end line) (length line) ≡ t → cond t (Some (word_end line)) None ≡ Some n
        → (n ≡ word_end line) × (word_end line < length line)
    go true e h = (cc, ltb-true _ _ e)
    go false e h = absurd (cc)

pub missed : (line : List ℕ) → found_at line ≡ None → length line ≤ word_end line
missed line = go (ltb (word_end line) (length line)) refl
  where
    go : (t : Bool) → ltb (word_end line) (length line) ≡ t → cond t (Some (word_end line)) None ≡ None → length line ≤ word_end line
    go true e h = absurd (cc)
    go false e h = ltb-false _ _ e
