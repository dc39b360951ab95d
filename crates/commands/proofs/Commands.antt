-- The command of a verb, numerals that are read and words that are left. Assumes nothing.
use Rattle.std.specs.Prelude.{ℕ, ◌<◌, ◌≤◌, ◌≡◌, refl, Bool, true, false, cond, List, [], ◌∷◌, ◌++◌, map, length, Option, Some, None}
use Rattle.std.proofs.Common.{arith, sym, append-nil, append_assoc, length-append, ne_eqb, le-leb}
use Rattle.std.proofs.lemmas.List.{length-map}
use Rattle.std.proofs.lemmas.Bool.{lt-leb}
use Rattle.std.specs.Borrow.{Bor}
use Rattle.limits.specs.Bounds.{max_line}
use Rattle.laws.specs.Tests.{all}
use Rattle.commands.specs.Grammar.{first_word, later_words, is_numeral, value, open_of, book_of, drop_of, play_of, by_verb, command_of}
use Rattle.commands.specs.Values.{numeral_of}
use Rattle.commands.specs.Words.{words_from}
use Rattle.commands.specs.declared.Command.{Command}

-- the numerals ns are read, and the words ws are left
unfoldable pub command_from : List ℕ → List ℕ → List (List ℕ) → Option Command
command_from verb ns ws = cond (all is_numeral ws) (by_verb verb (ns ++ map value ws)) None

pub begins : (line : List ℕ) → length line ≤ max_line → command_of line ≡ command_from (first_word line) [] (later_words line)
unfolding command_of command_from
begins line h = rw (le-leb (length line) max_line h)

pub too_long : (line : List ℕ) → max_line < length line → None ≡ command_of line
unfolding command_of
too_long line h = rw (lt-leb (length line) max_line h)

-- no word is left
pub done : (line verb ns : List ℕ) (rest : Option (Bor (List ℕ))) → command_of line ≡ command_from verb ns (words_from rest) → rest ≡ None
    → by_verb verb ns ≡ command_of line
unfolding command_from
done line verb ns rest h e = sym (rw (e, append-nil) at h)

-- the next word
pub next : (line verb ns : List ℕ) (rest : Option (Bor (List ℕ))) (words : Bor (List ℕ)) (word : List ℕ)
    → command_of line ≡ command_from verb ns (words_from rest) → rest ≡ Some words → word ≡ first_word words.now
    → command_of line ≡ command_from verb ns (word ∷ later_words words.now)
next line verb ns rest words word h e w = rw (e, ← w) at h

-- it is a numeral
pub one_more : (verb ns w : List ℕ) (ws : List (List ℕ)) (v : ℕ) → Some v ≡ numeral_of w
    → command_from verb ns (w ∷ ws) ≡ command_from verb (ns ++ v ∷ []) ws
unfolding command_from
one_more verb ns w ws v = go (is_numeral w) refl
  where
    go : (t : Bool) → is_numeral w ≡ t → Some v ≡ cond t (Some (value w)) None
        → command_from verb ns (w ∷ ws) ≡ command_from verb (ns ++ v ∷ []) ws
    go true e h =
        let same : v ≡ value w = cc in
        rw (e, same, append_assoc ns (value w ∷ []) (map value ws))
    go false e h = absurd (cc)

-- it is none
pub no_numeral : (verb ns w : List ℕ) (ws : List (List ℕ)) → None ≡ numeral_of w → None ≡ command_from verb ns (w ∷ ws)
unfolding command_from
no_numeral verb ns w ws = go (is_numeral w) refl
  where
    go : (t : Bool) → is_numeral w ≡ t → None ≡ cond t (Some (value w)) None → None ≡ command_from verb ns (w ∷ ws)
    go true e h = absurd (cc)
    go false e h = rw e

cond_same : {A : Type 0} (t : Bool) (a : A) → cond t a a ≡ a
cond_same true a = refl
cond_same false a = refl

-- no command has more than seven numerals
pub too_many : (verb ns w : List ℕ) (ws : List (List ℕ)) → length ns ≡ 7 → None ≡ command_from verb ns (w ∷ ws)
unfolding command_from by_verb open_of book_of drop_of play_of
too_many verb ns w ws h =
    let all = ns ++ map value (w ∷ ws) in
    let many : 7 < length all = omega (arith, length-append ns (map value (w ∷ ws)), length-map ws value) in
    sym
    (simp (ne_eqb (length all) 3 (omega arith), ne_eqb (length all) 7 (omega arith), ne_eqb (length all) 1 (omega arith), ne_eqb (length all) 0 (omega arith), cond_same))
