-- A journal: the calls of a day after its opening, as 64-bit words, so that the day can be rebuilt. An entry is 8 words, its
-- kind and seven more:
--
--     1 BOOK  name film p b cabs first last
--     2 DROP  name, the rest not looked at
--     3 PLAY  the report's length, the rest not looked at
--
-- Any other kind, and a name of 2^32 or more, is no call.
use Rattle.std.specs.Prelude.{cond, List, [], ◌∷◌, ℕ, zero, suc, ◌+◌, ◌*◌, ◌/◌, ◌^◌, Option, Some, None, length, get_or, ltb, eqb}
use Rattle.replay.specs.declared.journal.Entry.{Entry}
use Rattle.replay.specs.declared.journal.Entry.TheVariants.{Book, Drop, Play}

-- words of an entry
abbrev pub entry_words : ℕ
entry_words = 8

abbrev pub book_kind : ℕ
book_kind = 1

abbrev pub drop_kind : ℕ
drop_kind = 2

abbrev pub play_kind : ℕ
play_kind = 3

-- the entry of a kind and its seven words, if they are a call
unfoldable pub entry_of : ℕ → ℕ → ℕ → ℕ → ℕ → ℕ → ℕ → ℕ → Option Entry
entry_of kind a film prefetch reserve cabs first last =
    cond (eqb kind book_kind)
    (cond (ltb a (2 ^ 32)) (Some (Book (record { name = a; film = film; prefetch = prefetch; reserve = reserve; cabs = cabs; first = first; last = last }))) None)
    (cond (eqb kind drop_kind) (cond (ltb a (2 ^ 32)) (Some (Drop a)) None)
    (cond (eqb kind play_kind) (Some (Play a)) None))

-- the entry of the words from word k on
abbrev pub entry_from : List ℕ → ℕ → Option Entry
entry_from words k =
    let word : ℕ → ℕ = λ j. get_or words (k + j) 0 in
    entry_of (word 0) (word 1) (word 2) (word 3) (word 4) (word 5) (word 6) (word 7)

abbrev pub entry_of_words : List ℕ → Option Entry
entry_of_words words = entry_from words 0

module _ (journal : List ℕ) where
  -- entry i stands in words 8i to 8i+7
  abbrev pub entry_at : ℕ → Option Entry
  entry_at i =
      let word : ℕ → ℕ = λ k. get_or journal (entry_words * i + k) 0 in
      entry_of (word 0) (word 1) (word 2) (word 3) (word 4) (word 5) (word 6) (word 7)

  -- n entries from entry i on
  abbrev pub entries_from : ℕ → ℕ → List (Option Entry)
  entries_from i zero = []
  entries_from i (suc n) = entry_at i ∷ entries_from (suc i) n

  -- words after the last whole entry are not looked at
  abbrev pub entries : List (Option Entry)
  entries = entries_from 0 (length journal / entry_words)
