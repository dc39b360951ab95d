-- The just-in-time schedule. Document 01, 'The schedule rule': "in the last round A = C; before it, A(t) is the larger of
-- C(t) and A(t+1) - b, the latter taken as 0 if negative".
use Rattle.std.specs.Prelude.{Bool, List, [], ◌∷◌, ℕ, ◌+◌, ◌-◌, max, get_or, leb}

-- the total due by the end of the round that sends x, where c were sent before it and xs are sent after it
abbrev pub due : ℕ → ℕ → ℕ → List ℕ → ℕ
due b c x [] = c + x
due b c x (y ∷ ys) = max (c + x) (due b (c + x) y ys - b)

-- the list of them
abbrev pub just_in_time : ℕ → ℕ → List ℕ → List ℕ
just_in_time b c [] = []
just_in_time b c (x ∷ xs) = due b c x xs ∷ just_in_time b (c + x) xs

-- "A schedule exists exactly if this gives A(0) ≤ b." (`exists_by-iff` of Minimality.antt: of no rounds too, where there is
-- the schedule with no rounds)
abbrev pub exists_by : ℕ → List ℕ → Bool
exists_by b xs = leb (get_or (just_in_time b 0 xs) 0 0) b
