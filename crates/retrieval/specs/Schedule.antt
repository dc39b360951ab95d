-- What a film sends, and what a schedule is. Document 01, 'The schedule rule', first half.
-- `xs` is the list of what each round sends. Rounds are counted from 0: `get_or l t 0` is what a list has for round t, and
-- `get_or (a ∷ l) t 0` what it has for round t - 1, with a for the round -1.
use Rattle.std.specs.Prelude.{◌≡◌, List, [], ◌∷◌, ◌++◌, ℕ, ◌+◌, ◌-◌, ◌≤◌, ◌<◌, length, get_or, replicate}
use Rattle.laws.specs.Sums.{sum, largest}

-- "A film with n rounds and p pre-fetch rounds occupies rounds 0 to p+n-1 counted from its start. It sends nothing in its
-- first p rounds and then its sizes in order."
abbrev pub sends : ℕ → List ℕ → List ℕ
sends p sizes = replicate p 0 ++ sizes

-- "C(t) is the bytes sent in rounds 0 to t": the list of them, where c were sent before
abbrev pub totals : ℕ → List ℕ → List ℕ
totals c [] = []
totals c (x ∷ xs) = (c + x) ∷ totals (c + x) xs

-- "A schedule is a list of read totals A(t) .. It never falls, rises by at most the reserve b per round, has A(t) ≥ C(t) in
-- every round (no underflow), and ends at the film's total." Here with a read and c sent before the first round, so that
-- what follows the first round of a schedule is again one.
pub record Reads (b a c : ℕ) (xs rs : List ℕ) : Type 0 where
  pub rounds : length rs ≡ length xs
  pub rises : (t : ℕ) → t < length rs → get_or (a ∷ rs) t 0 ≤ get_or rs t 0
  pub paced : (t : ℕ) → t < length rs → get_or rs t 0 ≤ get_or (a ∷ rs) t 0 + b
  pub fed : (t : ℕ) → t < length rs → get_or (totals c xs) t 0 ≤ get_or rs t 0
  pub ends : get_or (a ∷ rs) (length rs) 0 ≡ c + sum xs

-- the paper's, "with A(-1) = 0" and "C(-1) = 0"
abbrev pub Schedule : List ℕ → ℕ → List ℕ → Type 0
Schedule xs b rs = Reads b 0 0 xs rs

-- "Bytes held in round t are A(t) - C(t-1)": the list of them, where c were sent before
abbrev pub helds : ℕ → List ℕ → List ℕ → List ℕ
helds c [] rs = []
helds c (x ∷ xs) [] = []
helds c (x ∷ xs) (r ∷ rs) = (r - c) ∷ helds (c + x) xs rs

-- "The peak is the largest held."
abbrev pub peak : List ℕ → List ℕ → ℕ
peak xs rs = largest (helds 0 xs rs)
