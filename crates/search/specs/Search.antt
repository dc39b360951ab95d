-- What the steps of the search answer. The search walks upward through the starts; a start that does not fit rules out others,
-- and the next one to try is the first that is not ruled out.
use Rattle.std.specs.Prelude.{◌≡◌, Bool, true, false, Option, MatchOption, option_map, find, ℕ, ◌+◌, ◌-◌, ◌≤◌, ◌<◌}
use Rattle.limits.specs.Bounds.{max_reserve}
use Rattle.load.specs.Stream.{length_of, end_of, clashes}
use Rattle.search.specs.Fit.{Query, start_at, disk_free, fits_at, HeldRows, Window}

-- the first number from a to e - 1 that fails a test
abbrev pub FirstFails : (ℕ → Bool) → ℕ → ℕ → Option ℕ → Type 0
FirstFails f a e r =
    MatchOption r ((j : ℕ) → a ≤ j → j < e → f j ≡ true)
    (λ i. (a ≤ i) × (i < e) × (f i ≡ false) × ((j : ℕ) → a ≤ j → j < i → f j ≡ true))

-- the last
abbrev pub LastFails : (ℕ → Bool) → ℕ → ℕ → Option ℕ → Type 0
LastFails f a e r =
    MatchOption r ((j : ℕ) → a ≤ j → j < e → f j ≡ true)
    (λ i. (a ≤ i) × (i < e) × (f i ≡ false) × ((j : ℕ) → i < j → j < e → f j ≡ true))

-- the first start at which the new stream shows only after a standing one has ended, the first that it clashes with from s on
abbrev pub after_clash : Query → ℕ → Option ℕ
after_clash q s = option_map (λ x. end_of x - q.stream.prefetch) (find (λ x. clashes x (start_at s q.stream)) q.standing)

-- what the walk over a window asks
pub record Walks (q : Query) (last : ℕ) : Type 0 where
  pub window : Window q last
  pub profile : HeldRows q.profile (length_of q.stream)
  pub reserve : q.stream.reserve ≤ max_reserve

-- the rounds from a start to clear - 1 are free for the disk, and clear is not past the start's own rounds
pub record Clear (q : Query) (start clear : ℕ) : Type 0 where
  pub near : clear ≤ start + length_of q.stream
  pub free : (t : ℕ) → start ≤ t → t < clear → disk_free q t ≡ true

-- no start from a to e - 1 fits
abbrev pub NoneFits : Query → ℕ → ℕ → Type 0
NoneFits q a e = (s : ℕ) → a ≤ s → s < e → fits_at q s ≡ true → ⊥

-- none fits from a start up to the next one to try
pub record Skips (q : Query) (start next clear : ℕ) : Type 0 where
  pub later : start < next
  pub none : NoneFits q start next
  pub known : Clear q next clear
