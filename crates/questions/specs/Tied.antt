-- A booking of the model and a stream of the code stand for each other: the same numbers, and the film's sizes where the stream
-- says they stand. What the two say of a round is then the same. Assumes nothing.
use Rattle.std.specs.Prelude.{◌≡◌, refl, Bool, cond, not, ◌&&◌, List, [], ◌∷◌, ℕ, ◌+◌, length, leb}
use Rattle.std.proofs.Common.{sym, ap, ap₂, ◌∙◌, arith}
use Rattle.laws.specs.Tests.{all}
use Rattle.films.specs.Layout.{in_file, sizes_of}
use Rattle.films.specs.Sizes.{sizes, Stored}
use Rattle.films.proofs.SizeLaws.{length-sizes}
use Rattle.model.specs.Day as M
use Rattle.model.specs.Day.{Setting, sending, ends, open_at, shows_at, exists, held_at, schedule_of, opened, reserved, held}
use Rattle.model.proofs.CodeLaws as M'
use Rattle.model.proofs.CodeLaws.{clash}
use Rattle.model.proofs.CodeLaws.{held-profile}
use Rattle.model.specs.SoundTest.{basic}
use Rattle.model.specs.declared.Booking.{Booking}
use Rattle.load.specs.Stream as L
use Rattle.load.specs.Stream.{sends_of, end_of, open_in, shows_in, open_count, reserved_in, holds_in, held_in, clashes}
use Rattle.load.specs.Basic.{basic_of, ends_by}
use Rattle.retrieval.specs.JustInTime.{exists_by}
use Rattle.load.specs.declared.stream.Stream.{Stream}

pub record Tied (S : Setting) (f : List ℕ) (b : Booking) (x : Stream) : Type 0 where
  pub start : x.start ≡ b.start
  pub prefetch : x.prefetch ≡ b.prefetch
  pub reserve : x.reserve ≡ b.reserve
  pub cabs : x.cabs ≡ b.cabs
  pub inside : in_file S.films b.film ≡ leb 1 x.rounds
  pub are : sizes_of S.films b.film ≡ sizes f x.at x.rounds
  pub stored : Stored f x.at x.rounds

-- each with its own
abbrev pub AllTied : Setting → List ℕ → List Booking → List Stream → Type 0
AllTied S f [] [] = Unit {0}
AllTied S f [] (x ∷ xs) = ⊥
AllTied S f (b ∷ bs) [] = ⊥
AllTied S f (b ∷ bs) (x ∷ xs) = Tied S f b x × AllTied S f bs xs

module _ (S : Setting) (f : List ℕ) where
  pub tied-rounds : (b : Booking) (x : Stream) → Tied S f b x → length (sizes_of S.films b.film) ≡ x.rounds
  tied-rounds b x t = ap length t.are ∙ length-sizes f x.at x.rounds

  pub tied-ends : (b : Booking) (x : Stream) → Tied S f b x → ends S b ≡ end_of x
  tied-ends b x t = omega (arith, tied-rounds b x t)

  pub tied-open : (b : Booking) (x : Stream) → Tied S f b x → (r : ℕ) → open_at S r b ≡ open_in r x
  unfolding open_at open_in
  tied-open b x t r = rw (tied-ends b x t, t.start)

  pub tied-shows : (b : Booking) (x : Stream) → Tied S f b x → (r : ℕ) → shows_at S r b ≡ shows_in r x
  unfolding shows_at shows_in
  tied-shows b x t r = rw (tied-ends b x t, t.start, t.prefetch)

  pub tied-sends : (b : Booking) (x : Stream) → Tied S f b x → sending S b ≡ sends_of f x
  tied-sends b x t = rw (t.are, t.prefetch)

  -- sums over the two lists
  pub total-tied : (g : Booking → ℕ) (h : Stream → ℕ) → ((b : Booking) (x : Stream) → Tied S f b x → g b ≡ h x)
      → (bs : List Booking) (xs : List Stream) → AllTied S f bs xs → M.total g bs ≡ L.total h xs
  total-tied g h e [] [] t = refl
  total-tied g h e [] (x ∷ xs) t = absurd t
  total-tied g h e (b ∷ bs) [] t = absurd t
  total-tied g h e (b ∷ bs) (x ∷ xs) t = ap₂ (λ (m n : ℕ). m + n) (e b x t.0) (total-tied g h e bs xs t.1)

  -- tests of the two lists
  pub all-tied : (g : Booking → Bool) (h : Stream → Bool) → ((b : Booking) (x : Stream) → Tied S f b x → g b ≡ h x)
      → (bs : List Booking) (xs : List Stream) → AllTied S f bs xs → all g bs ≡ all h xs
  all-tied g h e [] [] t = refl
  all-tied g h e [] (x ∷ xs) t = absurd t
  all-tied g h e (b ∷ bs) [] t = absurd t
  all-tied g h e (b ∷ bs) (x ∷ xs) t = ap₂ (λ (m n : Bool). m && n) (e b x t.0) (all-tied g h e bs xs t.1)

  pub opened-tied : (bs : List Booking) (xs : List Stream) → AllTied S f bs xs → (r : ℕ) → opened S r bs ≡ open_count r xs
  opened-tied bs xs t r =
      total-tied (λ b. cond (open_at S r b) 1 0) (λ x. cond (open_in r x) 1 0) (λ b x u. ap (λ (o : Bool). cond o 1 0) (tied-open b x u r)) bs xs t

  pub reserved-tied : (bs : List Booking) (xs : List Stream) → AllTied S f bs xs → (r : ℕ) → reserved S r bs ≡ reserved_in r xs
  reserved-tied bs xs t r =
      total-tied (λ b. cond (open_at S r b) b.reserve 0) (λ x. cond (open_in r x) x.reserve 0)
      (λ b x u. ap₂ (λ (o : Bool) (n : ℕ). cond o n 0) (tied-open b x u r) (sym u.reserve)) bs xs t

  pub held-tied : (bs : List Booking) (xs : List Stream) → AllTied S f bs xs → (r : ℕ) → held S r bs ≡ held_in f r xs
  held-tied bs xs t r =
      total-tied (λ b. held_at S r b (schedule_of S b)) (holds_in f r)
      (λ b x u. held-profile S r b ∙ rw (tied-open b x u r, tied-sends b x u, u.start, u.reserve)) bs xs t

  -- ---- the tests of a list

  pub clash-tied : (b c : Booking) (x y : Stream) → Tied S f b x → Tied S f c y → clash S b c ≡ clashes x y
  unfolding clash clashes
  clash-tied b c x y t u = rw (tied-ends b x t, tied-ends c y u, t.cabs, u.cabs, t.start, u.start, t.prefetch, u.prefetch)

  pub pairs-tied : (bs : List Booking) (xs : List Stream) → AllTied S f bs xs → M'.pairs_clear S bs ≡ L.pairs_clear xs
  pairs-tied [] [] t = refl
  pairs-tied [] (x ∷ xs) t = absurd t
  pairs-tied (b ∷ bs) [] t = absurd t
  pairs-tied (b ∷ bs) (x ∷ xs) t =
      ap₂ (λ (m n : Bool). m && n)
      (all-tied (λ c. not (clash S b c)) (λ y. not (clashes x y)) (λ c y u. ap not (clash-tied b c x y t.0 u)) bs xs t.1)
      (pairs-tied bs xs t.1)

  pub basic-tied : (b : Booking) (x : Stream) → Tied S f b x → basic S b ≡ basic_of S.rounds x
  unfolding basic basic_of ends_by
  basic-tied b x t = rw (t.inside, tied-ends b x t, t.prefetch, t.reserve, t.cabs)

  pub exists-tied : (b : Booking) (x : Stream) → Tied S f b x → exists S b ≡ exists_by x.reserve (sends_of f x)
  unfolding exists
  exists-tied b x t = rw (tied-sends b x t, t.reserve)
