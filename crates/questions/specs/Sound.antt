-- Question 16 by the streams: what the code tests is the model's soundness. Assumes nothing.
use Rattle.std.specs.Prelude.{◌≡◌, refl, Bool, true, cond, ◌&&◌, List, [], ◌∷◌, ℕ, zero, suc, ◌<◌, ◌≤◌, length, get_or, eqb}
use Rattle.std.proofs.Common.{sym, ap, ap₂, ◌∙◌, arith}
use Rattle.std.specs.Int.Bits.{bit_and, bit_or}
use Rattle.limits.specs.Bounds.{max_day}
use Rattle.laws.specs.Tests.{all, below}
use Rattle.films.specs.Sizes.{Stored}
use Rattle.loss.specs.Loss.{loss_at}
use Rattle.model.specs.Day.{Setting, cabs_at, exists}
use Rattle.model.specs.Soundness.{names_differ, apart, round_kept, limits_kept, sound_list}
use Rattle.model.specs.SoundTest.{basic}
use Rattle.model.proofs.SoundTest.{sound-test}
use Rattle.model.specs.declared.Booking.{Booking}
use Rattle.load.specs.Stream.{no_stream}
use Rattle.load.specs.Basic.{basic_of, Playable, Within, EachOf}
use Rattle.load.specs.BasicLaws.{each-bounded, each_within}
use Rattle.load.specs.declared.stream.Stream.{Stream}
use Rattle.rounds.specs.Kept.{cabs_in, apart_in, kept_in, feasible, streams_kept}
use Rattle.questions.specs.Tied.{AllTied, all-tied, tied-shows, opened-tied, reserved-tied, held-tied, basic-tied, exists-tied}

-- two tests that agree below n
pub below-same : (n : ℕ) (g h : ℕ → Bool) → ((j : ℕ) → j < n → g j ≡ h j) → below n g ≡ below n h
below-same zero g h e = refl
below-same (suc n) g h e = ap₂ (λ (u v : Bool). u && v) (e n (omega arith)) (below-same n g h (λ j k. e j (omega arith)))

module _ (S : Setting) (f : List ℕ) (loss : S.loss ≡ loss_at) where
  -- cabs busy in a round
  apart-tied : (t taken : ℕ) (bs : List Booking) (xs : List Stream) → AllTied S f bs xs → apart S t taken bs ≡ apart_in t taken xs
  apart-tied t taken [] [] w = refl
  apart-tied t taken [] (x ∷ xs) w = absurd w
  apart-tied t taken (b ∷ bs) [] w = absurd w
  apart-tied t taken (b ∷ bs) (x ∷ xs) w =
      let busy : cabs_at S t b ≡ cabs_in t x = ap₂ (λ (v : Bool) (n : ℕ). cond v n 0) (tied-shows S f b x w.0 t) (sym w.0.cabs) in
      rw busy (ap (λ (v : Bool). eqb (bit_and taken (cabs_in t x)) 0 && v) (apart-tied t (bit_or taken (cabs_in t x)) bs xs w.1))

  module _ (bs : List Booking) (xs : List Stream) (tied : AllTied S f bs xs) where
    kept-tied : (t : ℕ) → round_kept S bs t ≡ kept_in f loss_at S.disk S.memory xs t
    unfolding round_kept kept_in
    kept-tied t =
        rw (opened-tied S f bs xs tied t, reserved-tied S f bs xs tied t, held-tied S f bs xs tied t, apart-tied t 0 bs xs tied, loss)

    exist-tied : all (exists S) bs ≡ all (feasible f) xs
    unfolding feasible
    exist-tied = all-tied S f (exists S) (feasible f) (exists-tied S f) bs xs tied

    limits-tied : limits_kept S bs ≡ below S.rounds (kept_in f loss_at S.disk S.memory xs)
    unfolding limits_kept
    limits-tied = below-same S.rounds (round_kept S bs) (kept_in f loss_at S.disk S.memory xs) (λ t u. kept-tied t)

    pub sound-streams : sound_list S bs ≡ names_differ bs && (all (basic_of S.rounds) xs && streams_kept f loss_at S.rounds S.disk S.memory xs)
    sound-streams =
        sound-test S bs
        ∙ ap (λ (v : Bool). names_differ bs && v)
        (ap₂ (λ (u v : Bool). u && v) (all-tied S f (basic S) (basic_of S.rounds) (basic-tied S f) bs xs tied)
        (ap₂ (λ (u v : Bool). u && v) exist-tied limits-tied))

module _ (S : Setting) (f : List ℕ) where
  -- their sizes stand in the file
  stored_at : (bs : List Booking) (xs : List Stream) → AllTied S f bs xs → (i : ℕ) → i < length xs
      → Stored f (get_or xs i no_stream).at (get_or xs i no_stream).rounds
  stored_at [] [] t i h = absurd (omega arith)
  stored_at [] (x ∷ xs) t i h = absurd t
  stored_at (b ∷ bs) [] t i h = absurd t
  stored_at (b ∷ bs) (x ∷ xs) t zero h = t.0.stored
  stored_at (b ∷ bs) (x ∷ xs) t (suc i) h = stored_at bs xs t.1 i (omega arith)

  pub each-playable : (T : ℕ) (bs : List Booking) (xs : List Stream) → T ≤ max_day → AllTied S f bs xs → all (basic_of T) xs ≡ true
      → EachOf (Playable f) xs × EachOf (Within T) xs
  each-playable T bs xs h tied e = (
    λ i u. record { bounded = each-bounded T xs h e i u; stored = stored_at bs xs tied i u },
    each_within T xs e,
  )
