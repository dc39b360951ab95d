-- The search over the sheet of the standing bookings finds the start that the model finds. Assumes nothing.
use Rattle.std.specs.Prelude.{◌≡◌, refl, Bool, true, cond, ◌&&◌, List, [], ◌∷◌, ◌++◌, ℕ, zero, suc, ◌+◌, ◌-◌, ◌≤◌, ◌<◌, length, get_or, drop}
use Rattle.std.proofs.Common.{sym, ap₂, ◌∙◌, arith}
use Rattle.std.proofs.Math.Path.{ap}
use Rattle.std.proofs.Math.Bool.{not}
use Rattle.std.proofs.Math.ListN.{get_or-append}
use Rattle.films.specs.Layout.{sizes_of}
use Rattle.loss.specs.Loss.{loss_at}
use Rattle.model.specs.Day.{Setting, record_of, sending, ends, exists, opened, reserved, held}
use Rattle.model.specs.Fit as Fit
use Rattle.model.specs.Fit.{search, first_of}
use Rattle.model.specs.Soundness.{fit_test}
use Rattle.model.specs.Calls.{per_round, worked_out}
use Rattle.model.proofs.FitLaws.{length-sends}
use Rattle.model.specs.SoundLaws.{Sound}
use Rattle.model.proofs.CodeLaws.{clash}
use Rattle.model.proofs.CodeLaws.{per_round-at}
use Rattle.model.proofs.PlacesLaws.{length-per_round}
use Rattle.model.specs.declared.Booking.{Booking}
use Rattle.model.specs.declared.Request.{Request}
use Rattle.load.specs.Stream.{length_of, profile_of, clashes}
use Rattle.load.specs.declared.stream.Stream.{Stream}
use Rattle.search.specs.Fit.{Query, query_of, start_at, disk_fits, memory_fits, fits_at}
use Rattle.questions.specs.Tied.{Tied, AllTied, tied-rounds, tied-sends, clash-tied, all-tied}
use Rattle.questions.specs.FitParts.{disk_takes, memory_takes, fit_parts}
use Rattle.questions.specs.Sound.{below-same}

-- two tests that agree on the starts of a window find the same
search-same : (g h : ℕ → Bool) (s n : ℕ) → ((x : ℕ) → s ≤ x → x < s + n → g x ≡ h x) → search g s n ≡ search h s n
search-same g h s zero e = refl
search-same g h s (suc n) e =
    ap₂ (λ (u : Bool) (o : Fit.Found). cond u (Fit.at s) o) (e s (omega arith) (omega arith))
    (search-same g h (suc s) n (λ x a b. e x (omega arith) (omega arith)))

-- what a list of the sheet has for a round of the day
pub worked-at : (n : ℕ) (g : ℕ → ℕ) (old : List ℕ) (t : ℕ) → t < n → get_or (worked_out n g old) t 0 ≡ g t
worked-at n g old t h =
    let l : t < length (per_round g 0 n) = omega (arith, length-per_round g 0 n) in
    get_or-append (per_round g 0 n) (drop n old) 0 t l ∙ per_round-at g 0 n t h ∙ ap g (omega arith)

module _ (S : Setting) (f : List ℕ) (bs : List Booking) (xs : List Stream) (tied : AllTied S f bs xs) (q : Request) (y : Stream)
    (ties : (s : ℕ) → Tied S f (record_of q s) (start_at s y)) (loss : S.loss ≡ loss_at) (opens reserves helds : List ℕ) where
  -- the standing bookings' sheet
  abbrev pub sheet_query : Query
  sheet_query =
      query_of y (profile_of f y) xs (worked_out S.rounds (λ t. opened S t bs) opens) (worked_out S.rounds (λ t. reserved S t bs) reserves)
      (worked_out S.rounds (λ t. held S t bs) helds) S.disk S.memory

  module _ (s : ℕ) (sound : Sound S bs) (ex : exists S (record_of q s) ≡ true) (within : ends S (record_of q s) ≤ S.rounds) where
    long : length (sending S (record_of q s)) ≡ length_of y
    long = length-sends q.prefetch (sizes_of S.films q.film) ∙ ap₂ (λ (m n : ℕ). m + n) (sym (ties s).prefetch) (tied-rounds S f (record_of q s) (start_at s y) (ties s))

    in-day : (j : ℕ) → j < length_of y → s + j < S.rounds
    in-day j h = omega (arith, long, length-sends q.prefetch (sizes_of S.films q.film))

    disk-same : (j : ℕ) → j < length_of y
        → disk_takes S bs (record_of q s) j ≡ disk_fits sheet_query.opens sheet_query.reserves S.disk y.reserve (s + j)
    unfolding disk_fits
    disk-same j h =
        let u = in-day j h in
        rw (worked-at S.rounds (λ t. opened S t bs) opens (s + j) u, worked-at S.rounds (λ t. reserved S t bs) reserves (s + j) u, loss, (ties s).reserve)

    memory-same : (j : ℕ) → j < length_of y
        → memory_takes S bs (record_of q s) j ≡ memory_fits sheet_query.helds S.memory (profile_of f y) s j
    unfolding memory_fits
    memory-same j h =
        let u = in-day j h in
        rw (worked-at S.rounds (λ t. held S t bs) helds (s + j) u, tied-sends S f (record_of q s) (start_at s y) (ties s), (ties s).reserve)

    pub fits-query : fit_test S (bs ++ (record_of q s ∷ [])) ≡ fits_at sheet_query s
    unfolding fits_at
    fits-query =
        fit_parts S bs (record_of q s) sound ex within
        ∙ rw long
        (ap₂ (λ (u v : Bool). u && v) (below-same (length_of y) (disk_takes S bs (record_of q s)) _ disk-same)
        (ap₂ (λ (u v : Bool). u && v) (below-same (length_of y) (memory_takes S bs (record_of q s)) _ memory-same)
        (all-tied S f (λ c. not (clash S c (record_of q s))) (λ x. not (clashes x (start_at s y)))
        (λ c x t. ap not (clash-tied S f c (record_of q s) x (start_at s y) t (ties s))) bs xs tied)))

  -- the first start of the window
  pub first-query : Sound S bs → ((s : ℕ) → exists S (record_of q s) ≡ true) → ends S (record_of q q.last) ≤ S.rounds
      → first_of (λ s. fit_test S (bs ++ (record_of q s ∷ []))) q.first q.last ≡ first_of (fits_at sheet_query) q.first q.last
  first-query sound ex within =
      search-same (λ s. fit_test S (bs ++ (record_of q s ∷ []))) (fits_at sheet_query) q.first (suc q.last - q.first)
      (λ s a b. fits-query s sound (ex s) (omega arith))
