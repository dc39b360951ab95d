-- One booking more, beside a sound list: it fits exactly if the disk and memory take it in each of its own rounds and none of the
-- others clashes with it. So a start is tested by the sheet of the standing bookings. Assumes nothing.
use Rattle.std.specs.Prelude.{◌≡◌, refl, Bool, cond, not, ◌&&◌, List, [], ◌∷◌, ◌++◌, ℕ, ◌+◌, ◌-◌, ◌≤◌, ◌<◌}
use Rattle.std.proofs.Math.Path.{ap}
use Rattle.std.proofs.Common.{◌∙◌}
use Rattle.std.proofs.Math.Bool.{true, false}
use native.Mathlib.Omega.{arith}
use Rattle.std.proofs.Math.ListN.{length, get_or}
use Rattle.std.proofs.Math.Dec.{leb}
use borrow.Author.Tests.{leb-true, le-leb, lt-ltb}
use Rattle.laws.specs.Tests.{left, right, join, all, below, below_at, below_all}
use Rattle.films.specs.Layout.{sizes_of}
use Rattle.retrieval.specs.Carry.{profile}
use Rattle.model.specs.Day.{Setting, sending, ends, open_at, exists, opened, reserved, held}
use Rattle.model.specs.Soundness.{fit_test, limits_kept}
use Rattle.model.specs.FitLaws.{Round}
use Rattle.model.proofs.FitLaws.{length-sends, place, round-says, says-round, limits-round, round-limits}
use Rattle.model.specs.SoundLaws.{Sound}
use Rattle.model.proofs.SoundLaws.{sound-exist, all_map, all_snoc, passes-held}
use Rattle.model.proofs.CodeLaws.{clash, pairs_clear, pairs-showing, pairs-iff}
use Rattle.model.proofs.CodeLaws.{total-snoc, held-profile}
use Rattle.retrieval.proofs.Tests.{same_test}
use Rattle.model.specs.Soundness.{passes}
use Rattle.model.specs.declared.Booking.{Booking}

-- clear of one more at the end: each is clear of it, and the others among themselves
pairs-snoc : (S : Setting) (bs : List Booking) (b : Booking) → pairs_clear S bs ≡ true → all (λ c. not (clash S c b)) bs ≡ true
    → pairs_clear S (bs ++ (b ∷ [])) ≡ true
pairs-snoc S [] b e f = refl
pairs-snoc S (c ∷ bs) b e f =
    join
    (all_snoc (λ d. not (clash S c d)) bs b (left (all (λ d. not (clash S c d)) bs) (pairs_clear S bs) e)
    (left (not (clash S c b)) (all (λ d. not (clash S d b)) bs) f))
    (pairs-snoc S bs b (right (all (λ d. not (clash S c d)) bs) e) (right (not (clash S c b)) f))

all-last : (g : Booking → Bool) (bs : List Booking) (b : Booking) → all g (bs ++ (b ∷ [])) ≡ true → g b ≡ true
all-last g [] b e = left (g b) true e
all-last g (c ∷ bs) b e = all-last g bs b (right (g c) e)

snoc-pairs : (S : Setting) (bs : List Booking) (b : Booking) → pairs_clear S (bs ++ (b ∷ [])) ≡ true → all (λ c. not (clash S c b)) bs ≡ true
snoc-pairs S [] b e = refl
snoc-pairs S (c ∷ bs) b e =
    join (all-last (λ d. not (clash S c d)) bs b (left (all (λ d. not (clash S c d)) (bs ++ (b ∷ []))) (pairs_clear S (bs ++ (b ∷ []))) e))
    (snoc-pairs S bs b (right (all (λ d. not (clash S c d)) (bs ++ (b ∷ []))) e))

module _ (S : Setting) (bs : List Booking) (b : Booking) where
  -- the disk takes it in round j of its own
  abbrev pub disk_takes : ℕ → Bool
  disk_takes j = leb (reserved S (b.start + j) bs + b.reserve + S.loss (opened S (b.start + j) bs + 1)) S.disk

  -- and memory
  abbrev pub memory_takes : ℕ → Bool
  memory_takes j = leb (held S (b.start + j) bs + get_or (profile b.reserve (sending S b)) j 0) S.memory

  abbrev pub cabs_free : Bool
  cabs_free = all (λ c. not (clash S c b)) bs

  open_own : (j : ℕ) → j < length (sending S b) → open_at S (b.start + j) b ≡ true
  unfolding open_at
  open_own j h =
      join (le-leb b.start (b.start + j) (omega arith))
      (lt-ltb (b.start + j) (ends S b) (omega (arith, length-sends b.prefetch (sizes_of S.films b.film))))

  -- what it adds to a round's load
  module _ (t : ℕ) (o : Bool) (e : open_at S t b ≡ o) where
    pub opened-more : opened S t (bs ++ (b ∷ [])) ≡ opened S t bs + cond o 1 0
    opened-more = total-snoc _ bs b ∙ ap (λ (v : Bool). opened S t bs + cond v 1 0) e

    pub reserved-more : reserved S t (bs ++ (b ∷ [])) ≡ reserved S t bs + cond o b.reserve 0
    reserved-more = total-snoc _ bs b ∙ ap (λ (v : Bool). reserved S t bs + cond v b.reserve 0) e

    pub held_more : held S t (bs ++ (b ∷ [])) ≡ held S t bs + cond o (get_or (profile b.reserve (sending S b)) (t - b.start) 0) 0
    held_more =
        total-snoc _ bs b
        ∙ ap (λ (n : ℕ). held S t bs + n)
        (held-profile S t b ∙ ap (λ (v : Bool). cond v (get_or (profile b.reserve (sending S b)) (t - b.start) 0) 0) e)

  module _ (sound : Sound S bs) (ex : exists S b ≡ true) (within : ends S b ≤ S.rounds) where
    ends-all : all (λ c. leb (ends S c) S.rounds) bs ≡ true
    ends-all = all_map (passes S) (λ c. leb (ends S c) S.rounds) bs (λ c e. le-leb _ _ (passes-held S c e).1) sound.passed

    round-of : (t : ℕ) → t < S.rounds → Round S bs t
    round-of t u = round-says S bs t (limits-round S bs sound.kept t u)

    cabs-clear : pairs_clear S bs ≡ true
    cabs-clear = (pairs-iff S bs ends-all).1 (λ t u. (round-of t u).cabs)

    own-round : (j : ℕ) → j < length (sending S b) → b.start + j < S.rounds
    own-round j h = omega (arith, length-sends b.prefetch (sizes_of S.films b.film))

    to-parts : fit_test S (bs ++ (b ∷ [])) ≡ true
        → below (length (sending S b)) disk_takes && (below (length (sending S b)) memory_takes && cabs_free) ≡ true
    unfolding fit_test
    to-parts e =
        let kept : limits_kept S (bs ++ (b ∷ [])) ≡ true = right (all (exists S) (bs ++ (b ∷ []))) e in
        let r : (t : ℕ) → t < S.rounds → Round S (bs ++ (b ∷ [])) t = λ t u. round-says S (bs ++ (b ∷ [])) t (limits-round S (bs ++ (b ∷ [])) kept t u) in
        join
        (below_all (length (sending S b)) disk_takes
        (λ j h.
        let t = b.start + j in
        let o = open_own j h in
        let e1 = opened-more t true o in
        let e2 = reserved-more t true o in
        le-leb (reserved S t bs + b.reserve + S.loss (opened S t bs + 1)) S.disk (omega (arith, (r t (own-round j h)).disk, e2, ap S.loss e1))))
        (join
        (below_all (length (sending S b)) memory_takes
        (λ j h.
        let t = b.start + j in
        let o = open_own j h in
        let z : b.start + j - b.start ≡ j = omega arith in
        let e3 : held S t (bs ++ (b ∷ [])) ≡ held S t bs + get_or (profile b.reserve (sending S b)) j 0 = rw z at (held_more t true o) in
        le-leb (held S t bs + get_or (profile b.reserve (sending S b)) j 0) S.memory (omega (arith, (r t (own-round j h)).memory))))
        (snoc-pairs S bs b
        ((pairs-iff S (bs ++ (b ∷ [])) (all_snoc (λ c. leb (ends S c) S.rounds) bs b ends-all (le-leb _ _ within))).1 (λ t u. (r t u).cabs))))

    from_parts : below (length (sending S b)) disk_takes && (below (length (sending S b)) memory_takes && cabs_free) ≡ true
        → fit_test S (bs ++ (b ∷ [])) ≡ true
    unfolding fit_test
    from_parts e =
        let L = length (sending S b) in
        let disk : below L disk_takes ≡ true = left (below L disk_takes) (below L memory_takes && cabs_free) e in
        let rest : below L memory_takes && cabs_free ≡ true = right (below L disk_takes) e in
        let memory : below L memory_takes ≡ true = left (below L memory_takes) cabs_free rest in
        let clear : pairs_clear S (bs ++ (b ∷ [])) ≡ true = pairs-snoc S bs b cabs-clear (right (below L memory_takes) rest) in
        let one : (t : ℕ) → t < S.rounds → (o : Bool) → open_at S t b ≡ o → Round S (bs ++ (b ∷ [])) t =
        λ t u o v. record { disk = disk-of t u disk o v; memory = memory-of t u memory o v; cabs = λ k. pairs-showing S (bs ++ (b ∷ [])) clear t k } in
        join (all_snoc (exists S) bs b (sound-exist S bs sound) ex)
        (round-limits S (bs ++ (b ∷ [])) (λ t u. says-round S (bs ++ (b ∷ [])) t (one t u (open_at S t b) refl)))
      where
        disk-of : (t : ℕ) → t < S.rounds → below (length (sending S b)) disk_takes ≡ true → (o : Bool) → open_at S t b ≡ o
            → reserved S t (bs ++ (b ∷ [])) + S.loss (opened S t (bs ++ (b ∷ []))) ≤ S.disk
        disk-of t u d true v =
            let p = place S t b v in
            let z : b.start + (t - b.start) ≡ t = omega arith in
            let at = b.start + (t - b.start) in
            let w0 : reserved S at bs + b.reserve + S.loss (opened S at bs + 1) ≤ S.disk =
            leb-true _ _ (below_at (length (sending S b)) disk_takes d (t - b.start) p.1) in
            let w : reserved S t bs + b.reserve + S.loss (opened S t bs + 1) ≤ S.disk = rw z at w0 in
            omega (arith, reserved-more t true v, ap S.loss (opened-more t true v))
        disk-of t u d false v =
            let z : opened S t bs + 0 ≡ opened S t bs = omega arith in
            omega (arith, reserved-more t false v, ap S.loss (opened-more t false v ∙ z), (round-of t u).disk)

        memory-of : (t : ℕ) → t < S.rounds → below (length (sending S b)) memory_takes ≡ true → (o : Bool) → open_at S t b ≡ o
            → held S t (bs ++ (b ∷ [])) ≤ S.memory
        memory-of t u d true v =
            let p = place S t b v in
            let z : b.start + (t - b.start) ≡ t = omega arith in
            let w0 : held S (b.start + (t - b.start)) bs + get_or (profile b.reserve (sending S b)) (t - b.start) 0 ≤ S.memory =
            leb-true _ _ (below_at (length (sending S b)) memory_takes d (t - b.start) p.1) in
            let w : held S t bs + get_or (profile b.reserve (sending S b)) (t - b.start) 0 ≤ S.memory = rw z at w0 in
            omega (arith, held_more t true v)
        memory-of t u d false v = omega (arith, held_more t false v, (round-of t u).memory)

    pub fit_parts : fit_test S (bs ++ (b ∷ []))
        ≡ below (length (sending S b)) disk_takes && (below (length (sending S b)) memory_takes && cabs_free)
    fit_parts = same_test _ _ to-parts from_parts
