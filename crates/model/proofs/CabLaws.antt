-- No cab shows two films in a round of the day, exactly if no two bookings with a cab in common show in a common round.
-- Assumes nothing.
use Rattle.std.specs.Prelude.{◌≡◌, ◌↔◌, ◌⊎◌, Bool, true, false, cond, not, ◌&&◌, List, [], ◌∷◌, leb, ltb, eqb}
use Rattle.std.proofs.Math.Path.{refl}
use Rattle.std.proofs.Common.{sym, ap, ◌∙◌, true≢false, arith}
use Rattle.std.proofs.Math.Logic.{inl, inr}
use Prim.Native.Nat.{ℕ, zero, suc, ◌+◌, ◌≤◌, ◌<◌, min, max}
use Rattle.std.specs.Int.Bits.{bit_and}
use borrow.Author.Tests.{leb-true, ltb-true, le-leb, lt-ltb, eqb-true, eq-eqb, not-true}
use Rattle.laws.specs.Tests.{left, right, join, all}
use Rattle.laws.specs.Bits.{bit, bit-lt, bit-none, and-apart, apart-and}
use Rattle.model.specs.Day.{Setting, ends, shows_at, cabs_at, showing}
use Rattle.model.specs.declared.Booking.{Booking}

module _ (S : Setting) where
  -- ---- cabs by pairs

  -- two bookings with a cab in common show in a common round
  unfoldable pub clash : Booking → Booking → Bool
  clash b c =
      not (eqb (bit_and b.cabs c.cabs) 0)
      && ltb (max (b.start + b.prefetch) (c.start + c.prefetch)) (min (ends S b) (ends S c))

  abbrev pub pairs_clear : List Booking → Bool
  pairs_clear [] = true
  pairs_clear (b ∷ bs) = all (λ c. not (clash b c)) bs && pairs_clear bs

  shows-place : (t : ℕ) (b : Booking) → shows_at S t b ≡ true → (b.start + b.prefetch ≤ t) × (t < ends S b)
  unfolding shows_at
  shows-place t b e =
      (leb-true _ _ (left (leb (b.start + b.prefetch) t) (ltb t (ends S b)) e), ltb-true _ _ (right (leb (b.start + b.prefetch) t) e))

  place-shows : (t : ℕ) (b : Booking) → b.start + b.prefetch ≤ t → t < ends S b → shows_at S t b ≡ true
  unfolding shows_at
  place-shows t b u v = join (le-leb _ _ u) (lt-ltb _ _ v)

  bit_at : (k t : ℕ) (b : Booking) → bit k (cabs_at S t b) ≡ 1 → (shows_at S t b ≡ true) × (bit k b.cabs ≡ 1)
  bit_at k t b e = go (shows_at S t b) refl e
    where
      go : (o : Bool) → shows_at S t b ≡ o → bit k (cond o b.cabs 0) ≡ 1 → (shows_at S t b ≡ true) × (bit k b.cabs ≡ 1)
      go true u w = (u, w)
      go false u w = absurd (omega (arith, bit-none k))

  -- if b shows on cab k in round t, no booking that does not clash with it does
  no-clash : (b c : Booking) → not (clash b c) ≡ true → (t k : ℕ) → bit k (cabs_at S t b) ≡ 1 → bit k (cabs_at S t c) ≡ 0
  unfolding clash
  no-clash b c e t k u = go (decide (bit k (cabs_at S t c)) (bit-lt k (cabs_at S t c)))
    where
      decide : (x : ℕ) → x < 2 → (x ≡ 0) ⊎ (x ≡ 1)
      decide zero w = inl refl
      decide (suc zero) w = inr refl
      decide (suc (suc x)) w = absurd (omega arith)

      go : (bit k (cabs_at S t c) ≡ 0) ⊎ (bit k (cabs_at S t c) ≡ 1) → bit k (cabs_at S t c) ≡ 0
      go (inl w) = w
      go (inr w) =
          let x = bit_at k t b u in
          let y = bit_at k t c w in
          let p = shows-place t b x.0 in
          let q = shows-place t c y.0 in
          let meet : max (b.start + b.prefetch) (c.start + c.prefetch) < min (ends S b) (ends S c) = omega (arith, p, q) in
          let no-meet : not (eqb (bit_and b.cabs c.cabs) 0) && true ≡ false =
          ap (λ (o : Bool). not (eqb (bit_and b.cabs c.cabs) 0) && o) (sym (lt-ltb _ _ meet)) ∙ not-true _ e in
          absurd (disjoint (eqb (bit_and b.cabs c.cabs) 0) refl no-meet x.1 y.1)
        where
          disjoint : (v : Bool) → eqb (bit_and b.cabs c.cabs) 0 ≡ v → not v && true ≡ false → bit k b.cabs ≡ 1
              → bit k c.cabs ≡ 1 → ⊥
          disjoint true i j = and-apart b.cabs c.cabs (eqb-true _ 0 i) k
          disjoint false i j = absurd (true≢false j)

  none-shows : (b : Booking) (bs : List Booking) → all (λ c. not (clash b c)) bs ≡ true → (t k : ℕ)
      → bit k (cabs_at S t b) ≡ 1 → showing S k t bs ≡ 0
  none-shows b [] e t k u = refl
  none-shows b (c ∷ bs) e t k u =
      omega (arith, no-clash b c (left (not (clash b c)) (all (λ d. not (clash b d)) bs) e) t k u, none-shows b bs (right (not (clash b c)) e) t k u)

  pub pairs-showing : (bs : List Booking) → pairs_clear bs ≡ true → (t k : ℕ) → showing S k t bs ≤ 1
  pairs-showing [] e t k = omega arith
  pairs-showing (b ∷ bs) e t k = go (bit k (cabs_at S t b)) refl (bit-lt k (cabs_at S t b)) (pairs-showing bs (right (all (λ c. not (clash b c)) bs) e) t k)
    where
      go : (x : ℕ) → bit k (cabs_at S t b) ≡ x → x < 2 → showing S k t bs ≤ 1 → x + showing S k t bs ≤ 1
      go zero u w i = omega arith
      go (suc zero) u w i = omega (arith, none-shows b bs (left (all (λ c. not (clash b c)) bs) (pairs_clear bs) e) t k u)
      go (suc (suc x)) u w i = absurd (omega arith)

  -- the other way, for bookings that end within the day
  showing-pair : (b c : Booking) → ends S b ≤ S.rounds
      → ((t : ℕ) → t < S.rounds → (k : ℕ) → bit k (cabs_at S t b) + bit k (cabs_at S t c) ≤ 1) → not (clash b c) ≡ true
  unfolding clash
  showing-pair b c e f = go (ltb first last) refl
    where
      first : ℕ
      first = max (b.start + b.prefetch) (c.start + c.prefetch)

      last : ℕ
      last = min (ends S b) (ends S c)

      go : (o : Bool) → ltb first last ≡ o → not (not (eqb (bit_and b.cabs c.cabs) 0) && o) ≡ true
      go false u = flip (not (eqb (bit_and b.cabs c.cabs) 0))
        where
          flip : (x : Bool) → not (x && false) ≡ true
          flip true = refl
          flip false = refl
      go true u =
          let m : first < last = ltb-true first last u in
          let sb = place-shows first b (omega arith) (omega arith) in
          let sc = place-shows first c (omega arith) (omega arith) in
          let z : bit_and b.cabs c.cabs ≡ 0 =
          apart-and b.cabs c.cabs
          (λ k p q.
          let w = f first (omega arith) k in
          let eb : bit k (cabs_at S first b) ≡ bit k b.cabs = rw sb in
          let ec : bit k (cabs_at S first c) ≡ bit k c.cabs = rw sc in
          omega arith) in
          rw (eq-eqb (bit_and b.cabs c.cabs) 0 z)

  -- so the pairs' test says exactly that no cab shows two films in a round of the day
  showing-pairs : (bs : List Booking) → all (λ b. leb (ends S b) S.rounds) bs ≡ true
      → ((t : ℕ) → t < S.rounds → (k : ℕ) → showing S k t bs ≤ 1) → pairs_clear bs ≡ true
  showing-pairs [] e f = refl
  showing-pairs (b ∷ bs) e f =
      let eb : ends S b ≤ S.rounds = leb-true _ _ (left (leb (ends S b) S.rounds) (all (λ c. leb (ends S c) S.rounds) bs) e) in
      join (each bs eb f) (showing-pairs bs (right (leb (ends S b) S.rounds) e) (λ t u k. omega (arith, f t u k)))
    where
      each : (cs : List Booking) → ends S b ≤ S.rounds
          → ((t : ℕ) → t < S.rounds → (k : ℕ) → bit k (cabs_at S t b) + showing S k t cs ≤ 1) → all (λ c. not (clash b c)) cs ≡ true
      each [] eb g = refl
      each (c ∷ cs) eb g =
          join (showing-pair b c eb (λ t u k. omega (arith, g t u k))) (each cs eb (λ t u k. omega (arith, g t u k)))

  pub pairs-iff : (bs : List Booking) → all (λ b. leb (ends S b) S.rounds) bs ≡ true
      → (pairs_clear bs ≡ true) ↔ ((t : ℕ) → t < S.rounds → (k : ℕ) → showing S k t bs ≤ 1)
  pairs-iff bs e = (λ p t u k. pairs-showing bs p t k, showing-pairs bs e)
