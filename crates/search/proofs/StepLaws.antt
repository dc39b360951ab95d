-- What a step of the search finds out, from its four tests. Assumes nothing.
use Rattle.std.specs.Prelude.{◌≡◌, refl, true, false, Option, Some, None, option_map, find, ℕ, ◌+◌, ◌-◌, ◌≤◌, ◌<◌, max}
use Rattle.std.proofs.Math.Decide.{dec_le}
use Rattle.std.proofs.Common.{arith}
use Rattle.load.specs.Stream.{length_of, end_of, clashes}
use Rattle.load.specs.declared.stream.Stream.{Stream}
use Rattle.search.specs.Fit.{Query, start_at, disk_free, memory_free, fits_at}
use Rattle.search.specs.Search.{after_clash, Clear, Skips, NoneFits}
use Rattle.search.proofs.FitLaws.{fits-cabs, fits_all, disk-rules-out, memory-rules-out, clash-later, clashes-found, clashes-none, clashes-some}

module _ (q : Query) where
  clear-on : (s u clear : ℕ) → s ≤ u → Clear q s clear → Clear q u clear
  clear-on s u clear h k = record { near = omega (arith, k.near); free = λ t l m. k.free t (omega arith) m }

  -- a round over the memory limit: only the start itself is ruled out
  pub skip-memory : (s j clear : ℕ) → memory_free q s j ≡ false → j < length_of q.stream → Clear q s clear → Skips q s (s + 1) clear
  skip-memory s j clear b h k =
      record {
        later = omega arith;
        none = λ u l m. memory-rules-out q s j b h u l (omega arith);
        known = clear-on s (s + 1) clear (omega arith) k;
      }

  -- the last round that the disk cannot take: every start that covers it
  pub skip-disk : (s a t e : ℕ) → s ≤ a → a ≤ t → t < e → disk_free q t ≡ false → ((u : ℕ) → t < u → u < e → disk_free q u ≡ true)
      → e ≡ s + length_of q.stream → Skips q s (t + 1) e
  skip-disk s a t e h l m b f z =
      record {
        later = omega arith;
        none = λ u g k. disk-rules-out q s t b (omega arith) u g (omega arith);
        known = record { near = omega arith; free = λ u g k. f u (omega arith) k };
      }

  -- no such round: all rounds of the start are free for the disk
  pub clear-all : (s clear a e : ℕ) → Clear q s clear → a ≡ max s clear → ((t : ℕ) → a ≤ t → t < e → disk_free q t ≡ true)
      → e ≡ s + length_of q.stream → Clear q s e
  clear-all s clear a e k m f z = record { near = omega arith; free = λ t l n. go t l n (dec_le clear t) }
    where
      go : (t : ℕ) → s ≤ t → t < e → Dec (clear ≤ t) → disk_free q t ≡ true
      go t l n (yes d) = f t (omega arith) n
      go t l n (no d) = k.free t l (omega arith)

  -- a clash: every start until the other stream has ended
  pub skip-cabs : (s next clear : ℕ) → Clear q s clear → after_clash q s ≡ Some next → Skips q s next clear
  skip-cabs s next clear k e = go (find (λ x. clashes x (start_at s q.stream)) q.standing) refl e
    where
      go : (o : Option Stream) → find (λ x. clashes x (start_at s q.stream)) q.standing ≡ o
          → option_map (λ x. end_of x - q.stream.prefetch) o ≡ Some next → Skips q s next clear
      go None f e = absurd cc
      go (Some x) f e =
          let same : end_of x - q.stream.prefetch ≡ next = cc in
          let later = clash-later x q.stream s (clashes-found q.standing x q.stream s f) in
          record {
            later = omega arith;
            none = λ u l m g. clashes-some q.standing x q.stream s u f l (omega arith) (fits-cabs q u g);
            known = clear-on s next clear (omega arith) k;
          }

  -- nothing stands against the start
  pub fits-now : (s e : ℕ) → Clear q s e → e ≡ s + length_of q.stream → after_clash q s ≡ None
      → ((j : ℕ) → j < length_of q.stream → memory_free q s j ≡ true) → fits_at q s ≡ true
  fits-now s e k z c m = fits_all q s (λ t l h. k.free t l (omega arith)) m (clashes-none q.standing q.stream s (none-found (find (λ x. clashes x (start_at s q.stream)) q.standing) c))
    where
      none-found : (o : Option Stream) → option_map (λ x. end_of x - q.stream.prefetch) o ≡ None → o ≡ None
      none-found None e = refl
      none-found (Some x) e = absurd cc

  -- one stretch of starts after another
  pub none-on : (a s e : ℕ) → NoneFits q a s → NoneFits q s e → NoneFits q a e
  none-on a s e f g u h k = go (dec_le s u)
    where
      go : Dec (s ≤ u) → fits_at q u ≡ true → ⊥
      go (yes l) = g u l k
      go (no l) = f u h (omega arith)
