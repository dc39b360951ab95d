-- The new stream's profile, worked out into a list of zeros. Assumes nothing.
use Rattle.std.specs.Prelude.{◌≡◌, refl, List, [], ◌∷◌, ℕ, zero, suc, ◌≤◌, length, take, replicate}
use Rattle.std.proofs.Common.{sym, ap, ap₂, ◌∙◌, take_all, arith}
use Rattle.std.proofs.lemmas.List.{length-replicate}
use Rattle.std.proofs.Math.Seq.{slice}
use Rattle.retrieval.specs.Stored.{sends_at, InRange}
use Rattle.retrieval.proofs.Stored.{held-bound, length-sends_at, length-profile}
use Rattle.retrieval.specs.Sheet.{plus, held_in, Adds}
use Rattle.retrieval.proofs.SheetLaws.{held_in-small, largest-zeros, room-largest, adds-whole}
use Rattle.load.specs.Stream.{length_of, profile_of}
use Rattle.load.specs.declared.stream.Stream.{Stream}
use Rattle.search.specs.Fit.{HeldRows}

plus-zeros : (m : ℕ) (hs : List ℕ) → length hs ≤ m → take (length hs) (plus (replicate m 0) hs) ≡ hs
plus-zeros m [] h = refl
plus-zeros zero (x ∷ hs) h = absurd (omega arith)
plus-zeros (suc m) (x ∷ hs) h = ap₂ (λ (y : ℕ) (ys : List ℕ). y ∷ ys) (omega arith) (plus-zeros m hs (omega arith))

module _ (f : List ℕ) (y : Stream) (m : ℕ) (film : InRange f y.at y.rounds y.prefetch y.reserve) (room : length_of y ≤ m) where
  pub adds-zeros : Adds (replicate m 0) (sends_at f y.at y.rounds y.prefetch) y.reserve 0 (length_of y) 0
  adds-zeros =
      let zeros : List ℕ = replicate m 0 in
      let held : List ℕ = held_in f y.at y.rounds y.prefetch y.reserve 0 (length_of y) in
      adds-whole zeros f y.at y.rounds y.prefetch y.reserve (omega (arith, length-replicate m zero))
      (room-largest zeros held (omega (arith, largest-zeros m, held_in-small f y.at y.rounds y.prefetch y.reserve 0 (length_of y) film.stored)))

  length-worked : length (profile_of f y) ≡ length_of y
  length-worked = omega (arith, length-profile y.reserve (sends_at f y.at y.rounds y.prefetch), length-sends_at f y.at y.rounds y.prefetch)

  -- the places that the profile was added to are the profile
  pub worked : (n : ℕ) (part : List ℕ) → n ≡ length_of y → part ≡ plus (replicate m 0) (slice 0 n (profile_of f y)) → take n part ≡ profile_of f y
  worked n part e w =
      ap (take n) w
      ∙ ap₂ (λ (k : ℕ) (hs : List ℕ). take k (plus (replicate m 0) hs)) (e ∙ sym length-worked) (take_all n (profile_of f y) (omega (arith, length-worked)))
      ∙ plus-zeros m (profile_of f y) (omega (arith, length-worked))

  pub profile-rows : HeldRows (profile_of f y) (length_of y)
  profile-rows = record { long = omega (arith, length-worked); small = λ j h. omega (arith, held-bound f y.at y.rounds y.prefetch y.reserve j film.stored) }
