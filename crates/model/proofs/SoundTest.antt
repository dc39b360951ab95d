-- The soundness of a list as the code asks it: each record's own questions but 12, then 12, then limits and cabs. Assumes nothing.
use Rattle.std.specs.Prelude.{◌≡◌, Bool, ◌&&◌, List, [], ◌∷◌, eqb}
use Rattle.std.proofs.Math.Path.{refl, ap}
use Rattle.std.proofs.Common.{ap₂, ◌∙◌}
use Rattle.std.proofs.Math.Bool.{true, false, not}
use Rattle.std.proofs.Math.Dec.{leb}
use borrow.Author.Tests.{leb-true, le-leb}
use Rattle.laws.specs.Tests.{left, right, join, all}
use Rattle.limits.specs.Bounds.{max_prefetch, max_reserve}
use Rattle.films.specs.Layout.{in_file}
use Rattle.retrieval.proofs.Tests.{same_test}
use Rattle.model.specs.Day.{Setting, ends, exists}
use Rattle.model.specs.Soundness.{names_differ, passes, limits_kept, sound_list}
use Rattle.model.proofs.SoundLaws.{passes-held, held-passes}
use Rattle.model.specs.declared.Booking.{Booking}
use Rattle.model.specs.SoundTest.{basic}

module _ (S : Setting) where
  passes-both : (b : Booking) → passes S b ≡ true → (basic S) b && exists S b ≡ true
  unfolding basic
  passes-both b e =
      let v = passes-held S b e in
      let p = v.0 in
      join (join p.film (join (le-leb _ _ p.prefetch) (join (le-leb _ _ p.reserve) (join p.cabs (le-leb _ _ v.1))))) p.exist

  both-passes : (b : Booking) → (basic S) b && exists S b ≡ true → passes S b ≡ true
  unfolding basic
  both-passes b both =
      let film = in_file S.films b.film in
      let prefetch = leb b.prefetch max_prefetch in
      let reserve = leb b.reserve max_reserve in
      let cabs = not (eqb b.cabs 0) in
      let end = leb (ends S b) S.rounds in
      let e : film && (prefetch && (reserve && (cabs && end))) ≡ true = left (film && (prefetch && (reserve && (cabs && end)))) (exists S b) both in
      let e9 : prefetch && (reserve && (cabs && end)) ≡ true = right film e in
      let e10 : reserve && (cabs && end) ≡ true = right prefetch e9 in
      let e20 : cabs && end ≡ true = right reserve e10 in
      held-passes S b (record {
        film = left film (prefetch && (reserve && (cabs && end))) e;
        prefetch = leb-true _ _ (left prefetch (reserve && (cabs && end)) e9);
        reserve = leb-true _ _ (left reserve (cabs && end) e10);
        cabs = left cabs end e20;
        exist = right (film && (prefetch && (reserve && (cabs && end)))) both;
      }) (leb-true _ _ (right cabs e20))

  all-passes : (bs : List Booking) → all (passes S) bs ≡ all (basic S) bs && all (exists S) bs
  all-passes [] = refl
  all-passes (b ∷ bs) =
      ap₂ (λ (u v : Bool). u && v) (same_test (passes S b) ((basic S) b && exists S b) (passes-both b) (both-passes b)) (all-passes bs)
      ∙ swap ((basic S) b) (exists S b) (all (basic S) bs) (all (exists S) bs)
    where
      swap : (u v w z : Bool) → (u && v) && (w && z) ≡ (u && w) && (v && z)
      swap true true w z = refl
      swap true false true z = refl
      swap true false false z = refl
      swap false v w z = refl

  pub sound-test : (bs : List Booking) → sound_list S bs ≡ names_differ bs && (all (basic S) bs && (all (exists S) bs && limits_kept S bs))
  unfolding sound_list
  sound-test bs =
      ap (λ (v : Bool). names_differ bs && (v && limits_kept S bs)) (all-passes bs)
      ∙ ap (λ (v : Bool). names_differ bs && v) (group (all (basic S) bs) (all (exists S) bs) (limits_kept S bs))
    where
      group : (u v w : Bool) → (u && v) && w ≡ u && (v && w)
      group true v w = refl
      group false v w = refl
