-- Answers within the bounds of a model are within those of any model of its width and faces.
use Rattle.std.specs.Prelude.{◌≡◌, ℕ, ◌-◌, ◌^◌, ◌<◌, Some, None, Option}
use Rattle.std.proofs.Common.{subst}
use Rattle.scheme.specs.declared.crossing.Crossing.{Crossing}
use Rattle.scheme.specs.declared.crossing.Crossing.TheVariants.{Inside, Edge}
use Rattle.scheme.specs.Scheme.{Model, CrossedIn, FaceIn}

module _ (m m' : Model) (ew : m.w ≡ m'.w) (ef : m.F ≡ m'.F) where
  pub crossed_alike : (l : ℕ) (o : Option Crossing) → CrossedIn m l o → CrossedIn m' l o
  crossed_alike l None x = x
  crossed_alike l (Some (Inside (q, g))) x = (subst (λ w. q < (2 ^ w) ^ l) ew x.0, subst (λ n. g < n) ef x.1)
  crossed_alike l (Some (Edge g n)) x = (subst (λ c. g < c) ef x.0, subst (λ w. n < (2 ^ (w - 1)) ^ l) ew x.1)

  pub face_alike : (b : ℕ) (o : Option (ℕ × ℕ)) → FaceIn m b o → FaceIn m' b o
  face_alike b None x = x
  face_alike b (Some (i, a)) x = (x.0, subst (λ n. a < n) ef x.1)
