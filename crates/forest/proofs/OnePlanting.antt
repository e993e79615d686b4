-- Planting has one answer: its checks exclude each other, and the mesh has one verdict.
use Rattle.std.proofs.Common.{◌≡◌, ℕ, ◌*◌, ◌^◌, ◌≤◌, List, Ok, Err, sym, refl, ap, ◌∙◌, arith}
use Rattle.scheme.specs.Scheme.{Model, k}
use Rattle.mesh.specs.declared.joint.Joint.{Joint}
use Rattle.mesh.specs.declared.fault.MeshFault.{MeshFault}
use Rattle.mesh.specs.Checking.{Verdict}
use Rattle.mesh.proofs.Verdicts.{one_verdict}
use Rattle.forest.specs.declared.forest.Forest.{Forest}
use Rattle.forest.specs.declared.fault.PlantFault.{PlantFault}
use Rattle.forest.specs.declared.fault.PlantFault.TheVariants.{Mesh, TooDeep, NoRoom}
use Rattle.forest.specs.Planting.{Sound, Stopped, Grown, Dead, OnePlanting}

module _ (m : Model) (roots : ℕ) (js : List Joint) (l cap : ℕ) where
  -- a sound mesh has no fault
  sound_not : (f : MeshFault) → Sound m roots js → Verdict m roots js (Err f) → ⊥
  sound_not f s v = cc (one_verdict m roots js (Ok tt) (Err f) s v)

  one_fault : (f f' : MeshFault) → Verdict m roots js (Err f) → Verdict m roots js (Err f') → f ≡ f'
  one_fault f f' v v' = cc (one_verdict m roots js (Err f) (Err f') v v')

  -- a planting that stops is not granted
  pub not_both : (e : PlantFault) → Stopped m roots js l cap e → Sound m roots js → l ≤ m.D → roots * k m ^ l ≤ cap → ⊥
  not_both (Mesh f) x s le room = sound_not f s x
  not_both TooDeep x s le room = omega (arith, x.1)
  not_both NoRoom x s le room = omega (arith, x.2)

  pub one_stop : (e e' : PlantFault) → Stopped m roots js l cap e → Stopped m roots js l cap e' → e ≡ e'
  one_stop (Mesh f) (Mesh f') x y = ap Mesh (one_fault f f' x y)
  one_stop (Mesh f) TooDeep x y = absurd (sound_not f y.0 x)
  one_stop (Mesh f) NoRoom x y = absurd (sound_not f y.0 x)
  one_stop TooDeep (Mesh f) x y = absurd (sound_not f x.0 y)
  one_stop TooDeep TooDeep x y = refl
  one_stop TooDeep NoRoom x y = absurd (omega (arith, x.1, y.1))
  one_stop NoRoom (Mesh f) x y = absurd (sound_not f x.0 y)
  one_stop NoRoom TooDeep x y = absurd (omega (arith, x.1, y.1))
  one_stop NoRoom NoRoom x y = refl

  grown_not_dead : (f f' : Forest) (n : ℕ) (e : PlantFault) → Grown m roots js l cap f n → Dead m roots js l cap f' e → ⊥
  grown_not_dead f f' n e x y = not_both e y.why x.sound x.shallow (omega (arith, x.count, x.room))

pub one_planting : OnePlanting
one_planting m roots js l cap f f' (Ok n) (Ok n') x y = (ap Ok (x.count ∙ sym y.count), x.even ∙ sym y.even)
one_planting m roots js l cap f f' (Ok n) (Err e) x y = absurd (grown_not_dead m roots js l cap f f' n e x y)
one_planting m roots js l cap f f' (Err e) (Ok n) x y = absurd (grown_not_dead m roots js l cap f' f n e y x)
one_planting m roots js l cap f f' (Err e) (Err e') x y = (ap Err (one_stop m roots js l cap e e' x.why y.why), x.none ∙ sym y.none)
