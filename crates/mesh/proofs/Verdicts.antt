-- A mesh has at most one verdict.
use Rattle.std.proofs.Common.{◌≡◌, ℕ, suc, ◌<◌, ◌⊎◌, List, Ok, Err, sym, refl, ap, ◌∙◌, inl, inr, arith}
use Rattle.std.proofs.lemmas.Bool.{cases_order}
use Rattle.mesh.specs.declared.joint.Joint.{Joint}
use Rattle.mesh.specs.declared.fault.MeshFault.{MeshFault}
use Rattle.mesh.specs.declared.fault.MeshFault.TheVariants.{Counts, Absent, SortsDiffer, Taken}
use Rattle.mesh.specs.Faults.{told}
use Rattle.mesh.specs.Joints.{Sound}
use Rattle.mesh.specs.Checking.{Faulty, FirstFault, Refused, Verdict, OneVerdict}
use Rattle.scheme.specs.Scheme.{Model}

-- a fault is told by its number and its place
told_same : (f f' : MeshFault) → (told f).0 ≡ (told f').0 → (told f).1 ≡ (told f').1 → f ≡ f'
told_same Counts Counts e p = refl
told_same Counts (Absent i) e p = absurd (omega (arith, e))
told_same Counts (SortsDiffer i) e p = absurd (omega (arith, e))
told_same Counts (Taken i) e p = absurd (omega (arith, e))
told_same (Absent i) Counts e p = absurd (omega (arith, e))
told_same (Absent i) (Absent i') e p = ap (λ n. Absent n) p
told_same (Absent i) (SortsDiffer i') e p = absurd (omega (arith, e))
told_same (Absent i) (Taken i') e p = absurd (omega (arith, e))
told_same (SortsDiffer i) Counts e p = absurd (omega (arith, e))
told_same (SortsDiffer i) (Absent i') e p = absurd (omega (arith, e))
told_same (SortsDiffer i) (SortsDiffer i') e p = ap (λ n. SortsDiffer n) p
told_same (SortsDiffer i) (Taken i') e p = absurd (omega (arith, e))
told_same (Taken i) Counts e p = absurd (omega (arith, e))
told_same (Taken i) (Absent i') e p = absurd (omega (arith, e))
told_same (Taken i) (SortsDiffer i') e p = absurd (omega (arith, e))
told_same (Taken i) (Taken i') e p = ap (λ n. Taken n) p

module _ (m : Model) (roots : ℕ) (js : List Joint) where
  pub faulty_unsound : (i n : ℕ) → Faulty m roots js i n → Sound m roots js i → ⊥
  faulty_unsound i n (inl x) s = s.present x.1
  faulty_unsound i n (inr (inl x)) s = s.alike x.2
  faulty_unsound i n (inr (inr x)) s = s.free x.3

  faulty_one : (i n n' : ℕ) → Faulty m roots js i n → Faulty m roots js i n' → n ≡ n'
  faulty_one i n n' (inl x) (inl y) = x.0 ∙ sym y.0
  faulty_one i n n' (inl x) (inr (inl y)) = absurd (y.1 x.1)
  faulty_one i n n' (inl x) (inr (inr y)) = absurd (y.1 x.1)
  faulty_one i n n' (inr (inl x)) (inl y) = absurd (x.1 y.1)
  faulty_one i n n' (inr (inl x)) (inr (inl y)) = x.0 ∙ sym y.0
  faulty_one i n n' (inr (inl x)) (inr (inr y)) = absurd (y.2 x.2)
  faulty_one i n n' (inr (inr x)) (inl y) = absurd (x.1 y.1)
  faulty_one i n n' (inr (inr x)) (inr (inl y)) = absurd (x.2 y.2)
  faulty_one i n n' (inr (inr x)) (inr (inr y)) = x.0 ∙ sym y.0

  first_one : (n p n' p' : ℕ) → FirstFault m roots js n p → FirstFault m roots js n' p' → (n ≡ n') × (p ≡ p')
  first_one n p n' p' x y = go (cases_order x.i y.i)
    where
      go : (x.i ≡ y.i) ⊎ ((x.i < y.i) ⊎ (y.i < x.i)) → (n ≡ n') × (p ≡ p')
      go (inl e) =
          let f : Faulty m roots js y.i n = rw e at x.faulty in
          (faulty_one y.i n n' f y.faulty, x.counted ∙ ap (λ i. suc i) e ∙ sym y.counted)
      go (inr (inl less)) = absurd (faulty_unsound x.i n x.faulty (y.before x.i less))
      go (inr (inr less)) = absurd (faulty_unsound y.i n' y.faulty (x.before y.i less))

  refused_one : (t t' : ℕ × ℕ) → Refused m roots js t → Refused m roots js t' → (t.0 ≡ t'.0) × (t.1 ≡ t'.1)
  refused_one t t' (inl x) (inl y) = (x.0 ∙ sym y.0, x.1 ∙ sym y.1)
  refused_one t t' (inl x) (inr y) = absurd (x.2 y.counts)
  refused_one t t' (inr x) (inl y) = absurd (y.2 x.counts)
  refused_one t t' (inr x) (inr y) = first_one t.0 t.1 t'.0 t'.1 x y

  refused_not_ok : (u : Unit {0}) (t : ℕ × ℕ) → Verdict m roots js (Ok u) → Refused m roots js t → ⊥
  refused_not_ok u t v (inl x) = x.2 v.0
  refused_not_ok u t v (inr x) = faulty_unsound x.i t.0 x.faulty (v.1 x.i x.is_row)

pub one_verdict : OneVerdict
one_verdict m roots js (Ok u) (Ok u') x y = refl
one_verdict m roots js (Ok u) (Err f) x y = absurd (refused_not_ok m roots js u (told f) x y)
one_verdict m roots js (Err f) (Ok u) x y = absurd (refused_not_ok m roots js u (told f) y x)
one_verdict m roots js (Err f) (Err f') x y =
    let z = refused_one m roots js (told f) (told f') x y in
    ap (λ e. Err e) (told_same f f' z.0 z.1)
