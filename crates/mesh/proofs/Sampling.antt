-- The small meshes have the verdicts and the crossings that are said of them.
use Rattle.std.proofs.Common.{◌≡◌, ℕ, zero, suc, ◌<◌, ◌≤◌, List, [], ◌∷◌, Some, Option, refl, inl, inr, arith, lit<, lit≤}
use Rattle.mesh.specs.declared.joint.Joint.{Joint}
use Rattle.mesh.specs.Joints.{row, Ends, Absent, Itself, Taken, Sound}
use Rattle.mesh.specs.Checking.{AllSound}
use Rattle.mesh.specs.Samples.{five, joint, ring, SampleVerdicts, SampleCrossings}
use Rattle.mesh.proofs.Leading.{crosses_end}

-- a row of literals: present where its parts are small
small : (roots r a r' b t : ℕ) → r < roots → r' < roots → a < 5 → b < 5 → t ≤ 1 → Absent five roots (joint r a r' b t) → ⊥
small roots r a r' b t hr hr' ha hb ht (inl x) = omega arith
small roots r a r' b t hr hr' ha hb ht (inr (inl x)) = omega arith
small roots r a r' b t hr hr' ha hb ht (inr (inr (inl x))) = omega arith
small roots r a r' b t hr hr' ha hb ht (inr (inr (inr (inl x)))) = omega arith
small roots r a r' b t hr hr' ha hb ht (inr (inr (inr (inr x)))) = omega arith

-- the first row is free where it joins two faces
first_free : (j : Joint) (js : List Joint) → (Itself j → ⊥) → Taken (j ∷ js) 0 → ⊥
first_free j js ne (inl x) = ne x
first_free j js ne (inr (inl (i, less, x))) = omega arith
first_free j js ne (inr (inr (i, less, x))) = omega arith

ring_second : Taken ring 1 → ⊥
ring_second (inl (x, y)) = omega (arith, x)
ring_second (inr (inl (zero, less, inl (x, y)))) = omega (arith, x)
ring_second (inr (inl (zero, less, inr (x, y)))) = omega (arith, y)
ring_second (inr (inl (suc i, less, x))) = omega (arith, less)
ring_second (inr (inr (zero, less, inl (x, y)))) = omega (arith, y)
ring_second (inr (inr (zero, less, inr (x, y)))) = omega (arith, x)
ring_second (inr (inr (suc i, less, x))) = omega (arith, less)

ring_sound : AllSound five 2 ring
ring_sound zero hi = record {
  present = small 2 0 1 1 2 0 (lit< tt) (lit< tt) (lit< tt) (lit< tt) (lit≤ tt);
  alike = λ d. d refl;
  free = first_free (joint 0 1 1 2 0) (joint 1 1 0 2 1 ∷ []) (λ x. omega (arith, x.0));
}
ring_sound (suc zero) hi = record {
  present = small 2 1 1 0 2 1 (lit< tt) (lit< tt) (lit< tt) (lit< tt) (lit≤ tt);
  alike = λ d. d refl;
  free = ring_second;
}
ring_sound (suc (suc i)) hi = absurd (omega (arith, hi))

loop_sound : AllSound five 1 (joint 0 0 0 1 0 ∷ [])
loop_sound zero hi = record {
  present = small 1 0 0 0 1 0 (lit< tt) (lit< tt) (lit< tt) (lit< tt) (lit≤ tt);
  alike = λ d. d refl;
  free = first_free (joint 0 0 0 1 0) [] (λ x. omega (arith, x.1));
}
loop_sound (suc i) hi = absurd (omega (arith, hi))

twice_before : (i : ℕ) → i < 1 → Sound five 2 (joint 0 1 1 2 0 ∷ joint 1 2 0 0 0 ∷ []) i
twice_before zero less = record {
  present = small 2 0 1 1 2 0 (lit< tt) (lit< tt) (lit< tt) (lit< tt) (lit≤ tt);
  alike = λ d. d refl;
  free = first_free (joint 0 1 1 2 0) (joint 1 2 0 0 0 ∷ []) (λ x. omega (arith, x.0));
}
twice_before (suc i) less = absurd (omega (arith, less))

pub sample_verdicts : SampleVerdicts
sample_verdicts = record {
  ring_stands = ((lit≤ tt, lit≤ tt, lit≤ tt), ring_sound);
  loop_stands = ((lit≤ tt, lit≤ tt, lit≤ tt), loop_sound);
  many_roots = inl (refl, refl, λ k. omega (arith, k.1));
  turn_two = inr (record {
    counts = (lit≤ tt, lit≤ tt, lit≤ tt);
    i = 0;
    is_row = lit< tt;
    counted = refl;
    before = λ i less. absurd (omega (arith, less));
    faulty = inl (refl, inr (inr (inr (inr (lit< tt)))));
  });
  two_sorts = inr (record {
    counts = (lit≤ tt, lit≤ tt, lit≤ tt);
    i = 0;
    is_row = lit< tt;
    counted = refl;
    before = λ i less. absurd (omega (arith, less));
    faulty = inr (inl (
      refl,
      small 2 0 1 1 3 0 (lit< tt) (lit< tt) (lit< tt) (lit< tt) (lit≤ tt),
      λ e. (let s : ◌≡◌ {A = Option ℕ} (Some 0) (Some 1) = e in let z : ◌≡◌ {A = ℕ} 0 1 = cc in omega arith),
    ));
  });
  twice = inr (record {
    counts = (lit≤ tt, lit≤ tt, lit≤ tt);
    i = 1;
    is_row = lit< tt;
    counted = refl;
    before = twice_before;
    faulty = inr (inr (refl, small 2 1 2 0 0 0 (lit< tt) (lit< tt) (lit< tt) (lit< tt) (lit≤ tt), λ d. d refl, inr (inl (0, lit< tt, inr (refl, refl)))));
  });
  row_first = inr (record {
    counts = (lit≤ tt, lit≤ tt, lit≤ tt);
    i = 0;
    is_row = lit< tt;
    counted = refl;
    before = λ i less. absurd (omega (arith, less));
    faulty = inr (inr (refl, small 1 0 0 0 0 0 (lit< tt) (lit< tt) (lit< tt) (lit< tt) (lit≤ tt), λ d. d refl, inl (refl, refl)));
  });
}

-- row 2 is the first with the face 2 of root 0 at an end
not_first : (i : ℕ) → i < 1 → Ends (row ring i) 0 2 → ⊥
not_first zero less (inl (x, y)) = omega (arith, y)
not_first zero less (inr (x, y)) = omega (arith, x)
not_first (suc i) less x = omega (arith, less)

no_end : (i : ℕ) → i < 2 → Ends (row ring i) 0 0 → ⊥
no_end zero less (inl (x, y)) = omega (arith, y)
no_end zero less (inr (x, y)) = omega (arith, x)
no_end (suc zero) less (inl (x, y)) = omega (arith, x)
no_end (suc zero) less (inr (x, y)) = omega (arith, y)
no_end (suc (suc i)) less x = omega (arith, less)

pub sample_crossings : SampleCrossings
sample_crossings = record {
  kept = record {
    there = (lit≤ tt, lit< tt, lit< tt);
    at_row = 0;
    is_row = lit< tt;
    first = λ i less x. omega (arith, less);
    passes = inl (refl, refl, refl, refl);
    turns = inl (refl, refl);
  };
  turned = record {
    there = (lit≤ tt, lit< tt, lit< tt);
    at_row = 1;
    is_row = lit< tt;
    first = not_first;
    passes = inr ((λ p q. omega (arith, p)), refl, refl, refl, refl);
    turns = inr (refl, 0, refl, refl);
  };
  rim = λ r' b n' x. no_end x.at_row x.is_row (crosses_end five ring 2 0 0 1 r' b n' x);
}
