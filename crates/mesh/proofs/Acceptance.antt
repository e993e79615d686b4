-- The rows of a mesh are all sound exactly where they are joined.
use Rattle.std.proofs.Common.{◌≡◌, ℕ, ◌<◌, ◌≤◌, ◌⊎◌, List, length, Some, None, Option, sym, refl, ap, ◌∙◌, inl, inr, arith}
use Rattle.std.proofs.lemmas.Bool.{cases_order, cases_eq, cases_lt}
use Rattle.mesh.specs.declared.joint.Joint.{Joint}
use Rattle.mesh.specs.Joints.{row, Ends, Absent, Taken, Sound, RowIn, Joined}
use Rattle.mesh.specs.Checking.{AllSound, AcceptedJoined}
use Rattle.scheme.specs.Scheme.{Model}

-- sorts that are not different are the same
same_sort : (o o' : Option ℕ) → ((o ≡ o' → ⊥) → ⊥) → o ≡ o'
same_sort None None h = refl
same_sort None (Some y) h = absurd (h (λ e. cc))
same_sort (Some x) None h = absurd (h (λ e. cc))
same_sort (Some x) (Some y) h = go (cases_eq x y)
  where
    go : (x ≡ y) ⊎ (x ≡ y → ⊥) → Some x ≡ Some y
    go (inl e) = ap (λ n. Some n) e
    go (inr ne) = absurd (h (λ e. ne (cc)))

ends_same : (j : Joint) (r a r' a' : ℕ) → r' ≡ r → a' ≡ a → Ends j r a → Ends j r' a'
ends_same j r a r' a' p q (inl (x, y)) = inl (x ∙ sym p, y ∙ sym q)
ends_same j r a r' a' p q (inr (x, y)) = inr (x ∙ sym p, y ∙ sym q)

module _ (m : Model) (roots : ℕ) (js : List Joint) where
  -- of two rows with one root face at an end, the later is not free
  ends_taken : (i i' r a : ℕ) → i < i' → Ends (row js i) r a → Ends (row js i') r a → Taken js i'
  ends_taken i i' r a less x (inl (p, q)) = inr (inl (i, less, ends_same (row js i) r a (row js i').root (row js i').face p q x))
  ends_taken i i' r a less x (inr (p, q)) = inr (inr (i, less, ends_same (row js i) r a (row js i').other_root (row js i').other_face p q x))

  sound_row : (i : ℕ) → Sound m roots js i → RowIn m roots (row js i)
  sound_row i s =
      let j : Joint = row js i in
      let below : (a b : ℕ) → (b ≤ a → ⊥) → a < b = λ a b h. (elim (cases_lt a b) [ inl x ↦ x | inr x ↦ absurd (h x) ]) in
      record {
        one = (below j.root roots (λ x. s.present (inl x)), below j.face m.F (λ x. s.present (inr (inr (inl x)))));
        other = (below j.other_root roots (λ x. s.present (inr (inl x))), below j.other_face m.F (λ x. s.present (inr (inr (inr (inl x))))));
        turns = elim (cases_lt 1 j.turn) [ inl x ↦ absurd (s.present (inr (inr (inr (inr x))))) | inr x ↦ x ];
        sorts = same_sort (m.sort j.face) (m.sort j.other_face) s.alike;
        distinct = λ p q. s.free (inl (p, q));
      }

  pub sound_joined : AllSound m roots js → Joined m roots js
  sound_joined s = record { rows = λ i hi. sound_row i (s i hi); once = once }
    where
      once : (i i' r a : ℕ) → i < length js → i' < length js → Ends (row js i) r a → Ends (row js i') r a → i ≡ i'
      once i i' r a hi hi' x y = elim (cases_order i i') [
        | inl e ↦ e
        | inr (inl less) ↦ absurd ((s i' hi').free (ends_taken i i' r a less x y))
        | inr (inr less) ↦ absurd ((s i hi).free (ends_taken i' i r a less y x))
      ]

  present : (j : Joint) → RowIn m roots j → Absent m roots j → ⊥
  present j x (inl h) = omega (arith, x.one.0)
  present j x (inr (inl h)) = omega (arith, x.other.0)
  present j x (inr (inr (inl h))) = omega (arith, x.one.1)
  present j x (inr (inr (inr (inl h)))) = omega (arith, x.other.1)
  present j x (inr (inr (inr (inr h)))) = omega (arith, x.turns)

  free : Joined m roots js → (i : ℕ) → i < length js → Taken js i → ⊥
  free x i hi (inl (p, q)) = (x.rows i hi).distinct p q
  free x i hi (inr (inl (i', less, e))) =
      let same = x.once i' i (row js i).root (row js i).face (omega arith) hi e (inl (refl, refl)) in omega (arith, same)
  free x i hi (inr (inr (i', less, e))) =
      let same = x.once i' i (row js i).other_root (row js i).other_face (omega arith) hi e (inr (refl, refl)) in omega (arith, same)

  pub joined_sound : Joined m roots js → AllSound m roots js
  joined_sound x i hi = record {
    present = present (row js i) (x.rows i hi);
    alike = λ d. d (x.rows i hi).sorts;
    free = free x i hi;
  }

pub accepted_joined : AcceptedJoined
accepted_joined m roots js = (λ v. (v.0, sound_joined m roots js v.1), λ x. (x.0, joined_sound m roots js x.1))
