-- The line keeps the bounds and the six laws, at every depth.
use Rattle.std.specs.Prelude.{◌≡◌, ℕ, zero, suc, ◌+◌, ◌-◌, ◌*◌, ◌^◌, ◌<◌, ◌≤◌, ◌⊎◌, Some, Option, ◌≢◌, refl}
use Rattle.std.proofs.Common.{sym, ◌∙◌, ap, inl, inr, arith, pow_pos, pow-suc}
use Rattle.std.proofs.Math.Decide.{ℕ_discrete}
use Rattle.std.proofs.lemmas.Bool.Decides.{nat_tests}
use Rattle.scheme.specs.declared.crossing.Crossing.TheVariants.{Inside, Edge}
use Rattle.shapes.specs.Segment.{line_across, line_at_edge, line_face_child, line, AllEdgesBreakTheLaws}
use Rattle.scheme.specs.Scheme.{Belongs, Lawful, Bounded}

one_pow : (l : ℕ) → 1 ^ l ≡ 1
one_pow zero = refl
one_pow (suc l) = rw (pow-suc, one_pow l)

module _ (D : ℕ) (deep : D ≤ 18) where
  line_back : (l p f q g : ℕ) → line_across D l p f ≡ Some (Inside (q, g)) → line_across D l q g ≡ Some (Inside (p, f))
  line_back l p f q g x = grind (arith, nat_tests)

  line_edge_to : (l p f g n : ℕ) → line_across D l p f ≡ Some (Edge g n) → line_at_edge D l g n ≡ Some (p, f)
  line_edge_to l p f g n x = grind (arith, nat_tests)

  line_edge_from : (l p f g n : ℕ) → line_at_edge D l g n ≡ Some (p, f) → line_across D l p f ≡ Some (Edge g n)
  line_edge_from l p f g n x = grind (arith, nat_tests, pow_pos l)

  line_rise : (l p f j i a j' i' a' : ℕ) → line_face_child D l p f j ≡ Some (i, a) → line_face_child D l p f j' ≡ Some (i', a') → j < j' → i < i'
  line_rise l p f j i a j' i' a' x y lt = grind (arith, nat_tests)

  line_belongs : (l p f i a : ℕ) → Belongs (line D) l p f i a → (l < D) × (p < 2 ^ l) × (f < 2) × (i ≡ f) × (a ≡ f)
  line_belongs l p f i a (j, e) = grind (arith, nat_tests)

  belongs_line : (l p f : ℕ) → l < D → p < 2 ^ l → f < 2 → Belongs (line D) l p f f f
  belongs_line l p f hl hp hf = (0, grind (arith, nat_tests))

  line_bounded : Bounded (line D)
  line_bounded = record {
    width = omega arith;
    faces = omega arith;
    depth = omega arith;
    across_in = λ l p f hc hf. grind (arith, nat_tests, one_pow l);
    across_out = λ l p f e. grind (arith, nat_tests);
    edge_in = λ l g n e. grind (arith, nat_tests, one_pow l, pow_pos l);
    edge_out = λ l g n e. rw (one_pow l) (grind (arith, nat_tests));
    child_in = λ l p f j hl hp hf hj. grind (arith, nat_tests);
    child_out = λ l p f j e. grind (arith, nat_tests);
    sort_in = λ g e. grind (arith, nat_tests);
    sort_out = λ g e. grind (arith, nat_tests);
    turn_in = λ g s l n e hl hn. (let small : n < 1 = rw (one_pow l) at hn in (n, grind (arith, nat_tests), hn));
    turn_out = λ s l n e. ((0, grind (arith, nat_tests)), grind (arith, nat_tests), rw (one_pow l) (grind (arith, nat_tests)));
  }

  -- what a crossing inside is
  pub line_inside : (l p f q g : ℕ) → line_across D l p f ≡ Some (Inside (q, g)) →
      (l ≤ D) × (p < 2 ^ l) × (q < 2 ^ l) × (((f ≡ 0) × (g ≡ 1) × (p ≡ suc q)) ⊎ ((f ≡ 1) × (g ≡ 0) × (q ≡ suc p)))
  line_inside l p f q g x = grind (arith, nat_tests)

  line_edge : (l p f g n : ℕ) → line_across D l p f ≡ Some (Edge g n) →
      (l ≤ D) × (p < 2 ^ l) × (n ≡ 0) × (((f ≡ 0) × (g ≡ 0) × (p ≡ 0)) ⊎ ((f ≡ 1) × (g ≡ 1) × (suc p ≡ 2 ^ l)))
  line_edge l p f g n x = grind (arith, nat_tests)

  line_across_children : (l p f q g i a : ℕ) → line_across D l p f ≡ Some (Inside (q, g)) → Belongs (line D) l p f i a →
      (i' : ℕ) × (a' : ℕ) × Belongs (line D) l q g i' a' × (line_across D (suc l) (p * 2 + i) a ≡ Some (Inside (q * 2 + i', a')))
  line_across_children l p f q g i a x b =
      let e = line_inside l p f q g x in
      let c = line_belongs l p f i a b in
      (g, g, belongs_line l q g c.0 e.2 (omega arith), grind (arith, nat_tests))

  line_edge_children : (l p f g n i a : ℕ) → line_across D l p f ≡ Some (Edge g n) → Belongs (line D) l p f i a →
      (e : ℕ) × (e < 1) × (line_across D (suc l) (p * 2 + i) a ≡ Some (Edge g (n * 1 + e)))
  line_edge_children l p f g n i a x b =
      let e = line_edge l p f g n x in
      let c = line_belongs l p f i a b in
      (0, omega arith, grind (arith, nat_tests))

  line_edge_onto : (l p f g n e : ℕ) → line_across D l p f ≡ Some (Edge g n) → l < D → e < 1 →
      (i : ℕ) × (a : ℕ) × Belongs (line D) l p f i a × (line_across D (suc l) (p * 2 + i) a ≡ Some (Edge g (n * 1 + e)))
  line_edge_onto l p f g n e x hl he =
      let c = line_edge l p f g n x in
      (f, f, belongs_line l p f hl c.1 (omega arith), grind (arith, nat_tests))

  line_sibling : (l p i a : ℕ) → l < D → p < 2 ^ l → i < 2 → a < 2 →
      ((f : ℕ) × Belongs (line D) l p f i a) ⊎ ((i' : ℕ) × (a' : ℕ) × (i' < 2) × (i' ≢ i) × (line_across D (suc l) (p * 2 + i) a ≡ Some (Inside (p * 2 + i', a'))))
  line_sibling l p i a hl hp hi ha = elim (ℕ_discrete i a) [
    | yes e ↦ inl (a, rw e (belongs_line l p a hl hp ha))
    | no ne ↦ inr (1 - i, 1 - a, omega arith, (λ e. omega arith), grind (arith, nat_tests))
  ]

  pub line_lawful : Lawful (line D)
  line_lawful = record {
    bounded = line_bounded;
    back = line_back;
    edge_to = line_edge_to;
    edge_from = line_edge_from;
    root_face = λ f hf. grind (arith, nat_tests);
    rise = line_rise;
    apart = λ l p f f' i a x y. omega (arith, line_belongs l p f i a x, line_belongs l p f' i a y);
    across_children = line_across_children;
    edge_children = line_edge_children;
    edge_onto = line_edge_onto;
    sibling = line_sibling;
    undo = λ s l n n' e. grind (arith, nat_tests);
    turn_down = λ s l n n' e. grind (arith, nat_tests);
  }

-- two cells of level 1 would lie at one edge number
pub all_edges_break_the_laws : AllEdgesBreakTheLaws
all_edges_break_the_laws at ok =
    let first : at 1 1 0 ≡ Some (0, 1) = ok.edge_to 1 0 1 1 0 refl in
    let second : at 1 1 0 ≡ Some (1, 1) = ok.edge_to 1 1 1 1 0 refl in
    let same : ◌≡◌ {A = Option (ℕ × ℕ)} (Some (0, 1)) (Some (1, 1)) = sym first ∙ second in
    let pair : ◌≡◌ {A = ℕ × ℕ} (0, 1) (1, 1) = cc same in
    let z : ◌≡◌ {A = ℕ} 0 1 = ap (λ (x : ℕ × ℕ). x.0) pair in
    omega arith
