-- The triangle is a lawful scheme.
use Rattle.std.proofs.Common.{◌≡◌, ℕ, suc, ◌+◌, ◌-◌, ◌*◌, ◌^◌, ◌<◌, ◌≤◌, cond, eqb, ◌⊎◌, Some, Option, inl, inr, pow-suc, arith, pow_pos}
use native.Mathlib.Decide.{ℕ_discrete}
use Rattle.std.proofs.lemmas.Bool.Decides.{nat_tests}
use Rattle.scheme.specs.declared.crossing.Crossing.{Crossing}
use Rattle.scheme.specs.declared.crossing.Crossing.TheVariants.{Inside, Edge}
use Rattle.scheme.specs.Scheme.{Belongs, Lawful, Bounded}
use Rattle.grid.specs.Turning.{turn_over}
use Rattle.models.specs.Triangle.{triangle, triangle_type, triangle_x, triangle_y, triangle_across, triangle_rim, triangle_at_edge, triangle_on_face}
use Rattle.models.proofs.TriangleCells.{is_cell, type_lt, at_lt, x_child, y_child, type_child, place_back, cell_back}
use Rattle.models.proofs.Weaving.{last_lt}

-- the face f of p, of type 0, is the face g of q, of type 1
unfoldable pub Up : ℕ → ℕ → ℕ → ℕ → ℕ → Type 0
Up l p f q g = (triangle_type l p ≡ 0) × (triangle_type l q ≡ 1) × (
    ((f ≡ 0) × (g ≡ 2) × (suc (triangle_x l p) ≡ triangle_x l q) × (triangle_y l p ≡ triangle_y l q)) ⊎
    (((f ≡ 1) × (g ≡ 1) × (triangle_x l p ≡ triangle_x l q) × (triangle_y l p ≡ triangle_y l q)) ⊎
    ((f ≡ 2) × (g ≡ 0) × (triangle_x l p ≡ triangle_x l q) × (triangle_y l p ≡ suc (triangle_y l q)))))

-- the face f of p is the face g of q
unfoldable pub Next : ℕ → ℕ → ℕ → ℕ → ℕ → Type 0
Next l p f q g = Up l p f q g ⊎ Up l q g p f

-- the face f of p is the edge n of the root face f
Rim : ℕ → ℕ → ℕ → ℕ → Type 0
Rim l p f n = (triangle_type l p ≡ 0) × (
    ((f ≡ 0) × (suc (triangle_x l p) ≡ 2 ^ l) × (triangle_y l p ≡ n)) ⊎
    (((f ≡ 1) × (triangle_x l p ≡ n) × (triangle_y l p ≡ n)) ⊎
    ((f ≡ 2) × (triangle_x l p ≡ n) × (triangle_y l p ≡ 0))))

module _ (D : ℕ) (deep : D ≤ 18) where
  -- across, by anchors and types
  pub inside_next : (l p f q g : ℕ) → triangle_across D l p f ≡ Some (Inside (q, g)) → (l ≤ D) × (p < 4 ^ l) × (q < 4 ^ l) × (g < 3) × Next l p f q g
  unfolding Next Up
  inside_next l p f q g e =
      let x = triangle_x l p in
      let y = triangle_y l p in
      grind (
        arith,
        nat_tests,
        is_cell l p,
        at_lt l (suc x) y 1,
        at_lt l x y 1,
        at_lt l x (y - 1) 1,
        at_lt l x (suc y) 0,
        at_lt l x y 0,
        at_lt l (x - 1) y 0,
        cell_back l (suc x) y 1,
        cell_back l x y 1,
        cell_back l x (y - 1) 1,
        cell_back l x (suc y) 0,
        cell_back l x y 0,
        cell_back l (x - 1) y 0,
      )

  next_inside : (l p f q g : ℕ) → l ≤ D → p < 4 ^ l → q < 4 ^ l → Next l p f q g → triangle_across D l p f ≡ Some (Inside (q, g))
  unfolding Next Up
  next_inside l p f q g hl hp hq n = grind (arith, nat_tests, is_cell l p, is_cell l q, place_back l q hq)

  edge_rim : (l p f g n : ℕ) → triangle_across D l p f ≡ Some (Edge g n) → (l ≤ D) × (p < 4 ^ l) × (f ≡ g) × (f < 3) × Rim l p f n
  unfolding Rim
  edge_rim l p f g n e = grind (arith, nat_tests)

  rim_edge : (l p f n : ℕ) → l ≤ D → p < 4 ^ l → Rim l p f n → triangle_across D l p f ≡ Some (Edge f n)
  unfolding Rim
  rim_edge l p f n hl hp r = grind (arith, nat_tests)

  rim_place : (l p f n : ℕ) → p < 4 ^ l → Rim l p f n → (n < 2 ^ l) × (triangle_rim l f n ≡ p)
  unfolding Rim
  rim_place l p f n hp r = grind (arith, nat_tests, is_cell l p, place_back l p hp)

  place_rim : (l g n : ℕ) → n < 2 ^ l → g < 3 → (triangle_rim l g n < 4 ^ l) × Rim l (triangle_rim l g n) g n
  unfolding Rim
  place_rim l g n hn hg = grind (
    arith,
    nat_tests,
    pow_pos l,
    at_lt l (2 ^ l - 1) n 0,
    at_lt l n n 0,
    at_lt l n 0 0,
    cell_back l (2 ^ l - 1) n 0,
    cell_back l n n 0,
    cell_back l n 0 0,
  )

  -- laws 1 and 2
  turn : (l p f q g : ℕ) → Next l p f q g → Next l q g p f
  unfolding Next
  turn l p f q g (inl u) = inr u
  turn l p f q g (inr u) = inl u

  triangle_back : (l p f q g : ℕ) → triangle_across D l p f ≡ Some (Inside (q, g)) → triangle_across D l q g ≡ Some (Inside (p, f))
  triangle_back l p f q g e =
      let (hl, hp, hq, _, n) = inside_next l p f q g e in
      next_inside l q g p f hl hq hp (turn l p f q g n)

  triangle_edge_to : (l p f g n : ℕ) → triangle_across D l p f ≡ Some (Edge g n) → triangle_at_edge D l g n ≡ Some (p, f)
  triangle_edge_to l p f g n e =
      let (hl, hp, same, hf, r) = edge_rim l p f g n e in
      let z = rim_place l p f n hp r in
      grind (arith, nat_tests)

  triangle_edge_from : (l p f g n : ℕ) → triangle_at_edge D l g n ≡ Some (p, f) → triangle_across D l p f ≡ Some (Edge g n)
  triangle_edge_from l p f g n e =
      let z : (l ≤ D) × (g < 3) × (n < 2 ^ l) × (triangle_rim l g n ≡ p) × (g ≡ f) = grind (arith, nat_tests) in
      let (hp, r) = place_rim l g n z.2 z.1 in
      rw (← z.3, ← z.4) (rim_edge l (triangle_rim l g n) g n z.0 hp r)

  -- the face children of a face, by their number
  pub belongs_number : (l p f i a : ℕ) → Belongs (triangle D) l p f i a →
      (j : ℕ) × ((j < 2) × (l < D) × (p < 4 ^ l) × (f < 3) × (i ≡ triangle_on_face (triangle_type l p) f j) × (a ≡ f))
  belongs_number l p f i a (j, e) = (j, grind (arith, nat_tests))

  pub number_belongs : (l p f j : ℕ) → j < 2 → l < D → p < 4 ^ l → f < 3 → Belongs (triangle D) l p f (triangle_on_face (triangle_type l p) f j) f
  number_belongs l p f j hj hl hp hf = (j, grind (arith, nat_tests))

  on_face_lt : (t f j : ℕ) → j < 2 → triangle_on_face t f j < 4
  on_face_lt t f j hj = grind (arith, nat_tests)

  -- law 4: the j-th face child goes to the j-th face child, or to the edge number n * 2 + j
  up_child : (l p f q g j : ℕ) → j < 2 → Up l p f q g →
      Up (suc l) (p * 4 + triangle_on_face (triangle_type l p) f j) f (q * 4 + triangle_on_face (triangle_type l q) g j) g
  unfolding Up
  up_child l p f q g j hj u =
      let i = triangle_on_face (triangle_type l p) f j in
      let hi = on_face_lt (triangle_type l p) f j hj in
      let i' = triangle_on_face (triangle_type l q) g j in
      let hi' = on_face_lt (triangle_type l q) g j hj in
      grind (arith, nat_tests, x_child l p i hi, y_child l p i hi, type_child l p i hi, x_child l q i' hi', y_child l q i' hi', type_child l q i' hi')

  next_child : (l p f q g j : ℕ) → j < 2 → Next l p f q g →
      Next (suc l) (p * 4 + triangle_on_face (triangle_type l p) f j) f (q * 4 + triangle_on_face (triangle_type l q) g j) g
  unfolding Next
  next_child l p f q g j hj (inl u) = inl (up_child l p f q g j hj u)
  next_child l p f q g j hj (inr u) = inr (up_child l q g p f j hj u)

  rim_child : (l p f n j : ℕ) → j < 2 → Rim l p f n → Rim (suc l) (p * 4 + triangle_on_face (triangle_type l p) f j) f (n * 2 + j)
  unfolding Rim
  rim_child l p f n j hj r =
      let i = triangle_on_face (triangle_type l p) f j in
      let hi = on_face_lt (triangle_type l p) f j hj in
      grind (arith, nat_tests, pow-suc 2 l, x_child l p i hi, y_child l p i hi, type_child l p i hi)

  across_child : (l p f q g j : ℕ) → triangle_across D l p f ≡ Some (Inside (q, g)) → l < D → j < 2 →
      triangle_across D (suc l) (p * 4 + triangle_on_face (triangle_type l p) f j) f ≡ Some (Inside (q * 4 + triangle_on_face (triangle_type l q) g j, g))
  across_child l p f q g j e hl hj =
      let (_, hp, hq, _, n) = inside_next l p f q g e in
      let i = triangle_on_face (triangle_type l p) f j in
      let i' = triangle_on_face (triangle_type l q) g j in
      next_inside (suc l) (p * 4 + i) f (q * 4 + i') g hl
      (last_lt 4 l p i hp (on_face_lt (triangle_type l p) f j hj)) (last_lt 4 l q i' hq (on_face_lt (triangle_type l q) g j hj))
      (next_child l p f q g j hj n)

  edge_child : (l p f g n j : ℕ) → triangle_across D l p f ≡ Some (Edge g n) → l < D → j < 2 →
      triangle_across D (suc l) (p * 4 + triangle_on_face (triangle_type l p) f j) f ≡ Some (Edge g (n * 2 + j))
  edge_child l p f g n j e hl hj =
      let (_, hp, same, _, r) = edge_rim l p f g n e in
      let i = triangle_on_face (triangle_type l p) f j in
      rw (← same) (rim_edge (suc l) (p * 4 + i) f (n * 2 + j) hl (last_lt 4 l p i hp (on_face_lt (triangle_type l p) f j hj)) (rim_child l p f n j hj r))

  at_child : (l p i i' a a' : ℕ) {o : Option Crossing} → i ≡ i' → a ≡ a' → triangle_across D (suc l) (p * 4 + i') a' ≡ o → triangle_across D (suc l) (p * 4 + i) a ≡ o
  at_child l p i i' a a' ei ea e = rw (ei, ea) e

  triangle_across_children : (l p f q g i a : ℕ) → triangle_across D l p f ≡ Some (Inside (q, g)) → Belongs (triangle D) l p f i a →
      (i' : ℕ) × (a' : ℕ) × Belongs (triangle D) l q g i' a' × (triangle_across D (suc l) (p * 4 + i) a ≡ Some (Inside (q * 4 + i', a')))
  triangle_across_children l p f q g i a e b =
      let (_, _, hq, hg, _) = inside_next l p f q g e in
      let (j, (hj, hl, _, _, ei, ea)) = belongs_number l p f i a b in (
        triangle_on_face (triangle_type l q) g j,
        g,
        number_belongs l q g j hj hl hq hg,
        at_child l p i (triangle_on_face (triangle_type l p) f j) a f ei ea (across_child l p f q g j e hl hj),
      )

  triangle_edge_children : (l p f g n i a : ℕ) → triangle_across D l p f ≡ Some (Edge g n) → Belongs (triangle D) l p f i a →
      (e : ℕ) × (e < 2) × (triangle_across D (suc l) (p * 4 + i) a ≡ Some (Edge g (n * 2 + e)))
  triangle_edge_children l p f g n i a e b =
      let (j, (hj, hl, _, _, ei, ea)) = belongs_number l p f i a b in
      (j, hj, at_child l p i (triangle_on_face (triangle_type l p) f j) a f ei ea (edge_child l p f g n j e hl hj))

  triangle_edge_onto : (l p f g n e : ℕ) → triangle_across D l p f ≡ Some (Edge g n) → l < D → e < 2 →
      (i : ℕ) × (a : ℕ) × Belongs (triangle D) l p f i a × (triangle_across D (suc l) (p * 4 + i) a ≡ Some (Edge g (n * 2 + e)))
  triangle_edge_onto l p f g n j e hl hj =
      let (_, hp, _, hf, _) = edge_rim l p f g n e in
      (triangle_on_face (triangle_type l p) f j, f, number_belongs l p f j hj hl hp hf, edge_child l p f g n j e hl hj)

  -- law 5: inside a parent of type t, the child across the face a of the child i; the middle child, 2 - t, has one on each face
  within : ℕ → ℕ → ℕ → ℕ
  within t i a = cond (eqb i (2 - t)) (cond (eqb a 0) 3 (cond (eqb a 1) (1 + t) 0)) (2 - t)

  within_next : (l p i a : ℕ) → i < 4 → a < 3 →
      (i ≡ triangle_on_face (triangle_type l p) a 0 → ⊥) → (i ≡ triangle_on_face (triangle_type l p) a 1 → ⊥) →
      (i' : ℕ) × (i' < 4) × (i' ≡ i → ⊥) × Next (suc l) (p * 4 + i) a (p * 4 + i') (2 - a)
  unfolding Next Up within
  within_next l p i a hi ha n0 n1 =
      let t = triangle_type l p in
      let i' = within t i a in
      let ht = type_lt l p in
      let hi' : i' < 4 = grind (arith, nat_tests) in (
        i',
        hi',
        (λ e. grind (arith, nat_tests)),
        grind (arith, nat_tests, x_child l p i hi, y_child l p i hi, type_child l p i hi, x_child l p i' hi', y_child l p i' hi', type_child l p i' hi'),
      )

  triangle_sibling : (l p i a : ℕ) → l < D → p < 4 ^ l → i < 4 → a < 3 →
      ((f : ℕ) × Belongs (triangle D) l p f i a) ⊎
      ((i' : ℕ) × (a' : ℕ) × (i' < 4) × (i' ≡ i → ⊥) × (triangle_across D (suc l) (p * 4 + i) a ≡ Some (Inside (p * 4 + i', a'))))
  triangle_sibling l p i a hl hp hi ha =
      go (ℕ_discrete i (triangle_on_face (triangle_type l p) a 0)) (ℕ_discrete i (triangle_on_face (triangle_type l p) a 1))
    where
      go : Dec (i ≡ triangle_on_face (triangle_type l p) a 0) → Dec (i ≡ triangle_on_face (triangle_type l p) a 1) →
          ((f : ℕ) × Belongs (triangle D) l p f i a) ⊎
          ((i' : ℕ) × (a' : ℕ) × (i' < 4) × (i' ≡ i → ⊥) × (triangle_across D (suc l) (p * 4 + i) a ≡ Some (Inside (p * 4 + i', a'))))
      go (yes e) d = inl (a, rw e (number_belongs l p a 0 (omega arith) hl hp ha))
      go (no n0) (yes e) = inl (a, rw e (number_belongs l p a 1 (omega arith) hl hp ha))
      go (no n0) (no n1) =
          let (i', hi', other, next) = within_next l p i a hi ha n0 n1 in
          inr (i', 2 - a, hi', other, next_inside (suc l) (p * 4 + i) a (p * 4 + i') (2 - a) hl (last_lt 4 l p i hp hi) (last_lt 4 l p i' hp hi') next)

  triangle_bounded : Bounded (triangle D)
  triangle_bounded = record {
    width = omega arith;
    faces = omega arith;
    depth = omega arith;
    across_in = λ l p f c hf. (let x = triangle_x l p in let y = triangle_y l p in
        grind (arith, nat_tests, is_cell l p, at_lt l (suc x) y 1, at_lt l x y 1, at_lt l x (y - 1) 1, at_lt l x (suc y) 0, at_lt l x y 0, at_lt l (x - 1) y 0));
    across_out = λ l p f e. grind (arith, nat_tests);
    edge_in = λ l g n e. grind (arith, nat_tests, place_rim l g n);
    edge_out = λ l g n e. grind (arith, nat_tests);
    child_in = λ l p f j hl hp hf hj. grind (arith, nat_tests, on_face_lt (triangle_type l p) f j);
    child_out = λ l p f j e. grind (arith, nat_tests);
    sort_in = λ g e. grind (arith, nat_tests);
    sort_out = λ g e. grind (arith, nat_tests);
    turn_in = λ g s l n e hl hn. (turn_over l n, grind (arith, nat_tests), omega arith);
    turn_out = λ s l n e. ((0, grind (arith, nat_tests)), grind (arith, nat_tests), grind (arith, nat_tests));
  }

  pub triangle_lawful : Lawful (triangle D)
  triangle_lawful = record {
    bounded = triangle_bounded;
    back = triangle_back;
    edge_to = triangle_edge_to;
    edge_from = triangle_edge_from;
    root_face = λ f hf. grind (arith, nat_tests, is_cell 0 0);
    rise = λ l p f j i a j' i' a' e e' lt. grind (arith, nat_tests);
    apart = λ l p f f' i a x y. omega (arith, (belongs_number l p f i a x).1, (belongs_number l p f' i a y).1);
    across_children = triangle_across_children;
    edge_children = triangle_edge_children;
    edge_onto = triangle_edge_onto;
    sibling = triangle_sibling;
    undo = λ s l n n' e. grind (arith, nat_tests);
    turn_down = λ s l n n' e. grind (arith, nat_tests, pow-suc 2 l);
  }
