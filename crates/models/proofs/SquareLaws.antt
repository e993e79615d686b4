-- The square is a lawful scheme.
use Rattle.std.proofs.Common.{◌≡◌, ℕ, suc, ◌+◌, ◌-◌, ◌*◌, ◌^◌, ◌<◌, ◌≤◌, cond, eqb, ◌⊎◌, Some, Option, inl, inr, pow-suc, arith, pow_pos}
use native.Mathlib.Decide.{ℕ_discrete}
use Rattle.std.proofs.lemmas.Bool.Decides.{nat_tests}
use Rattle.scheme.specs.declared.crossing.Crossing.{Crossing}
use Rattle.scheme.specs.declared.crossing.Crossing.TheVariants.{Inside, Edge}
use Rattle.scheme.specs.Scheme.{Belongs, Lawful, Bounded}
use Rattle.models.specs.Square.{square, square_x, square_y, square_across, square_rim, square_at_edge, square_on_face}
use Rattle.grid.specs.Turning.{turn_over}
use Rattle.models.proofs.SquareCells.{x_lt, y_lt, at_lt, x_child, y_child, place_back, x_back, y_back}
use Rattle.models.proofs.Weaving.{last_lt}

-- the face f of p, to its right or above, is the face g of q
unfoldable pub Ahead : ℕ → ℕ → ℕ → ℕ → ℕ → Type 0
Ahead l p f q g =
    ((f ≡ 1) × (g ≡ 0) × (suc (square_x l p) ≡ square_x l q) × (square_y l p ≡ square_y l q)) ⊎
    ((f ≡ 3) × (g ≡ 2) × (square_x l p ≡ square_x l q) × (suc (square_y l p) ≡ square_y l q))

-- the face f of p is the face g of q
unfoldable pub Next : ℕ → ℕ → ℕ → ℕ → ℕ → Type 0
Next l p f q g = Ahead l p f q g ⊎ Ahead l q g p f

-- the face f of p is the edge n of the root face f
Rim : ℕ → ℕ → ℕ → ℕ → Type 0
Rim l p f n =
    ((f ≡ 0) × (square_x l p ≡ 0) × (square_y l p ≡ n)) ⊎
    (((f ≡ 1) × (suc (square_x l p) ≡ 2 ^ l) × (square_y l p ≡ n)) ⊎
    (((f ≡ 2) × (square_x l p ≡ n) × (square_y l p ≡ 0)) ⊎
    ((f ≡ 3) × (square_x l p ≡ n) × (suc (square_y l p) ≡ 2 ^ l))))

module _ (D : ℕ) (deep : D ≤ 18) where
  -- across, in coordinates
  pub inside_next : (l p f q g : ℕ) → square_across D l p f ≡ Some (Inside (q, g)) → (l ≤ D) × (p < 4 ^ l) × (q < 4 ^ l) × (g < 4) × Next l p f q g
  unfolding Next Ahead
  inside_next l p f q g e =
      let x = square_x l p in
      let y = square_y l p in
      grind (
        arith,
        nat_tests,
        x_lt l p,
        y_lt l p,
        at_lt l (x - 1) y,
        at_lt l (suc x) y,
        at_lt l x (y - 1),
        at_lt l x (suc y),
        x_back l (x - 1) y,
        y_back l (x - 1) y,
        x_back l (suc x) y,
        y_back l (suc x) y,
        x_back l x (y - 1),
        y_back l x (y - 1),
        x_back l x (suc y),
        y_back l x (suc y),
      )

  next_inside : (l p f q g : ℕ) → l ≤ D → p < 4 ^ l → q < 4 ^ l → Next l p f q g → square_across D l p f ≡ Some (Inside (q, g))
  unfolding Next Ahead
  next_inside l p f q g hl hp hq n = grind (arith, nat_tests, x_lt l q, y_lt l q, place_back l q hq)

  edge_rim : (l p f g n : ℕ) → square_across D l p f ≡ Some (Edge g n) → (l ≤ D) × (p < 4 ^ l) × (f ≡ g) × (f < 4) × Rim l p f n
  unfolding Rim
  edge_rim l p f g n e = grind (arith, nat_tests)

  rim_edge : (l p f n : ℕ) → l ≤ D → p < 4 ^ l → Rim l p f n → square_across D l p f ≡ Some (Edge f n)
  unfolding Rim
  rim_edge l p f n hl hp r = grind (arith, nat_tests)

  rim_place : (l p f n : ℕ) → p < 4 ^ l → Rim l p f n → (n < 2 ^ l) × (square_rim l f n ≡ p)
  unfolding Rim
  rim_place l p f n hp r = grind (arith, nat_tests, x_lt l p, y_lt l p, place_back l p hp)

  place_rim : (l g n : ℕ) → n < 2 ^ l → g < 4 → (square_rim l g n < 4 ^ l) × Rim l (square_rim l g n) g n
  unfolding Rim
  place_rim l g n hn hg = grind (
    arith,
    nat_tests,
    pow_pos l,
    at_lt l 0 n,
    x_back l 0 n,
    y_back l 0 n,
    at_lt l (2 ^ l - 1) n,
    x_back l (2 ^ l - 1) n,
    y_back l (2 ^ l - 1) n,
    at_lt l n 0,
    x_back l n 0,
    y_back l n 0,
    at_lt l n (2 ^ l - 1),
    x_back l n (2 ^ l - 1),
    y_back l n (2 ^ l - 1),
  )

  -- laws 1 and 2
  turn : (l p f q g : ℕ) → Next l p f q g → Next l q g p f
  unfolding Next
  turn l p f q g (inl u) = inr u
  turn l p f q g (inr u) = inl u

  square_back : (l p f q g : ℕ) → square_across D l p f ≡ Some (Inside (q, g)) → square_across D l q g ≡ Some (Inside (p, f))
  square_back l p f q g e =
      let (hl, hp, hq, _, n) = inside_next l p f q g e in
      next_inside l q g p f hl hq hp (turn l p f q g n)

  square_edge_to : (l p f g n : ℕ) → square_across D l p f ≡ Some (Edge g n) → square_at_edge D l g n ≡ Some (p, f)
  square_edge_to l p f g n e =
      let (hl, hp, same, hf, r) = edge_rim l p f g n e in
      let z = rim_place l p f n hp r in
      grind (arith, nat_tests)

  square_edge_from : (l p f g n : ℕ) → square_at_edge D l g n ≡ Some (p, f) → square_across D l p f ≡ Some (Edge g n)
  square_edge_from l p f g n e =
      let z : (l ≤ D) × (g < 4) × (n < 2 ^ l) × (square_rim l g n ≡ p) × (g ≡ f) = grind (arith, nat_tests) in
      let (hp, r) = place_rim l g n z.2 z.1 in
      rw (← z.3, ← z.4) (rim_edge l (square_rim l g n) g n z.0 hp r)

  -- the face children of a face, by their number
  pub belongs_number : (l p f i a : ℕ) → Belongs (square D) l p f i a →
      (j : ℕ) × ((j < 2) × (l < D) × (p < 4 ^ l) × (f < 4) × (i ≡ square_on_face f j) × (a ≡ f))
  belongs_number l p f i a (j, e) = (j, grind (arith, nat_tests))

  pub number_belongs : (l p f j : ℕ) → j < 2 → l < D → p < 4 ^ l → f < 4 → Belongs (square D) l p f (square_on_face f j) f
  number_belongs l p f j hj hl hp hf = (j, grind (arith, nat_tests))

  on_face_lt : (f j : ℕ) → j < 2 → square_on_face f j < 4
  on_face_lt f j hj = grind (arith, nat_tests)

  -- law 4: the j-th face child goes to the j-th face child, or to the edge number n * 2 + j
  next_child : (l p f q g j : ℕ) → j < 2 → Next l p f q g → Next (suc l) (p * 4 + square_on_face f j) f (q * 4 + square_on_face g j) g
  unfolding Next Ahead
  next_child l p f q g j hj n =
      let i = square_on_face f j in
      let hi = on_face_lt f j hj in
      let i' = square_on_face g j in
      let hi' = on_face_lt g j hj in
      grind (arith, nat_tests, x_child l p i hi, y_child l p i hi, x_child l q i' hi', y_child l q i' hi')

  rim_child : (l p f n j : ℕ) → j < 2 → Rim l p f n → Rim (suc l) (p * 4 + square_on_face f j) f (n * 2 + j)
  unfolding Rim
  rim_child l p f n j hj r =
      let i = square_on_face f j in
      let hi = on_face_lt f j hj in
      grind (arith, nat_tests, pow-suc 2 l, x_child l p i hi, y_child l p i hi)

  across_child : (l p f q g j : ℕ) → square_across D l p f ≡ Some (Inside (q, g)) → l < D → j < 2 →
      square_across D (suc l) (p * 4 + square_on_face f j) f ≡ Some (Inside (q * 4 + square_on_face g j, g))
  across_child l p f q g j e hl hj =
      let (_, hp, hq, _, n) = inside_next l p f q g e in
      let i = square_on_face f j in
      let i' = square_on_face g j in
      next_inside (suc l) (p * 4 + i) f (q * 4 + i') g hl (last_lt 4 l p i hp (on_face_lt f j hj)) (last_lt 4 l q i' hq (on_face_lt g j hj))
      (next_child l p f q g j hj n)

  edge_child : (l p f g n j : ℕ) → square_across D l p f ≡ Some (Edge g n) → l < D → j < 2 →
      square_across D (suc l) (p * 4 + square_on_face f j) f ≡ Some (Edge g (n * 2 + j))
  edge_child l p f g n j e hl hj =
      let (_, hp, same, _, r) = edge_rim l p f g n e in
      let i = square_on_face f j in
      rw (← same) (rim_edge (suc l) (p * 4 + i) f (n * 2 + j) hl (last_lt 4 l p i hp (on_face_lt f j hj)) (rim_child l p f n j hj r))

  at_child : (l p i i' a a' : ℕ) {o : Option Crossing} → i ≡ i' → a ≡ a' → square_across D (suc l) (p * 4 + i') a' ≡ o → square_across D (suc l) (p * 4 + i) a ≡ o
  at_child l p i i' a a' ei ea e = rw (ei, ea) e

  square_across_children : (l p f q g i a : ℕ) → square_across D l p f ≡ Some (Inside (q, g)) → Belongs (square D) l p f i a →
      (i' : ℕ) × (a' : ℕ) × Belongs (square D) l q g i' a' × (square_across D (suc l) (p * 4 + i) a ≡ Some (Inside (q * 4 + i', a')))
  square_across_children l p f q g i a e b =
      let (_, _, hq, hg, _) = inside_next l p f q g e in
      let (j, (hj, hl, _, _, ei, ea)) = belongs_number l p f i a b in
      (square_on_face g j, g, number_belongs l q g j hj hl hq hg, at_child l p i (square_on_face f j) a f ei ea (across_child l p f q g j e hl hj))

  square_edge_children : (l p f g n i a : ℕ) → square_across D l p f ≡ Some (Edge g n) → Belongs (square D) l p f i a →
      (e : ℕ) × (e < 2) × (square_across D (suc l) (p * 4 + i) a ≡ Some (Edge g (n * 2 + e)))
  square_edge_children l p f g n i a e b =
      let (j, (hj, hl, _, _, ei, ea)) = belongs_number l p f i a b in
      (j, hj, at_child l p i (square_on_face f j) a f ei ea (edge_child l p f g n j e hl hj))

  square_edge_onto : (l p f g n e : ℕ) → square_across D l p f ≡ Some (Edge g n) → l < D → e < 2 →
      (i : ℕ) × (a : ℕ) × Belongs (square D) l p f i a × (square_across D (suc l) (p * 4 + i) a ≡ Some (Edge g (n * 2 + e)))
  square_edge_onto l p f g n j e hl hj =
      let (_, hp, _, hf, _) = edge_rim l p f g n e in
      (square_on_face f j, f, number_belongs l p f j hj hl hp hf, edge_child l p f g n j e hl hj)

  -- law 5: face a of the child i, on no face of the parent, leads to the face `facing a` of the child `within i a`
  within : ℕ → ℕ → ℕ
  within i a = cond (eqb a 0) (i - 1) (cond (eqb a 1) (suc i) (cond (eqb a 2) (i - 2) (i + 2)))

  facing : ℕ → ℕ
  facing a = cond (eqb a 0) 1 (cond (eqb a 1) 0 (cond (eqb a 2) 3 2))

  within_next : (l p i a : ℕ) → i < 4 → a < 4 → (i ≡ square_on_face a 0 → ⊥) → (i ≡ square_on_face a 1 → ⊥) →
      (i' : ℕ) × (a' : ℕ) × (i' < 4) × (i' ≡ i → ⊥) × Next (suc l) (p * 4 + i) a (p * 4 + i') a'
  unfolding Next Ahead within facing
  within_next l p i a hi ha n0 n1 =
      let i' = within i a in
      let hi' : i' < 4 = grind (arith, nat_tests) in
      (i', facing a, hi', (λ e. grind (arith, nat_tests)), grind (arith, nat_tests, x_child l p i hi, y_child l p i hi, x_child l p i' hi', y_child l p i' hi'))

  square_sibling : (l p i a : ℕ) → l < D → p < 4 ^ l → i < 4 → a < 4 →
      ((f : ℕ) × Belongs (square D) l p f i a) ⊎
      ((i' : ℕ) × (a' : ℕ) × (i' < 4) × (i' ≡ i → ⊥) × (square_across D (suc l) (p * 4 + i) a ≡ Some (Inside (p * 4 + i', a'))))
  square_sibling l p i a hl hp hi ha = go (ℕ_discrete i (square_on_face a 0)) (ℕ_discrete i (square_on_face a 1))
    where
      go : Dec (i ≡ square_on_face a 0) → Dec (i ≡ square_on_face a 1) → ((f : ℕ) × Belongs (square D) l p f i a) ⊎
          ((i' : ℕ) × (a' : ℕ) × (i' < 4) × (i' ≡ i → ⊥) × (square_across D (suc l) (p * 4 + i) a ≡ Some (Inside (p * 4 + i', a'))))
      go (yes e) d = inl (a, rw e (number_belongs l p a 0 (omega arith) hl hp ha))
      go (no n0) (yes e) = inl (a, rw e (number_belongs l p a 1 (omega arith) hl hp ha))
      go (no n0) (no n1) =
          let (i', a', hi', other, next) = within_next l p i a hi ha n0 n1 in
          inr (i', a', hi', other, next_inside (suc l) (p * 4 + i) a (p * 4 + i') a' hl (last_lt 4 l p i hp hi) (last_lt 4 l p i' hp hi') next)

  square_bounded : Bounded (square D)
  square_bounded = record {
    width = omega arith;
    faces = omega arith;
    depth = omega arith;
    across_in = λ l p f c hf. (let x = square_x l p in let y = square_y l p in
        grind (arith, nat_tests, x_lt l p, y_lt l p, at_lt l (x - 1) y, at_lt l (suc x) y, at_lt l x (y - 1), at_lt l x (suc y)));
    across_out = λ l p f e. grind (arith, nat_tests);
    edge_in = λ l g n e. grind (arith, nat_tests, place_rim l g n);
    edge_out = λ l g n e. grind (arith, nat_tests);
    child_in = λ l p f j hl hp hf hj. grind (arith, nat_tests, on_face_lt f j);
    child_out = λ l p f j e. grind (arith, nat_tests);
    sort_in = λ g e. grind (arith, nat_tests);
    sort_out = λ g e. grind (arith, nat_tests);
    turn_in = λ g s l n e hl hn. (turn_over l n, grind (arith, nat_tests), omega arith);
    turn_out = λ s l n e. ((0, grind (arith, nat_tests)), grind (arith, nat_tests), grind (arith, nat_tests));
  }

  pub square_lawful : Lawful (square D)
  square_lawful = record {
    bounded = square_bounded;
    back = square_back;
    edge_to = square_edge_to;
    edge_from = square_edge_from;
    root_face = λ f hf. grind (arith, nat_tests, x_lt 0 0, y_lt 0 0);
    rise = λ l p f j i a j' i' a' e e' lt. grind (arith, nat_tests);
    apart = λ l p f f' i a x y. omega (arith, (belongs_number l p f i a x).1, (belongs_number l p f' i a y).1);
    across_children = square_across_children;
    edge_children = square_edge_children;
    edge_onto = square_edge_onto;
    sibling = square_sibling;
    undo = λ s l n n' e. grind (arith, nat_tests);
    turn_down = λ s l n n' e. grind (arith, nat_tests, pow-suc 2 l);
  }
