-- Two lawful schemes on the same cells, with the faces of both, are lawful.
use Rattle.std.proofs.Common.{◌≡◌, ℕ, suc, ◌+◌, ◌-◌, ◌*◌, ◌/◌, ◌^◌, ◌<◌, ◌≤◌, true, ◌⊎◌, is_some, Some, sym, ap, ◌∙◌, subst, inl, inr, arith}
use Rattle.std.proofs.lemmas.Bool.Decides.{nat_tests}
use Rattle.scheme.specs.declared.crossing.Crossing.TheVariants.{Inside, Edge}
use Rattle.scheme.specs.Scheme.{Model, Belongs, Lawful, Bounded, CellIn, EdgeIn, CrossedIn, FaceIn}
use Rattle.scheme.proofs.Answered.{some_is, belongs_in}
use Rattle.models.proofs.Cylinder.{Faced}
use Rattle.scheme.proofs.Answered.{inside_in, edge_in, at_in}
use Rattle.models.proofs.Converting.{crossed_is, faced_is}
use Rattle.models.proofs.Sides.{by_side, some_of, two_sorts, side_sorts, one, two, joint, up, across_one, across_two, edge_one, edge_two, child_one, child_two, inside_two, meets_two, lies_two, belongs_one, belongs_two, two_inside, two_meets, two_lies, two_child, one_belongs, two_belongs, crossed_one, crossed_two, faced_one, faced_two}

module _ (w D : ℕ) (c d : Faced) (ok : Lawful (one w D c d)) (ok' : Lawful (two w D c d)) (few : c.F + d.F ≤ 8)
    (plain : (g : ℕ) → g < c.F → c.sort g ≡ Some 0) (plain' : (g : ℕ) → g < d.F → d.sort g ≡ Some 0) where
  abbrev both : Model
  both = joint w D c d

  some_faces : (0 < c.F) × (0 < d.F)
  some_faces = (omega (arith, ok.bounded.faces), omega (arith, ok'.bounded.faces))

  both_turn_in : (g s l n : ℕ) → both.sort g ≡ Some s → l ≤ D → n < (2 ^ (w - 1)) ^ l → (n' : ℕ) × (both.turned s l n ≡ Some n') × (n' < (2 ^ (w - 1)) ^ l)
  both_turn_in g s l n e hl hn = go (side_sorts c.F d.F g s e)
    where
      go : ((s ≡ 0) × (g < c.F)) ⊎ ((s ≡ 1) × (g < c.F + d.F)) → (n' : ℕ) × (both.turned s l n ≡ Some n') × (n' < (2 ^ (w - 1)) ^ l)
      go (inl (es, hg)) = let z = ok.bounded.turn_in 0 0 l n (plain 0 some_faces.0) hl hn in (z.0, rw es z.1, z.2)
      go (inr (es, hg)) = let z = ok'.bounded.turn_in 0 0 l n (plain' 0 some_faces.1) hl hn in (z.0, rw es z.1, z.2)

  both_turn_out : (s l n : ℕ) → is_some (both.turned s l n) ≡ true → ((g : ℕ) × (both.sort g ≡ Some s)) × (l ≤ D) × (n < (2 ^ (w - 1)) ^ l)
  both_turn_out s l n e = let r = some_of (both.turned s l n) e in go r.0 (two_sorts s (c.turned 0 l n) (d.turned 0 l n) r.0 r.1)
    where
      go : (r : ℕ) → ((s ≡ 0) × (c.turned 0 l n ≡ Some r)) ⊎ ((s ≡ 1) × (d.turned 0 l n ≡ Some r)) → ((g : ℕ) × (both.sort g ≡ Some s)) × (l ≤ D) × (n < (2 ^ (w - 1)) ^ l)
      go r (inl (es, x)) =
          let z = ok.bounded.turn_out 0 l n (some_is (c.turned 0 l n) r x) in
          let some = some_faces in
          ((0, rw es (grind (arith, nat_tests))), z.1, z.2)
      go r (inr (es, x)) =
          let z = ok'.bounded.turn_out 0 l n (some_is (d.turned 0 l n) r x) in
          let some = some_faces in
          ((c.F, rw es (grind (arith, nat_tests))), z.1, z.2)

  both_bounded : Bounded both
  both_bounded =
      let b = ok.bounded in
      let b' = ok'.bounded in
      record {
        width = b.width;
        faces = (omega (arith, b.faces), few);
        depth = b.depth;
        across_in = λ l p f x. by_side c.F (λ f. f < c.F + d.F → CrossedIn both l (both.across l p f))
            (λ f hf _. rw (across_one w D c d l p f hf) (crossed_one w D c d l (c.across l p f) (b.across_in l p f x hf)))
            (λ f hf. rw (across_two w D c d l p f) (crossed_two w D c d l (d.across l p f) (b'.across_in l p f x (omega arith)))) f;
        across_out = λ l p f. by_side c.F (λ f. is_some (both.across l p f) ≡ true → CellIn both l p × (f < c.F + d.F))
            (λ f hf e. ((b.across_out l p f (rw (across_one w D c d l p f hf) at e)).0, omega arith))
            (λ f e. (let z = b'.across_out l p f (sym (crossed_is (λ q. q) (λ n. n) (up w D c d) (d.across l p f)) ∙ rw (across_two w D c d l p f) at e) in
            (z.0, omega (arith, z.1)))) f;
        edge_in = λ l g n. by_side c.F (λ g. EdgeIn both l g n → FaceIn both ((2 ^ w) ^ l) (both.at_edge l g n))
            (λ g hg x. rw (edge_one w D c d l g n hg) (faced_one w D c d ((2 ^ w) ^ l) (c.at_edge l g n) (b.edge_in l g n (x.0, hg, x.2))))
            (λ g x. rw (edge_two w D c d l g n) (faced_two w D c d ((2 ^ w) ^ l) (d.at_edge l g n) (b'.edge_in l g n (x.0, omega (arith, x.1), x.2)))) g;
        edge_out = λ l g n. by_side c.F (λ g. is_some (both.at_edge l g n) ≡ true → EdgeIn both l g n)
            (λ g hg e. (let z = b.edge_out l g n (rw (edge_one w D c d l g n hg) at e) in (z.0, omega arith, z.2)))
            (λ g e. (let z = b'.edge_out l g n (sym (faced_is (λ q. q) (up w D c d) (d.at_edge l g n)) ∙ rw (edge_two w D c d l g n) at e) in
            (z.0, omega (arith, z.1), z.2))) g;
        child_in = λ l p f j hl hp hf hj. by_side c.F (λ f. f < c.F + d.F → FaceIn both (2 ^ w) (both.face_child l p f j))
            (λ f hf _. rw (child_one w D c d l p f j hf) (faced_one w D c d (2 ^ w) (c.face_child l p f j) (b.child_in l p f j hl hp hf hj)))
            (λ f hf. rw (child_two w D c d l p f j) (faced_two w D c d (2 ^ w) (d.face_child l p f j) (b'.child_in l p f j hl hp (omega arith) hj))) f hf;
        child_out = λ l p f j. by_side c.F (λ f. is_some (both.face_child l p f j) ≡ true → (l < D) × (p < (2 ^ w) ^ l) × (f < c.F + d.F) × (j < 2 ^ (w - 1)))
            (λ f hf e. (let z = b.child_out l p f j (rw (child_one w D c d l p f j hf) at e) in (z.0, z.1, omega arith, z.3)))
            (λ f e. (let z = b'.child_out l p f j (sym (faced_is (λ q. q) (up w D c d) (d.face_child l p f j)) ∙ rw (child_two w D c d l p f j) at e) in
            (z.0, z.1, omega (arith, z.2), z.3))) f;
        sort_in = λ g hg. grind (arith, nat_tests);
        sort_out = λ g e. grind (arith, nat_tests);
        turn_in = both_turn_in;
        turn_out = both_turn_out;
      }

  both_back : (l p q g f : ℕ) → both.across l p f ≡ Some (Inside (q, g)) → both.across l q g ≡ Some (Inside (p, f))
  both_back l p q g = by_side c.F (λ f. both.across l p f ≡ Some (Inside (q, g)) → both.across l q g ≡ Some (Inside (p, f)))
      (λ f hf e. (let x = sym (across_one w D c d l p f hf) ∙ e in
      across_one w D c d l q g (inside_in (one w D c d) ok.bounded l p f q g x).4 ∙ ok.back l p f q g x))
      (λ f e. (let z = two_inside w D c d l p f q g e in rw z.1 (inside_two w D c d l q z.0 p f (ok'.back l p f q z.0 z.2))))

  both_edge_to : (l p g n f : ℕ) → both.across l p f ≡ Some (Edge g n) → both.at_edge l g n ≡ Some (p, f)
  both_edge_to l p g n = by_side c.F (λ f. both.across l p f ≡ Some (Edge g n) → both.at_edge l g n ≡ Some (p, f))
      (λ f hf e. (let x = sym (across_one w D c d l p f hf) ∙ e in
      edge_one w D c d l g n (edge_in (one w D c d) ok.bounded l p f g n x).3 ∙ ok.edge_to l p f g n x))
      (λ f e. (let z = two_meets w D c d l p f g n e in rw z.1 (lies_two w D c d l z.0 n p f (ok'.edge_to l p f z.0 n z.2))))

  both_edge_from : (l p f n g : ℕ) → both.at_edge l g n ≡ Some (p, f) → both.across l p f ≡ Some (Edge g n)
  both_edge_from l p f n = by_side c.F (λ g. both.at_edge l g n ≡ Some (p, f) → both.across l p f ≡ Some (Edge g n))
      (λ g hg e. (let x = sym (edge_one w D c d l g n hg) ∙ e in
      across_one w D c d l p f (at_in (one w D c d) ok.bounded l g n p f x).4 ∙ ok.edge_from l p f g n x))
      (λ g e. (let z = two_lies w D c d l g n p f e in rw z.1 (meets_two w D c d l p z.0 g n (ok'.edge_from l p z.0 g n z.2))))

  both_apart : (l p i a f f' : ℕ) → Belongs both l p f i a → Belongs both l p f' i a → f ≡ f'
  both_apart l p i a f f' = by_side c.F (λ f. Belongs both l p f i a → Belongs both l p f' i a → f ≡ f')
      (λ f hf x. (let b = one_belongs w D c d l p f i a hf x in
      let ha = (belongs_in (one w D c d) ok.bounded l p f i a b).4 in
      by_side c.F (λ f'. Belongs both l p f' i a → f ≡ f')
      (λ f' hf' y. ok.apart l p f f' i a b (one_belongs w D c d l p f' i a hf' y))
      (λ f' y. absurd (omega (arith, ha, (two_belongs w D c d l p f' i a y).1))) f'))
      (λ f x. (let b = two_belongs w D c d l p f i a x in
      by_side c.F (λ f'. Belongs both l p f' i a → c.F + f ≡ f')
      (λ f' hf' y. absurd (omega (arith, b.1, (belongs_in (one w D c d) ok.bounded l p f' i a (one_belongs w D c d l p f' i a hf' y)).4)))
      (λ f' y. (let b' = two_belongs w D c d l p f' i a y in
      let same : b'.0 ≡ b.0 = omega (arith, b.1, b'.1) in
      ap (λ z. c.F + z) (ok'.apart l p f f' i b.0 b.2 (subst (λ z. Belongs (two w D c d) l p f' i z) same b'.2)))) f')) f

  both_across_children : (l p q g i a f : ℕ) → both.across l p f ≡ Some (Inside (q, g)) → Belongs both l p f i a →
      (i' : ℕ) × (a' : ℕ) × Belongs both l q g i' a' × (both.across (suc l) (p * 2 ^ w + i) a ≡ Some (Inside (q * 2 ^ w + i', a')))
  both_across_children l p q g i a = by_side c.F (λ f. both.across l p f ≡ Some (Inside (q, g)) → Belongs both l p f i a →
      (i' : ℕ) × (a' : ℕ) × Belongs both l q g i' a' × (both.across (suc l) (p * 2 ^ w + i) a ≡ Some (Inside (q * 2 ^ w + i', a'))))
      (λ f hf e y. (let x = sym (across_one w D c d l p f hf) ∙ e in
      let b = one_belongs w D c d l p f i a hf y in
      let z = ok.across_children l p f q g i a x b in (
        z.0,
        z.1,
        belongs_one w D c d l q g z.0 z.1 (inside_in (one w D c d) ok.bounded l p f q g x).4 z.2,
        across_one w D c d (suc l) (p * 2 ^ w + i) a (belongs_in (one w D c d) ok.bounded l p f i a b).4 ∙ z.3,
      )))
      (λ f e y. (let x = two_inside w D c d l p f q g e in
      let b = two_belongs w D c d l p f i a y in
      let z = ok'.across_children l p f q x.0 i b.0 x.2 b.2 in (
        z.0,
        c.F + z.1,
        subst (λ g. Belongs both l q g z.0 (c.F + z.1)) (sym x.1) (belongs_two w D c d l q x.0 z.0 z.1 z.2),
        ap (both.across (suc l) (p * 2 ^ w + i)) b.1 ∙ inside_two w D c d (suc l) (p * 2 ^ w + i) b.0 (q * 2 ^ w + z.0) z.1 z.3,
      )))

  both_edge_children : (l p g n i a f : ℕ) → both.across l p f ≡ Some (Edge g n) → Belongs both l p f i a →
      (e : ℕ) × (e < 2 ^ (w - 1)) × (both.across (suc l) (p * 2 ^ w + i) a ≡ Some (Edge g (n * 2 ^ (w - 1) + e)))
  both_edge_children l p g n i a = by_side c.F (λ f. both.across l p f ≡ Some (Edge g n) → Belongs both l p f i a →
      (e : ℕ) × (e < 2 ^ (w - 1)) × (both.across (suc l) (p * 2 ^ w + i) a ≡ Some (Edge g (n * 2 ^ (w - 1) + e))))
      (λ f hf e y. (let b = one_belongs w D c d l p f i a hf y in
      let z = ok.edge_children l p f g n i a (sym (across_one w D c d l p f hf) ∙ e) b in
      (z.0, z.1, across_one w D c d (suc l) (p * 2 ^ w + i) a (belongs_in (one w D c d) ok.bounded l p f i a b).4 ∙ z.2)))
      (λ f e y. (let x = two_meets w D c d l p f g n e in
      let b = two_belongs w D c d l p f i a y in
      let z = ok'.edge_children l p f x.0 n i b.0 x.2 b.2 in (
        z.0,
        z.1,
        ap (both.across (suc l) (p * 2 ^ w + i)) b.1 ∙ meets_two w D c d (suc l) (p * 2 ^ w + i) b.0 x.0 (n * 2 ^ (w - 1) + z.0) z.2
            ∙ ap (λ g. Some (Edge g (n * 2 ^ (w - 1) + z.0))) (sym x.1),
      )))

  both_edge_onto : (l p g n e f : ℕ) → both.across l p f ≡ Some (Edge g n) → l < D → e < 2 ^ (w - 1) →
      (i : ℕ) × (a : ℕ) × Belongs both l p f i a × (both.across (suc l) (p * 2 ^ w + i) a ≡ Some (Edge g (n * 2 ^ (w - 1) + e)))
  both_edge_onto l p g n e = by_side c.F (λ f. both.across l p f ≡ Some (Edge g n) → l < D → e < 2 ^ (w - 1) →
      (i : ℕ) × (a : ℕ) × Belongs both l p f i a × (both.across (suc l) (p * 2 ^ w + i) a ≡ Some (Edge g (n * 2 ^ (w - 1) + e))))
      (λ f hf x hl he. (let z = ok.edge_onto l p f g n e (sym (across_one w D c d l p f hf) ∙ x) hl he in (
        z.0,
        z.1,
        belongs_one w D c d l p f z.0 z.1 hf z.2,
        across_one w D c d (suc l) (p * 2 ^ w + z.0) z.1 (belongs_in (one w D c d) ok.bounded l p f z.0 z.1 z.2).4 ∙ z.3,
      )))
      (λ f x hl he. (let y = two_meets w D c d l p f g n x in
      let z = ok'.edge_onto l p f y.0 n e y.2 hl he in (
        z.0,
        c.F + z.1,
        belongs_two w D c d l p f z.0 z.1 z.2,
        meets_two w D c d (suc l) (p * 2 ^ w + z.0) z.1 y.0 (n * 2 ^ (w - 1) + e) z.3 ∙ ap (λ g. Some (Edge g (n * 2 ^ (w - 1) + e))) (sym y.1),
      )))

  both_sibling : (l p i a : ℕ) → l < D → p < (2 ^ w) ^ l → i < 2 ^ w → a < c.F + d.F →
      ((f : ℕ) × Belongs both l p f i a) ⊎
      ((i' : ℕ) × (a' : ℕ) × (i' < 2 ^ w) × (i' ≡ i → ⊥) × (both.across (suc l) (p * 2 ^ w + i) a ≡ Some (Inside (p * 2 ^ w + i', a'))))
  both_sibling l p i a hl hp hi = by_side c.F (λ a. a < c.F + d.F → ((f : ℕ) × Belongs both l p f i a) ⊎
      ((i' : ℕ) × (a' : ℕ) × (i' < 2 ^ w) × (i' ≡ i → ⊥) × (both.across (suc l) (p * 2 ^ w + i) a ≡ Some (Inside (p * 2 ^ w + i', a')))))
      (λ a ha _. elim (ok.sibling l p i a hl hp hi ha) [
        | inl (f, b) ↦ inl (f, belongs_one w D c d l p f i a (belongs_in (one w D c d) ok.bounded l p f i a b).2 b)
        | inr (i', a', hi', ne, e) ↦ inr (i', a', hi', ne, across_one w D c d (suc l) (p * 2 ^ w + i) a ha ∙ e)
      ])
      (λ a ha. elim (ok'.sibling l p i a hl hp hi (omega arith)) [
        | inl (f, b) ↦ inl (c.F + f, belongs_two w D c d l p f i a b)
        | inr (i', a', hi', ne, e) ↦ inr (i', c.F + a', hi', ne, inside_two w D c d (suc l) (p * 2 ^ w + i) a (p * 2 ^ w + i') a' e)
      ]) a

  both_undo : (s l n n' : ℕ) → both.turned s l n ≡ Some n' → both.turned s l n' ≡ Some n
  both_undo s l n n' e = elim (two_sorts s (c.turned 0 l n) (d.turned 0 l n) n' e) [
    | inl (es, x) ↦ rw es (ok.undo 0 l n n' x)
    | inr (es, x) ↦ rw es (ok'.undo 0 l n n' x)
  ]

  both_turn_down : (s l n n' : ℕ) → both.turned s (suc l) n ≡ Some n' → both.turned s l (n / 2 ^ (w - 1)) ≡ Some (n' / 2 ^ (w - 1))
  both_turn_down s l n n' e = elim (two_sorts s (c.turned 0 (suc l) n) (d.turned 0 (suc l) n) n' e) [
    | inl (es, x) ↦ rw es (ok.turn_down 0 l n n' x)
    | inr (es, x) ↦ rw es (ok'.turn_down 0 l n n' x)
  ]

  pub sides_lawful : Lawful both
  sides_lawful = record {
    bounded = both_bounded;
    back = λ l p f q g. both_back l p q g f;
    edge_to = λ l p f g n. both_edge_to l p g n f;
    edge_from = λ l p f g n. both_edge_from l p f n g;
    root_face = by_side c.F (λ f. f < c.F + d.F → both.across 0 0 f ≡ Some (Edge f 0))
        (λ f hf _. across_one w D c d 0 0 f hf ∙ ok.root_face f hf)
        (λ f hf. meets_two w D c d 0 0 f f 0 (ok'.root_face f (omega arith)));
    rise = λ l p f j i a j' i' a'. by_side c.F (λ f. both.face_child l p f j ≡ Some (i, a) → both.face_child l p f j' ≡ Some (i', a') → j < j' → i < i')
        (λ f hf e e'. ok.rise l p f j i a j' i' a' (sym (child_one w D c d l p f j hf) ∙ e) (sym (child_one w D c d l p f j' hf) ∙ e'))
        (λ f e e'. (let z = two_child w D c d l p f j i a e in let z' = two_child w D c d l p f j' i' a' e' in
        ok'.rise l p f j i z.0 j' i' z'.0 z.2 z'.2)) f;
    apart = λ l p f f' i a. both_apart l p i a f f';
    across_children = λ l p f q g i a. both_across_children l p q g i a f;
    edge_children = λ l p f g n i a. both_edge_children l p g n i a f;
    edge_onto = λ l p f g n e. both_edge_onto l p g n e f;
    sibling = both_sibling;
    undo = both_undo;
    turn_down = both_turn_down;
  }
