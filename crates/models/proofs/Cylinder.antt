-- One factor's faces in a product: the cells of the product, and of its faces only that factor's.
use Rattle.std.proofs.Common.{◌≡◌, ℕ, ◌-◌, ◌^◌, ◌<◌, ◌≤◌, cond, ◌&&◌, ltb, leb, Some, None, Option, sym, ap, ◌∙◌}
use Rattle.scheme.specs.declared.crossing.Crossing.{Crossing}
use Rattle.scheme.specs.declared.crossing.Crossing.TheVariants.{Inside, Edge}
use Rattle.scheme.specs.Scheme.{Model, k, h, Lawful}
use Rattle.models.specs.Product.{crossed, faced, numbered}
use Rattle.models.proofs.Joins.{Join}
use Rattle.scheme.proofs.Answered.{inside_in, edge_in, at_in, child_in, turned_in}
use Rattle.models.proofs.Converting.{tested_some, both_tests, tests_both, three_tests, tests_three, crossed_inside, crossed_edge, faced_some, numbered_some}

-- a scheme but for its width and depth
pub record Faced : Type 0 where
  pub F : ℕ
  pub across : ℕ → ℕ → ℕ → Option Crossing
  pub at_edge : ℕ → ℕ → ℕ → Option (ℕ × ℕ)
  pub face_child : ℕ → ℕ → ℕ → ℕ → Option (ℕ × ℕ)
  pub sort : ℕ → Option ℕ
  pub turned : ℕ → ℕ → ℕ → Option ℕ

abbrev pub scheme : ℕ → ℕ → Faced → Model
scheme w D c = record { w = w; F = c.F; D = D; across = c.across; at_edge = c.at_edge; face_child = c.face_child; sort = c.sort; turned = c.turned }

-- the factor m, its places joined by P with the other's, and its edge numbers by E
module _ (m : Model) (w D t : ℕ) (P : Join (k m) t (2 ^ w)) (E : Join (h m) t (2 ^ (w - 1))) where
  abbrev pub cylinder : Faced
  cylinder = record {
    F = m.F;
    across = λ l p f. cond (leb l D && ltb p ((2 ^ w) ^ l))
        (crossed (λ x. P.join l x (P.other l p)) (λ n. E.join l n (P.other l p)) (λ g. g) (m.across l (P.own l p) f)) None;
    at_edge = λ l g n. cond (leb l D && ltb n ((2 ^ (w - 1)) ^ l))
        (faced (λ x. P.join l x (E.other l n)) (λ f. f) (m.at_edge l g (E.own l n))) None;
    face_child = λ l p f j. cond (ltb l D && (ltb p ((2 ^ w) ^ l) && ltb j (2 ^ (w - 1))))
        (faced (λ i. P.digit i (E.other_digit j)) (λ g. g) (m.face_child l (P.own l p) f (E.own_digit j))) None;
    sort = m.sort;
    turned = λ s l n. cond (leb l D && ltb n ((2 ^ (w - 1)) ^ l))
        (numbered (λ n'. E.join l n' (E.other l n)) (m.turned s l (E.own l n))) None;
  }

  -- what each answer says: the other's digits are kept, one's own answer
  pub record Crosses (l p f q g : ℕ) : Type 0 where
    pub level : l ≤ D
    pub from_in : p < (2 ^ w) ^ l
    pub to_in : q < (2 ^ w) ^ l
    pub kept : P.other l p ≡ P.other l q
    pub answer : m.across l (P.own l p) f ≡ Some (Inside (P.own l q, g))

  pub record Meets (l p f g n : ℕ) : Type 0 where
    pub level : l ≤ D
    pub place_in : p < (2 ^ w) ^ l
    pub number_in : n < (2 ^ (w - 1)) ^ l
    pub kept : P.other l p ≡ E.other l n
    pub answer : m.across l (P.own l p) f ≡ Some (Edge g (E.own l n))

  pub record Lies (l g n p f : ℕ) : Type 0 where
    pub level : l ≤ D
    pub place_in : p < (2 ^ w) ^ l
    pub number_in : n < (2 ^ (w - 1)) ^ l
    pub kept : P.other l p ≡ E.other l n
    pub answer : m.at_edge l g (E.own l n) ≡ Some (P.own l p, f)

  pub record Parts (l p f j i a : ℕ) : Type 0 where
    pub level : l < D
    pub place_in : p < (2 ^ w) ^ l
    pub number_in : j < 2 ^ (w - 1)
    pub child_in : i < 2 ^ w
    pub kept : P.other_digit i ≡ E.other_digit j
    pub answer : m.face_child l (P.own l p) f (E.own_digit j) ≡ Some (P.own_digit i, a)

  pub record Turned (s l n n' : ℕ) : Type 0 where
    pub level : l ≤ D
    pub from_in : n < (2 ^ (w - 1)) ^ l
    pub to_in : n' < (2 ^ (w - 1)) ^ l
    pub kept : E.other l n ≡ E.other l n'
    pub answer : m.turned s l (E.own l n) ≡ Some (E.own l n')

module _ (m : Model) (ok : Lawful m) (w D t : ℕ) (P : Join (k m) t (2 ^ w)) (E : Join (h m) t (2 ^ (w - 1))) where
  abbrev pub here : Model
  here = scheme w D (cylinder m w D t P E)

  pub crosses : (l p f q g : ℕ) → here.across l p f ≡ Some (Inside (q, g)) → Crosses m w D t P E l p f q g
  crosses l p f q g e =
      let o = m.across l (P.own l p) f in
      let y = P.other l p in
      let z = tested_some (leb l D && ltb p ((2 ^ w) ^ l)) (crossed (λ x. P.join l x y) (λ n. E.join l n y) (λ g. g) o) (Inside (q, g)) e in
      let in_bounds = tests_both l D p ((2 ^ w) ^ l) z.0 in
      let c = crossed_inside (λ x. P.join l x y) (λ n. E.join l n y) (λ g. g) o q g z.1 in
      let own_q : P.own l q ≡ c.0 = ap (P.own l) c.3 ∙ P.own_join l c.0 y (inside_in m ok.bounded l (P.own l p) f c.0 c.1 c.2).3 in
      let other_q : P.other l q ≡ y = ap (P.other l) c.3 ∙ P.other_join l c.0 y (P.other_lt l p) in
      record {
        level = in_bounds.0;
        from_in = in_bounds.1;
        to_in = rw c.3 (P.join_lt l c.0 y);
        kept = sym other_q;
        answer = cc (c.2, own_q, c.4);
      }

  pub crosses_back : (l p f q g : ℕ) → Crosses m w D t P E l p f q g → here.across l p f ≡ Some (Inside (q, g))
  crosses_back l p f q g c = rw (both_tests l D p ((2 ^ w) ^ l) c.level c.from_in, c.answer, c.kept, P.join_parts l q c.to_in)

  pub meets : (l p f g n : ℕ) → here.across l p f ≡ Some (Edge g n) → Meets m w D t P E l p f g n
  meets l p f g n e =
      let o = m.across l (P.own l p) f in
      let y = P.other l p in
      let z = tested_some (leb l D && ltb p ((2 ^ w) ^ l)) (crossed (λ x. P.join l x y) (λ n. E.join l n y) (λ g. g) o) (Edge g n) e in
      let in_bounds = tests_both l D p ((2 ^ w) ^ l) z.0 in
      let c = crossed_edge (λ x. P.join l x y) (λ n. E.join l n y) (λ g. g) o g n z.1 in
      let own_n : E.own l n ≡ c.1 = ap (E.own l) c.4 ∙ E.own_join l c.1 y (edge_in m ok.bounded l (P.own l p) f c.0 c.1 c.2).4 in
      let other_n : E.other l n ≡ y = ap (E.other l) c.4 ∙ E.other_join l c.1 y (P.other_lt l p) in
      record {
        level = in_bounds.0;
        place_in = in_bounds.1;
        number_in = rw c.4 (E.join_lt l c.1 y);
        kept = sym other_n;
        answer = cc (c.2, own_n, c.3);
      }

  pub meets_back : (l p f g n : ℕ) → Meets m w D t P E l p f g n → here.across l p f ≡ Some (Edge g n)
  meets_back l p f g n c = rw (both_tests l D p ((2 ^ w) ^ l) c.level c.place_in, c.answer, c.kept, E.join_parts l n c.number_in)

  pub lies : (l g n p f : ℕ) → here.at_edge l g n ≡ Some (p, f) → Lies m w D t P E l g n p f
  lies l g n p f e =
      let o = m.at_edge l g (E.own l n) in
      let y = E.other l n in
      let z = tested_some (leb l D && ltb n ((2 ^ (w - 1)) ^ l)) (faced (λ x. P.join l x y) (λ g. g) o) (p, f) e in
      let in_bounds = tests_both l D n ((2 ^ (w - 1)) ^ l) z.0 in
      let c = faced_some (λ x. P.join l x y) (λ g. g) o p f z.1 in
      let own_p : P.own l p ≡ c.0 = ap (P.own l) c.3 ∙ P.own_join l c.0 y (at_in m ok.bounded l g (E.own l n) c.0 c.1 c.2).3 in
      let other_p : P.other l p ≡ y = ap (P.other l) c.3 ∙ P.other_join l c.0 y (E.other_lt l n) in
      record {
        level = in_bounds.0;
        place_in = rw c.3 (P.join_lt l c.0 y);
        number_in = in_bounds.1;
        kept = other_p;
        answer = cc (c.2, own_p, c.4);
      }

  pub lies_back : (l g n p f : ℕ) → Lies m w D t P E l g n p f → here.at_edge l g n ≡ Some (p, f)
  lies_back l g n p f c = rw (both_tests l D n ((2 ^ (w - 1)) ^ l) c.level c.number_in, c.answer, ← c.kept, P.join_parts l p c.place_in)

  pub parts : (l p f j i a : ℕ) → here.face_child l p f j ≡ Some (i, a) → Parts m w D t P E l p f j i a
  parts l p f j i a e =
      let o = m.face_child l (P.own l p) f (E.own_digit j) in
      let y = E.other_digit j in
      let z = tested_some (ltb l D && (ltb p ((2 ^ w) ^ l) && ltb j (2 ^ (w - 1)))) (faced (λ i. P.digit i y) (λ g. g) o) (i, a) e in
      let in_bounds = tests_three l D p ((2 ^ w) ^ l) j (2 ^ (w - 1)) z.0 in
      let c = faced_some (λ i. P.digit i y) (λ g. g) o i a z.1 in
      let own_in = (child_in m ok.bounded l (P.own l p) f (E.own_digit j) c.0 c.1 c.2).4 in
      let other_in = E.other_digit_in j in_bounds.2 in
      let own_i : P.own_digit i ≡ c.0 = ap P.own_digit c.3 ∙ P.own_of_digit c.0 y own_in other_in in
      let other_i : P.other_digit i ≡ y = ap P.other_digit c.3 ∙ P.other_of_digit c.0 y own_in other_in in
      record {
        level = in_bounds.0;
        place_in = in_bounds.1;
        number_in = in_bounds.2;
        child_in = rw c.3 (P.digit_in c.0 y own_in other_in);
        kept = other_i;
        answer = cc (c.2, own_i, c.4);
      }

  pub parts_back : (l p f j i a : ℕ) → Parts m w D t P E l p f j i a → here.face_child l p f j ≡ Some (i, a)
  parts_back l p f j i a c = rw (three_tests l D p ((2 ^ w) ^ l) j (2 ^ (w - 1)) c.level c.place_in c.number_in, c.answer, ← c.kept, P.digit_parts i)

  pub turns : (s l n n' : ℕ) → here.turned s l n ≡ Some n' → Turned m w D t P E s l n n'
  turns s l n n' e =
      let o = m.turned s l (E.own l n) in
      let y = E.other l n in
      let z = tested_some (leb l D && ltb n ((2 ^ (w - 1)) ^ l)) (numbered (λ x. E.join l x y) o) n' e in
      let in_bounds = tests_both l D n ((2 ^ (w - 1)) ^ l) z.0 in
      let c = numbered_some (λ x. E.join l x y) o n' z.1 in
      let own_n : E.own l n' ≡ c.0 = ap (E.own l) c.2 ∙ E.own_join l c.0 y (turned_in m ok.bounded s l (E.own l n) c.0 c.1).2 in
      let other_n : E.other l n' ≡ y = ap (E.other l) c.2 ∙ E.other_join l c.0 y (E.other_lt l n) in
      record {
        level = in_bounds.0;
        from_in = in_bounds.1;
        to_in = rw c.2 (E.join_lt l c.0 y);
        kept = sym other_n;
        answer = rw own_n c.1;
      }

  pub turns_back : (s l n n' : ℕ) → Turned m w D t P E s l n n' → here.turned s l n ≡ Some n'
  turns_back s l n n' c = rw (both_tests l D n ((2 ^ (w - 1)) ^ l) c.level c.from_in, c.answer, c.kept, E.join_parts l n' c.to_in)
