-- One factor's faces in a product are lawful, since the factor is.
use Rattle.std.proofs.Common.{◌≡◌, ℕ, suc, ◌+◌, ◌-◌, ◌*◌, ◌/◌, ◌^◌, ◌<◌, ◌≤◌, ◌&&◌, ltb, leb, ◌⊎◌, Some, None, Option, sym, refl, ap, ◌∙◌, inl, inr, arith, pow_pos}
use native.Mathlib.Nat.{pow-zero}
use Rattle.scheme.specs.declared.crossing.Crossing.{Crossing}
use Rattle.scheme.specs.declared.crossing.Crossing.TheVariants.{Inside, Edge}
use Rattle.scheme.specs.Scheme.{Model, k, h, Belongs, Lawful, Bounded, CrossedIn, FaceIn}
use Rattle.models.specs.Product.{crossed, faced, numbered}
use Rattle.scheme.proofs.Answered.{pair_same}
use Rattle.models.proofs.Weaving.{last_lt}
use Rattle.models.proofs.Weaving.{front_lt}
use Rattle.models.proofs.Joins.{Join}
use Rattle.scheme.proofs.Answered.{child_in}
use Rattle.models.proofs.Converting.{tested_is, both_tests, tests_both, three_tests, tests_three, crossed_is, faced_is, numbered_is}
use Rattle.models.proofs.Cylinder.{here, crosses, crosses_back, meets, meets_back, lies, lies_back, parts, parts_back, turns, turns_back}

-- a converted answer is in bounds, where its place and edge number are
crossed_in : (m n : Model) (l : ℕ) (place edge : ℕ → ℕ) → n.F ≡ m.F → ((x : ℕ) → place x < k n ^ l) → ((x : ℕ) → edge x < h n ^ l) →
    (o : Option Crossing) → CrossedIn m l o → CrossedIn n l (crossed place edge (λ g. g) o)
crossed_in m n l place edge e hp he None x = x
crossed_in m n l place edge e hp he (Some (Inside (q, g))) x = (hp q, rw e x.1)
crossed_in m n l place edge e hp he (Some (Edge g i)) x = (rw e x.0, he i)

faced_in : (m n : Model) (b c : ℕ) (place : ℕ → ℕ) → n.F ≡ m.F → ((x : ℕ) → x < b → place x < c) →
    (o : Option (ℕ × ℕ)) → FaceIn m b o → FaceIn n c (faced place (λ g. g) o)
faced_in m n b c place e hp None x = x
faced_in m n b c place e hp (Some (q, g)) x = (hp q x.0, rw e x.1)

module _ (m : Model) (ok : Lawful m) (w D t : ℕ) (P : Join (k m) t (2 ^ w)) (E : Join (h m) t (2 ^ (w - 1)))
    (width : (1 ≤ w) × (w ≤ 4)) (depth : (D ≤ 18) × (w * D ≤ 54)) (under : D ≤ m.D) where
  abbrev this : Model
  this = here m ok w D t P E

  cylinder_bounded : Bounded this
  cylinder_bounded =
      let b = ok.bounded in
      record {
        width = width;
        faces = b.faces;
        depth = depth;
        across_in = λ l p f c hf.
            rw (both_tests l D p ((2 ^ w) ^ l) c.0 c.1)
            (crossed_in m this l (λ x. P.join l x (P.other l p)) (λ n. E.join l n (P.other l p)) refl (λ x. P.join_lt l x (P.other l p)) (λ n. E.join_lt l n (P.other l p))
            (m.across l (P.own l p) f) (b.across_in l (P.own l p) f (omega (arith, c.0), P.own_lt l p) hf));
        across_out = λ l p f e. (
            let o = m.across l (P.own l p) f in
            let place = λ (x : ℕ). P.join l x (P.other l p) in
            let edge = λ (n : ℕ). E.join l n (P.other l p) in
            let z = tested_is (leb l D && ltb p ((2 ^ w) ^ l)) (crossed place edge (λ g. g) o) e in
            (tests_both l D p ((2 ^ w) ^ l) z.0, (b.across_out l (P.own l p) f (sym (crossed_is place edge (λ g. g) o) ∙ z.1)).1));
        edge_in = λ l g n c.
            rw (both_tests l D n ((2 ^ (w - 1)) ^ l) c.0 c.2)
            (faced_in m this (k m ^ l) ((2 ^ w) ^ l) (λ x. P.join l x (E.other l n)) refl (λ x hx. P.join_lt l x (E.other l n))
            (m.at_edge l g (E.own l n)) (b.edge_in l g (E.own l n) (omega (arith, c.0), c.1, E.own_lt l n)));
        edge_out = λ l g n e. (
            let o = m.at_edge l g (E.own l n) in
            let place = λ (x : ℕ). P.join l x (E.other l n) in
            let z = tested_is (leb l D && ltb n ((2 ^ (w - 1)) ^ l)) (faced place (λ g. g) o) e in
            let in_bounds = tests_both l D n ((2 ^ (w - 1)) ^ l) z.0 in
            (in_bounds.0, (b.edge_out l g (E.own l n) (sym (faced_is place (λ g. g) o) ∙ z.1)).1, in_bounds.1));
        child_in = λ l p f j hl hp hf hj.
            rw (three_tests l D p ((2 ^ w) ^ l) j (2 ^ (w - 1)) hl hp hj)
            (faced_in m this (k m) (2 ^ w) (λ i. P.digit i (E.other_digit j)) refl (λ i hi. P.digit_in i (E.other_digit j) hi (E.other_digit_in j hj))
            (m.face_child l (P.own l p) f (E.own_digit j)) (b.child_in l (P.own l p) f (E.own_digit j) (omega arith) (P.own_lt l p) hf (E.own_digit_in j hj)));
        child_out = λ l p f j e. (
            let o = m.face_child l (P.own l p) f (E.own_digit j) in
            let place = λ (i : ℕ). P.digit i (E.other_digit j) in
            let z = tested_is (ltb l D && (ltb p ((2 ^ w) ^ l) && ltb j (2 ^ (w - 1)))) (faced place (λ g. g) o) e in
            let in_bounds = tests_three l D p ((2 ^ w) ^ l) j (2 ^ (w - 1)) z.0 in
            (in_bounds.0, in_bounds.1, (b.child_out l (P.own l p) f (E.own_digit j) (sym (faced_is place (λ g. g) o) ∙ z.1)).2, in_bounds.2));
        sort_in = b.sort_in;
        sort_out = b.sort_out;
        turn_in = λ g s l n e hl hn. (
            let z = b.turn_in g s l (E.own l n) e (omega arith) (E.own_lt l n) in
            (E.join l z.0 (E.other l n), rw (both_tests l D n ((2 ^ (w - 1)) ^ l) hl hn, z.1), E.join_lt l z.0 (E.other l n)));
        turn_out = λ s l n e. (
            let o = m.turned s l (E.own l n) in
            let edge = λ (x : ℕ). E.join l x (E.other l n) in
            let z = tested_is (leb l D && ltb n ((2 ^ (w - 1)) ^ l)) (numbered edge o) e in
            let in_bounds = tests_both l D n ((2 ^ (w - 1)) ^ l) z.0 in
            ((b.turn_out s l (E.own l n) (sym (numbered_is edge o) ∙ z.1)).0, in_bounds.0, in_bounds.1));
      }

  -- a child's own digits and the other's, below those of its parent
  child_crosses : (l p q i i' a a' : ℕ) → l < D → p < (2 ^ w) ^ l → q < (2 ^ w) ^ l → i < 2 ^ w → i' < 2 ^ w →
      P.other l p ≡ P.other l q → P.other_digit i ≡ P.other_digit i' →
      m.across (suc l) (P.own l p * k m + P.own_digit i) a ≡ Some (Inside (P.own l q * k m + P.own_digit i', a')) →
      this.across (suc l) (p * 2 ^ w + i) a ≡ Some (Inside (q * 2 ^ w + i', a'))
  child_crosses l p q i i' a a' hl hp hq hi hi' kept kept' e = crosses_back m ok w D t P E (suc l) (p * 2 ^ w + i) a (q * 2 ^ w + i') a' (record {
    level = hl;
    from_in = last_lt (2 ^ w) l p i hp hi;
    to_in = last_lt (2 ^ w) l q i' hq hi';
    kept = rw (P.other_last l p i hi, P.other_last l q i' hi', kept, kept');
    answer = rw (P.own_last l p i hi, P.own_last l q i' hi') e;
  })

  child_meets : (l p n i e a g : ℕ) → l < D → p < (2 ^ w) ^ l → n < (2 ^ (w - 1)) ^ l → i < 2 ^ w → e < 2 ^ (w - 1) →
      P.other l p ≡ E.other l n → P.other_digit i ≡ E.other_digit e →
      m.across (suc l) (P.own l p * k m + P.own_digit i) a ≡ Some (Edge g (E.own l n * h m + E.own_digit e)) →
      this.across (suc l) (p * 2 ^ w + i) a ≡ Some (Edge g (n * 2 ^ (w - 1) + e))
  child_meets l p n i e a g hl hp hn hi he kept kept' x = meets_back m ok w D t P E (suc l) (p * 2 ^ w + i) a g (n * 2 ^ (w - 1) + e) (record {
    level = hl;
    place_in = last_lt (2 ^ w) l p i hp hi;
    number_in = last_lt (2 ^ (w - 1)) l n e hn he;
    kept = rw (P.other_last l p i hi, E.other_last l n e he, kept, kept');
    answer = rw (P.own_last l p i hi, E.own_last l n e he) x;
  })

  own_belongs : (l p f i a : ℕ) → Belongs this l p f i a → (l < D) × (p < (2 ^ w) ^ l) × (i < 2 ^ w) × Belongs m l (P.own l p) f (P.own_digit i) a
  own_belongs l p f i a (j, e) =
      let c = parts m ok w D t P E l p f j i a e in
      (c.level, c.place_in, c.child_in, (E.own_digit j, c.answer))

  -- a face child of one's own, with any digit y of the other
  belongs_own : (l p f i y a : ℕ) → l < D → p < (2 ^ w) ^ l → y < t → Belongs m l (P.own l p) f i a → (i < k m) × Belongs this l p f (P.digit i y) a
  belongs_own l p f i y a hl hp hy (j, e) =
      let b = child_in m ok.bounded l (P.own l p) f j i a e in
      let i' = P.digit i y in
      let j' = E.digit j y in (
        b.4,
        (
          j',
          parts_back m ok w D t P E l p f j' i' a (record {
            level = hl;
            place_in = hp;
            number_in = E.digit_in j y b.3 hy;
            child_in = P.digit_in i y b.4 hy;
            kept = P.other_of_digit i y b.4 hy ∙ sym (E.other_of_digit j y b.3 hy);
            answer = rw (E.own_of_digit j y b.3 hy, P.own_of_digit i y b.4 hy) e;
          }),
        ),
      )

  cylinder_across_children : (l p f q g i a : ℕ) → this.across l p f ≡ Some (Inside (q, g)) → Belongs this l p f i a →
      (i' : ℕ) × (a' : ℕ) × Belongs this l q g i' a' × (this.across (suc l) (p * 2 ^ w + i) a ≡ Some (Inside (q * 2 ^ w + i', a')))
  cylinder_across_children l p f q g i a e x =
      let c = crosses m ok w D t P E l p f q g e in
      let b = own_belongs l p f i a x in
      let z = ok.across_children l (P.own l p) f (P.own l q) g (P.own_digit i) a c.answer b.3 in
      let y = P.other_digit i in
      let hy = P.other_digit_in i b.2 in
      let to = belongs_own l q g z.0 y z.1 b.0 c.to_in hy z.2 in
      let i' = P.digit z.0 y in (
        i',
        z.1,
        to.1,
        child_crosses l p q i i' a z.1 b.0 c.from_in c.to_in b.2 (P.digit_in z.0 y to.0 hy)
            c.kept (sym (P.other_of_digit z.0 y to.0 hy)) (rw (P.own_of_digit z.0 y to.0 hy) z.3),
      )

  cylinder_edge_children : (l p f g n i a : ℕ) → this.across l p f ≡ Some (Edge g n) → Belongs this l p f i a →
      (e : ℕ) × (e < 2 ^ (w - 1)) × (this.across (suc l) (p * 2 ^ w + i) a ≡ Some (Edge g (n * 2 ^ (w - 1) + e)))
  cylinder_edge_children l p f g n i a e x =
      let c = meets m ok w D t P E l p f g n e in
      let b = own_belongs l p f i a x in
      let z = ok.edge_children l (P.own l p) f g (E.own l n) (P.own_digit i) a c.answer b.3 in
      let y = P.other_digit i in
      let hy = P.other_digit_in i b.2 in
      let d = E.digit z.0 y in
      let hd = E.digit_in z.0 y z.1 hy in (
        d,
        hd,
        child_meets l p n i d a g b.0 c.place_in c.number_in b.2 hd c.kept (sym (E.other_of_digit z.0 y z.1 hy))
            (rw (E.own_of_digit z.0 y z.1 hy) z.2),
      )

  cylinder_edge_onto : (l p f g n e : ℕ) → this.across l p f ≡ Some (Edge g n) → l < D → e < 2 ^ (w - 1) →
      (i : ℕ) × (a : ℕ) × Belongs this l p f i a × (this.across (suc l) (p * 2 ^ w + i) a ≡ Some (Edge g (n * 2 ^ (w - 1) + e)))
  cylinder_edge_onto l p f g n e x hl he =
      let c = meets m ok w D t P E l p f g n x in
      let z = ok.edge_onto l (P.own l p) f g (E.own l n) (E.own_digit e) c.answer (omega arith) (E.own_digit_in e he) in
      let y = E.other_digit e in
      let hy = E.other_digit_in e he in
      let to = belongs_own l p f z.0 y z.1 hl c.place_in hy z.2 in
      let i = P.digit z.0 y in (
        i,
        z.1,
        to.1,
        child_meets l p n i e z.1 g hl c.place_in c.number_in (P.digit_in z.0 y to.0 hy) he
            c.kept (P.other_of_digit z.0 y to.0 hy) (rw (P.own_of_digit z.0 y to.0 hy) z.3),
      )

  cylinder_sibling : (l p i a : ℕ) → l < D → p < (2 ^ w) ^ l → i < 2 ^ w → a < m.F →
      ((f : ℕ) × Belongs this l p f i a) ⊎
      ((i' : ℕ) × (a' : ℕ) × (i' < 2 ^ w) × (i' ≡ i → ⊥) × (this.across (suc l) (p * 2 ^ w + i) a ≡ Some (Inside (p * 2 ^ w + i', a'))))
  cylinder_sibling l p i a hl hp hi ha = go (ok.sibling l (P.own l p) (P.own_digit i) a (omega arith) (P.own_lt l p) (P.own_digit_in i hi) ha)
    where
      go : ((f : ℕ) × Belongs m l (P.own l p) f (P.own_digit i) a) ⊎
          ((i' : ℕ) × (a' : ℕ) × (i' < k m) × (i' ≡ P.own_digit i → ⊥) ×
          (m.across (suc l) (P.own l p * k m + P.own_digit i) a ≡ Some (Inside (P.own l p * k m + i', a')))) →
          ((f : ℕ) × Belongs this l p f i a) ⊎
          ((i' : ℕ) × (a' : ℕ) × (i' < 2 ^ w) × (i' ≡ i → ⊥) × (this.across (suc l) (p * 2 ^ w + i) a ≡ Some (Inside (p * 2 ^ w + i', a'))))
      go (inl (f, b)) = inl (f, rw (P.digit_parts i) at (belongs_own l p f (P.own_digit i) (P.other_digit i) a hl hp (P.other_digit_in i hi) b).1)
      go (inr (d, a', hd, ne, e)) =
          let hy = P.other_digit_in i hi in
          let i' = P.digit d (P.other_digit i) in
          let hi' = P.digit_in d (P.other_digit i) hd hy in
          let own_i' : P.own_digit i' ≡ d = P.own_of_digit d (P.other_digit i) hd hy in
          inr (
            i',
            a',
            hi',
            (λ same. ne (sym own_i' ∙ ap P.own_digit same)),
            child_crosses l p p i i' a a' hl hp hp hi hi' refl (sym (P.other_of_digit d (P.other_digit i) hd hy)) (rw own_i' e),
          )

  cylinder_turn_down : (s l n n' : ℕ) → this.turned s (suc l) n ≡ Some n' → this.turned s l (n / 2 ^ (w - 1)) ≡ Some (n' / 2 ^ (w - 1))
  cylinder_turn_down s l n n' e =
      let c = turns m ok w D t P E s (suc l) n n' e in
      turns_back m ok w D t P E s l (n / 2 ^ (w - 1)) (n' / 2 ^ (w - 1)) (record {
        level = omega (arith, c.level);
        from_in = front_lt (2 ^ (w - 1)) l n (pow_pos (w - 1)) c.from_in;
        to_in = front_lt (2 ^ (w - 1)) l n' (pow_pos (w - 1)) c.to_in;
        kept = sym (E.other_up l n) ∙ ap (λ z. z / t) c.kept ∙ E.other_up l n';
        answer = rw (← E.own_up l n, ← E.own_up l n') (ok.turn_down s l (E.own (suc l) n) (E.own (suc l) n') c.answer);
      })

  -- at the root all numbers are 0
  at_root : (b n : ℕ) → n < b ^ 0 → n ≡ 0
  at_root b n hn = omega (arith, pow-zero b)

  cylinder_root_face : (f : ℕ) → f < m.F → this.across 0 0 f ≡ Some (Edge f 0)
  cylinder_root_face f hf = meets_back m ok w D t P E 0 0 f f 0 (record {
    level = omega arith;
    place_in = omega (arith, pow-zero (2 ^ w));
    number_in = omega (arith, pow-zero (2 ^ (w - 1)));
    kept = at_root t (P.other 0 0) (P.other_lt 0 0) ∙ sym (at_root t (E.other 0 0) (E.other_lt 0 0));
    answer = rw (at_root (k m) (P.own 0 0) (P.own_lt 0 0), at_root (h m) (E.own 0 0) (E.own_lt 0 0)) (ok.root_face f hf);
  })

  -- face children rise, if the numbers of the joined ones do
  pub cylinder_lawful : ((j j' i i' : ℕ) → j < j' → i < k m → i' < k m →
      (E.own_digit j < E.own_digit j' → i < i') → (E.own_digit j ≡ E.own_digit j' → i ≡ i') →
      P.digit i (E.other_digit j) < P.digit i' (E.other_digit j')) → Lawful this
  cylinder_lawful rises = record {
    bounded = cylinder_bounded;
    back = λ l p f q g e. (let c = crosses m ok w D t P E l p f q g e in crosses_back m ok w D t P E l q g p f (record {
      level = c.level;
      from_in = c.to_in;
      to_in = c.from_in;
      kept = sym c.kept;
      answer = ok.back l (P.own l p) f (P.own l q) g c.answer;
    }));
    edge_to = λ l p f g n e. (let c = meets m ok w D t P E l p f g n e in lies_back m ok w D t P E l g n p f (record {
      level = c.level;
      place_in = c.place_in;
      number_in = c.number_in;
      kept = c.kept;
      answer = ok.edge_to l (P.own l p) f g (E.own l n) c.answer;
    }));
    edge_from = λ l p f g n e. (let c = lies m ok w D t P E l g n p f e in meets_back m ok w D t P E l p f g n (record {
      level = c.level;
      place_in = c.place_in;
      number_in = c.number_in;
      kept = c.kept;
      answer = ok.edge_from l (P.own l p) f g (E.own l n) c.answer;
    }));
    root_face = cylinder_root_face;
    rise = λ l p f j i a j' i' a' e e' lt. (
        let c = parts m ok w D t P E l p f j i a e in
        let c' = parts m ok w D t P E l p f j' i' a' e' in
        let low = P.own_digit_in i c.child_in in
        let low' = P.own_digit_in i' c'.child_in in
        let z = rises j j' (P.own_digit i) (P.own_digit i') lt low low'
        (ok.rise l (P.own l p) f (E.own_digit j) (P.own_digit i) a (E.own_digit j') (P.own_digit i') a' c.answer c'.answer)
        (λ same. (pair_same (m.face_child l (P.own l p) f (E.own_digit j)) (P.own_digit i) a (P.own_digit i') a' c.answer (rw same c'.answer)).0) in
        rw (← c.kept, ← c'.kept, P.digit_parts i, P.digit_parts i') at z);
    apart = λ l p f f' i a x y. ok.apart l (P.own l p) f f' (P.own_digit i) a (own_belongs l p f i a x).3 (own_belongs l p f' i a y).3;
    across_children = cylinder_across_children;
    edge_children = cylinder_edge_children;
    edge_onto = cylinder_edge_onto;
    sibling = cylinder_sibling;
    undo = λ s l n n' e. (let c = turns m ok w D t P E s l n n' e in turns_back m ok w D t P E s l n' n (record {
      level = c.level;
      from_in = c.to_in;
      to_in = c.from_in;
      kept = sym c.kept;
      answer = ok.undo s l (E.own l n) (E.own l n') c.answer;
    }));
    turn_down = cylinder_turn_down;
  }
