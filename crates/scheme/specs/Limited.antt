-- A depth limit over a lawful scheme is lawful.
use Rattle.std.specs.Prelude.{◌≡◌, ℕ, suc, ◌+◌, ◌*◌, ◌/◌, ◌^◌, ◌<◌, ◌≤◌, Bool, true, false, is_some, Some, Option, nat_le, nat_lt, refl}
use Rattle.std.proofs.Common.{◌∙◌, inl, inr, arith, mul-le-mul_left}
use Rattle.std.proofs.Math.Nat.{min-le_left}
use Rattle.std.proofs.lemmas.Bool.{ltb-true, leb-true, lt-ltb, le-leb}
use Rattle.scheme.specs.declared.crossing.Crossing.TheVariants.{Inside, Edge}
use Rattle.scheme.specs.Alike.{crossed_alike, face_alike}
use Rattle.scheme.specs.Limiting.{given, limited}
use Rattle.scheme.specs.Scheme.{Model, k, h, Belongs, Lawful, Bounded}

given_some : {A : Type 0} (b : Bool) (o : Option A) (x : A) → given b o ≡ Some x → (b ≡ true) × (o ≡ Some x)
given_some true o x e = (refl, e)
given_some false o x e = (cc e, cc e)

given_is : {A : Type 0} (b : Bool) (o : Option A) → is_some (given b o) ≡ true → (b ≡ true) × (is_some o ≡ true)
given_is true o e = (refl, e)
given_is false o e = (cc e, cc e)

some_given : {A : Type 0} (b : Bool) (o : Option A) (x : A) → b ≡ true → o ≡ Some x → given b o ≡ Some x
some_given b o x t e = rw (t, e)

module _ (m : Model) (d : ℕ) where
  belongs_limited : (l p f i a : ℕ) → l < d → Belongs m l p f i a → Belongs (limited d m) l p f i a
  belongs_limited l p f i a hl (j, e) = (j, some_given (nat_lt l d) (m.face_child l p f j) (i, a) (lt-ltb l d hl) e)

  limited_belongs : (l p f i a : ℕ) → Belongs (limited d m) l p f i a → (l < d) × Belongs m l p f i a
  limited_belongs l p f i a (j, e) =
      let z = given_some (nat_lt l d) (m.face_child l p f j) (i, a) e in
      (ltb-true l d z.0, (j, z.1))

  -- at a level within the limit all is as before
  at_level : {A : Type 0} (l : ℕ) (o : Option A) → l ≤ d → given (nat_le l d) o ≡ o
  at_level l o hl = rw (le-leb l d hl)

  within : {A : Type 0} (l : ℕ) (o : Option A) (x : A) → given (nat_le l d) o ≡ Some x → (l ≤ d) × (o ≡ Some x)
  within l o x e = let z = given_some (nat_le l d) o x e in (leb-true l d z.0, z.1)

module _ (m : Model) (ok : Lawful m) (d : ℕ) where
  limited_bounded : Bounded (limited d m)
  limited_bounded =
      let b = ok.bounded in
      record {
        width = b.width;
        faces = b.faces;
        depth = (omega (arith, b.depth.0), omega (arith, b.depth.1, mul-le-mul_left m.w (min-le_left m.D d)));
        across_in = λ l p f c hf. (let hl : l ≤ d = omega (arith, c.0) in
            rw (at_level m d l (m.across l p f) hl) (crossed_alike m (limited d m) refl refl l (m.across l p f) (b.across_in l p f (omega (arith, c.0), c.1) hf)));
        across_out = λ l p f e. (let z = given_is (nat_le l d) (m.across l p f) e in let w = b.across_out l p f z.1 in
            ((omega (arith, w.0.0, leb-true l d z.0), w.0.1), w.1));
        edge_in = λ l g n c. (let hl : l ≤ d = omega (arith, c.0) in
            rw (at_level m d l (m.at_edge l g n) hl) (face_alike m (limited d m) refl refl (k m ^ l) (m.at_edge l g n) (b.edge_in l g n (omega (arith, c.0), c.1, c.2))));
        edge_out = λ l g n e. (let z = given_is (nat_le l d) (m.at_edge l g n) e in let w = b.edge_out l g n z.1 in
            (omega (arith, w.0, leb-true l d z.0), w.1, w.2));
        child_in = λ l p f j hl hp hf hj. (let hd : l < d = omega arith in
            rw (lt-ltb l d hd) (face_alike m (limited d m) refl refl (k m) (m.face_child l p f j) (b.child_in l p f j (omega arith) hp hf hj)));
        child_out = λ l p f j e. (let z = given_is (nat_lt l d) (m.face_child l p f j) e in let w = b.child_out l p f j z.1 in
            (omega (arith, w.0, ltb-true l d z.0), w.1, w.2, w.3));
        sort_in = b.sort_in;
        sort_out = b.sort_out;
        turn_in = λ g s l n e hl hn. (let z = b.turn_in g s l n e (omega arith) hn in
            let hd : l ≤ d = omega arith in
            (z.0, at_level m d l (m.turned s l n) hd ∙ z.1, z.2));
        turn_out = λ s l n e. (let z = given_is (nat_le l d) (m.turned s l n) e in let w = b.turn_out s l n z.1 in
            (w.0, omega (arith, w.1, leb-true l d z.0), w.2));
      }

  pub limited_lawful : Lawful (limited d m)
  limited_lawful = record {
    bounded = limited_bounded;
    back = λ l p f q g e. (let z = within m d l (m.across l p f) (Inside (q, g)) e in at_level m d l (m.across l q g) z.0 ∙ ok.back l p f q g z.1);
    edge_to = λ l p f g n e. (let z = within m d l (m.across l p f) (Edge g n) e in at_level m d l (m.at_edge l g n) z.0 ∙ ok.edge_to l p f g n z.1);
    edge_from = λ l p f g n e. (let z = within m d l (m.at_edge l g n) (p, f) e in at_level m d l (m.across l p f) z.0 ∙ ok.edge_from l p f g n z.1);
    root_face = λ f hf. at_level m d 0 (m.across 0 0 f) (omega arith) ∙ ok.root_face f hf;
    rise = λ l p f j i a j' i' a' e e' lt.
        ok.rise l p f j i a j' i' a' (given_some (nat_lt l d) (m.face_child l p f j) (i, a) e).1 (given_some (nat_lt l d) (m.face_child l p f j') (i', a') e').1 lt;
    apart = λ l p f f' i a x y. ok.apart l p f f' i a (limited_belongs m d l p f i a x).1 (limited_belongs m d l p f' i a y).1;
    across_children = λ l p f q g i a e x. (let b = limited_belongs m d l p f i a x in
        let z = ok.across_children l p f q g i a (within m d l (m.across l p f) (Inside (q, g)) e).1 b.1 in
        (z.0, z.1, belongs_limited m d l q g z.0 z.1 b.0 z.2, at_level m d (suc l) (m.across (suc l) (p * k m + i) a) b.0 ∙ z.3));
    edge_children = λ l p f g n i a e x. (let b = limited_belongs m d l p f i a x in
        let z = ok.edge_children l p f g n i a (within m d l (m.across l p f) (Edge g n) e).1 b.1 in
        (z.0, z.1, at_level m d (suc l) (m.across (suc l) (p * k m + i) a) b.0 ∙ z.2));
    edge_onto = λ l p f g n e x hl he. (let z = ok.edge_onto l p f g n e (within m d l (m.across l p f) (Edge g n) x).1 (omega arith) he in
        let hd : l < d = omega arith in
        (z.0, z.1, belongs_limited m d l p f z.0 z.1 hd z.2, at_level m d (suc l) (m.across (suc l) (p * k m + z.0) z.1) hd ∙ z.3));
    sibling = λ l p i a hl hp hi ha. (let hd : l < d = omega arith in elim (ok.sibling l p i a (omega arith) hp hi ha) [
      | inl z ↦ inl (z.0, belongs_limited m d l p z.0 i a hd z.1)
      | inr z ↦ inr (z.0, z.1, z.2, z.3, at_level m d (suc l) (m.across (suc l) (p * k m + i) a) hd ∙ z.4)
    ]);
    undo = λ s l n n' e. (let z = within m d l (m.turned s l n) n' e in at_level m d l (m.turned s l n') z.0 ∙ ok.undo s l n n' z.1);
    turn_down = λ s l n n' e. (let z = within m d (suc l) (m.turned s (suc l) n) n' e in
        let hd : l ≤ d = omega (arith, z.0) in
        at_level m d l (m.turned s l (n / h m)) hd ∙ ok.turn_down s l n n' z.1);
  }
