-- The product of two lawful flat schemes is lawful.
use Rattle.std.proofs.Common.{◌≡◌, ℕ, ◌+◌, ◌-◌, ◌*◌, ◌/◌, ◌%◌, ◌^◌, ◌<◌, ◌≤◌, Bool, true, false, cond, ◌&&◌, eqb, ltb, leb, Some, None, Option, sym, refl, ap, subst, inl, inr, mod-lt, mul_comm, mul-le-mul_left, div-mul-le_self, arith, pow_pos, pow-add}
use Rattle.scheme.specs.declared.crossing.Crossing.{Crossing}
use Rattle.scheme.specs.declared.crossing.Crossing.TheVariants.{Inside, Edge}
use Rattle.scheme.specs.Scheme.{Model, k, h, Lawful}
use Rattle.models.specs.Weaving.{weave, left, right}
use Rattle.scheme.specs.Plan.{Flat}
use Rattle.models.specs.Product.{crossed, faced, numbered, width, depth, place_a, place_b, place_of, product}
use Rattle.models.proofs.Joins.{Join, as_left, as_right, digits_order, digits_rise}
use Rattle.models.proofs.Cylinder.{Faced, scheme, cylinder}
use Rattle.models.proofs.CylinderLaws.{cylinder_lawful}
use Rattle.models.proofs.Sides.{sides}
use Rattle.models.proofs.SidesLaws.{sides_lawful}

-- one test before the choice of a side, or after it
crossed_same : (tested chosen : Bool) (x : Option Crossing) (place edge face : ℕ → ℕ) (o : Option Crossing) →
    cond tested (cond chosen x (crossed place edge face o)) None ≡
    cond chosen (cond tested x None) (crossed (λ q. q) (λ n. n) face (cond tested (crossed place edge (λ g. g) o) None))
crossed_same true true x place edge face o = refl
crossed_same true false x place edge face None = refl
crossed_same true false x place edge face (Some (Inside (q, g))) = refl
crossed_same true false x place edge face (Some (Edge g n)) = refl
crossed_same false true x place edge face o = refl
crossed_same false false x place edge face o = refl

faced_same : (tested chosen : Bool) (x : Option (ℕ × ℕ)) (place face : ℕ → ℕ) (o : Option (ℕ × ℕ)) →
    cond tested (cond chosen x (faced place face o)) None ≡
    cond chosen (cond tested x None) (faced (λ q. q) face (cond tested (faced place (λ g. g) o) None))
faced_same true true x place face o = refl
faced_same true false x place face None = refl
faced_same true false x place face (Some (q, g)) = refl
faced_same false true x place face o = refl
faced_same false false x place face o = refl

turned_same : (tested first second : Bool) (x y : Option ℕ) →
    cond tested (cond first x (cond second y None)) None ≡ cond first (cond tested x None) (cond second (cond tested y None) None)
turned_same true first second x y = refl
turned_same false true second x y = refl
turned_same false false true x y = refl
turned_same false false false x y = refl

module _ (a b : Model) (ok : Lawful a) (ok' : Lawful b) (flat : Flat a) (flat' : Flat b) where
  -- children to a cell and to a face, from the factors'
  cell_children : 2 ^ width a b ≡ k a * k b
  cell_children = pow-add 2 a.w b.w

  face_children : 2 ^ (width a b - 1) ≡ h a * k b
  face_children =
      let e : width a b - 1 ≡ (a.w - 1) + b.w = omega (arith, ok.bounded.width) in
      rw e (pow-add 2 (a.w - 1) b.w)

  face_children' : 2 ^ (width a b - 1) ≡ k a * h b
  face_children' =
      let e : width a b - 1 ≡ a.w + (b.w - 1) = omega (arith, ok'.bounded.width) in
      rw e (pow-add 2 a.w (b.w - 1))

  abbrev places : Join (k a) (k b) (2 ^ width a b)
  places = as_left (k a) (k b) (2 ^ width a b) (pow_pos a.w) (pow_pos b.w) cell_children

  abbrev edges : Join (h a) (k b) (2 ^ (width a b - 1))
  edges = as_left (h a) (k b) (2 ^ (width a b - 1)) (pow_pos (a.w - 1)) (pow_pos b.w) face_children

  abbrev places' : Join (k b) (k a) (2 ^ width a b)
  places' = as_right (k a) (k b) (2 ^ width a b) (pow_pos a.w) (pow_pos b.w) cell_children

  abbrev edges' : Join (h b) (k a) (2 ^ (width a b - 1))
  edges' = as_right (k a) (h b) (2 ^ (width a b - 1)) (pow_pos a.w) (pow_pos (b.w - 1)) face_children'

  abbrev faces_a : Faced
  faces_a = cylinder a (width a b) (depth a b) (k b) places edges

  abbrev faces_b : Faced
  faces_b = cylinder b (width a b) (depth a b) (k a) places' edges'

  product_same : scheme (width a b) (depth a b) (sides faces_a faces_b) ≡ product a b
  product_same = sym (λ i. record {
    w = width a b;
    F = a.F + b.F;
    D = depth a b;
    across = λ l p f. crossed_same (leb l (depth a b) && ltb p ((2 ^ width a b) ^ l)) (ltb f a.F)
        (crossed (λ x. place_of a b l x (place_b a b l p)) (λ n. weave (h a) (k b) l n (place_b a b l p)) (λ g. g) (a.across l (place_a a b l p) f))
        (λ y. place_of a b l (place_a a b l p) y) (λ n. weave (k a) (h b) l (place_a a b l p) n) (λ g. a.F + g) (b.across l (place_b a b l p) (f - a.F)) i;
    at_edge = λ l g n. faced_same (leb l (depth a b) && ltb n ((2 ^ (width a b - 1)) ^ l)) (ltb g a.F)
        (faced (λ x. place_of a b l x (right (h a) (k b) l n)) (λ f. f) (a.at_edge l g (left (h a) (k b) l n)))
        (λ y. place_of a b l (left (k a) (h b) l n) y) (λ f. a.F + f) (b.at_edge l (g - a.F) (right (k a) (h b) l n)) i;
    face_child = λ l p f j. faced_same (ltb l (depth a b) && (ltb p ((2 ^ width a b) ^ l) && ltb j (2 ^ (width a b - 1)))) (ltb f a.F)
        (faced (λ i. i + k a * (j / h a)) (λ g. g) (a.face_child l (place_a a b l p) f (j % h a)))
        (λ i. j % k a + k a * i) (λ g. a.F + g) (b.face_child l (place_b a b l p) (f - a.F) (j / k a)) i;
    sort = (product a b).sort;
    turned = λ s l n. turned_same (leb l (depth a b) && ltb n ((2 ^ (width a b - 1)) ^ l)) (eqb s 0) (eqb s 1)
        (numbered (λ n'. weave (h a) (k b) l n' (right (h a) (k b) l n)) (a.turned 0 l (left (h a) (k b) l n)))
        (numbered (λ n'. weave (k a) (h b) l (left (k a) (h b) l n) n') (b.turned 0 l (right (k a) (h b) l n))) i;
  })

  rises : (j j' i i' : ℕ) → j < j' → i < k a → i' < k a → (j % h a < j' % h a → i < i') → (j % h a ≡ j' % h a → i ≡ i') → i + k a * (j / h a) < i' + k a * (j' / h a)
  rises j j' i i' lt hi hi' less same = elim (digits_order (h a) j j' (pow_pos (a.w - 1)) lt) [
    | inl up ↦ digits_rise (k a) i i' (j / h a) (j' / h a) hi up
    | inr (e, low) ↦ omega (arith, less low, ap (λ z. k a * z) e)
  ]

  rises' : (j j' i i' : ℕ) → j < j' → i < k b → i' < k b → (j / k a < j' / k a → i < i') → (j / k a ≡ j' / k a → i ≡ i') → j % k a + k a * i < j' % k a + k a * i'
  rises' j j' i i' lt hi hi' less same = elim (digits_order (k a) j j' (pow_pos a.w) lt) [
    | inl up ↦ digits_rise (k a) (j % k a) (j' % k a) i i' (mod-lt j (pow_pos a.w)) (less up)
    | inr (e, low) ↦ omega (arith, low, ap (λ z. k a * z) (same e))
  ]

  width_in : (1 ≤ width a b) × (width a b ≤ 4)
  width_in = (omega (arith, ok.bounded.width), omega (arith, flat.narrow, flat'.narrow))

  depth_in : (depth a b ≤ 18) × (width a b * depth a b ≤ 54)
  depth_in =
      let w = width a b in
      let low : depth a b ≤ 54 / w = omega arith in
      (omega (arith, ok.bounded.depth.0), omega (arith, mul-le-mul_left w low, div-mul-le_self 54 w, mul_comm w (54 / w)))

  pub product_lawful : Lawful (product a b)
  product_lawful = subst Lawful product_same (sides_lawful (width a b) (depth a b) faces_a faces_b
      (cylinder_lawful a ok (width a b) (depth a b) (k b) places edges width_in depth_in (omega arith) rises)
      (cylinder_lawful b ok' (width a b) (depth a b) (k a) places' edges' width_in depth_in (omega arith) rises')
      (omega (arith, flat.few, flat'.few)) flat.plain flat'.plain)
