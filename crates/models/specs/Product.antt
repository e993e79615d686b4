-- The product of two flat schemes.
use Rattle.std.specs.Prelude.{ℕ, ◌+◌, ◌-◌, ◌*◌, ◌/◌, ◌%◌, ◌^◌, min, cond, ◌&&◌, Some, None, Option, ◌==◌, nat_le, nat_lt}
use Rattle.scheme.specs.declared.crossing.Crossing.{Crossing}
use Rattle.scheme.specs.declared.crossing.Crossing.TheVariants.{Inside, Edge}
use Rattle.scheme.specs.Scheme.{Model, k, h}
use Rattle.models.specs.Weaving.{weave, left, right}

-- a factor's answer made the product's, by what becomes of a place or child, of an edge number and of a face
abbrev pub crossed : (ℕ → ℕ) → (ℕ → ℕ) → (ℕ → ℕ) → Option Crossing → Option Crossing
crossed place edge face (Some (Inside (q, g))) = Some (Inside (place q, face g))
crossed place edge face (Some (Edge g n)) = Some (Edge (face g) (edge n))
crossed place edge face None = None

abbrev pub faced : (ℕ → ℕ) → (ℕ → ℕ) → Option (ℕ × ℕ) → Option (ℕ × ℕ)
faced place face (Some (q, g)) = Some (place q, face g)
faced place face None = None

abbrev pub numbered : (ℕ → ℕ) → Option ℕ → Option ℕ
numbered edge (Some n) = Some (edge n)
numbered edge None = None

module _ (a b : Model) where
  abbrev pub width : ℕ
  width = a.w + b.w

  abbrev pub depth : ℕ
  depth = min (min a.D b.D) (54 / width)

  -- the places of A and of B in a place, and the place of both
  abbrev pub place_a : ℕ → ℕ → ℕ
  place_a l p = left (k a) (k b) l p

  abbrev pub place_b : ℕ → ℕ → ℕ
  place_b l p = right (k a) (k b) l p

  abbrev pub place_of : ℕ → ℕ → ℕ → ℕ
  place_of l x y = weave (k a) (k b) l x y

  -- a crossing of a face of A keeps B's place, and the other way round
  abbrev pub product_across : ℕ → ℕ → ℕ → Option Crossing
  product_across l p f = cond (nat_le l depth && nat_lt p ((2 ^ width) ^ l))
      (cond (nat_lt f a.F)
      (crossed (λ x. place_of l x (place_b l p)) (λ n. weave (h a) (k b) l n (place_b l p)) (λ g. g) (a.across l (place_a l p) f))
      (crossed (λ y. place_of l (place_a l p) y) (λ n. weave (k a) (h b) l (place_a l p) n) (λ g. a.F + g) (b.across l (place_b l p) (f - a.F))))
      None

  abbrev pub product_at_edge : ℕ → ℕ → ℕ → Option (ℕ × ℕ)
  product_at_edge l g n = cond (nat_le l depth && nat_lt n ((2 ^ (width - 1)) ^ l))
      (cond (nat_lt g a.F)
      (faced (λ x. place_of l x (right (h a) (k b) l n)) (λ f. f) (a.at_edge l g (left (h a) (k b) l n)))
      (faced (λ y. place_of l (left (k a) (h b) l n) y) (λ f. a.F + f) (b.at_edge l (g - a.F) (right (k a) (h b) l n))))
      None

  -- j is A's number of a face child + hA * B's digit, or A's digit + kA * B's number of a face child
  abbrev pub product_face_child : ℕ → ℕ → ℕ → ℕ → Option (ℕ × ℕ)
  product_face_child l p f j = cond (nat_lt l depth && (nat_lt p ((2 ^ width) ^ l) && nat_lt j (2 ^ (width - 1))))
      (cond (nat_lt f a.F)
      (faced (λ i. i + k a * (j / h a)) (λ g. g) (a.face_child l (place_a l p) f (j % h a)))
      (faced (λ i. j % k a + k a * i) (λ g. a.F + g) (b.face_child l (place_b l p) (f - a.F) (j / k a))))
      None

  abbrev pub product_sort : ℕ → Option ℕ
  product_sort g = cond (nat_lt g a.F) (Some 0) (cond (nat_lt g (a.F + b.F)) (Some 1) None)

  -- sort 0 turns A's part, sort 1 turns B's
  abbrev pub product_turned : ℕ → ℕ → ℕ → Option ℕ
  product_turned s l n = cond (nat_le l depth && nat_lt n ((2 ^ (width - 1)) ^ l))
      (cond (s == 0)
      (numbered (λ n'. weave (h a) (k b) l n' (right (h a) (k b) l n)) (a.turned 0 l (left (h a) (k b) l n)))
      (cond (s == 1)
      (numbered (λ n'. weave (k a) (h b) l (left (k a) (h b) l n) n') (b.turned 0 l (right (k a) (h b) l n)))
      None))
      None

  abbrev pub product : Model
  product = record {
    w = width;
    F = a.F + b.F;
    D = depth;
    across = product_across;
    at_edge = product_at_edge;
    face_child = product_face_child;
    sort = product_sort;
    turned = product_turned;
  }
