-- What an answer of a scheme says of its question and of itself.
use Rattle.std.proofs.Common.{◌≡◌, ℕ, ◌^◌, ◌<◌, ◌≤◌, true, is_some, Some, Option, ap}
use Rattle.scheme.specs.declared.crossing.Crossing.TheVariants.{Inside, Edge}
use Rattle.scheme.specs.Scheme.{Model, k, h, Belongs, Bounded, CrossedIn, FaceIn}

pub some_is : {A : Type 0} (o : Option A) (x : A) → o ≡ Some x → is_some o ≡ true
some_is o x e = rw e

pub pair_same : (o : Option (ℕ × ℕ)) (q g q' g' : ℕ) → o ≡ Some (q, g) → o ≡ Some (q', g') → (q ≡ q') × (g ≡ g')
pair_same o q g q' g' x y =
    let e : ◌≡◌ {A = ℕ × ℕ} (q, g) (q', g') = cc in
    (ap (λ (z : ℕ × ℕ). z.0) e, ap (λ (z : ℕ × ℕ). z.1) e)

module _ (m : Model) (ok : Bounded m) where
  pub inside_in : (l p f q g : ℕ) → m.across l p f ≡ Some (Inside (q, g)) → (l ≤ m.D) × (p < k m ^ l) × (f < m.F) × (q < k m ^ l) × (g < m.F)
  inside_in l p f q g e =
      let o = ok.across_out l p f (some_is (m.across l p f) (Inside (q, g)) e) in
      let x : CrossedIn m l (Some (Inside (q, g))) = rw e at (ok.across_in l p f o.0 o.1) in
      (o.0.0, o.0.1, o.1, x.0, x.1)

  pub edge_in : (l p f g n : ℕ) → m.across l p f ≡ Some (Edge g n) → (l ≤ m.D) × (p < k m ^ l) × (f < m.F) × (g < m.F) × (n < h m ^ l)
  edge_in l p f g n e =
      let o = ok.across_out l p f (some_is (m.across l p f) (Edge g n) e) in
      let x : CrossedIn m l (Some (Edge g n)) = rw e at (ok.across_in l p f o.0 o.1) in
      (o.0.0, o.0.1, o.1, x.0, x.1)

  pub at_in : (l g n p f : ℕ) → m.at_edge l g n ≡ Some (p, f) → (l ≤ m.D) × (g < m.F) × (n < h m ^ l) × (p < k m ^ l) × (f < m.F)
  at_in l g n p f e =
      let o = ok.edge_out l g n (some_is (m.at_edge l g n) (p, f) e) in
      let x : FaceIn m (k m ^ l) (Some (p, f)) = rw e at (ok.edge_in l g n o) in
      (o.0, o.1, o.2, x.0, x.1)

  pub child_in : (l p f j i a : ℕ) → m.face_child l p f j ≡ Some (i, a) → (l < m.D) × (p < k m ^ l) × (f < m.F) × (j < h m) × (i < k m) × (a < m.F)
  child_in l p f j i a e =
      let o = ok.child_out l p f j (some_is (m.face_child l p f j) (i, a) e) in
      let x : FaceIn m (k m) (Some (i, a)) = rw e at (ok.child_in l p f j o.0 o.1 o.2 o.3) in
      (o.0, o.1, o.2, o.3, x.0, x.1)

  pub turned_in : (s l n n' : ℕ) → m.turned s l n ≡ Some n' → (l ≤ m.D) × (n < h m ^ l) × (n' < h m ^ l) × ((g : ℕ) × (m.sort g ≡ Some s))
  turned_in s l n n' e =
      let o = ok.turn_out s l n (some_is (m.turned s l n) n' e) in
      let z = ok.turn_in o.0.0 s l n o.0.1 o.1 o.2 in
      let same : z.0 ≡ n' = cc (z.1, e) in
      (o.1, o.2, rw (← same) z.2, o.0)

  pub belongs_in : (l p f i a : ℕ) → Belongs m l p f i a → (l < m.D) × (p < k m ^ l) × (f < m.F) × (i < k m) × (a < m.F)
  belongs_in l p f i a (j, e) = let (hl, hp, hf, _, hi, ha) = child_in l p f j i a e in (hl, hp, hf, hi, ha)
