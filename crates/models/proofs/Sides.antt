-- Two schemes on the same cells, each with faces of its own, are one scheme with the faces of both.
use Rattle.std.proofs.Common.{◌≡◌, ℕ, ◌+◌, ◌-◌, ◌<◌, true, cond, eqb, ltb, ◌⊎◌, is_some, Some, None, Option, sym, refl, ◌∙◌, subst, inl, inr, arith}
use Rattle.std.proofs.lemmas.Bool.{lt-ltb, le-ltb, cases_lt}
use Rattle.std.proofs.lemmas.Bool.Decides.{nat_tests}
use Rattle.scheme.specs.declared.crossing.Crossing.{Crossing}
use Rattle.scheme.specs.declared.crossing.Crossing.TheVariants.{Inside, Edge}
use Rattle.scheme.specs.Scheme.{Model, Belongs, CrossedIn, FaceIn}
use Rattle.models.specs.Product.{crossed, faced}
use Rattle.models.proofs.Cylinder.{Faced, scheme}
use Rattle.models.proofs.Converting.{crossed_inside, crossed_edge, faced_some}

-- the faces of c, sort 0, and then those of d, sort 1
abbrev pub sides : Faced → Faced → Faced
sides c d = record {
  F = c.F + d.F;
  across = λ l p f. cond (ltb f c.F) (c.across l p f) (crossed (λ q. q) (λ n. n) (λ g. c.F + g) (d.across l p (f - c.F)));
  at_edge = λ l g n. cond (ltb g c.F) (c.at_edge l g n) (faced (λ q. q) (λ f. c.F + f) (d.at_edge l (g - c.F) n));
  face_child = λ l p f j. cond (ltb f c.F) (c.face_child l p f j) (faced (λ i. i) (λ a. c.F + a) (d.face_child l p (f - c.F) j));
  sort = λ g. cond (ltb g c.F) (Some 0) (cond (ltb g (c.F + d.F)) (Some 1) None);
  turned = λ s l n. cond (eqb s 0) (c.turned 0 l n) (cond (eqb s 1) (d.turned 0 l n) None);
}

-- a face is one of the first side, or a later one
pub by_side : (n : ℕ) (P : ℕ → Type 0) → ((f : ℕ) → f < n → P f) → ((f : ℕ) → P (n + f)) → (f : ℕ) → P f
by_side n P one two f = elim (cases_lt f n) [
  | inl lt ↦ one f lt
  | inr le ↦ subst P (let e : n + (f - n) ≡ f = omega arith in e) (two (f - n))
]

chosen : {A : Type 0} (n f : ℕ) (x y : A) → f < n → cond (ltb f n) x y ≡ x
chosen n f x y hf = rw (lt-ltb f n hf)

passed : {A : Type 0} (n f : ℕ) (x : A) (y : ℕ → A) → cond (ltb (n + f) n) x (y ((n + f) - n)) ≡ y f
passed n f x y = let e : (n + f) - n ≡ f = omega arith in rw (le-ltb (n + f) n (omega arith), e)

pub some_of : {A : Type 0} (o : Option A) → is_some o ≡ true → (x : A) × (o ≡ Some x)
some_of None e = absurd (let z : ◌≡◌ {A = ℕ} 0 1 = cc e in omega arith)
some_of (Some x) e = (x, refl)

pub two_sorts : {A : Type 0} (s : ℕ) (x y : Option A) (r : A) → cond (eqb s 0) x (cond (eqb s 1) y None) ≡ Some r → ((s ≡ 0) × (x ≡ Some r)) ⊎ ((s ≡ 1) × (y ≡ Some r))
two_sorts s x y r e = grind (arith, nat_tests)

-- a sort is told by the side
pub side_sorts : (n n' g s : ℕ) → cond (ltb g n) (Some 0) (cond (ltb g (n + n')) (Some 1) None) ≡ Some s → ((s ≡ 0) × (g < n)) ⊎ ((s ≡ 1) × (g < n + n'))
side_sorts n n' g s e = grind (arith, nat_tests)

module _ (w D : ℕ) (c d : Faced) where
  abbrev pub one : Model
  one = scheme w D c

  abbrev pub two : Model
  two = scheme w D d

  abbrev pub joint : Model
  joint = scheme w D (sides c d)

  abbrev pub up : ℕ → ℕ
  up g = c.F + g

  -- the answers on either side
  pub across_one : (l p f : ℕ) → f < c.F → joint.across l p f ≡ c.across l p f
  across_one l p f hf = chosen c.F f (c.across l p f) (crossed (λ q. q) (λ n. n) up (d.across l p (f - c.F))) hf

  pub across_two : (l p f : ℕ) → joint.across l p (up f) ≡ crossed (λ q. q) (λ n. n) up (d.across l p f)
  across_two l p f = passed c.F f (c.across l p (up f)) (λ f. crossed (λ q. q) (λ n. n) up (d.across l p f))

  pub edge_one : (l g n : ℕ) → g < c.F → joint.at_edge l g n ≡ c.at_edge l g n
  edge_one l g n hg = chosen c.F g (c.at_edge l g n) (faced (λ q. q) up (d.at_edge l (g - c.F) n)) hg

  pub edge_two : (l g n : ℕ) → joint.at_edge l (up g) n ≡ faced (λ q. q) up (d.at_edge l g n)
  edge_two l g n = passed c.F g (c.at_edge l (up g) n) (λ g. faced (λ q. q) up (d.at_edge l g n))

  pub child_one : (l p f j : ℕ) → f < c.F → joint.face_child l p f j ≡ c.face_child l p f j
  child_one l p f j hf = chosen c.F f (c.face_child l p f j) (faced (λ q. q) up (d.face_child l p (f - c.F) j)) hf

  pub child_two : (l p f j : ℕ) → joint.face_child l p (up f) j ≡ faced (λ q. q) up (d.face_child l p f j)
  child_two l p f j = passed c.F f (c.face_child l p (up f) j) (λ f. faced (λ q. q) up (d.face_child l p f j))

  pub inside_two : (l p f q g : ℕ) → d.across l p f ≡ Some (Inside (q, g)) → joint.across l p (up f) ≡ Some (Inside (q, up g))
  inside_two l p f q g e = rw (across_two l p f, e)

  pub meets_two : (l p f g n : ℕ) → d.across l p f ≡ Some (Edge g n) → joint.across l p (up f) ≡ Some (Edge (up g) n)
  meets_two l p f g n e = rw (across_two l p f, e)

  pub lies_two : (l g n p f : ℕ) → d.at_edge l g n ≡ Some (p, f) → joint.at_edge l (up g) n ≡ Some (p, up f)
  lies_two l g n p f e = rw (edge_two l g n, e)

  pub belongs_one : (l p f i a : ℕ) → f < c.F → Belongs one l p f i a → Belongs joint l p f i a
  belongs_one l p f i a hf (j, e) = (j, child_one l p f j hf ∙ e)

  pub belongs_two : (l p f i a : ℕ) → Belongs two l p f i a → Belongs joint l p (up f) i (up a)
  belongs_two l p f i a (j, e) = (j, rw (child_two l p f j, e))

  -- and back
  pub two_inside : (l p f q g : ℕ) → joint.across l p (up f) ≡ Some (Inside (q, g)) → (g' : ℕ) × (g ≡ up g') × (d.across l p f ≡ Some (Inside (q, g')))
  two_inside l p f q g e =
      let z = crossed_inside (λ q. q) (λ n. n) up (d.across l p f) q g (sym (across_two l p f) ∙ e) in
      (z.1, z.4, cc (z.2, z.3))

  pub two_meets : (l p f g n : ℕ) → joint.across l p (up f) ≡ Some (Edge g n) → (g' : ℕ) × (g ≡ up g') × (d.across l p f ≡ Some (Edge g' n))
  two_meets l p f g n e =
      let z = crossed_edge (λ q. q) (λ n. n) up (d.across l p f) g n (sym (across_two l p f) ∙ e) in
      (z.0, z.3, cc (z.2, z.4))

  pub two_lies : (l g n p f : ℕ) → joint.at_edge l (up g) n ≡ Some (p, f) → (f' : ℕ) × (f ≡ up f') × (d.at_edge l g n ≡ Some (p, f'))
  two_lies l g n p f e =
      let z = faced_some (λ q. q) up (d.at_edge l g n) p f (sym (edge_two l g n) ∙ e) in
      (z.1, z.4, cc (z.2, z.3))

  pub two_child : (l p f j i a : ℕ) → joint.face_child l p (up f) j ≡ Some (i, a) → (a' : ℕ) × (a ≡ up a') × (d.face_child l p f j ≡ Some (i, a'))
  two_child l p f j i a e =
      let z = faced_some (λ q. q) up (d.face_child l p f j) i a (sym (child_two l p f j) ∙ e) in
      (z.1, z.4, cc (z.2, z.3))

  pub one_belongs : (l p f i a : ℕ) → f < c.F → Belongs joint l p f i a → Belongs one l p f i a
  one_belongs l p f i a hf (j, e) = (j, sym (child_one l p f j hf) ∙ e)

  pub two_belongs : (l p f i a : ℕ) → Belongs joint l p (up f) i a → (a' : ℕ) × (a ≡ up a') × Belongs two l p f i a'
  two_belongs l p f i a (j, e) = let z = two_child l p f j i a e in (z.0, z.1, (j, z.2))

  -- bounds on either side are bounds of both
  pub crossed_one : (l : ℕ) (o : Option Crossing) → CrossedIn one l o → CrossedIn joint l o
  crossed_one l None x = x
  crossed_one l (Some (Inside (q, g))) x = (x.0, omega (arith, x.1))
  crossed_one l (Some (Edge g n)) x = (omega (arith, x.0), x.1)

  pub crossed_two : (l : ℕ) (o : Option Crossing) → CrossedIn two l o → CrossedIn joint l (crossed (λ q. q) (λ n. n) up o)
  crossed_two l None x = x
  crossed_two l (Some (Inside (q, g))) x = (x.0, omega (arith, x.1))
  crossed_two l (Some (Edge g n)) x = (omega (arith, x.0), x.1)

  pub faced_one : (b : ℕ) (o : Option (ℕ × ℕ)) → FaceIn one b o → FaceIn joint b o
  faced_one b None x = x
  faced_one b (Some (q, g)) x = (x.0, omega (arith, x.1))

  pub faced_two : (b : ℕ) (o : Option (ℕ × ℕ)) → FaceIn two b o → FaceIn joint b (faced (λ q. q) up o)
  faced_two b None x = x
  faced_two b (Some (q, g)) x = (x.0, omega (arith, x.1))
