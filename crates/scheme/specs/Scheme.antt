-- What an element scheme means, and the laws that it shows.
use Rattle.std.specs.Prelude.{◌≡◌, ℕ, suc, ◌+◌, ◌-◌, ◌*◌, ◌/◌, ◌^◌, ◌<◌, ◌≤◌, true, ◌⊎◌, is_some, Some, None, Option, ◌≢◌}
use Rattle.scheme.specs.declared.crossing.Crossing.{Crossing}
use Rattle.scheme.specs.declared.crossing.Crossing.TheVariants.{Inside, Edge}

pub record Model : Type 0 where
  pub w : ℕ
  pub F : ℕ
  pub D : ℕ
  -- level, place, face
  pub across : ℕ → ℕ → ℕ → Option Crossing
  -- level, root face, edge number
  pub at_edge : ℕ → ℕ → ℕ → Option (ℕ × ℕ)
  -- level, place, face, number of the face child
  pub face_child : ℕ → ℕ → ℕ → ℕ → Option (ℕ × ℕ)
  -- root face
  pub sort : ℕ → Option ℕ
  -- sort, level, edge number
  pub turned : ℕ → ℕ → ℕ → Option ℕ

-- children to a cell, and to a face
abbrev pub k : Model → ℕ
k m = 2 ^ m.w

abbrev pub h : Model → ℕ
h m = 2 ^ (m.w - 1)

abbrev pub CellIn : Model → ℕ → ℕ → Type 0
CellIn m l p = (l ≤ m.D) × (p < k m ^ l)

abbrev pub EdgeIn : Model → ℕ → ℕ → ℕ → Type 0
EdgeIn m l g n = (l ≤ m.D) × (g < m.F) × (n < h m ^ l)

-- an answer of `across`, inside its bounds
abbrev pub CrossedIn : Model → ℕ → Option Crossing → Type 0
CrossedIn m l (Some (Inside (q, g))) = (q < k m ^ l) × (g < m.F)
CrossedIn m l (Some (Edge g n)) = (g < m.F) × (n < h m ^ l)
CrossedIn m l None = ⊥

abbrev pub FaceIn : Model → ℕ → Option (ℕ × ℕ) → Type 0
FaceIn m bound (Some (i, a)) = (i < bound) × (a < m.F)
FaceIn m bound None = ⊥

-- the face a of the child i belongs to the face f of its parent
abbrev pub Belongs : Model → ℕ → ℕ → ℕ → ℕ → ℕ → Type 0
Belongs m l p f i a = (j : ℕ) × (m.face_child l p f j ≡ Some (i, a))

pub record Bounded (m : Model) : Type 0 where
  pub width : (1 ≤ m.w) × (m.w ≤ 4)
  pub faces : (2 ≤ m.F) × (m.F ≤ 8)
  pub depth : (m.D ≤ 18) × (m.w * m.D ≤ 54)
  pub across_in : (l p f : ℕ) → CellIn m l p → f < m.F → CrossedIn m l (m.across l p f)
  pub across_out : (l p f : ℕ) → is_some (m.across l p f) ≡ true → CellIn m l p × (f < m.F)
  pub edge_in : (l g n : ℕ) → EdgeIn m l g n → FaceIn m (k m ^ l) (m.at_edge l g n)
  pub edge_out : (l g n : ℕ) → is_some (m.at_edge l g n) ≡ true → EdgeIn m l g n
  pub child_in : (l p f j : ℕ) → l < m.D → p < k m ^ l → f < m.F → j < h m → FaceIn m (k m) (m.face_child l p f j)
  pub child_out : (l p f j : ℕ) → is_some (m.face_child l p f j) ≡ true → (l < m.D) × (p < k m ^ l) × (f < m.F) × (j < h m)
  pub sort_in : (g : ℕ) → g < m.F → is_some (m.sort g) ≡ true
  pub sort_out : (g : ℕ) → is_some (m.sort g) ≡ true → g < m.F
  pub turn_in : (g s l n : ℕ) → m.sort g ≡ Some s → l ≤ m.D → n < h m ^ l → (n' : ℕ) × (m.turned s l n ≡ Some n') × (n' < h m ^ l)
  pub turn_out : (s l n : ℕ) → is_some (m.turned s l n) ≡ true → ((g : ℕ) × (m.sort g ≡ Some s)) × (l ≤ m.D) × (n < h m ^ l)

pub record Lawful (m : Model) : Type 0 where
  pub bounded : Bounded m
  -- 1 an inside crossing leads back
  pub back : (l p f q g : ℕ) → m.across l p f ≡ Some (Inside (q, g)) → m.across l q g ≡ Some (Inside (p, f))
  -- 2 edges and cells answer each other
  pub edge_to : (l p f g n : ℕ) → m.across l p f ≡ Some (Edge g n) → m.at_edge l g n ≡ Some (p, f)
  pub edge_from : (l p f g n : ℕ) → m.at_edge l g n ≡ Some (p, f) → m.across l p f ≡ Some (Edge g n)
  pub root_face : (f : ℕ) → f < m.F → m.across 0 0 f ≡ Some (Edge f 0)
  -- 3 face children rise, and belong to one face
  pub rise : (l p f j i a j' i' a' : ℕ) → m.face_child l p f j ≡ Some (i, a) → m.face_child l p f j' ≡ Some (i', a') → j < j' → i < i'
  pub apart : (l p f f' i a : ℕ) → Belongs m l p f i a → Belongs m l p f' i a → f ≡ f'
  -- 4 across takes face children to face children, one to one
  pub across_children : (l p f q g i a : ℕ) → m.across l p f ≡ Some (Inside (q, g)) → Belongs m l p f i a →
      (i' : ℕ) × (a' : ℕ) × Belongs m l q g i' a' × (m.across (suc l) (p * k m + i) a ≡ Some (Inside (q * k m + i', a')))
  pub edge_children : (l p f g n i a : ℕ) → m.across l p f ≡ Some (Edge g n) → Belongs m l p f i a →
      (e : ℕ) × (e < h m) × (m.across (suc l) (p * k m + i) a ≡ Some (Edge g (n * h m + e)))
  pub edge_onto : (l p f g n e : ℕ) → m.across l p f ≡ Some (Edge g n) → l < m.D → e < h m →
      (i : ℕ) × (a : ℕ) × Belongs m l p f i a × (m.across (suc l) (p * k m + i) a ≡ Some (Edge g (n * h m + e)))
  -- 5 a face of a child belongs to a face of its parent, or else leads to a sibling
  pub sibling : (l p i a : ℕ) → l < m.D → p < k m ^ l → i < k m → a < m.F →
      ((f : ℕ) × Belongs m l p f i a) ⊎
      ((i' : ℕ) × (a' : ℕ) × (i' < k m) × (i' ≢ i) × (m.across (suc l) (p * k m + i) a ≡ Some (Inside (p * k m + i', a'))))
  -- 6 turning undoes itself, and goes down with the levels
  pub undo : (s l n n' : ℕ) → m.turned s l n ≡ Some n' → m.turned s l n' ≡ Some n
  pub turn_down : (s l n n' : ℕ) → m.turned s (suc l) n ≡ Some n' → m.turned s l (n / h m) ≡ Some (n' / h m)
