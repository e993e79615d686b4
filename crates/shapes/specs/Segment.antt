-- The line: w 1, F 2, the cell at place p is the stretch from p to p + 1; face 0 is its lower end, face 1 its upper end.
use Rattle.std.specs.Prelude.{◌≡◌, ℕ, suc, ◌+◌, ◌-◌, ◌*◌, ◌^◌, cond, ◌&&◌, Some, None, Option, ◌==◌, nat_le, nat_lt}
use Rattle.scheme.specs.declared.crossing.Crossing.{Crossing}
use Rattle.scheme.specs.declared.crossing.Crossing.TheVariants.{Inside, Edge}
use Rattle.scheme.specs.Scheme.{Model, Lawful}
use Rattle.scheme.specs.Plan.{Plan, side}

abbrev pub line_across : ℕ → ℕ → ℕ → ℕ → Option Crossing
line_across D l p f = cond (nat_le l D && (nat_lt p (2 ^ l) && nat_lt f 2))
    (cond (f == 0)
    (cond (p == 0) (Some (Edge 0 0)) (Some (Inside (p - 1, 1))))
    (cond (suc p == 2 ^ l) (Some (Edge 1 0)) (Some (Inside (suc p, 0)))))
    None

-- the only edge number is 0
abbrev pub line_at_edge : ℕ → ℕ → ℕ → ℕ → Option (ℕ × ℕ)
line_at_edge D l g n = cond (nat_le l D && (nat_lt g 2 && nat_lt n 1)) (cond (g == 0) (Some (0, 0)) (Some (2 ^ l - 1, 1))) None

-- the face child is the child with a corner on the face, and keeps the face's number
abbrev pub line_face_child : ℕ → ℕ → ℕ → ℕ → ℕ → Option (ℕ × ℕ)
line_face_child D l p f j = cond (nat_lt l D && (nat_lt p (2 ^ l) && (nat_lt f 2 && nat_lt j 1))) (Some (f, f)) None

-- turning leaves the edge number
abbrev pub line : ℕ → Model
line D = record {
  w = 1;
  F = 2;
  D = D;
  across = line_across D;
  at_edge = line_at_edge D;
  face_child = line_face_child D;
  sort = λ g. cond (nat_lt g 2) (Some 0) None;
  turned = λ s l n. cond (s == 0 && (nat_le l D && nat_lt n 1)) (Some n) None;
}

-- corner 0 at p and corner 1 at p + 1, in cell sides, with y 0
abbrev pub line_corner : ℕ → ℕ → ℕ → ℕ → ℕ × ℕ
line_corner D l p i = cond (nat_le l D && (nat_lt p (2 ^ l) && nat_lt i 2)) ((p + i) * side l, 0) (0, 0)

abbrev pub line_plan : ℕ → Plan
line_plan D = record { w = 1; D = D; count = 2; corner = line_corner D }

-- across leads to the cell with the same corner on its face; face f of the line is its corner f
abbrev pub LineShares : Type 0
LineShares = (l p f q g : ℕ) → line_across 18 l p f ≡ Some (Inside (q, g)) → line_corner 18 l p f ≡ line_corner 18 l q g

-- the face child f is the child that has the corner f of its parent
abbrev pub LineFaceChildKeeps : Type 0
LineFaceChildKeeps = (l p f i a : ℕ) → line_face_child 18 l p f 0 ≡ Some (i, a) → line_corner 18 (suc l) (p * 2 + i) a ≡ line_corner 18 l p f

-- examples: on level 2, place 1's face 1 leads to place 2, face 0; place 3's face 1 is the root's face 1; its corners
abbrev pub LineExamples : Type 0
LineExamples = (line_across 18 2 1 1 ≡ Some (Inside (2, 0))) × (line_across 18 2 3 1 ≡ Some (Edge 1 0)) × (line_across 18 2 4 0 ≡ None) ×
    (line_at_edge 18 2 1 0 ≡ Some (3, 1)) × (line_face_child 18 2 3 1 0 ≡ Some (1, 1)) × (line_corner 18 2 3 1 ≡ (262144, 0))

-- the line, were every face of every cell an edge of the root, whatever lay at the edges
abbrev pub all_edges : (ℕ → ℕ → ℕ → Option (ℕ × ℕ)) → Model
all_edges at = record {
  w = 1;
  F = 2;
  D = 18;
  across = λ l p f. cond (nat_le l 18 && (nat_lt p (2 ^ l) && nat_lt f 2)) (Some (Edge f 0)) None;
  at_edge = at;
  face_child = line_face_child 18;
  sort = λ g. cond (nat_lt g 2) (Some 0) None;
  turned = λ s l n. cond (s == 0 && (nat_le l 18 && nat_lt n 1)) (Some n) None;
}

-- the laws tell it from a scheme
abbrev pub AllEdgesBreakTheLaws : Type 0
AllEdgesBreakTheLaws = (at : ℕ → ℕ → ℕ → Option (ℕ × ℕ)) → Lawful (all_edges at) → ⊥
