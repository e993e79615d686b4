-- Leaves inside one another, and the finest places that they hold.
use Rattle.std.proofs.Common.{◌≡◌, ℕ, ◌+◌, ◌-◌, ◌*◌, ◌/◌, ◌^◌, ◌<◌, ◌≤◌, List, length, sym, refl, ap, ◌∙◌, arith, pow_pos}
use native.Mathlib.Nat.{sub_self, one-le-pow}
use Rattle.tiling.specs.declared.leaf.Leaf.{Leaf}
use Rattle.scheme.specs.Scheme.{Model, k}
use Rattle.tiling.specs.Cells.{Holds, InsideOf, at, Tiles}
use Rattle.tiling.proofs.Numbers.{up_zero, up_add, held_up, up_held}

pub leaf_same : (a b : Leaf) → a.root ≡ b.root → a.level ≡ b.level → a.place ≡ b.place → a ≡ b
leaf_same a b x y z = λ i. record { root = x i; level = y i; place = z i }

module _ (m : Model) where
  -- to hold a finest place is to stand above it
  pub holds_up : (c : Leaf) (r q : ℕ) → Holds m c r q → q / k m ^ (m.D - c.level) ≡ c.place
  holds_up c r q x = held_up (k m) (m.D - c.level) c.place q x.1 x.2

  pub up_holds : (c : Leaf) (q : ℕ) → q / k m ^ (m.D - c.level) ≡ c.place → Holds m c c.root q
  up_holds c q e = let z = up_held (k m) (m.D - c.level) c.place q (pow_pos m.w) e in (refl, z.0, z.1)

  -- n levels up from n' levels up
  pub up_up : (n n' N q : ℕ) → n + n' ≡ N → q / k m ^ N ≡ q / k m ^ n / k m ^ n'
  up_up n n' N q e = rw (← e) (up_add (k m) n n' q)

  pub inside_holds : (a b : Leaf) (r q : ℕ) → b.level ≤ m.D → InsideOf m a b → Holds m b r q → Holds m a r q
  inside_holds a b r q deep (er, le, ep) x =
      let e : q / k m ^ (m.D - a.level) ≡ a.place =
      up_up (m.D - b.level) (b.level - a.level) (m.D - a.level) q (omega arith) ∙ ap (λ z. z / k m ^ (b.level - a.level)) (holds_up b r q x) ∙ ep in
      let z = up_holds a q e in
      (er ∙ x.0, z.1, z.2)

  pub holds_inside : (a b : Leaf) (r q : ℕ) → a.level ≤ b.level → b.level ≤ m.D → Holds m a r q → Holds m b r q → InsideOf m a b
  holds_inside a b r q le deep x y = (
    x.0 ∙ sym y.0,
    le,
    ap (λ z. z / k m ^ (b.level - a.level)) (sym (holds_up b r q y)) ∙ sym (up_up (m.D - b.level) (b.level - a.level) (m.D - a.level) q (omega arith)) ∙ holds_up a r q x,
  )

  -- every cell holds a finest place of its root: its first
  pub holds_first : (c : Leaf) → Holds m c c.root (c.place * k m ^ (m.D - c.level))
  holds_first c = let pos : 0 < k m ^ (m.D - c.level) = one-le-pow (m.D - c.level) (k m) (pow_pos m.w) in (refl, omega arith, omega arith)

  pub inside_self : (c : Leaf) → InsideOf m c c
  inside_self c = (refl, omega arith, rw sub_self (up_zero (k m) c.place))

  pub inside_same : (a b : Leaf) → InsideOf m a b → a.level ≡ b.level → a ≡ b
  inside_same a b (er, le, ep) e =
      let z : b.level - a.level ≡ 0 = omega arith in
      let ep' : b.place / k m ^ 0 ≡ a.place = rw z at ep in
      leaf_same a b er e (sym ep' ∙ up_zero (k m) b.place)

  pub inside_trans : (a b c : Leaf) → InsideOf m a b → InsideOf m b c → InsideOf m a c
  inside_trans a b c (er, le, ep) (er', le', ep') = (
    er ∙ er',
    omega arith,
    up_up (c.level - b.level) (b.level - a.level) (c.level - a.level) c.place (omega arith) ∙ ap (λ z. z / k m ^ (b.level - a.level)) ep' ∙ ep,
  )

  -- two cells that hold one finest place lie one inside the other
  pub tile_same : (roots : ℕ) (ls : List Leaf) (t : Tiles m roots ls) (i j r q : ℕ) → i < length ls → j < length ls →
      Holds m (at ls i) r q → Holds m (at ls j) r q → at ls i ≡ at ls j
  tile_same roots ls t i j r q hi hj x y = ap (λ z. at ls z) (t.once i j r q hi hj x y)
