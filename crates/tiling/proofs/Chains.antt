-- Chains of leaves: the test, even cuts, and places in a chain.
use Rattle.std.proofs.Common.{◌≡◌, ℕ, zero, suc, ◌+◌, ◌-◌, ◌*◌, ◌/◌, ◌%◌, ◌^◌, ◌<◌, ◌≤◌, true, List, [], ◌∷◌, map, length, sym, refl, ap, ◌∙◌, subst, inl, inr, mul-le-mul_right, mod-lt, mul_assoc, add-mul, mul-le-mul_left, div-add-mod', mul-add, arith, pow_pos, pow_mono, pow-add}
use Rattle.std.specs.List.{range_with_len}
use Rattle.std.proofs.lemmas.Bool.{eqb-true, leb-true, ltb-true, eq-eqb, le-leb, lt-ltb, and_parts, and_from, cases_lt}
use Rattle.tiling.specs.declared.leaf.Leaf.{Leaf}
use Rattle.tiling.specs.Positions.{size, start, Cell, Chain, chained, Fills, fills, even, evenly, Spans}
use Rattle.tiling.specs.Cells.{at}

-- the test and the type say the same
pub chain_of : (w D s : ℕ) (ls : List Leaf) (e : ℕ) → chained w D s ls e ≡ true → Chain w D s ls e
chain_of w D s [] e h = eqb-true s e h
chain_of w D s (c ∷ cs) e h =
    let a = and_parts _ _ h in
    let b = and_parts _ _ a.1 in
    let d = and_parts _ _ b.1 in
    (eqb-true _ _ a.0, (leb-true _ _ b.0, ltb-true _ _ d.0), chain_of w D (s + size w D c.level) cs e d.1)

pub test_of : (w D s : ℕ) (ls : List Leaf) (e : ℕ) → Chain w D s ls e → chained w D s ls e ≡ true
test_of w D s [] e h = eq-eqb s e h
test_of w D s (c ∷ cs) e h =
    and_from _ _ (eq-eqb _ _ h.0) (and_from _ _ (le-leb _ _ h.1.0) (and_from _ _ (lt-ltb _ _ h.1.1) (test_of w D (s + size w D c.level) cs e h.2)))

-- a root's finest places are those of its cells of one level
pub root_size : (w D l : ℕ) → l ≤ D → 2 ^ (w * D) ≡ 2 ^ (w * l) * size w D l
root_size w D l le =
    let e : D ≡ l + (D - l) = omega arith in
    ap (λ d. 2 ^ (w * d)) e ∙ (ap (λ d. 2 ^ d) (mul-add w l (D - l)) ∙ pow-add 2 (w * l) (w * (D - l)))

pub start_even : (w D l i : ℕ) → l ≤ D → start w D (even w l i) ≡ i * size w D l
start_even w D l i le =
    let m = 2 ^ (w * l) in
    let s = size w D l in
    let a : i / m * 2 ^ (w * D) ≡ i / m * m * s = ap (λ x. i / m * x) (root_size w D l le) ∙ sym (mul_assoc (i / m) m s) in
    ap (λ x. x + i % m * s) a ∙ (sym (add-mul (i / m * m) (i % m) s) ∙ ap (λ x. x * s) (div-add-mod' i m))

pub chain_even : (w D l a n : ℕ) → l ≤ D → Chain w D (a * size w D l) (map (even w l) (range_with_len a n)) ((a + n) * size w D l)
chain_even w D l a zero le = ap (λ x. x * size w D l) (omega arith)
chain_even w D l a (suc n) le =
    let s = size w D l in
    let step : (a + 1) * s ≡ a * s + s = add-mul a 1 s ∙ omega arith in
    let rest = chain_even w D l (a + 1) n le in
    let fin : (a + 1 + n) * s ≡ (a + suc n) * s = ap (λ x. x * s) (omega arith) in (
      start_even w D l a le,
      (le, mod-lt a (pow_pos (w * l))),
      subst (λ x. Chain w D x (map (even w l) (range_with_len (a + 1) n)) ((a + suc n) * s)) step
          (subst (λ x. Chain w D ((a + 1) * s) (map (even w l) (range_with_len (a + 1) n)) x) fin rest),
    )

pub even_fills : (w D l roots : ℕ) → l ≤ D → Fills w D roots (evenly roots w l)
even_fills w D l roots le =
    let m = 2 ^ (w * l) in
    let s = size w D l in
    let n = roots * m in
    let ls = map (even w l) (range_with_len 0 n) in
    let z : 0 * s ≡ 0 = omega arith in
    let e : (0 + n) * s ≡ roots * 2 ^ (w * D) = ap (λ x. x * s) (omega arith) ∙ (mul_assoc roots m s ∙ ap (λ x. roots * x) (sym (root_size w D l le))) in
    subst (λ x. Chain w D x ls (roots * 2 ^ (w * D))) z (subst (λ x. Chain w D (0 * s) ls x) e (chain_even w D l 0 n le))

pub even_filled : (w D l roots : ℕ) → l ≤ D → fills w D roots (evenly roots w l) ≡ true
even_filled w D l roots le = test_of w D 0 (evenly roots w l) _ (even_fills w D l roots le)

-- where the leaf i starts, or where the list ends
abbrev pub pos : ℕ → ℕ → ℕ → List Leaf → ℕ → ℕ
pos w D s [] i = s
pos w D s (c ∷ cs) zero = s
pos w D s (c ∷ cs) (suc i) = pos w D (s + size w D c.level) cs i

pub pos_zero : (w D s : ℕ) (ls : List Leaf) → pos w D s ls 0 ≡ s
pos_zero w D s [] = refl
pos_zero w D s (c ∷ cs) = refl

pub chain_start : (w D s : ℕ) (ls : List Leaf) (e i : ℕ) → Chain w D s ls e → i < length ls → start w D (at ls i) ≡ pos w D s ls i
chain_start w D s [] e i h l = absurd (omega arith)
chain_start w D s (c ∷ cs) e zero h l = h.0
chain_start w D s (c ∷ cs) e (suc i) h l = chain_start w D (s + size w D c.level) cs e i h.2 (omega arith)

pub chain_cell : (w D s : ℕ) (ls : List Leaf) (e i : ℕ) → Chain w D s ls e → i < length ls → Cell w D (at ls i)
chain_cell w D s [] e i h l = absurd (omega arith)
chain_cell w D s (c ∷ cs) e zero h l = h.1
chain_cell w D s (c ∷ cs) e (suc i) h l = chain_cell w D (s + size w D c.level) cs e i h.2 (omega arith)

pub pos_suc : (w D s : ℕ) (ls : List Leaf) (i : ℕ) → i < length ls → pos w D s ls (suc i) ≡ pos w D s ls i + size w D (at ls i).level
pos_suc w D s [] i l = absurd (omega arith)
pos_suc w D s (c ∷ cs) zero l = pos_zero w D (s + size w D c.level) cs
pos_suc w D s (c ∷ cs) (suc i) l = pos_suc w D (s + size w D c.level) cs i (omega arith)

pub chain_end : (w D s : ℕ) (ls : List Leaf) (e : ℕ) → Chain w D s ls e → pos w D s ls (length ls) ≡ e
chain_end w D s [] e h = h
chain_end w D s (c ∷ cs) e h = chain_end w D (s + size w D c.level) cs e h.2

pub pos_step : (w D s : ℕ) (ls : List Leaf) (i : ℕ) → pos w D s ls i ≤ pos w D s ls (suc i)
pos_step w D s [] i = omega arith
pos_step w D s (c ∷ cs) zero = omega (arith, pos_zero w D (s + size w D c.level) cs)
pos_step w D s (c ∷ cs) (suc i) = pos_step w D (s + size w D c.level) cs i

pub pos_more : (w D s : ℕ) (ls : List Leaf) (i n : ℕ) → pos w D s ls i ≤ pos w D s ls (i + n)
pos_more w D s ls i zero = omega (arith, ap (pos w D s ls) (let e : i + zero ≡ i = omega arith in e))
pos_more w D s ls i (suc n) =
    omega (arith, pos_more w D s ls i n, pos_step w D s ls (i + n), ap (pos w D s ls) (let e : i + suc n ≡ suc (i + n) = omega arith in e))

pub pos_mono : (w D s : ℕ) (ls : List Leaf) (i j : ℕ) → i ≤ j → pos w D s ls i ≤ pos w D s ls j
pos_mono w D s ls i j le = omega (arith, pos_more w D s ls i (j - i), ap (pos w D s ls) (let e : i + (j - i) ≡ j = omega arith in e))

-- a cell's part of its root
pub place_within : (w D : ℕ) (c : Leaf) → Cell w D c → c.place * size w D c.level + size w D c.level ≤ 2 ^ (w * D)
place_within w D c h =
    let s = size w D c.level in
    let up : suc c.place * s ≤ 2 ^ (w * c.level) * s = mul-le-mul_right s h.1 in
    let e : suc c.place * s ≡ c.place * s + s = ap (λ x. x * s) (let z : suc c.place ≡ c.place + 1 = omega arith in z) ∙ (add-mul c.place 1 s ∙ omega arith) in
    omega (arith, up, e, root_size w D c.level h.0)

-- the root of a leaf of a tiling is one of its roots
pub root_below : (w D roots : ℕ) (c : Leaf) → start w D c < roots * 2 ^ (w * D) → c.root < roots
root_below w D roots c h =
    let m = 2 ^ (w * D) in
    elim (cases_lt c.root roots) [ inl lt ↦ lt | inr ge ↦ absurd (omega (arith, mul-le-mul_right m ge)) ]

pub fills_root : (w D roots : ℕ) (ls : List Leaf) (i : ℕ) → Fills w D roots ls → i < length ls → (at ls i).root < roots
fills_root w D roots ls i h l =
    root_below w D roots (at ls i)
    (omega (arith, chain_start w D 0 ls _ i h l, pos_suc w D 0 ls i l, pow_pos (w * (D - (at ls i).level)), pos_mono w D 0 ls (suc i) (length ls) l, chain_end w D 0 ls _ h))

-- one leaf alone holds a place
pub spans_at : (w D : ℕ) (ls : List Leaf) (e i g : ℕ) → Chain w D 0 ls e → i < length ls → pos w D 0 ls i ≤ g → g < pos w D 0 ls (suc i) → Spans w D (at ls i) g
spans_at w D ls e i g h l a b = (omega (arith, chain_start w D 0 ls e i h l), omega (arith, chain_start w D 0 ls e i h l, pos_suc w D 0 ls i l))

pub spans_once : (w D : ℕ) (ls : List Leaf) (e i j g : ℕ) → Chain w D 0 ls e → i < length ls → j < length ls → Spans w D (at ls i) g → Spans w D (at ls j) g → i ≤ j
spans_once w D ls e i j g h li lj a b =
    elim (cases_lt j i) [ inl lt ↦ absurd (omega (arith, chain_start w D 0 ls e i h li, chain_start w D 0 ls e j h lj, pos_suc w D 0 ls j lj, pos_mono w D 0 ls (suc j) i lt)) | inr ge ↦ ge ]

-- a leaf of a tiling has a place that 54 bits hold
pub place_small : (w D : ℕ) (c : Leaf) → w * D ≤ 54 → Cell w D c → c.place < 2 ^ 54
place_small w D c fits h =
    let m = mul-le-mul_left w h.0 in
    let le : w * c.level ≤ 54 = omega (arith, m) in
    omega (arith, pow_mono le, h.1)

-- a cell of a root lies within the roots
pub start_within : (w D roots : ℕ) (c : Leaf) → Cell w D c → c.root < roots → start w D c < roots * 2 ^ (w * D)
start_within w D roots c cell lt =
    let m = 2 ^ (w * D) in
    let e : suc c.root * m ≡ c.root * m + m = ap (λ x. x * m) (let z : suc c.root ≡ c.root + 1 = omega arith in z) ∙ (add-mul c.root 1 m ∙ omega arith) in
    omega (arith, place_within w D c cell, pow_pos (w * (D - c.level)), mul-le-mul_right m lt, e)
