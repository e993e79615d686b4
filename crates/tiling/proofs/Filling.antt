-- A list tiles exactly when it is a chain through all roots; and the evenly planted list tiles.
use Rattle.std.proofs.Common.{◌≡◌, ℕ, zero, suc, ◌+◌, ◌-◌, ◌*◌, ◌/◌, ◌%◌, ◌^◌, ◌<◌, ◌≤◌, true, ◌⊎◌, ◌↔◌, List, [], ◌∷◌, length, drop, sym, refl, ap, ◌∙◌, subst, inl, inr, mul-le-mul_right, mod-lt, suc-mul, div-lt_iff_lt-mul, div-add-mod', arith, drop_of_length-le, drop-cons, pow_pos}
use Rattle.std.proofs.lemmas.Bool.{cases_lt, cases_order}
use Rattle.std.proofs.lemmas.List.FromFn.{length-map-range_with_len, get_or-map-range_with_len}
use Rattle.tiling.specs.declared.leaf.Leaf.{Leaf}
use Rattle.scheme.specs.Scheme.{Model, k, Bounded}
use Rattle.scheme.proofs.Powers.{pow_mul}
use Rattle.tiling.specs.Cells.{blank, at, span, first, Holds, CellOf, Before, Tiles, Among}
use Rattle.tiling.specs.Positions.{size, start, Cell, Chain, Fills, fills, even, evenly, Spans, Bounds}
use Rattle.tiling.proofs.Chains.{chain_of, test_of, chain_start, chain_cell, pos_suc, pos_mono, fills_root, spans_once, place_within, start_within, even_fills}
use Rattle.tiling.proofs.Holding.{leaf_same, holds_up, holds_first}

-- a greater root comes later, by a whole root at least
root_after : (N r r' : ℕ) → r < r' → r * N + N ≤ r' * N
root_after N r r' lt = omega (arith, mul-le-mul_right N lt, suc-mul r N)

-- the root of a cell that spans a place of the root r
pub spans_root : (w D : ℕ) (c : Leaf) (r q : ℕ) → Cell w D c → q < 2 ^ (w * D) → Spans w D c (r * 2 ^ (w * D) + q) → c.root ≡ r
spans_root w D c r q cell hq (lo, hi) = go (cases_order c.root r)
  where
    go : (c.root ≡ r) ⊎ ((c.root < r) ⊎ (r < c.root)) → c.root ≡ r
    go (inl e) = e
    go (inr (inl lt)) = absurd (omega (arith, root_after (2 ^ (w * D)) c.root r lt, place_within w D c cell))
    go (inr (inr gt)) = absurd (omega (arith, root_after (2 ^ (w * D)) r c.root gt))

pub chain_covers : (w D s : ℕ) (ls : List Leaf) (e g : ℕ) → Chain w D s ls e → s ≤ g → g < e → (i : ℕ) × (i < length ls) × Spans w D (at ls i) g
chain_covers w D s [] e g h lo hi = absurd (omega arith)
chain_covers w D s (c ∷ cs) e g h lo hi = elim (cases_lt g (s + size w D c.level)) [
  | inl lt ↦ (0, omega arith, (omega (arith, h.0), omega (arith, h.0)))
  | inr ge ↦ (let z = chain_covers w D (s + size w D c.level) cs e g h.2 ge hi in (suc z.0, omega (arith, z.1), z.2))
]

pub chain_rises : (w D : ℕ) (ls : List Leaf) (e i j : ℕ) → Chain w D 0 ls e → i < j → j < length ls → start w D (at ls i) < start w D (at ls j)
chain_rises w D ls e i j h lt hj =
    let hi : i < length ls = omega arith in
    omega (arith, chain_start w D 0 ls e i h hi, chain_start w D 0 ls e j h hj, pos_suc w D 0 ls i hi, pow_pos (w * (D - (at ls i).level)), pos_mono w D 0 ls (suc i) j lt)

module _ (m : Model) where
  pub size_span : (l : ℕ) → size m.w m.D l ≡ span m l
  size_span l = pow_mul 2 m.w (m.D - l)

  pub size_first : (c : Leaf) → c.place * size m.w m.D c.level ≡ first m c
  size_first c = ap (λ x. c.place * x) (size_span c.level)

  pub cell_of : (roots : ℕ) (c : Leaf) → c.root < roots → Cell m.w m.D c → CellOf m roots c
  cell_of roots c hr (deep, hp) = (hr, deep, subst (λ x. c.place < x) (pow_mul 2 m.w c.level) hp)

  pub of_cell : (roots : ℕ) (c : Leaf) → CellOf m roots c → Cell m.w m.D c
  of_cell roots c (hr, deep, hp) = (deep, subst (λ x. c.place < x) (sym (pow_mul 2 m.w c.level)) hp)

  -- a place of a root, and its number over all roots
  pub holds_spans : (c : Leaf) (r q : ℕ) → Holds m c r q → Spans m.w m.D c (r * 2 ^ (m.w * m.D) + q)
  holds_spans c r q (er, lo, hi) =
      let es = size_span c.level in
      let ef = size_first c in
      let en : c.root * 2 ^ (m.w * m.D) ≡ r * 2 ^ (m.w * m.D) = ap (λ x. x * 2 ^ (m.w * m.D)) er in
      (omega arith, omega arith)

  pub spans_holds : (c : Leaf) (r q : ℕ) → Cell m.w m.D c → q < 2 ^ (m.w * m.D) → Spans m.w m.D c (r * 2 ^ (m.w * m.D) + q) → Holds m c r q
  spans_holds c r q cell hq (lo, hi) =
      let er : c.root ≡ r = spans_root m.w m.D c r q cell hq (lo, hi) in
      let es = size_span c.level in
      let ef = size_first c in
      let en : c.root * 2 ^ (m.w * m.D) ≡ r * 2 ^ (m.w * m.D) = ap (λ x. x * 2 ^ (m.w * m.D)) er in
      (er, omega arith, omega arith)

  -- before along the curve is before by number
  pub start_before : (a b : Leaf) → Cell m.w m.D b → start m.w m.D a < start m.w m.D b → Before m a b
  start_before a b cb lt = go (cases_order a.root b.root)
    where
      go : (a.root ≡ b.root) ⊎ ((a.root < b.root) ⊎ (b.root < a.root)) → Before m a b
      go (inl e) =
          let ea = size_first a in
          let eb = size_first b in
          let en : a.root * 2 ^ (m.w * m.D) ≡ b.root * 2 ^ (m.w * m.D) = ap (λ x. x * 2 ^ (m.w * m.D)) e in
          inr (e, omega arith)
      go (inr (inl less)) = inl less
      go (inr (inr more)) =
          absurd (omega (arith, root_after (2 ^ (m.w * m.D)) b.root a.root more, place_within m.w m.D b cb, pow_pos (m.w * (m.D - b.level))))

  pub before_start : (a b : Leaf) → Cell m.w m.D a → Before m a b → start m.w m.D a < start m.w m.D b
  before_start a b ca (inl less) =
      omega (arith, root_after (2 ^ (m.w * m.D)) a.root b.root less, place_within m.w m.D a ca, pow_pos (m.w * (m.D - a.level)))
  before_start a b ca (inr (e, less)) =
      let ea = size_first a in
      let eb = size_first b in
      let en : a.root * 2 ^ (m.w * m.D) ≡ b.root * 2 ^ (m.w * m.D) = ap (λ x. x * 2 ^ (m.w * m.D)) e in
      omega arith

  module _ (roots : ℕ) (ls : List Leaf) where
    pub chain_tiles : Fills m.w m.D roots ls → Tiles m roots ls
    chain_tiles h = record { cells = cells; order = order; covered = covered; once = once }
      where
        cell : (i : ℕ) → i < length ls → Cell m.w m.D (at ls i)
        cell i hi = chain_cell m.w m.D 0 ls _ i h hi

        cells : (i : ℕ) → i < length ls → CellOf m roots (at ls i)
        cells i hi = cell_of roots (at ls i) (fills_root m.w m.D roots ls i h hi) (cell i hi)

        order : (i j : ℕ) → i < j → j < length ls → Before m (at ls i) (at ls j)
        order i j lt hj = start_before (at ls i) (at ls j) (cell j hj) (chain_rises m.w m.D ls _ i j h lt hj)

        covered : (r q : ℕ) → r < roots → q < k m ^ m.D → (i : ℕ) × (i < length ls) × Holds m (at ls i) r q
        covered r q hr hq =
            let hq' : q < 2 ^ (m.w * m.D) = omega (arith, pow_mul 2 m.w m.D) in
            let g : ℕ = r * 2 ^ (m.w * m.D) + q in
            let low : g < roots * 2 ^ (m.w * m.D) = omega (arith, root_after (2 ^ (m.w * m.D)) r roots hr) in
            let z = chain_covers m.w m.D 0 ls _ g h (omega arith) low in
            (z.0, z.1, spans_holds (at ls z.0) r q (cell z.0 z.1) hq' z.2)

        once : (i j r q : ℕ) → i < length ls → j < length ls → Holds m (at ls i) r q → Holds m (at ls j) r q → i ≡ j
        once i j r q hi hj x y =
            let g : ℕ = r * 2 ^ (m.w * m.D) + q in
            let a = holds_spans (at ls i) r q x in
            let b = holds_spans (at ls j) r q y in
            omega (arith, spans_once m.w m.D ls _ i j g h hi hj a b, spans_once m.w m.D ls _ j i g h hj hi b a)

    pub tiles_chain : Tiles m roots ls → Fills m.w m.D roots ls
    tiles_chain t = go (length ls) 0 0 (omega arith) (λ j hj le. omega arith) (λ j lt. absurd (omega arith)) (omega arith)
      where
        N : ℕ
        N = 2 ^ (m.w * m.D)

        from : ℕ → ℕ
        from i = start m.w m.D (at ls i)

        long : ℕ → ℕ
        long i = size m.w m.D (at ls i).level

        cell : (i : ℕ) → i < length ls → Cell m.w m.D (at ls i)
        cell i hi = of_cell roots (at ls i) (t.cells i hi)

        rises : (i j : ℕ) → i < j → j < length ls → from i < from j
        rises i j lt hj = before_start (at ls i) (at ls j) (cell i (omega arith)) (t.order i j lt hj)

        covers : (g : ℕ) → g < roots * N → (j : ℕ) × (j < length ls) × Spans m.w m.D (at ls j) g
        covers g lt =
            let pos : 0 < N = pow_pos (m.w * m.D) in
            let q : ℕ = g % N in
            let r : ℕ = g / N in
            let hq : q < N = mod-lt g pos in
            let hr : r < roots = (div-lt_iff_lt-mul pos).1 lt in
            let whole : r * N + q ≡ g = div-add-mod' g N in
            let hq' : q < k m ^ m.D = subst (λ x. q < x) (pow_mul 2 m.w m.D) hq in
            let z = t.covered r q hr hq' in
            (z.0, z.1, subst (λ x. Spans m.w m.D (at ls z.0) x) whole (holds_spans (at ls z.0) r q z.2))

        -- two leaves do not overlap
        past : (i j : ℕ) → i < j → j < length ls → from i + long i ≤ from j
        past i j lt hj = elim (cases_lt (from j) (from i + long i)) [
          | inr ge ↦ ge
          | inl less ↦
              (let hi : i < length ls = omega arith in
              let q : ℕ = (at ls j).place * long j in
              let hq : q < N = omega (arith, place_within m.w m.D (at ls j) (cell j hj), pow_pos (m.w * (m.D - (at ls j).level))) in
              let here : Spans m.w m.D (at ls j) (from j) = (omega arith, omega (arith, pow_pos (m.w * (m.D - (at ls j).level)))) in
              let there : Spans m.w m.D (at ls i) (from j) = (omega (arith, rises i j lt hj), less) in
              absurd (omega (
                arith,
                t.once i j (at ls j).root q hi hj
                    (spans_holds (at ls i) (at ls j).root q (cell i hi) hq there) (spans_holds (at ls j) (at ls j).root q (cell j hj) hq here),
              )))
        ]

        -- the leaves below i end by g, those from i on start at g or later
        go : (n i g : ℕ) → i + n ≡ length ls → ((j : ℕ) → j < length ls → i ≤ j → g ≤ from j) → ((j : ℕ) → j < i → from j + long j ≤ g) → g ≤ roots * N →
            Chain m.w m.D g (drop i ls) (roots * N)
        go zero i g e later sooner le =
            let short : length ls ≤ i = omega arith in
            subst (λ x. Chain m.w m.D g x (roots * N)) (sym (drop_of_length-le ls short))
            (elim (cases_lt g (roots * N)) [
              | inl lt ↦ (let z = covers g lt in let hz : z.0 < i = omega (arith, z.1) in absurd (omega (arith, sooner z.0 hz, z.2.1)))
              | inr ge ↦ omega arith
            ])
        go (suc n) i g e later sooner le =
            let hi : i < length ls = omega arith in
            let c = cell i hi in
            let within : from i < roots * N = start_within m.w m.D roots (at ls i) c (t.cells i hi).0 in
            let here : from i ≡ g = starts hi within in
            let rest = go n (suc i) (g + long i) (omega arith) (λ j hj lt. omega (arith, past i j lt hj, here)) (ends here) (fits hi here) in
            subst (λ x. Chain m.w m.D g x (roots * N)) (sym (drop-cons ls i blank hi)) (here, c, rest)
          where
            starts : i < length ls → from i < roots * N → from i ≡ g
            starts hi within = elim (cases_lt g (from i)) [
              | inr ge ↦ omega (arith, later i hi (omega arith))
              | inl lt ↦
                  (let z = covers g (omega arith) in
                  elim (cases_order z.0 i) [
                    | inl same ↦ absurd (omega (arith, z.2.0, ap from same))
                    | inr (inl less) ↦ absurd (omega (arith, sooner z.0 less, z.2.1))
                    | inr (inr more) ↦ absurd (omega (arith, rises i z.0 more z.1, z.2.0))
                  ])
            ]

            ends : from i ≡ g → (j : ℕ) → j < suc i → from j + long j ≤ g + long i
            ends here j lt = elim (cases_lt j i) [
              | inl less ↦ omega (arith, sooner j less)
              | inr ge ↦ (let same : j ≡ i = omega arith in omega (arith, ap from same, ap long same))
            ]

            fits : i < length ls → from i ≡ g → g + long i ≤ roots * N
            fits hi here = omega (arith, root_after N (at ls i).root roots (t.cells i hi).0, place_within m.w m.D (at ls i) (cell i hi))

    -- a list tiles exactly when each leaf starts where the one before it ends, from 0 to the end of the last root
    pub tiles_iff_chain : Tiles m roots ls ↔ Chain m.w m.D 0 ls (roots * k m ^ m.D)
    tiles_iff_chain = (
      λ t. subst (λ n. Chain m.w m.D 0 ls (roots * n)) (pow_mul 2 m.w m.D) (tiles_chain t),
      λ h. chain_tiles (subst (λ n. Chain m.w m.D 0 ls (roots * n)) (sym (pow_mul 2 m.w m.D)) h),
    )

    pub tiles_iff_test : Tiles m roots ls ↔ (fills m.w m.D roots ls ≡ true)
    tiles_iff_test = (λ t. test_of m.w m.D 0 ls _ (tiles_chain t), λ h. chain_tiles (chain_of m.w m.D 0 ls _ h))

    -- the leaf that spans a place, counted over all roots, is the one that holds it
    pub spans_found : Tiles m roots ls → (n r q : ℕ) → n < length ls → q < 2 ^ (m.w * m.D) → Spans m.w m.D (at ls n) (r * 2 ^ (m.w * m.D) + q) →
        Holds m (at ls n) r q × ((j : ℕ) → j < length ls → Holds m (at ls j) r q → j ≡ n)
    spans_found t n r q hn hq x =
        let y = spans_holds (at ls n) r q (of_cell roots (at ls n) (t.cells n hn)) hq x in
        (y, λ j hj z. t.once j n r q hj hn z y)

  -- a scheme's numbers are in bounds
  pub bounds : Bounded m → (roots : ℕ) → roots ≤ 256 → Bounds m.w m.D roots
  bounds ok roots le = (ok.width.0, ok.width.1, ok.depth.0, ok.depth.1, le)

  -- each root cut to level l
  pub even_tiles : (roots l : ℕ) → l ≤ m.D → Tiles m roots (evenly roots m.w l) × (length (evenly roots m.w l) ≡ roots * k m ^ l)
  even_tiles roots l le = (
    chain_tiles roots (evenly roots m.w l) (even_fills m.w m.D l roots le),
    length-map-range_with_len (even m.w l) 0 (roots * 2 ^ (m.w * l)) ∙ ap (λ x. roots * x) (pow_mul 2 m.w l),
  )

  -- what is planted is the cells of level l
  pub even_level : (roots l : ℕ) (c : Leaf) → l ≤ m.D → Among (evenly roots m.w l) c → c.level ≡ l
  even_level roots l c le (i, hi, e) =
      let lt : i < roots * 2 ^ (m.w * l) = omega (arith, length-map-range_with_len (even m.w l) 0 (roots * 2 ^ (m.w * l))) in
      let is : at (evenly roots m.w l) i ≡ even m.w l i = get_or-map-range_with_len (even m.w l) 0 (roots * 2 ^ (m.w * l)) i i blank lt (omega arith) in
      ap (λ (z : Leaf). z.level) (sym e ∙ is)

  pub even_among : (roots l : ℕ) (c : Leaf) → l ≤ m.D → Among (evenly roots m.w l) c ↔ (CellOf m roots c × (c.level ≡ l))
  even_among roots l c le = (
    λ x. (subst (λ z. CellOf m roots z) x.2 (t.cells x.0 x.1), even_level roots l c le x),
    λ x. there x.0 x.1,
  )
    where
      ls : List Leaf
      ls = evenly roots m.w l

      t : Tiles m roots ls
      t = (even_tiles roots l le).0

      there : CellOf m roots c → c.level ≡ l → Among ls c
      there cell el =
          let q : ℕ = c.place * k m ^ (m.D - c.level) in
          let low : q < k m ^ m.D =
          omega (arith, size_first c, pow_mul 2 m.w m.D, place_within m.w m.D c (of_cell roots c cell), pow_pos (m.w * (m.D - c.level))) in
          let z = t.covered c.root q cell.0 low in
          let d : Leaf = at ls z.0 in
          let ed : d.level ≡ c.level = even_level roots l d le (z.0, z.1, refl) ∙ sym el in
          let ep : d.place ≡ c.place = sym (holds_up m d c.root q z.2) ∙ ap (λ x. q / k m ^ (m.D - x)) ed ∙ holds_up m c c.root q (holds_first m c) in
          (z.0, z.1, leaf_same d c z.2.0 ed ep)
