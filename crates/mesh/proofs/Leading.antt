-- Crossing leads to one place at most; in a joined mesh it leads back, over any row that joins the two faces.
use Rattle.std.proofs.Common.{◌≡◌, ℕ, ◌^◌, ◌<◌, ◌≤◌, Bool, true, false, ◌⊎◌, List, length, is_some, Some, None, Option, sym, refl, ap, ◌∙◌, inl, inr, arith}
use Rattle.std.proofs.lemmas.Bool.{cases_order, cases_lt, true≢false}
use Rattle.mesh.specs.declared.joint.Joint.{Joint}
use Rattle.mesh.specs.Joints.{row, Joins, Ends, RowIn, Joined, Turns, Over}
use Rattle.mesh.specs.Crossing.{Passes, NoneBefore, FirstRow, TurnedOver, Crosses, OneCrossing, LeadsBack, CrossesOver, LeadsOver}
use Rattle.scheme.specs.Scheme.{Model, h, EdgeIn, Lawful}

pub joins_back : (j : Joint) (r a r' b : ℕ) → Joins j r a r' b → Joins j r' b r a
joins_back j r a r' b (inl (x, y, z, w)) = inr (z, w, x, y)
joins_back j r a r' b (inr (x, y, z, w)) = inl (z, w, x, y)

pub joins_end : (j : Joint) (r a r' b : ℕ) → Joins j r a r' b → Ends j r a
joins_end j r a r' b (inl (x, y, z, w)) = inl (x, y)
joins_end j r a r' b (inr (x, y, z, w)) = inr (x, y)

pub joins_one : (m : Model) (roots : ℕ) (j : Joint) (r a r' b r'' b' : ℕ) → RowIn m roots j → Joins j r a r' b → Joins j r a r'' b' → (r' ≡ r'') × (b ≡ b')
joins_one m roots j r a r' b r'' b' ok (inl x) (inl y) = (cc, cc)
joins_one m roots j r a r' b r'' b' ok (inr x) (inr y) = (cc, cc)
joins_one m roots j r a r' b r'' b' ok (inl x) (inr y) = absurd (ok.distinct (cc) (cc))
joins_one m roots j r a r' b r'' b' ok (inr x) (inl y) = absurd (ok.distinct (cc) (cc))

pub passes_joins : (j : Joint) (r a r' b : ℕ) → Passes j r a r' b → Joins j r a r' b
passes_joins j r a r' b (inl x) = inl x
passes_joins j r a r' b (inr (ne, x, y, z, w)) = inr (x, y, z, w)

pub passes_one : (j : Joint) (r a r' b r'' b' : ℕ) → Passes j r a r' b → Passes j r a r'' b' → (r' ≡ r'') × (b ≡ b')
passes_one j r a r' b r'' b' (inl x) (inl y) = (cc, cc)
passes_one j r a r' b r'' b' (inr x) (inr y) = (sym x.3 ∙ y.3, sym x.4 ∙ y.4)
passes_one j r a r' b r'' b' (inl x) (inr y) = absurd (y.0 x.0 x.1)
passes_one j r a r' b r'' b' (inr x) (inl y) = absurd (x.0 y.0 y.1)

-- a row whose two ends are distinct passes wherever it joins
pub joins_passes : (m : Model) (roots : ℕ) (j : Joint) (r a r' b : ℕ) → RowIn m roots j → Joins j r a r' b → Passes j r a r' b
joins_passes m roots j r a r' b ok (inl x) = inl x
joins_passes m roots j r a r' b ok (inr (x, y, z, w)) = inr ((λ p q. ok.distinct (p ∙ sym x) (q ∙ sym y)), x, y, z, w)

pub joins_in : (m : Model) (roots : ℕ) (j : Joint) (r a r' b : ℕ) → RowIn m roots j → Joins j r a r' b → b < m.F
joins_in m roots j r a r' b ok (inl x) = omega (arith, ok.other.1, x.3)
joins_in m roots j r a r' b ok (inr x) = omega (arith, ok.one.1, x.3)

pub turns_one : (m : Model) (j : Joint) (l a n n' n'' : ℕ) → Turns m j a l n n' → Turns m j a l n n'' → n' ≡ n''
turns_one m j l a n n' n'' (inl x) (inl y) = cc
turns_one m j l a n n' n'' (inr x) (inr y) = cc
turns_one m j l a n n' n'' (inl x) (inr y) = cc
turns_one m j l a n n' n'' (inr x) (inl y) = cc

module _ (m : Model) (js : List Joint) where
  -- two first rows are one
  pub first_same : (i i' r a : ℕ) → NoneBefore js i r a → NoneBefore js i' r a → Ends (row js i) r a → Ends (row js i') r a → i' ≡ i
  first_same i i' r a f f' x x' = elim (cases_order i i') [
    | inl e ↦ sym e
    | inr (inl less) ↦ absurd (f' i less x)
    | inr (inr less) ↦ absurd (f i' less x')
  ]

  pub crosses_end : (l r a n r' b n' : ℕ) → (x : Crosses m js l r a n r' b n') → Ends (row js x.at_row) r a
  crosses_end l r a n r' b n' x = joins_end (row js x.at_row) r a r' b (passes_joins (row js x.at_row) r a r' b x.passes)

  crosses_one : (l r a n r' b n' r'' b' n'' : ℕ) → Crosses m js l r a n r' b n' → Crosses m js l r a n r'' b' n'' → (r' ≡ r'') × (b ≡ b') × (n' ≡ n'')
  crosses_one l r a n r' b n' r'' b' n'' x y =
      let i = x.at_row in
      let e = first_same i y.at_row r a x.first y.first (crosses_end l r a n r' b n' x) (crosses_end l r a n r'' b' n'' y) in
      let p : Passes (row js i) r a r'' b' = rw e at y.passes in
      let t : Turns m (row js i) a l n n'' = rw e at y.turns in
      let z = passes_one (row js i) r a r' b r'' b' x.passes p in
      (z.0, z.1, turns_one m (row js i) l a n n' n'' x.turns t)

  -- no crossing where the first row turns the edge number to nowhere
  pub no_turn : (l r a n i : ℕ) → FirstRow js r a (Some i) → TurnedOver m (row js i) a l n None → (r' b n' : ℕ) → Crosses m js l r a n r' b n' → ⊥
  no_turn l r a n i f t r' b n' x =
      let e = first_same i x.at_row r a f.2 x.first f.1 (crosses_end l r a n r' b n' x) in
      let t' : Turns m (row js i) a l n n' = rw e at x.turns in
      t n' t'

pub one_crossing : OneCrossing
one_crossing m js l r a n r' b n' r'' b' n'' x y = crosses_one m js l r a n r' b n' r'' b' n'' x y

module _ (m : Model) (ok : Lawful m) where
  pub turns_back : (roots : ℕ) (j : Joint) (l r a n r' b n' : ℕ) → RowIn m roots j → Joins j r a r' b → Turns m j a l n n' → Turns m j b l n' n
  turns_back roots j l r a n r' b n' rin x (inl (t, e)) = inl (t, sym e)
  turns_back roots j l r a n r' b n' rin (inl x) (inr (t, s, e, q)) = let sorts = rin.sorts in inr (t, s, cc, ok.undo s l n n' q)
  turns_back roots j l r a n r' b n' rin (inr x) (inr (t, s, e, q)) = let sorts = rin.sorts in inr (t, s, cc, ok.undo s l n n' q)

  -- a turn leads to an edge number that is there
  pub turns_in : (j : Joint) (l a n n' : ℕ) → EdgeIn m l a n → Turns m j a l n n' → n' < h m ^ l
  turns_in j l a n n' x (inl (t, e)) = omega (arith, x.2, e)
  turns_in j l a n n' x (inr (t, s, e, q)) =
      let z = ok.bounded.turn_in a s l n e x.0 x.2 in
      let same : z.0 ≡ n' = cc (z.1, q) in
      omega (arith, z.2, same)

module _ (m : Model) (ok : Lawful m) (roots : ℕ) (js : List Joint) (mesh : Joined m roots js) where
  pub over_back : (l r a n r' b n' : ℕ) → Over m js l r a n r' b n' → Over m js l r' b n' r a n
  over_back l r a n r' b n' o = record {
    at_row = o.at_row;
    is_row = o.is_row;
    joins = joins_back (row js o.at_row) r a r' b o.joins;
    turns = turns_back m ok roots (row js o.at_row) l r a n r' b n' (mesh.rows o.at_row o.is_row) o.joins o.turns;
  }

  pub over_one : (l r a n r' b n' r'' b' n'' : ℕ) → Over m js l r a n r' b n' → Over m js l r a n r'' b' n'' → (r' ≡ r'') × (b ≡ b') × (n' ≡ n'')
  over_one l r a n r' b n' r'' b' n'' x y =
      let i = x.at_row in
      let e : y.at_row ≡ x.at_row = mesh.once y.at_row x.at_row r a y.is_row x.is_row (joins_end (row js y.at_row) r a r'' b' y.joins) (joins_end (row js i) r a r' b x.joins) in
      let j' : Joins (row js i) r a r'' b' = rw e at y.joins in
      let t' : Turns m (row js i) a l n n'' = rw e at y.turns in
      let z = joins_one m roots (row js i) r a r' b r'' b' (mesh.rows i x.is_row) x.joins j' in
      (z.0, z.1, turns_one m (row js i) l a n n' n'' x.turns t')

  over_edge : (l r a n r' b n' : ℕ) → EdgeIn m l a n → Over m js l r a n r' b n' → EdgeIn m l b n'
  over_edge l r a n r' b n' e o =
      (e.0, joins_in m roots (row js o.at_row) r a r' b (mesh.rows o.at_row o.is_row) o.joins, turns_in m ok (row js o.at_row) l a n n' e o.turns)

  crosses_over : (l r a n r' b n' : ℕ) → Crosses m js l r a n r' b n' → Over m js l r a n r' b n'
  crosses_over l r a n r' b n' x = record {
    at_row = x.at_row;
    is_row = x.is_row;
    joins = passes_joins (row js x.at_row) r a r' b x.passes;
    turns = x.turns;
  }

  -- in a joined mesh the row with a root face at an end is the first one
  over_crosses : (l r a n r' b n' : ℕ) → EdgeIn m l a n → Over m js l r a n r' b n' → Crosses m js l r a n r' b n'
  over_crosses l r a n r' b n' e o = record {
    there = e;
    at_row = o.at_row;
    is_row = o.is_row;
    first = λ i less x. (let hi : i < length js = omega (arith, o.is_row) in
        let same = mesh.once i o.at_row r a hi o.is_row x (joins_end (row js o.at_row) r a r' b o.joins) in omega (arith, same));
    passes = joins_passes m roots (row js o.at_row) r a r' b (mesh.rows o.at_row o.is_row) o.joins;
    turns = o.turns;
  }

  -- a row turns every edge number that is there
  turns_some : (i l a n : ℕ) → i < length js → EdgeIn m l a n → (n' : ℕ) × Turns m (row js i) a l n n'
  turns_some i l a n hi e = go (cases_lt 0 (row js i).turn) (m.sort a) refl
    where
      go : (0 < (row js i).turn) ⊎ ((row js i).turn ≤ 0) → (o : Option ℕ) → m.sort a ≡ o → (n' : ℕ) × Turns m (row js i) a l n n'
      go (inr kept) o eo = (n, inl (omega arith, refl))
      go (inl turned) (Some s) eo =
          let z = ok.bounded.turn_in a s l n eo e.0 e.2 in
          (z.0, inr (omega (arith, (mesh.rows i hi).turns), s, eo, z.1))
      go (inl turned) None eo =
          let x : is_some (m.sort a) ≡ true = ok.bounded.sort_in a e.1 in
          let y : ◌≡◌ {A = Bool} true false = sym x ∙ ap (λ (z : Option ℕ). is_some z) eo in
          absurd (true≢false y)

  ends_joins : (j : Joint) (r a : ℕ) → Ends j r a → (r' : ℕ) × (b : ℕ) × Joins j r a r' b
  ends_joins j r a (inl (x, y)) = (j.other_root, j.other_face, inl (x, y, refl, refl))
  ends_joins j r a (inr (x, y)) = (j.root, j.face, inr (x, y, refl, refl))

  over_some : (l r a n i : ℕ) → EdgeIn m l a n → i < length js → Ends (row js i) r a → (r' : ℕ) × (b : ℕ) × (n' : ℕ) × Crosses m js l r a n r' b n'
  over_some l r a n i e hi x =
      let z = ends_joins (row js i) r a x in
      let t = turns_some i l a n hi e in
      (z.0, z.1, t.0, over_crosses l r a n z.0 z.1 t.0 e (record { at_row = i; is_row = hi; joins = z.2; turns = t.1 }))

pub leads_over : LeadsOver
leads_over m ok roots js mesh l r a n i e hi x = over_some m ok roots js mesh l r a n i e hi x

pub leads_back : LeadsBack
leads_back m ok roots js mesh l r a n r' b n' x =
    let o = crosses_over m ok roots js mesh l r a n r' b n' x in
    over_crosses m ok roots js mesh l r' b n' r a n (over_edge m ok roots js mesh l r a n r' b n' x.there o) (over_back m ok roots js mesh l r a n r' b n' o)

pub crosses_iff_over : CrossesOver
crosses_iff_over m ok roots js mesh l r a n r' b n' =
    (λ x. (x.there, crosses_over m ok roots js mesh l r a n r' b n' x), λ x. over_crosses m ok roots js mesh l r a n r' b n' x.0 x.1)
