-- A lawful scheme is lawful with its faces' own numbers as sorts.
use Rattle.std.specs.Prelude.{◌≡◌, ℕ, suc, ◌/◌, ◌^◌, ◌<◌, ◌≤◌, Bool, true, false, is_some, Some, None, Option, nat_lt, refl}
use Rattle.std.proofs.Common.{◌∙◌, ap, arith}
use Rattle.std.proofs.lemmas.Bool.{ltb-true, lt-ltb}
use Rattle.scheme.specs.Alike.{crossed_alike, face_alike}
use Rattle.scheme.specs.Limiting.{given}
use Rattle.scheme.specs.Scheme.{Model, k, h, Lawful, Bounded}
use Rattle.trials.specs.Relabelling.{by_sort, relabelled}

given_is : (b : Bool) (g : ℕ) → is_some (given b (Some g)) ≡ true → b ≡ true
given_is true g e = refl
given_is false g e = cc e

given_some : (b : Bool) (g s : ℕ) → given b (Some g) ≡ Some s → (b ≡ true) × (g ≡ s)
given_some true g s e = (refl, cc e)
given_some false g s e = (cc e, cc e)

some_inside : (o : Option ℕ) → is_some o ≡ true → (t : ℕ) × (o ≡ Some t)
some_inside (Some t) e = (t, refl)
some_inside None e = (0, cc e)

module _ (m : Model) (ok : Lawful m) where
  own : (g : ℕ) → g < m.F → (relabelled m).sort g ≡ Some g
  own g hg = rw (lt-ltb g m.F hg)

  turn_in : (g s l n : ℕ) → (relabelled m).sort g ≡ Some s → l ≤ m.D → n < h m ^ l →
      (n' : ℕ) × ((relabelled m).turned s l n ≡ Some n') × (n' < h m ^ l)
  turn_in g s l n e hl hn =
      let z = given_some (nat_lt g m.F) g s e in
      let hg : g < m.F = ltb-true g m.F z.0 in
      let hs : s < m.F = omega (arith, hg, z.1) in
      let t = some_inside (m.sort s) (ok.bounded.sort_in s hs) in
      let w = ok.bounded.turn_in s t.0 l n t.1 hl hn in
      (w.0, ap (λ o. by_sort o (λ u. m.turned u l n)) t.1 ∙ w.1, w.2)

  turn_out : (s l n : ℕ) (o : Option ℕ) → m.sort s ≡ o → is_some (by_sort o (λ t. m.turned t l n)) ≡ true →
      ((g : ℕ) × ((relabelled m).sort g ≡ Some s)) × (l ≤ m.D) × (n < h m ^ l)
  turn_out s l n (Some t) e x =
      let w = ok.bounded.turn_out t l n x in
      ((s, own s (ok.bounded.sort_out s (ap is_some e))), w.1, w.2)
  turn_out s l n None e x = let z : ◌≡◌ {A = ℕ} 0 1 = cc x in ((s, cc x), omega arith, omega arith)

  undo : (o : Option ℕ) (l n n' : ℕ) → by_sort o (λ t. m.turned t l n) ≡ Some n' → by_sort o (λ t. m.turned t l n') ≡ Some n
  undo (Some t) l n n' e = ok.undo t l n n' e
  undo None l n n' e = cc e

  turn_down : (o : Option ℕ) (l n n' : ℕ) → by_sort o (λ t. m.turned t (suc l) n) ≡ Some n' →
      by_sort o (λ t. m.turned t l (n / h m)) ≡ Some (n' / h m)
  turn_down (Some t) l n n' e = ok.turn_down t l n n' e
  turn_down None l n n' e = cc e

  relabelled_bounded : Bounded (relabelled m)
  relabelled_bounded =
      let b = ok.bounded in
      record {
        width = b.width;
        faces = b.faces;
        depth = b.depth;
        across_in = λ l p f c hf. crossed_alike m (relabelled m) refl refl l (m.across l p f) (b.across_in l p f c hf);
        across_out = b.across_out;
        edge_in = λ l g n c. face_alike m (relabelled m) refl refl (k m ^ l) (m.at_edge l g n) (b.edge_in l g n c);
        edge_out = b.edge_out;
        child_in = λ l p f j hl hp hf hj. face_alike m (relabelled m) refl refl (k m) (m.face_child l p f j) (b.child_in l p f j hl hp hf hj);
        child_out = b.child_out;
        sort_in = λ g hg. ap is_some (own g hg);
        sort_out = λ g e. ltb-true g m.F (given_is (nat_lt g m.F) g e);
        turn_in = turn_in;
        turn_out = λ s l n e. turn_out s l n (m.sort s) refl e;
      }

  pub relabelled_lawful : Lawful (relabelled m)
  relabelled_lawful = record {
    bounded = relabelled_bounded;
    back = ok.back;
    edge_to = ok.edge_to;
    edge_from = ok.edge_from;
    root_face = ok.root_face;
    rise = ok.rise;
    apart = ok.apart;
    across_children = ok.across_children;
    edge_children = ok.edge_children;
    edge_onto = ok.edge_onto;
    sibling = ok.sibling;
    undo = λ s l n n' e. undo (m.sort s) l n n' e;
    turn_down = λ s l n n' e. turn_down (m.sort s) l n n' e;
  }
