use Rattle.std.proofs.Common.{◌≡◌, ℕ, ◌*◌, ◌/◌, ◌^◌, Option, sym, ap, ◌∙◌}
use Rattle.models.specs.Square.{square_x, square_y}
use Rattle.models.specs.Moving.{lowered, raised, square_beyond}
use Rattle.models.proofs.SquareMoves.{x_mask, y_mask, lowered_x, raised_x, lowered_y, raised_y}
use Rattle.models.proofs.Carry.{mask}
use Rattle.square.specs.Side.{face_of}
use Rattle.square.specs.declared.side.Side.{Side}
use Rattle.square.proofs.morton.beyond.Goals as goal

-- a third of the places is the bits of x, two thirds are the bits of y
module _ (l p n : ℕ) (e : n ≡ 4 ^ l) where
  x_bits : n / 3 ≡ mask 1 l
  x_bits = ap (λ z. z / 3) e ∙ x_mask l

  along_x : (f : ℕ → ℕ → ℕ → Option ℕ) → f p (n / 3) (2 * (n / 3)) ≡ f p (mask 1 l) (mask 2 l)
  along_x f = rw (x_bits, ← y_mask l)

  along_y : (f : ℕ → ℕ → ℕ → Option ℕ) → f p (2 * (n / 3)) (n / 3) ≡ f p (mask 2 l) (mask 1 l)
  along_y f = rw (x_bits, ← y_mask l)

at_side : (l x y : ℕ) (s t : Side) → s ≡ t → square_beyond l x y (face_of t) ≡ square_beyond l x y (face_of s)
at_side l x y s t e = ap (λ z. square_beyond l x y (face_of z)) (sym e)

pub returns-in-Left : goal.returns-in-Left
returns-in-Left c =
    let l = c.args.place.level.number in
    let p = c.args.place.number in
    c.lowered.ensures ∙ along_x l p c.places-x_bits.result c.places-x_bits.ensures.value lowered ∙ lowered_x l p c.args.place.within
    ∙ at_side l (square_x l p) (square_y l p) c.args.side _ c.in-Left.is

pub returns-in-Right : goal.returns-in-Right
returns-in-Right c =
    let l = c.args.place.level.number in
    let p = c.args.place.number in
    c.raised.ensures ∙ along_x l p c.places-x_bits.result c.places-x_bits.ensures.value raised ∙ raised_x l p c.args.place.within
    ∙ at_side l (square_x l p) (square_y l p) c.args.side _ c.in-Right.is

pub returns-in-Bottom : goal.returns-in-Bottom
returns-in-Bottom c =
    let l = c.args.place.level.number in
    let p = c.args.place.number in
    c.lowered-in-Bottom.ensures ∙ along_y l p c.places-x_bits.result c.places-x_bits.ensures.value lowered ∙ lowered_y l p c.args.place.within
    ∙ at_side l (square_x l p) (square_y l p) c.args.side _ c.in-Bottom.is

pub returns-in-Top : goal.returns-in-Top
returns-in-Top c =
    let l = c.args.place.level.number in
    let p = c.args.place.number in
    c.raised-in-Top.ensures ∙ along_y l p c.places-x_bits.result c.places-x_bits.ensures.value raised ∙ raised_y l p c.args.place.within
    ∙ at_side l (square_x l p) (square_y l p) c.args.side _ c.in-Top.is
