-- What weaving gives to a factor, the left one or the right one: its own digits, and the other's.
use Rattle.std.proofs.Common.{◌≡◌, ℕ, suc, ◌+◌, ◌*◌, ◌/◌, ◌%◌, ◌^◌, ◌<◌, ◌⊎◌, ap, inl, inr, mod-lt, mul-le-mul_left, mul-suc, arith}
use native.Mathlib.Nat.{mod-add-div, div-add-mod}
use Rattle.std.proofs.lemmas.Bool.{cases_order}
use Rattle.models.specs.Weaving.{weave, left, right}
use Rattle.models.proofs.Weaving.{digit_lt, digit_mod, digit_div, div_lt, weave_lt, left_lt, right_lt, left_weave, right_weave, weave_parts, left_last, right_last, left_up, right_up}

-- numbers in the base c, joined from one's own in the base s and the other's in the base t
pub record Join (s t c : ℕ) : Type 0 where
  -- level, own, other
  pub join : ℕ → ℕ → ℕ → ℕ
  -- level, joined
  pub own : ℕ → ℕ → ℕ
  pub other : ℕ → ℕ → ℕ
  pub digit : ℕ → ℕ → ℕ
  pub own_digit : ℕ → ℕ
  pub other_digit : ℕ → ℕ
  pub join_lt : (l x y : ℕ) → join l x y < c ^ l
  pub own_lt : (l n : ℕ) → own l n < s ^ l
  pub other_lt : (l n : ℕ) → other l n < t ^ l
  pub own_join : (l x y : ℕ) → x < s ^ l → own l (join l x y) ≡ x
  pub other_join : (l x y : ℕ) → y < t ^ l → other l (join l x y) ≡ y
  pub join_parts : (l n : ℕ) → n < c ^ l → join l (own l n) (other l n) ≡ n
  pub digit_in : (d e : ℕ) → d < s → e < t → digit d e < c
  pub own_digit_in : (d : ℕ) → d < c → own_digit d < s
  pub other_digit_in : (d : ℕ) → d < c → other_digit d < t
  pub own_of_digit : (d e : ℕ) → d < s → e < t → own_digit (digit d e) ≡ d
  pub other_of_digit : (d e : ℕ) → d < s → e < t → other_digit (digit d e) ≡ e
  pub digit_parts : (d : ℕ) → digit (own_digit d) (other_digit d) ≡ d
  pub own_last : (l n d : ℕ) → d < c → own (suc l) (n * c + d) ≡ own l n * s + own_digit d
  pub other_last : (l n d : ℕ) → d < c → other (suc l) (n * c + d) ≡ other l n * t + other_digit d
  pub own_up : (l n : ℕ) → own (suc l) n / s ≡ own l (n / c)
  pub other_up : (l n : ℕ) → other (suc l) n / t ≡ other l (n / c)

module _ (s t c : ℕ) (hs : 0 < s) (ht : 0 < t) (e : c ≡ s * t) where
  abbrev pub as_left : Join s t c
  as_left = record {
    join = weave s t;
    own = left s t;
    other = right s t;
    digit = λ d e. d + s * e;
    own_digit = λ d. d % s;
    other_digit = λ d. d / s;
    join_lt = rw e (weave_lt s t hs ht);
    own_lt = left_lt s t hs ht;
    other_lt = right_lt s t hs ht;
    own_join = left_weave s t hs ht;
    other_join = right_weave s t hs ht;
    join_parts = rw e (weave_parts s t hs ht);
    digit_in = rw e (digit_lt s t);
    own_digit_in = λ d hd. mod-lt d hs;
    other_digit_in = λ d hd. div_lt s t d hs (rw e at hd);
    own_of_digit = λ d e hd he. digit_mod s d e hd;
    other_of_digit = λ d e hd he. digit_div s d e hd;
    digit_parts = λ d. mod-add-div d s;
    own_last = rw e (left_last s t hs ht);
    other_last = rw e (right_last s t hs ht);
    own_up = rw e (left_up s t hs ht);
    other_up = rw e (right_up s t hs ht);
  }

  abbrev pub as_right : Join t s c
  as_right = record {
    join = λ l y x. weave s t l x y;
    own = right s t;
    other = left s t;
    digit = λ e d. d + s * e;
    own_digit = λ d. d / s;
    other_digit = λ d. d % s;
    join_lt = λ l y x. rw e (weave_lt s t hs ht l x y);
    own_lt = right_lt s t hs ht;
    other_lt = left_lt s t hs ht;
    own_join = λ l y x. right_weave s t hs ht l x y;
    other_join = λ l y x. left_weave s t hs ht l x y;
    join_parts = rw e (weave_parts s t hs ht);
    digit_in = λ d e' hd he. rw e (digit_lt s t e' d he hd);
    own_digit_in = λ d hd. div_lt s t d hs (rw e at hd);
    other_digit_in = λ d hd. mod-lt d hs;
    own_of_digit = λ d e hd he. digit_div s e d he;
    other_of_digit = λ d e hd he. digit_mod s e d he;
    digit_parts = λ d. mod-add-div d s;
    own_last = rw e (right_last s t hs ht);
    other_last = rw e (left_last s t hs ht);
    own_up = rw e (right_up s t hs ht);
    other_up = rw e (left_up s t hs ht);
  }

-- of two numbers, the greater has the greater quotient, or the same and the greater remainder
pub digits_order : (s j j' : ℕ) → 0 < s → j < j' → (j / s < j' / s) ⊎ ((j / s ≡ j' / s) × (j % s < j' % s))
digits_order s j j' hs lt = elim (cases_order (j / s) (j' / s)) [
  | inl e ↦ inr (e, (let up : s * (j / s) ≡ s * (j' / s) = ap (λ z. s * z) e in omega (arith, up, div-add-mod j s, div-add-mod j' s)))
  | inr (inl less) ↦ inl less
  | inr (inr more) ↦ absurd (omega (arith, mul-le-mul_left s more, mul-suc s (j' / s), div-add-mod j s, div-add-mod j' s, mod-lt j' hs))
]

-- a greater high digit decides
pub digits_rise : (s d d' e e' : ℕ) → d < s → e < e' → d + s * e < d' + s * e'
digits_rise s d d' e e' hd he = omega (arith, mul-le-mul_left s he, mul-suc s e)
