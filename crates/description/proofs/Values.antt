-- The values that bytes hold.
use Rattle.std.proofs.Common.{rules, ◌↔◌, inl, inr, Some, None, Ok, Err, Result, Bool, true, false, MatchOption, ◌≡◌, ℕ, zero, suc, ◌+◌, ◌/◌, ◌%◌, ◌^◌, ◌<◌, List, [], ◌∷◌, ◌++◌, length, get_or, sym, refl, ap, ◌∙◌, arith, pow-suc}
use Rattle.std.proofs.Math.Nat.{div-div-eq-div-mul, mul_comm}
use Rattle.std.specs.Prelude.{IsTrue}
use Rattle.std.specs.Bool.{then_some}
use Rattle.std.specs.Result.{result_ok}
use Rattle.std.specs.Int.{IsOutOfRange, w16, w32, w64, byte_at, bytes_high_first, from_be_bytes}
use Rattle.std.proofs.lemmas.Nat.{be_bytes_2, be_bytes_4, be_bytes_8}
use Rattle.description.specs.declared.shape.Shape.{Shape}
use Rattle.description.specs.declared.shape.UnknownScheme.{UnknownScheme}
use Rattle.description.specs.Format.{Head, Decodes, scheme_of, be, head_bytes, row_bytes, window_bytes, range_bytes}
use Rattle.description.specs.Bounds.{HeadFits, HeadWithin, RowFits, WindowFits, RangeFits}
use Rattle.description.specs.Faults.{Beyond}

-- a list, item by item
abbrev items : ℕ → (ℕ → ℕ) → List ℕ
items zero f = []
items (suc n) f = f 0 ∷ items n (λ i. f (suc i))

all_items : (n : ℕ) (bs : List ℕ) → length bs ≡ n → bs ≡ items n (λ i. get_or bs i 0)
all_items zero [] e = refl
all_items zero (b ∷ bs) e = absurd (omega arith)
all_items (suc n) [] e = absurd (omega arith)
all_items (suc n) (b ∷ bs) e = ap (λ (z : List ℕ). b ∷ z) (all_items n bs (omega arith))

items_fit : (n : ℕ) (f : ℕ → ℕ) → ((i : ℕ) → f i < 256) → (i : ℕ) → get_or (items n f) i 0 < 256
items_fit zero f h i = omega arith
items_fit (suc n) f h zero = h 0
items_fit (suc n) f h (suc i) = items_fit n (λ i. f (suc i)) (λ i. h (suc i)) i

byte_on : (k x : ℕ) → byte_at k (x / 256) ≡ byte_at (suc k) x
byte_on zero x = refl
byte_on (suc k) x =
    ap (λ (z : ℕ). z % 256) (div-div-eq-div-mul x 256 (256 ^ suc k) ∙ ap (λ (z : ℕ). x / z) (mul_comm 256 (256 ^ suc k) ∙ sym (pow-suc 256 (suc k))))

-- the high byte first, and the others after it
be_front : (k x : ℕ) → be (suc k) x ≡ byte_at k x ∷ be k x
unfolding be
be_front zero x = refl
be_front (suc k) x = ap (λ (z : List ℕ). z ++ x % 256 ∷ []) (be_front k (x / 256)) ∙ ap (λ (b : ℕ). b ∷ be (suc k) x) (byte_on k x)

be_high : (k x : ℕ) → be k x ≡ bytes_high_first k x
unfolding be
be_high zero x = refl
be_high (suc k) x = be_front k x ∙ ap (λ (z : List ℕ). byte_at k x ∷ z) (be_high k x)

module _ (f : ℕ → ℕ) (fit : (i : ℕ) → f i < 256) where
  number_1 : be 1 (f 0) ≡ items 1 f
  number_1 = be_high 1 (f 0) ∙ ap (λ (z : ℕ). z ∷ []) (omega (arith, fit 0))

  number_2 : (n : ℕ) → n ≡ from_be_bytes w16 (items 2 f) → be 2 n ≡ items 2 f
  number_2 n e = be_high 2 n ∙ be_bytes_2 (items 2 f) n refl (items_fit 2 f fit) e

  number_4 : (n : ℕ) → n ≡ from_be_bytes w32 (items 4 f) → be 4 n ≡ items 4 f
  number_4 n e = be_high 4 n ∙ be_bytes_4 (items 4 f) n refl (items_fit 4 f fit) e

  number_8 : (n : ℕ) → n ≡ from_be_bytes w64 (items 8 f) → be 8 n ≡ items 8 f
  number_8 n e = be_high 8 n ∙ be_bytes_8 (items 8 f) n refl (items_fit 8 f fit) e

  fits_2 : (n : ℕ) → n ≡ from_be_bytes w16 (items 2 f) → n < 256 ^ 2
  fits_2 n e = omega (arith, e, fit 0, fit 1)

  fits_4 : (n : ℕ) → n ≡ from_be_bytes w32 (items 4 f) → n < 256 ^ 4
  fits_4 n e = omega (arith, e, fit 0, fit 1, fit 2, fit 3)

  fits_8 : (n : ℕ) → n ≡ from_be_bytes w64 (items 8 f) → n < 256 ^ 8
  fits_8 n e = omega (arith, e, fit 0, fit 1, fit 2, fit 3, fit 4, fit 5, fit 6, fit 7)

-- the bytes are those of the value, which fits them
pub record Holds {V : Type 0} (bytes : V → List ℕ) (Fits : V → Type 0) (bs : List ℕ) (v : V) : Type 0 where
  pub is : bs ≡ bytes v
  pub fits : Fits v

-- a value that the bytes hold, and that is outside its bounds
pub outside : {V : Type 0} (bytes : V → List ℕ) (Fits Within : V → Type 0) (bs : List ℕ) (v : V) → Holds bytes Fits bs v → (Within v → ⊥) → (more : List ℕ) → Beyond bytes Fits Within 4 (bs ++ more)
outside bytes Fits Within bs v h bad more =
    record { number = refl; value = v; more = more; begins = ap (λ (z : List ℕ). z ++ more) h.is; fits = h.fits; beyond = bad }

-- a value that the bytes hold is granted where it is within its bounds
pub granted_or : {P V : Type 0} (view : P → V) (bytes : V → List ℕ) (Fits Within : V → Type 0) (bs : List ℕ) (b : Bool) (p : P) → Holds bytes Fits bs (view p) →
    (Fits (view p) → (IsTrue b ↔ Within (view p))) →
    MatchOption (then_some b p) ((more : List ℕ) → Beyond bytes Fits Within 4 (bs ++ more)) (λ part. Within (view part) × (bs ≡ bytes (view part)))
granted_or view bytes Fits Within bs true p h t = ((t h.fits).0 (search rules), h.is)
granted_or view bytes Fits Within bs false p h t = outside bytes Fits Within bs (view p) h (λ w. search (rules, (t h.fits).1 w))

-- the shape that a number decodes to, and a number that decodes to none
pub decoded : (n : ℕ) (r : Result Shape UnknownScheme) (shape : Shape) → Decodes n r → Some shape ≡ result_ok r → scheme_of shape ≡ n
decoded n (Ok s) shape d e = let same : shape ≡ s = cc in ap scheme_of same ∙ d
decoded n (Err x) shape d e = absurd cc

pub undecoded : (n : ℕ) (r : Result Shape UnknownScheme) → Decodes n r → result_ok r ≡ None → IsOutOfRange 1 5 n
undecoded n (Ok s) d e = absurd cc
undecoded n (Err x) d e = d.1

pub no_scheme : (h : Head) → IsOutOfRange 1 5 h.scheme → HeadWithin h → ⊥
no_scheme h (inl lt) w = omega (arith, w.scheme_from)
no_scheme h (inr lt) w = omega (arith, w.scheme_to)

module _ (bs : List ℕ) (fit : (i : ℕ) → get_or bs i 0 < 256) where
  -- the item that stands so many bytes on
  abbrev on : ℕ → ℕ → ℕ
  on j i = get_or bs (j + i) 0

  -- the bytes from there on
  abbrev fit_on : (j i : ℕ) → on j i < 256
  fit_on j i = fit (j + i)

  one : (j : ℕ) → be 1 (on j 0) ≡ items 1 (on j)
  one j = number_1 (on j) (fit_on j)

  pub head_holds : length bs ≡ 7 → (scheme roots rows : ℕ) → scheme ≡ get_or bs 0 0 → roots ≡ from_be_bytes w16 (items 2 (on 1)) → rows ≡ from_be_bytes w16 (items 2 (on 5)) →
      Holds head_bytes HeadFits bs (record { scheme = scheme; roots = roots; level = get_or bs 3 0; limit = get_or bs 4 0; rows = rows })
  unfolding head_bytes
  head_holds len scheme roots rows e₀ e₁ e₂ = record {
    is = all_items 7 bs len ∙
        sym (λ i. (ap (be 1) e₀ ∙ number_1 (λ j. get_or bs j 0) fit) i ++ number_2 (on 1) (fit_on 1) roots e₁ i ++ one 3 i ++ one 4 i ++ number_2 (on 5) (fit_on 5) rows e₂ i);
    fits = record { scheme_fits = omega (arith, e₀, fit 0); roots_fit = fits_2 (on 1) (fit_on 1) roots e₁; level_fits = fit 3; limit_fits = fit 4; rows_fit = fits_2 (on 5) (fit_on 5) rows e₂ };
  }

  pub row_holds : length bs ≡ 7 → (root other : ℕ) → root ≡ from_be_bytes w16 (items 2 (λ j. get_or bs j 0)) → other ≡ from_be_bytes w16 (items 2 (on 3)) →
      Holds row_bytes RowFits bs (record { root = root; face = get_or bs 2 0; other_root = other; other_face = get_or bs 5 0; turn = get_or bs 6 0 })
  unfolding row_bytes
  row_holds len root other e₀ e₁ = record {
    is = all_items 7 bs len ∙ sym (λ i. number_2 (λ j. get_or bs j 0) fit root e₀ i ++ one 2 i ++ number_2 (on 3) (fit_on 3) other e₁ i ++ one 5 i ++ one 6 i);
    fits = record { root_fits = fits_2 (λ j. get_or bs j 0) fit root e₀; face_fits = fit 2; other_root_fits = fits_2 (on 3) (fit_on 3) other e₁; other_face_fits = fit 5; turn_fits = fit 6 };
  }

  pub window_holds : length bs ≡ 19 → (root x0 y0 x1 y1 : ℕ) → root ≡ from_be_bytes w16 (items 2 (λ j. get_or bs j 0)) → x0 ≡ from_be_bytes w32 (items 4 (on 3)) →
      y0 ≡ from_be_bytes w32 (items 4 (on 7)) → x1 ≡ from_be_bytes w32 (items 4 (on 11)) → y1 ≡ from_be_bytes w32 (items 4 (on 15)) →
      Holds window_bytes WindowFits bs (record { root = root; target = get_or bs 2 0; x0 = x0; y0 = y0; x1 = x1; y1 = y1 })
  unfolding window_bytes
  window_holds len root x0 y0 x1 y1 e₀ e₁ e₂ e₃ e₄ = record {
    is = all_items 19 bs len ∙
        sym (λ i. number_2 (λ j. get_or bs j 0) fit root e₀ i ++ one 2 i ++ number_4 (on 3) (fit_on 3) x0 e₁ i ++ number_4 (on 7) (fit_on 7) y0 e₂ i ++
        number_4 (on 11) (fit_on 11) x1 e₃ i ++ number_4 (on 15) (fit_on 15) y1 e₄ i);
    fits = record {
      root_fits = fits_2 (λ j. get_or bs j 0) fit root e₀;
      target_fits = fit 2;
      x0_fits = fits_4 (on 3) (fit_on 3) x0 e₁;
      y0_fits = fits_4 (on 7) (fit_on 7) y0 e₂;
      x1_fits = fits_4 (on 11) (fit_on 11) x1 e₃;
      y1_fits = fits_4 (on 15) (fit_on 15) y1 e₄;
    };
  }

  pub range_holds : length bs ≡ 19 → (root first last : ℕ) → root ≡ from_be_bytes w16 (items 2 (λ j. get_or bs j 0)) → first ≡ from_be_bytes w64 (items 8 (on 3)) →
      last ≡ from_be_bytes w64 (items 8 (on 11)) → Holds range_bytes RangeFits bs (record { root = root; target = get_or bs 2 0; first = first; last = last })
  unfolding range_bytes
  range_holds len root first last e₀ e₁ e₂ = record {
    is = all_items 19 bs len ∙ sym (λ i. number_2 (λ j. get_or bs j 0) fit root e₀ i ++ one 2 i ++ number_8 (on 3) (fit_on 3) first e₁ i ++ number_8 (on 11) (fit_on 11) last e₂ i);
    fits = record { root_fits = fits_2 (λ j. get_or bs j 0) fit root e₀; target_fits = fit 2; first_fits = fits_8 (on 3) (fit_on 3) first e₁; last_fits = fits_8 (on 11) (fit_on 11) last e₂ };
  }
