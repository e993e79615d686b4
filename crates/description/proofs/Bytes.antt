-- A number of n bytes and its bytes tell each other.
use Rattle.std.proofs.Common.{◌≡◌, ℕ, zero, suc, ◌/◌, ◌%◌, ◌^◌, ◌<◌, List, [], ◌∷◌, ◌++◌, length, sym, refl, ◌∙◌, div-lt_iff_lt-mul, pow-suc, div-add-mod', arith, length-append}
use Rattle.std.proofs.lemmas.List.{same_from_push}
use Rattle.description.specs.Format.{be}

pub length_be : (n x : ℕ) → length (be n x) ≡ n
unfolding be
length_be zero x = refl
length_be (suc n) x = rw (length-append (be n (x / 256)) (x % 256 ∷ []), length_be n (x / 256)) (omega arith)

-- what fits n bytes is told by them
pub be_one : (n x y : ℕ) → x < 256 ^ n → y < 256 ^ n → be n x ≡ be n y → x ≡ y
unfolding be
be_one zero x y hx hy e = omega arith
be_one (suc n) x y hx hy e =
    let p = same_from_push (be n (x / 256)) (be n (y / 256)) (x % 256) (y % 256) e in
    let q : x / 256 ≡ y / 256 = be_one n (x / 256) (y / 256) (high n x hx) (high n y hy) p.0 in
    omega (arith, p.1, div-add-mod' x 256, div-add-mod' y 256)
  where
    high : (n x : ℕ) → x < 256 ^ suc n → x / 256 < 256 ^ n
    high n x h = (div-lt_iff_lt-mul (omega arith)).1 (rw pow-suc at h)

-- lists of one length in front of others
pub front_one : (a b r s : List ℕ) → length a ≡ length b → a ++ r ≡ b ++ s → (a ≡ b) × (r ≡ s)
front_one [] [] r s l e = (refl, e)
front_one [] (y ∷ b) r s l e = absurd (omega arith)
front_one (x ∷ a) [] r s l e = absurd (omega arith)
front_one (x ∷ a) (y ∷ b) r s l e =
    let h : x ≡ y = cc in
    let t : a ++ r ≡ b ++ s = cc in
    let m : length a ≡ length b = omega arith in
    let p = front_one a b r s m t in
    (cc (h, p.0), p.1)

-- a number at the front of a list
pub field : (n x y : ℕ) {r s : List ℕ} → x < 256 ^ n → y < 256 ^ n → be n x ++ r ≡ be n y ++ s → (x ≡ y) × (r ≡ s)
field n x y {r} {s} hx hy e =
    let p = front_one (be n x) (be n y) r s (length_be n x ∙ sym (length_be n y)) e in
    (be_one n x y hx hy p.0, p.1)
