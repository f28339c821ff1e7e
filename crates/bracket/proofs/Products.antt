-- A product from halves of 32 bits, and a sum of two products that fits.
use Rattle.std.proofs.Common.{◌≡◌, ℕ, ◌+◌, ◌*◌, ◌/◌, ◌%◌, ◌^◌, ◌<◌, ◌≤◌, ◌∙◌, ap₂, mul-le-mul, div-add-mod', arith}

abbrev pub half : ℕ
half = 4294967296

-- each row gives its low half, and carries its high half
rows : (x y z w f1 f0 s1 s0 t1 t0 : ℕ) → f1 * half + f0 ≡ y * w → s1 * half + s0 ≡ x * w + f1 → t1 * half + t0 ≡ y * z + s0 →
    (x * z + (s1 + t1)) * 2 ^ 64 + (t0 * half + f0) ≡ (x * half + y) * (z * half + w)
rows x y z w f1 f0 s1 s0 t1 t0 f s t = omega arith

pub product_is : (a b first second third : ℕ) → first ≡ a % half * (b % half) + 0 → second ≡ a / half * (b % half) + first / half → third ≡ a % half * (b / half) + second % half →
    (a / half * (b / half) + (second / half + third / half)) * 2 ^ 64 + (third % half * half + first % half) ≡ a * b
product_is a b first second third f s t =
    rows (a / half) (a % half) (b / half) (b % half) (first / half) (first % half) (second / half) (second % half) (third / half) (third % half)
    (omega (arith, div-add-mod' first half)) (div-add-mod' second half ∙ s) (div-add-mod' third half ∙ t)
    ∙ ap₂ ◌*◌ (div-add-mod' a half) (div-add-mod' b half)

pub sum_fits : (x y a b c d : ℕ) → x ≡ a * b → y ≡ c * d → a < 2 ^ 62 → b < 2 ^ 64 → c < 2 ^ 62 → d < 2 ^ 64 → x + y < 2 ^ 128
sum_fits x y a b c d e f ha hb hc hd =
    let a' : a ≤ 4611686018427387903 = omega arith in
    let b' : b ≤ 18446744073709551615 = omega arith in
    let c' : c ≤ 4611686018427387903 = omega arith in
    let d' : d ≤ 18446744073709551615 = omega arith in
    omega (arith, mul-le-mul a' b', mul-le-mul c' d')
