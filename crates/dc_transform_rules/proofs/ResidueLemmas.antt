-- Laws of sums and products modulo 65537.
use Rattle.std.proofs.Common.{◌≡◌, ℕ, ◌+◌, ◌-◌, ◌*◌, ◌%◌, ◌^◌, ◌<◌, ◌≤◌, refl, sym, ap, ◌∙◌, arith}
use Rattle.std.proofs.Math.Nat.{pow-le-pow_right}
use Rattle.std.proofs.lemmas.Nat.{mul-mod_first, mul-mod_second, pow-add, pow_pos}
use Rattle.dc_transform_rules.specs.Residues.{plus, times}

pub plus-comm : (x y : ℕ) → plus x y ≡ plus y x
unfolding plus
plus-comm x y = omega arith

pub plus-assoc : (x y z : ℕ) → plus (plus x y) z ≡ plus x (plus y z)
unfolding plus
plus-assoc x y z = omega arith

pub times-comm : (x y : ℕ) → times x y ≡ times y x
unfolding times
times-comm x y = omega arith

pub times-assoc : (x y z : ℕ) → times (times x y) z ≡ times x (times y z)
unfolding times
times-assoc x y z =
    let same : x * y * z ≡ x * (y * z) = omega arith in
    mul-mod_first (x * y) z 65537 ∙ ap (λ n. n % 65537) same ∙ sym (mul-mod_second x (y * z) 65537)

-- a sum may be reduced before it is multiplied
pub times-plus : (c x y : ℕ) → times c (plus x y) ≡ plus (times c x) (times c y)
unfolding times plus
times-plus c x y =
    let same : c * (x + y) ≡ c * x + c * y = omega arith in
    mul-mod_second c (x + y) 65537 ∙ ap (λ n. n % 65537) same ∙ (let e : (c * x + c * y) % 65537 ≡ (c * x % 65537 + c * y % 65537) % 65537 = omega arith in e)

pub plus-times : (c d x : ℕ) → times (plus c d) x ≡ plus (times c x) (times d x)
plus-times c d x = times-comm (plus c d) x ∙ times-plus x c d ∙ ap (λ n. plus n (times x d)) (times-comm x c) ∙ ap (λ n. plus (times c x) n) (times-comm x d)

-- sums and products are reduced
pub times_one-plus : (x y : ℕ) → times 1 (plus x y) ≡ plus x y
unfolding times plus
times_one-plus x y = omega arith

pub times_one-times : (x y : ℕ) → times 1 (times x y) ≡ times x y
unfolding times
times_one-times x y = omega arith

pub times_one : (x : ℕ) → x < 65537 → times 1 x ≡ x
unfolding times
times_one x lt = omega arith

pub plus-below : (x y : ℕ) → plus x y < 65537
unfolding plus
plus-below x y = omega arith

pub times-below : (x y : ℕ) → times x y < 65537
unfolding times
times-below x y = omega arith

pub times-zero : (c : ℕ) → times c 0 ≡ 0
unfolding times
times-zero c = omega arith

pub zero-times : (c : ℕ) → times 0 c ≡ 0
unfolding times
zero-times c = omega arith

pub zero-plus-plus : (x y : ℕ) → plus 0 (plus x y) ≡ plus x y
unfolding plus
zero-plus-plus x y = omega arith

pub zero-plus-times : (x y : ℕ) → plus 0 (times x y) ≡ times x y
unfolding plus times
zero-plus-times x y = omega arith

pub plus-times-zero : (x y : ℕ) → plus (times x y) 0 ≡ times x y
unfolding plus times
plus-times-zero x y = omega arith

-- a number and its opposite
pub plus-minus : (x : ℕ) → plus x (times 65536 x) ≡ 0
unfolding plus times
plus-minus x = omega arith

pub plus-twice : (x : ℕ) → plus x x ≡ times 2 x
unfolding plus times
plus-twice x = omega arith

-- four numbers in another order
pub plus-swap : (a b c d : ℕ) → plus (plus a b) (plus c d) ≡ plus (plus a c) (plus b d)
plus-swap a b c d =
    plus-assoc a b (plus c d) ∙ ap (plus a) (sym (plus-assoc b c d) ∙ ap (λ n. plus n d) (plus-comm b c) ∙ plus-assoc c b d)
    ∙ sym (plus-assoc a c (plus b d))

pub zero-plus-zero : plus 0 0 ≡ 0
unfolding plus
zero-plus-zero = refl

-- a plain product is reduced by a factor of one
pub times_one-mul : (x y : ℕ) → times 1 (x * y) ≡ times x y
unfolding times
times_one-mul x y = omega arith

-- two constants in the other order
pub times-swap : (c d x : ℕ) → times c (times d x) ≡ times d (times c x)
times-swap c d x = sym (times-assoc c d x) ∙ ap (λ n. times n x) (times-comm c d) ∙ times-assoc d c x

-- the inverse of a power of two
pub inverse-of_power : (depth c : ℕ) → depth ≤ 16 → c + 2 ^ (16 - depth) ≡ 65537 → times (2 ^ depth) c ≡ 1
unfolding times
inverse-of_power depth c low is =
    let split : depth + (16 - depth) ≡ 16 = omega arith in
    let whole : 2 ^ depth * 2 ^ (16 - depth) ≡ 65536 = sym (pow-add 2 depth (16 - depth)) ∙ ap (λ n. 2 ^ n) split in
    let all : 2 ^ depth * (c + 2 ^ (16 - depth)) ≡ 2 ^ depth * 65537 = ap (λ n. 2 ^ depth * n) is in
    let parts : 2 ^ depth * (c + 2 ^ (16 - depth)) ≡ 2 ^ depth * c + 2 ^ depth * 2 ^ (16 - depth) = omega arith in
    let some = pow_pos depth in
    omega arith

pub power-below : (depth : ℕ) → depth ≤ 16 → 2 ^ (16 - depth) ≤ 65536
power-below depth low = pow-le-pow_right {n = 2} (omega arith) (let h : 16 - depth ≤ 16 = omega arith in h)
