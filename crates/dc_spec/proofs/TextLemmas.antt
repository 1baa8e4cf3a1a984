-- A symbol by its five digits.
use Rattle.std.proofs.Common.{◌≡◌, ℕ, ◌+◌, ◌*◌, ◌/◌, ◌%◌, ◌<◌, arith}
use Rattle.std.proofs.Math.Nat.{div-div-eq-div-mul, div-add-mod}

-- the five digits of a symbol make it up
pub symbol_from_digits : (x : ℕ) → x < 65537 → x ≡ 65536 * (x / 65536 % 16) + 4096 * (x / 4096 % 16) + 256 * (x / 256 % 16) + 16 * (x / 16 % 16) + x % 16
symbol_from_digits x p =
    let two : x / 16 / 16 ≡ x / 256 = div-div-eq-div-mul x 16 16 in
    let three : x / 256 / 16 ≡ x / 4096 = div-div-eq-div-mul x 256 16 in
    let four : x / 4096 / 16 ≡ x / 65536 = div-div-eq-div-mul x 4096 16 in
    let low : 16 * (x / 16) + x % 16 ≡ x = div-add-mod x 16 in
    let second : 16 * (x / 16 / 16) + x / 16 % 16 ≡ x / 16 = div-add-mod (x / 16) 16 in
    let third : 16 * (x / 256 / 16) + x / 256 % 16 ≡ x / 256 = div-add-mod (x / 256) 16 in
    let fourth : 16 * (x / 4096 / 16) + x / 4096 % 16 ≡ x / 4096 = div-add-mod (x / 4096) 16 in
    omega arith
