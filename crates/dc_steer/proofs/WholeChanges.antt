-- The changes of both kinds of pads, from those of each kind.
use Rattle.std.proofs.Common.{◌≡◌, ℕ, ◌*◌, ◌/◌, ◌%◌, List, ◌++◌, length, replicate, refl, ap, ◌∙◌}
use Rattle.dc_key_rules.specs.PairKeys.{symbols}
use Rattle.dc_steering_rules.specs.Steerings.{Steering, first_difference, steered_from, second_changes, first_changes}
use Rattle.dc_steer.specs.Changes.{changes_for}

-- the changes for received symbols, wanted symbols, their number and the first difference
abbrev changes_by : List ℕ → List ℕ → List ℕ → ℕ → ℕ → Steering
changes_by xs ys ws n p =
    let y = second_changes xs ys (replicate (steered_from p) 0 ++ ws) n in
    record { round = p / 16; symbol = p % 16; first = first_changes xs y n; second = y }

pub changes_are : (cu cv wanted : List (List ℕ)) (xs ys ws a b : List ℕ) (p r s : ℕ) → xs ≡ symbols cu → ys ≡ symbols cv → ws ≡ symbols wanted
    → length xs ≡ 16 * length cu → p ≡ first_difference xs ys → b ≡ second_changes xs ys (replicate (steered_from p) 0 ++ ws) (length xs)
    → a ≡ first_changes xs b (length xs) → r ≡ p / 16 → s ≡ p % 16
    → (let due : Steering = record { round = r; symbol = s; first = a; second = b } in due ≡ changes_for cu cv wanted)
changes_are cu cv wanted xs ys ws a b p r s smaller larger later long place second first round symbol =
    let due : Steering = record { round = r; symbol = s; first = a; second = b } in
    let known : due ≡ changes_by xs ys ws (length xs) p = rw (round, symbol, first, second) refl in
    known ∙ ap (λ (n : ℕ). changes_by xs ys ws n p) long ∙ ap (λ (q : ℕ). changes_by xs ys ws (16 * length cu) q) place
    ∙ ap (λ (zs : List ℕ). changes_by zs ys ws (16 * length cu) (first_difference zs ys)) smaller
    ∙ ap (λ (zs : List ℕ). changes_by (symbols cu) zs ws (16 * length cu) (first_difference (symbols cu) zs)) larger
    ∙ ap (λ (zs : List ℕ). changes_by (symbols cu) (symbols cv) zs (16 * length cu) (first_difference (symbols cu) (symbols cv))) later
