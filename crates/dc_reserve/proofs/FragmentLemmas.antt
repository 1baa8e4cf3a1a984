-- A word by its symbols is a fragment.
use Rattle.std.proofs.Common.{◌≡◌, ℕ, zero, suc, ◌+◌, ◌-◌, ◌*◌, ◌<◌, List, length, get_or, refl, sym, ◌∙◌, subst, arith, ext_get_or}
use Rattle.dc_station_rules.specs.Bursts.{burst_bytes, fragment, fragment_count}
use Rattle.dc_station_rules.proofs.Carried.{length-fragment, fragment-limb}

-- the count of a fragment
count-fragment : (message : List ℕ) (i : ℕ) → get_or (fragment message i) 0 0 ≡ fragment_count (length message) - i
unfolding fragment
count-fragment message i = refl

-- sixteen numbers, the first of them the count and the others bytes of the burst
pub fragment_is : (message word : List ℕ) (i : ℕ) → i < fragment_count (length message) → length word ≡ 16 → get_or word 0 0 ≡ fragment_count (length message) - i
    → ((r : ℕ) → r < 15 → get_or word (r + 1) 0 ≡ get_or (burst_bytes message) (15 * i + r) 0) → word ≡ fragment message i
fragment_is message word i lt sixteen count limbs = ext_get_or 0 word (fragment message i) (sixteen ∙ sym (length-fragment message i lt)) each
  where
    each : (k : ℕ) → k < length word → get_or word k 0 ≡ get_or (fragment message i) k 0
    each zero below = count ∙ sym (count-fragment message i)
    each (suc r) below =
        let next : r + 1 ≡ suc r = omega arith in
        let few : r < 15 = omega arith in
        subst (λ (k : ℕ). get_or word k 0 ≡ get_or (fragment message i) k 0) next (limbs r few ∙ sym (fragment-limb message i r few))
