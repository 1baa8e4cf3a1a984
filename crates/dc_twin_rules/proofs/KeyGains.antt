-- What a station's keys gain where the first pads of its pairs change.
use Rattle.std.proofs.Common.{◌≡◌, ℕ, ◌+◌, ◌-◌, ◌%◌, ◌<◌, ◌≤◌, ◌⊎◌, ◌==◌, ◌&&◌, Bool, true, false, cond, List, map, filter, sum_by, nat_eq, Option, Some, None, refl, sym, ◌∙◌, ap, subst, inl, inr, arith, eqb-true, true≢false, zero-le}
use Rattle.std.specs.List.{All, AllPairs, list_any, range_with_len}
use Rattle.std.specs.Option.{option_map_or}
use Rattle.dc_spec.specs.Pads.{Pair}
use Rattle.dc_spec.proofs.SumLemmas.{sum_by-map, sum_by-single, sum_by-zero}
use Rattle.dc_twin_rules.proofs.KeyedSums.{sum_by-key, sum_by-kept, sum_by-mod_plus}

-- what the pairs at one end gain together
pub end-gain : (end other : Pair → ℕ) (f : Pair → ℕ) (change : Pair → Pair) (Y : ℕ → ℕ → ℕ) (n i : ℕ) (pairs : List Pair) → All (λ q. end (change q) ≡ end q) pairs →
    All (λ q. f (change q) % 65537 ≡ (f q + Y (end q) (other q)) % 65537) pairs → All (λ q. other q < n) pairs → AllPairs (λ x y. end x ≡ end y → other x ≡ other y → ⊥) pairs →
    sum_by f (filter (λ q. end q == i) (map change pairs)) % 65537
    ≡ (sum_by f (filter (λ q. end q == i) pairs) + sum_by (λ w. cond (list_any (λ q. (end q == i) && nat_eq w (other q)) pairs) (Y i w) 0) (range_with_len 0 n)) % 65537
end-gain end other f change Y n i pairs ends gains low apart =
    let kept = sum_by-kept f (λ q. end q == i) (map change pairs) ∙ sum_by-map (λ q. cond (end q == i) (f q) 0) change pairs in
    let split = sum_by-mod_plus (λ q. cond (end (change q) == i) (f (change q)) 0) (λ q. cond (end q == i) (f q) 0) (λ q. cond (end q == i) (Y i (other q)) 0) pairs
    (λ k d within. one (end (change _)) (end _) (f (change _)) (f _) (other _) (ends k d within) (gains k d within)) in
    let own = sym (sum_by-kept f (λ q. end q == i) pairs) in
    let by_key = sum_by-key (λ q. end q == i) other (Y i) n pairs low
    (λ j k d less within a b same. apart j k d less within (eqb-true _ i a ∙ sym (eqb-true _ i b)) same) in
    ap (λ s. s % 65537) kept ∙ split ∙ ap (λ s. (s + sum_by (λ q. cond (end q == i) (Y i (other q)) 0) pairs) % 65537) own
    ∙ ap (λ s. (sum_by f (filter (λ q. end q == i) pairs) + s) % 65537) by_key
  where
    one_by : (b : Bool) (f' f y y' : ℕ) → (b ≡ true → y ≡ y') → f' % 65537 ≡ (f + y) % 65537 → cond b f' 0 % 65537 ≡ (cond b f 0 + cond b y' 0) % 65537
    one_by true f' f y y' same e = let s = same refl in omega arith
    one_by false f' f y y' same e = refl

    one : (e' e f' f o : ℕ) → e' ≡ e → f' % 65537 ≡ (f + Y e o) % 65537 → cond (e' == i) f' 0 % 65537 ≡ (cond (e == i) f 0 + cond (e == i) (Y i o) 0) % 65537
    one e' e f' f o same is = subst (λ (z : ℕ). cond (z == i) f' 0 % 65537 ≡ (cond (e == i) f 0 + cond (e == i) (Y i o) 0) % 65537) (sym same)
        (one_by (e == i) f' f (Y e o) (Y i o) (λ here. ap (λ (z : ℕ). Y z o) (eqb-true e i here)) is)

-- nothing counts either way
none_counts : (b : Bool) → cond {A = ℕ} b 0 0 ≡ 0
none_counts true = refl
none_counts false = refl

-- what a pair brings to the smaller end, and takes from the larger one, is the sum below the child
pub balanced : (au av par kid : Bool) (bi bw : ℕ) → bi ≤ 65537 → bw ≤ 65537 → (par ≡ true → kid ≡ false) →
    (par ≡ true → ((au ≡ true) × (av ≡ false)) ⊎ ((au ≡ false) × (av ≡ true))) → (kid ≡ true → ((au ≡ true) × (av ≡ false)) ⊎ ((au ≡ false) × (av ≡ true))) →
    (cond au (cond par bi (cond kid (65537 - bw) 0)) 0 + cond kid bw 0) % 65537 ≡ (cond av (cond kid bw (cond par (65537 - bi) 0)) 0 + cond par bi 0) % 65537
balanced au av true true bi bw low_i low_w apart up down = absurd (true≢false (apart refl))
balanced au av true false bi bw low_i low_w apart up down = elim (up refl) [
  | inl at ↦ rw at.0 (rw at.1 (omega arith))
  | inr at ↦ rw at.0 (rw at.1 (omega arith))
]
balanced au av false true bi bw low_i low_w apart up down = elim (down refl) [
  | inl at ↦ rw at.0 (rw at.1 (omega arith))
  | inr at ↦ rw at.0 (rw at.1 (omega arith))
]
balanced au av false false bi bw low_i low_w apart up down = let left = none_counts au in let right = none_counts av in omega arith

-- the parent of a station counts once
pub parent-counts : (o : Option ℕ) (n b : ℕ) → ((u : ℕ) → o ≡ Some u → u < n) → (o ≡ None → b % 65537 ≡ 0) →
    sum_by (λ w. cond (option_map_or (nat_eq w) o false) b 0) (range_with_len 0 n) % 65537 ≡ b % 65537
parent-counts None n b low none = ap (λ s. s % 65537) (sum_by-zero (range_with_len 0 n)) ∙ (let e = none refl in omega arith)
parent-counts (Some u) n b low none = ap (λ s. s % 65537) (sum_by-single (λ _. b) 0 n u zero-le (let below = low u refl in omega arith))
