-- The changes of second pads with one change more.
use Rattle.std.proofs.Common.{◌≡◌, ℕ, suc, ◌+◌, ◌-◌, ◌*◌, ◌/◌, ◌%◌, ◌<◌, ◌≤◌, ◌||◌, if◌then◌else◌, List, [], ◌∷◌, ◌++◌, length, get_or, replicate, sum_by, nat_lt, nat_le, sym, ap, subst, ◌∙◌, inl, inr, add-one, lt-ltb, le-ltb, le-leb}
use Rattle.std.specs.List.{range_with_len}
use Rattle.std.proofs.lemmas.Bool.{cases_lt}
use Rattle.dc_spec.specs.Symbols.{symbol_sub, symbol_inverse}
use Rattle.dc_steering_rules.specs.Steerings.{first_difference, steered_from, difference_at, steered_symbol, next_change, changes_up_to}
use Rattle.dc_steer.proofs.Products.{wanted_later}

-- what a change is: x where it first acts on a symbol of a later round of the session, else 0
abbrev chosen : ℕ → ℕ → ℕ → ℕ → ℕ
chosen p count j x = if nat_lt (j + p) (steered_from p) || nat_le count (j + p) then 0 else x

chosen_early : (p count j x : ℕ) → j + p < steered_from p → chosen p count j x ≡ 0
chosen_early p count j x lt = ap (λ b. if b || nat_le count (j + p) then 0 else x) (lt-ltb (j + p) (steered_from p) lt)

chosen_past : (p count j x : ℕ) → steered_from p ≤ j + p → count ≤ j + p → chosen p count j x ≡ 0
chosen_past p count j x le past =
    ap (λ b. if b || nat_le count (j + p) then 0 else x) (le-ltb (j + p) (steered_from p) le) ∙ ap (λ b. if b then 0 else x) (le-leb count (j + p) past)

-- it depends on x there alone
same_chosen : (p count j x y : ℕ) → (steered_from p ≤ j + p → j + p < count → x ≡ y) → chosen p count j x ≡ chosen p count j y
same_chosen p count j x y same = elim (cases_lt (j + p) (steered_from p)) [
  | inl lt ↦ chosen_early p count j x lt ∙ sym (chosen_early p count j y lt)
  | inr le ↦ elim (cases_lt (j + p) count) [
    | inl within ↦ ap (λ z. chosen p count j z) (same le within)
    | inr past ↦ chosen_past p count j x le past ∙ sym (chosen_past p count j y le past)
  ]
]

-- with one change more
pub known_more : (cu cv wanted : List ℕ) (p count j inverse change : ℕ) (sums known now : List ℕ) → p ≡ first_difference cu cv → length known ≡ j
    → known ≡ changes_up_to cu cv (replicate (steered_from p) 0 ++ wanted) count j → length sums ≡ count
    → ((n : ℕ) → n < count → get_or sums n 0 ≡ sum_by (λ k. get_or known (n - k) 0 * difference_at cu cv k) (range_with_len 0 (16 * (n / 16))))
    → inverse ≡ symbol_inverse (difference_at cu cv p)
    → change ≡ chosen p (length sums) j (symbol_sub (get_or wanted (j + p - steered_from p) 0) (get_or sums (j + p) 0 % 65537) * inverse % 65537)
    → now ≡ known ++ change ∷ [] → now ≡ changes_up_to cu cv (replicate (steered_from p) 0 ++ wanted) count (j + 1)
unfolding changes_up_to
known_more cu cv wanted p count j inverse change sums known now place long is many have inverts changed pushed =
    let e = replicate (steered_from p) 0 ++ wanted in
    let due : ℕ → ℕ = λ q. symbol_sub (get_or e (length known + q) 0) (steered_symbol cu cv known (length known + q)) * symbol_inverse (difference_at cu cv q) % 65537 in
    let computed : change ≡ chosen p count j (symbol_sub (get_or wanted (j + p - steered_from p) 0) (get_or sums (j + p) 0 % 65537) * inverse % 65537) =
    changed ∙ ap (λ (m : ℕ). chosen p m j (symbol_sub (get_or wanted (j + p - steered_from p) 0) (get_or sums (j + p) 0 % 65537) * inverse % 65537)) many in
    let same : change ≡ chosen p count j (due p) = computed ∙ same_chosen p count j _ (due p) (λ le within.
    let later = wanted_later wanted (steered_from p) (j + p) le in
    let added = ap (λ (s : ℕ). s % 65537) (have (j + p) within) in
    ap (λ (w : ℕ). symbol_sub w (get_or sums (j + p) 0 % 65537) * inverse % 65537) (sym later) ∙ ap (λ (s : ℕ). symbol_sub (get_or e (j + p) 0) s * inverse % 65537) added
    ∙ ap (λ (i : ℕ). symbol_sub (get_or e (j + p) 0) (steered_symbol cu cv known (j + p)) * i % 65537) inverts
    ∙ ap (λ (m : ℕ). symbol_sub (get_or e (m + p) 0) (steered_symbol cu cv known (m + p)) * symbol_inverse (difference_at cu cv p) % 65537) (sym long)) in
    let named : change ≡ chosen (first_difference cu cv) count j (next_change cu cv e known) = same ∙ ap (λ (q : ℕ). chosen q count j (due q)) place in
    let whole : now ≡ changes_up_to cu cv e count (suc j) = pushed ∙ ap (λ (x : ℕ). known ++ x ∷ []) named
    ∙ ap (λ (ks : List ℕ). ks ++ chosen (first_difference cu cv) count j (next_change cu cv e ks) ∷ []) is in
    subst (λ (m : ℕ). now ≡ changes_up_to cu cv e count m) (sym (add-one j)) whole
