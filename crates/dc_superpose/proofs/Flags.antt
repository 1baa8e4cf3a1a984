-- The first flag that is not set, and lists that are read place by place.
use Rattle.std.proofs.Common.{◌≡◌, ℕ, zero, suc, ◌+◌, ◌<◌, Bool, true, false, cond, not, List, [], ◌∷◌, length, get_or, filter_map, slice_get, Option, Some, None, refl, sym, ap, ◌∙◌, arith, inl, inr, true≢false}
use Rattle.std.specs.List.{range_with_len, position_from, find}
use Rattle.std.proofs.lemmas.Bool.{cases_Bool, not-true}
use Rattle.std.proofs.lemmas.Option.{slice_get-get_or, slice_get_within, get_or_from_slice_get}
use Rattle.dc_hub_rules.proofs.HubLemmas.{none_some, position_stands, position_found}
use Rattle.dc_superpose.specs.Presence.{first_clear}

-- the flags before it are set and it is not: it is the first
found_clear : (flags : List Bool) (s first : ℕ) → ((k : ℕ) → k < first → get_or flags k false ≡ true) → first < length flags → get_or flags first false ≡ false
    → position_from not s flags ≡ Some (s + first)
found_clear [] s first before lt here = absurd (omega arith)
found_clear (true ∷ bs) s zero before lt here = absurd (true≢false here)
found_clear (false ∷ bs) s zero before lt here = ap (λ (k : ℕ). Some k) (let e : s ≡ s + 0 = omega arith in e)
found_clear (false ∷ bs) s (suc f) before lt here = absurd (true≢false (sym (before 0 (omega arith))))
found_clear (true ∷ bs) s (suc f) before lt here =
    found_clear bs (s + 1) f (λ k low. before (suc k) (omega arith)) (omega arith) here ∙ ap (λ (k : ℕ). Some k) (let e : s + 1 + f ≡ s + suc f = omega arith in e)

-- all flags are set
none_clear : (flags : List Bool) (s : ℕ) → ((k : ℕ) → k < length flags → get_or flags k false ≡ true) → position_from not s flags ≡ None
none_clear [] s all = refl
none_clear (false ∷ bs) s all = absurd (true≢false (sym (all 0 (omega arith))))
none_clear (true ∷ bs) s all = none_clear bs (s + 1) (λ k low. all (suc k) (omega arith))

pub first_clear-Some : (flags : List Bool) (first : ℕ) → ((k : ℕ) → k < first → get_or flags k false ≡ true) → first < length flags → get_or flags first false ≡ false
    → first_clear flags ≡ Some first
first_clear-Some flags first before lt here = found_clear flags 0 first before lt here ∙ ap (λ (k : ℕ). Some k) (let e : 0 + first ≡ first = omega arith in e)

pub first_clear-None : (flags : List Bool) → ((k : ℕ) → k < length flags → get_or flags k false ≡ true) → first_clear flags ≡ None
first_clear-None flags all = none_clear flags 0 all

-- the first flag that is not set is not set
pub clear_flag : (flags : List Bool) (f : ℕ) → first_clear flags ≡ Some f → (f < length flags) × (get_or flags f false ≡ false)
clear_flag flags f h =
    let stands = position_stands not 0 flags f h in
    let at : stands.0 ≡ f = (let e = stands.2 in omega arith) in
    let here : slice_get flags f ≡ Some stands.1 = ap (slice_get flags) (sym at) ∙ stands.3 in
    (slice_get_within flags f stands.1 here, get_or_from_slice_get flags f stands.1 false here ∙ not-true stands.1 stands.4)

-- where there is none, all flags are set
pub set_flags : (flags : List Bool) → first_clear flags ≡ None → (i : ℕ) → i < length flags → get_or flags i false ≡ true
set_flags flags h i lt = elim (cases_Bool (get_or flags i false)) [
  | inl is_set ↦ is_set
  | inr is_clear ↦ absurd (let found = position_found not 0 flags i false (slice_get-get_or flags i false lt ∙ ap (λ (b : Bool). Some b) is_clear) refl in none_some found.0 _ found.1 h)
]

-- a search among the first numbers is one among flags
find_clear : (q : ℕ → Bool) (flags : List Bool) (s : ℕ) → ((j : ℕ) → j < length flags → q (s + j) ≡ not (get_or flags j false)) → find q (range_with_len s (length flags)) ≡ position_from not s flags
find_clear q [] s same = refl
find_clear q (b ∷ bs) s same =
    let here : q s ≡ not b = ap q (let e : s ≡ s + 0 = omega arith in e) ∙ same 0 (omega arith) in
    let rest = find_clear q bs (s + 1) (λ j lt. ap q (let e : s + 1 + j ≡ s + suc j = omega arith in e) ∙ same (suc j) (omega arith)) in
    rw here (ap (cond (not b) (Some s)) rest)

pub find-first_clear : (q : ℕ → Bool) (flags : List Bool) (n : ℕ) → length flags ≡ n → ((j : ℕ) → j < n → q j ≡ not (get_or flags j false)) → find q (range_with_len 0 n) ≡ first_clear flags
find-first_clear q flags n long same =
    ap (λ (k : ℕ). find q (range_with_len 0 k)) (sym long) ∙ find_clear q flags 0 (λ j lt. ap q (let e : 0 + j ≡ j = omega arith in e) ∙ same j (omega arith))

-- what a function of places gives is the list that has it there
filled_from : {X : Type 0} (f : ℕ → Option X) (ys : List X) (d : X) (s : ℕ) → ((j : ℕ) → j < length ys → f (s + j) ≡ Some (get_or ys j d)) → filter_map f (range_with_len s (length ys)) ≡ ys
filled_from f [] d s at = refl
filled_from f (y ∷ ys) d s at =
    let here : f s ≡ Some y = ap f (let e : s ≡ s + 0 = omega arith in e) ∙ at 0 (omega arith) in
    let rest = filled_from f ys d (s + 1) (λ j lt. ap f (let e : s + 1 + j ≡ s + suc j = omega arith in e) ∙ at (suc j) (omega arith)) in
    rw here (ap (λ zs. y ∷ zs) rest)

pub filled : {X : Type 0} (f : ℕ → Option X) (ys : List X) (d : X) (n : ℕ) → length ys ≡ n → ((j : ℕ) → j < n → f j ≡ Some (get_or ys j d)) → filter_map f (range_with_len 0 n) ≡ ys
filled f ys d n long at = ap (λ (k : ℕ). filter_map f (range_with_len 0 k)) (sym long) ∙ filled_from f ys d 0 (λ j lt. ap f (let e : 0 + j ≡ j = omega arith in e) ∙ at j (omega arith))
