-- What the tests of the later rounds say where there is no fault, and back.
use Rattle.std.proofs.Common.{◌≡◌, ℕ, ◌+◌, ◌-◌, ◌*◌, ◌/◌, ◌<◌, ◌==◌, ◌||◌, not, min, nat_lt, Bool, true, false, cond, List, [], ◌∷◌, length, find, Some, None, option_map, refl, ◌∙◌, ap, subst, arith, true≢false, eqb-true, eq-eqb, ltb-true, lt-ltb}
use Rattle.std.proofs.lemmas.List.Elements.{All-nil, All-cons, All-head, All-tail}
use Rattle.dc_spec.specs.Scripts.{Said, Delivery, all_sum, each, Turn, delivered_words}
use Rattle.dc_spec.specs.Net.{Net}
use Rattle.dc_spec.proofs.Options.{map-none, if-none}
use Rattle.dc_spec.proofs.GroupLemmas.{find-none, finds-none}
use Rattle.dc_net_rules.specs.Runs.{script_turn}
use Rattle.dc_net_rules.specs.Agreement.{is_sum}
use Rattle.dc_steering_rules.specs.Counting.{HaveNoTerms, IsFixedTurn}
use Rattle.dc_steer.specs.declared.fault.SteerFault.TheVariants.{NeverDiffered, SumDelivery, RuledRound, WantedWords}
use Rattle.dc_steer.specs.Faults.{most_counted, difference_fault, later_rounds, sum_fault, have_terms, has_terms, term_fault, count_fault}
use Rattle.dc_steer.specs.Tests.{later_fault, rounds_fault}
use Rattle.dc_steer.proofs.FaultChain.{first_none, none_first}

-- ---- words without terms

both_fail : (b c : Bool) → (b || c) ≡ false → (b ≡ false) × (c ≡ false)
both_fail false c h = (refl, h)
both_fail true c h = absurd (true≢false h)

undone : (b : Bool) → not b ≡ false → b ≡ true
undone true h = refl
undone false h = absurd (true≢false h)

none_left : (said : Said) → not (length said.terms == 0) ≡ false → said.terms ≡ []
none_left said h = empty said.terms h
  where
    empty : {A : Type 0} (xs : List A) → not (length xs == 0) ≡ false → xs ≡ []
    empty [] h = refl
    empty (x ∷ xs) h = let none = eqb-true (length (x ∷ xs)) 0 (undone (length (x ∷ xs) == 0) h) in absurd (omega arith)

no_terms : (listed : List Said) → have_terms listed ≡ false → HaveNoTerms listed
no_terms [] h = All-nil (λ said. said.terms ≡ [])
no_terms (said ∷ rest) h =
    let both = both_fail (not (length said.terms == 0)) (have_terms rest) h in
    All-cons (λ said. said.terms ≡ []) said rest (none_left said both.0) (no_terms rest both.1)

-- and back
without : (listed : List Said) → HaveNoTerms listed → have_terms listed ≡ false
without [] none = refl
without (said ∷ rest) none =
    let here : not (length said.terms == 0) ≡ false = ap (λ ts. not (length ts == 0)) (All-head (λ s. s.terms ≡ []) said rest none) in
    rw here (without rest (All-tail (λ s. s.terms ≡ []) said rest none))

-- ---- fixed rounds

fixed_by : (turn : Turn) (d : Delivery) → turn.delivery ≡ d → is_sum d ≡ false → have_terms turn.says ≡ false → have_terms (delivered_words d) ≡ false → IsFixedTurn turn
fixed_by turn all_sum is h says dealt = absurd (true≢false h)
fixed_by turn (each words) is h says dealt = record { dealt = words; delivers = is; fixed_dealt = no_terms words dealt; fixed_says = no_terms turn.says says }

fixed_turn : (turn : Turn) → is_sum turn.delivery ≡ false → has_terms turn ≡ false → IsFixedTurn turn
fixed_turn turn h terms =
    let both = both_fail (have_terms turn.says) (have_terms (delivered_words turn.delivery)) terms in
    fixed_by turn turn.delivery refl h both.0 both.1

deals : (turn : Turn) → IsFixedTurn turn → is_sum turn.delivery ≡ false
deals turn fixed = ap is_sum fixed.delivers

termless : (turn : Turn) → IsFixedTurn turn → has_terms turn ≡ false
termless turn fixed =
    let says = without turn.says fixed.fixed_says in
    let dealt : have_terms (delivered_words turn.delivery) ≡ false = ap (λ d. have_terms (delivered_words d)) fixed.delivers ∙ without fixed.dealt fixed.fixed_dealt in
    rw (says, dealt) refl

-- ---- all later rounds

-- no later round is found
none_later : (net : Net) (s : ℕ) (test : ℕ → Bool) → find test (later_rounds net s) ≡ None → (t : ℕ) → s < t → t < net.words → test t ≡ false
none_later net s test none t past low =
    let at : s + 1 + (t - (s + 1)) ≡ t = omega arith in
    subst (λ (k : ℕ). test k ≡ false) at (find-none test (s + 1) (net.words - (s + 1)) (t - (s + 1)) none (omega arith))

later_none : (net : Net) (s : ℕ) (test : ℕ → Bool) → ((t : ℕ) → s < t → t < net.words → test t ≡ false) → find test (later_rounds net s) ≡ None
later_none net s test fails = finds-none test (s + 1) (net.words - (s + 1)) (λ i low. fails (s + 1 + i) (omega arith) (omega arith))

-- what is known of a first difference p, and of the rounds after its round
pub record AreSteerable (net : Net) (p : ℕ) (wanted : List (List ℕ)) : Type 0 where
  pub differ : p < 16 * net.words
  pub fixed : (t : ℕ) → p / 16 < t → t < net.words → IsFixedTurn (script_turn net t)
  pub count : length wanted ≡ net.words - (p / 16 + 1)

pub rounds_good : (net : Net) (p : ℕ) (wanted : List (List ℕ)) → rounds_fault net p wanted ≡ None → AreSteerable net p wanted
rounds_good net p wanted none =
    let s = p / 16 in
    let a = first_none (difference_fault net p) (later_fault net (p / 16) wanted ∷ []) none in
    let b = first_none (later_fault net (p / 16) wanted) [] a.1 in
    let c = first_none (sum_fault net (p / 16)) (term_fault net (p / 16) ∷ count_fault net (p / 16) wanted ∷ []) b.0 in
    let d = first_none (term_fault net (p / 16)) (count_fault net (p / 16) wanted ∷ []) c.1 in
    let e = first_none (count_fault net (p / 16) wanted) [] d.1 in
    let need = net.words - (p / 16 + 1) in
    record {
      differ = ltb-true p (16 * net.words) (if-none (nat_lt p (16 * net.words)) NeverDiffered a.0);
      fixed = λ t past low. fixed_turn (script_turn net t)
          (none_later net s (λ t. is_sum (script_turn net t).delivery) (map-none SumDelivery _ c.0) t past low)
          (none_later net s (λ t. has_terms (script_turn net t)) (map-none RuledRound _ d.0) t past low);
      count = eqb-true (length wanted) need (if-none (length wanted == need) (WantedWords (min (length wanted) most_counted) need) e.0);
    }

-- and back
pub no_rounds_fault : (net : Net) (p : ℕ) (wanted : List (List ℕ)) → AreSteerable net p wanted → rounds_fault net p wanted ≡ None
no_rounds_fault net p wanted are =
    let s = p / 16 in
    let need = net.words - (p / 16 + 1) in
    let far : difference_fault net p ≡ None = ap (λ (b : Bool). cond b None (Some NeverDiffered)) (lt-ltb p (16 * net.words) are.differ) in
    let sums : sum_fault net (p / 16) ≡ None =
    ap (option_map SumDelivery) (later_none net s (λ t. is_sum (script_turn net t).delivery) (λ t past low. deals (script_turn net t) (are.fixed t past low))) in
    let terms : term_fault net (p / 16) ≡ None =
    ap (option_map RuledRound) (later_none net s (λ t. has_terms (script_turn net t)) (λ t past low. termless (script_turn net t) (are.fixed t past low))) in
    let count : count_fault net (p / 16) wanted ≡ None =
    ap (λ (b : Bool). cond b None (Some (WantedWords (min (length wanted) most_counted) need))) (eq-eqb (length wanted) need are.count) in
    none_first (difference_fault net p) (later_fault net (p / 16) wanted ∷ []) far
    (none_first (later_fault net (p / 16) wanted) []
    (none_first (sum_fault net (p / 16)) (term_fault net (p / 16) ∷ count_fault net (p / 16) wanted ∷ []) sums
    (none_first (term_fault net (p / 16)) (count_fault net (p / 16) wanted ∷ []) terms (none_first (count_fault net (p / 16) wanted) [] count refl))) refl)
