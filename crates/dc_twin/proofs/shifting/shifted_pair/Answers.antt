use Rattle.std.proofs.Common.{ℕ, ◌*◌, List, length, sym, ap, subst, ◌∙◌}
use Rattle.std.specs.List.{All}
use Rattle.dc_spec.specs.Pads.{Pair}
use Rattle.dc_spec.specs.Words.{IsSymbol}
use Rattle.dc_twin_rules.specs.Twins.{Shift}
use Rattle.dc_twin.proofs.ShiftedPads.{pads-kept}
use Rattle.dc_twin.proofs.shifting.shifted_pair.Goals as goal

pub shifted_pads-requires-clause-count : goal.shifted_pads-requires-clause-count
shifted_pads-requires-clause-count c =
    ap (λ (xs : List ℕ). length xs) (c.as_slice.ensures.value ∙ ap (λ (q : Pair). q.a) c.pair.view_is) ∙ c.requires c.in-Some.s c.in-Some.is
    ∙ ap (λ (ws : List (List ℕ)). 16 * length ws) (sym (c.as_slice-in-Some.ensures ∙ ap (λ (s : Shift). s.words) c.s.view_is))

pub invariant_of-result : goal.invariant_of-result
invariant_of-result c =
    pads-kept c.pair.inside.a c.pair.inside.b c.from_vec.result c.from_vec-in-Some.result c.pair.invariant
    (ap (λ (xs : List ℕ). length xs) c.from_vec.ensures ∙ c.in_ok-first-in-Some.ensures.count ∙ ap (λ (xs : List ℕ). length xs) c.as_slice.ensures.value)
    (subst (All IsSymbol) (sym c.from_vec.ensures) c.in_ok-first-in-Some.ensures.symbols)
    (c.from_vec-in-Some.ensures ∙ c.in_ok-second-in-Some.ensures.items ∙ c.as_slice-in-Some-2.ensures.value)
