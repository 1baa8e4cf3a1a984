use Rattle.std.proofs.Common.{◌≡◌, ℕ, ◌≤◌, List, length, sym, ap, subst, ◌∙◌}
use Rattle.std.proofs.lemmas.List.FromFn.{length-map-range_with_len}
use Rattle.dc_twin.proofs.shifting.edge_shift.Goals as goal

pub invariant_of-result : goal.invariant_of-result
invariant_of-result c =
    let size : length c.from_vec.result ≡ c.args.net.now.words =
    ap (λ (ws : List (List ℕ)). length ws) (c.from_vec.ensures ∙ c.in_ok-words-in-Some.ensures) ∙ length-map-range_with_len _ 0 c.args.net.now.words in
    subst (λ (n : ℕ). n ≤ 4096) (sym size) c.requires.words
