-- The pads that a coalition knows, pair by pair.
use Rattle.std.proofs.Common.{◌≡◌, ℕ, true, false, cond, ◌||◌, List, [], ◌∷◌, ◌++◌, filter, refl, ap}
use Rattle.std.specs.List.{flat_map}
use Rattle.dc_spec.specs.Lists.{is_among}
use Rattle.dc_spec.specs.Pads.{Pair}
use Rattle.dc_run_texts.specs.View.{pair_lines}
use Rattle.dc_view.specs.Pads.{known_lines}

-- the lines of the pairs that have an end in the coalition
pub known-filtered : (coalition : List ℕ) (words : ℕ) (ps : List Pair)
    → flat_map (known_lines coalition words) ps ≡ flat_map (pair_lines words) (filter (λ p. is_among coalition p.u || is_among coalition p.v) ps)
known-filtered coalition words [] = refl
known-filtered coalition words (p ∷ ps) =
    let later = known-filtered coalition words ps in
    let kept = filter (λ (q : Pair). is_among coalition q.u || is_among coalition q.v) ps in
    elim (is_among coalition p.u || is_among coalition p.v) as
    (λ b. cond b (pair_lines words p) [] ++ flat_map (known_lines coalition words) ps ≡ flat_map (pair_lines words) (cond b (p ∷ kept) kept)) [
      | true ↦ ap (λ (rest : List ℕ). pair_lines words p ++ rest) later
      | false ↦ later
    ]
