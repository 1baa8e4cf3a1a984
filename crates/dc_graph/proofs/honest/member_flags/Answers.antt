use Rattle.std.proofs.Common.{◌∙◌, ◌++◌, ◌∷◌, [], map, sym, ap, arith}
use Rattle.std.proofs.lemmas.List.FromFn.{map-range_with_len_more}
use Rattle.std.specs.List.{range_with_len}
use Rattle.dc_spec.specs.Lists.{is_among}
use Rattle.dc_graph.proofs.honest.member_flags.Goals as goal

pub loop-v-preserved : goal.loop-v-preserved
loop-v-preserved c =
    c.in_ok-push.ensures.items ∙ ap (λ xs. xs ++ c.holds.result ∷ []) c.loop-v.invariant
    ∙ ap (λ b. map (is_among c.args.c.now) (range_with_len 0 c.loop-v.v) ++ b ∷ []) c.holds.ensures.value
    ∙ sym (map-range_with_len_more (is_among c.args.c.now) 0 c.loop-v.v c.loop-v.v (omega arith))
