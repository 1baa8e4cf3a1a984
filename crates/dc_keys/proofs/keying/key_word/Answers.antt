use Rattle.std.proofs.Common.{arith, ◌∙◌, ◌≤◌, length}
use Rattle.dc_spec.proofs.WordLemmas.{word_of-same}
use Rattle.dc_keys.proofs.KeySums.{total_is_symbol}
use Rattle.dc_keys.proofs.keying.key_word.Goals as goal

pub returns : goal.returns
returns c =
    let words : c.args.t ≤ length c.as_slice-3.result.now = rw c.as_slice-3.ensures c.requires.history in
    rw (← c.pair.view_is) (c.reduced.ensures ∙ word_of-same _ _ (λ l lt.
    rw (← c.as_slice.ensures.value, ← c.as_slice-2.ensures.value, ← c.as_slice-3.ensures)
    (total_is_symbol c.as_slice.result.now c.as_slice-2.result.now c.as_slice-3.result.now c.args.t l _ _ _ _ (c.key_totals-totals.ensures.sums l lt) c.key_totals-totals.ensures.sixteen_each (omega arith) (omega arith) (omega arith) words)))
