use Rattle.std.proofs.Common.{ℕ, List, ◌++◌, ap, ◌∙◌}
use Rattle.dc_keyfile.proofs.Generated.{two_words_on}
use Rattle.dc_keyfile.proofs.DirectWriting.{one_symbol_put}
use Rattle.dc_keyfile.proofs.direct_writing.put_symbols.Goals as goal

pub loop-preserved : goal.loop-preserved
loop-preserved c =
    let so_far = c.loop.invariant in
    let symbol = c.next_symbol.ensures in
    record {
      stands = two_words_on _ _ _ c.loop.counter so_far.stands symbol.moved;
      put = one_symbol_put _ _ c.loop.counter _ _ _ _ so_far.stands symbol.value so_far.put
          (c.in_ok-extend_from_slice.ensures.items ∙ ap (λ (xs : List ℕ). c.loop.bytes.items ++ xs) c.to_be_bytes.ensures);
    }
