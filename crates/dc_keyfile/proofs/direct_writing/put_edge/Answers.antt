use Rattle.std.proofs.Common.{ℕ, List, ◌*◌, ◌-◌, ◌++◌, ap, ◌∙◌, arith}
use Rattle.dc_formats.specs.KeyFile.{pair_bytes}
use Rattle.dc_keyfile.specs.Generator.{generated_pair}
use Rattle.dc_keyfile.proofs.DirectWriting.{one_pair_put}
use Rattle.dc_keyfile.proofs.direct_writing.put_edge.Goals as goal

pub returns : goal.returns
returns c =
    one_pair_put c.args.base.now c.pair_seed.result c.args.edge (16 * c.from-count.result) _ _ _ c.args.bytes.now.items _ _ _ _ _ (omega (arith, c.requires.some_words, c.from-count.ensures))
    c.pair_seed.ensures c.from_seed-stream.ensures c.in_ok-put_symbols.ensures.moved c.next_symbol.ensures.moved
    (c.in_ok-extend_from_slice.ensures.items ∙ ap (λ (xs : List ℕ). c.args.bytes.now.items ++ xs) c.to_be_bytes.ensures)
    (c.in_ok-extend_from_slice-2.ensures.items ∙ ap (λ (xs : List ℕ). c.extend_from_slice.new.self.items ++ xs) c.to_be_bytes-2.ensures)
    c.in_ok-put_symbols.ensures.put c.in_ok-extend_from_slice-3.ensures.items c.in_ok-put_symbols-2.ensures.put
    ∙ ap (λ (w : ℕ). c.args.bytes.now.items ++ pair_bytes (generated_pair c.args.base.now (16 * w) c.args.edge)) c.from-count.ensures
