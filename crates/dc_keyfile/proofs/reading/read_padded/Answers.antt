use Rattle.std.proofs.Common.{◌≡◌, ◌*◌, ℕ, List, length, get_or, sym, ap, ◌∙◌, arith}
use Rattle.dc_keyfile.proofs.Pads.{length-numbers_at, pads_found}
use Rattle.dc_keyfile.proofs.PairsRead.{IsPairKey-from_pads}
use Rattle.dc_keyfile.proofs.reading.read_padded.Goals as goal

pub bounds-as_slice-0 : goal.bounds-as_slice-0
bounds-as_slice-0 c =
    let count : ℕ = 16 * c.from-count.result in
    let read = pads_found c.args.piece.now c.args.place (16 * c.from-count.result) (16 * c.from-count.result) c.in_ok-b.b c.in_ok-b.ensures in
    let long : length c.as_slice.result.now ≡ 16 * c.from-count.result = ap length (c.as_slice.ensures.value ∙ read.0)
    ∙ length-numbers_at c.args.piece.now (16 * c.from-count.result) (16 * c.from-count.result) in
    omega arith

pub invariant_of-result : goal.invariant_of-result
invariant_of-result c =
    let zero_first : get_or c.in_ok-b.b 0 0 ≡ 0 = ap (λ (xs : List ℕ). get_or xs 0 0) (sym c.as_slice.ensures.value) ∙ c.if-as_slice-ne0.false in
    IsPairKey-from_pads c.args.piece.now c.from-count.result c.args.place c.ends-u.result.0 c.ends-u.result.1 c.in_ok-a.a c.in_ok-b.b (omega arith)
    (omega arith) c.in_ok-a.ensures c.in_ok-b.ensures zero_first
