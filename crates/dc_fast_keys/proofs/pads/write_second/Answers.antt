use Rattle.std.proofs.Common.{◌≡◌, ◌+◌, ◌*◌, length, get_or, sym, ap, ◌∙◌, arith, inl, inr}
use Rattle.std.proofs.lemmas.Bool.{cases_lt}
use Rattle.std.proofs.lemmas.List.{get_or_read}
use Rattle.dc_keys.specs.StationPads.{StationPads}
use Rattle.dc_fast_keys.proofs.pads.write_second.Goals as goal

pub loop-s-preserved : goal.loop-s-preserved
loop-s-preserved c =
    let all = c.loop-s.invariant in
    let s = c.loop-s.s in
    let n = length c.args.pads.now in
    record {
      written = λ r k none lt low. elim (cases_lt r s) [
        | inl before ↦ c.write_pads.ensures.others k r (omega arith) (λ e. omega arith) ∙ all.written r k none before low
        | inr le ↦ (let same : r ≡ s = omega arith in
            ap (λ i. get_or c.write_pads.new.rows (n * k + i) 0) same ∙ c.write_pads.ensures.written k low ∙ ap (λ l. get_or l k 0) c.as_slice.ensures.value
            ∙ ap (λ (p : StationPads). get_or p.second k 0) (c.of_station.view_is ∙ get_or_read c.args.pads.now s c.index-pads-s.result c.loop-s-test.true c.index-pads-s.is none)
            ∙ ap (λ i. get_or (get_or c.args.pads.now i none).second k 0) (sym same))
      ];
      rest = λ r k le lt. c.write_pads.ensures.others k r lt (λ e. omega arith) ∙ all.rest r k (omega arith) lt;
      symbols = c.write_pads.ensures.symbols;
    }

pub loop-s-init : goal.loop-s-init
loop-s-init c = record {
  written = λ s k none lt low. absurd (omega arith);
  rest = λ s k le lt. c.requires.zeros (length c.args.pads.now * k + s);
  symbols = λ k. (let e = c.requires.zeros k in omega arith);
}
