use Rattle.std.proofs.Common.{◌≡◌, ℕ, Ok, All, sym, subst, ap, ◌∙◌, arith}
use Rattle.std.proofs.lemmas.List.Elements.{All-same, All-push}
use Rattle.dc_spec.specs.Words.{IsSymbol}
use Rattle.dc_keyfile.specs.Reading.{numbers_at}
use Rattle.dc_keyfile.proofs.Pads.{numbers_more, first_is_told, pads_are_read}
use Rattle.dc_keyfile.proofs.reading.read_pads.Goals as goal

pub returns-then-seen-gt65536 : goal.returns-then-seen-gt65536
returns-then-seen-gt65536 c =
    first_is_told c.args.piece.now c.args.place c.args.index c.args.count c.loop-n.n c.number-seen.result (omega arith) c.number-seen.ensures (omega arith) (subst
    (All IsSymbol) c.loop-n.invariant.read c.loop-n.invariant.symbols)

pub returns : goal.returns
returns c =
    let end : c.loop-n.n ≡ c.args.count = omega arith in
    let read : c.loop-n.pads.items ≡ numbers_at c.args.piece.now c.args.index c.args.count = subst (λ (n : ℕ). c.loop-n.pads.items
    ≡ numbers_at c.args.piece.now c.args.index n) end c.loop-n.invariant.read in
    pads_are_read c.args.piece.now c.args.place c.args.index c.args.count (subst (All IsSymbol) read c.loop-n.invariant.symbols) ∙ ap Ok (sym read ∙ sym c.from_vec.ensures)

pub loop-n-preserved : goal.loop-n-preserved
loop-n-preserved c =
    let so_far = c.loop-n.invariant in
    let pushed = c.in_ok-push.ensures.items in
    record {
      read = numbers_more c.args.piece.now c.args.index c.loop-n.n c.number-seen.result _ _ so_far.read c.number-seen.ensures pushed;
      symbols = All-same IsSymbol _ _ pushed (All-push IsSymbol _ _ so_far.symbols (omega arith));
    }
