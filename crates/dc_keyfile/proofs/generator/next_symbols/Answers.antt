use Rattle.std.proofs.lemmas.List.Elements.{All-same, All-push}
use Rattle.dc_spec.specs.Words.{IsSymbol}
use Rattle.dc_keyfile.proofs.Generated.{two_words_on, one_symbol_more}
use Rattle.dc_keyfile.proofs.generator.next_symbols.Goals as goal

pub loop-preserved : goal.loop-preserved
loop-preserved c =
    let so_far = c.loop.invariant in
    let symbol = c.next_symbol.ensures in
    let pushed = c.in_ok-push.ensures.items in
    record {
      stands = two_words_on _ _ _ c.loop.counter so_far.stands symbol.moved;
      items = one_symbol_more _ _ c.loop.counter _ _ _ so_far.stands so_far.items symbol.value pushed;
      symbols = All-same IsSymbol _ _ pushed (All-push IsSymbol _ _ so_far.symbols symbol.symbol);
    }
