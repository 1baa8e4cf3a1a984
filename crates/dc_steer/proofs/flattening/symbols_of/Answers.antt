use Rattle.std.proofs.Common.{◌≡◌, ◌++◌, List, ℕ, length, sym, ap, subst, ◌∙◌, arith}
use Rattle.std.proofs.lemmas.List.{length-append}
use Rattle.std.proofs.lemmas.List.Elements.{All-more, All-append}
use Rattle.dc_spec.specs.Words.{IsWord, IsSymbol}
use Rattle.dc_steer.proofs.Lists.{symbols_more, word_symbols}
use Rattle.dc_steer.proofs.flattening.symbols_of.Goals as goal

pub loop-w-preserved : goal.loop-w-preserved
loop-w-preserved c =
    let words = c.args.words.now in
    let all = c.loop-w.invariant in
    let word : IsWord c.w-item.result = c.numbers.ensures.word in
    let numbers : c.as_slice.result.now ≡ c.w-item.result = c.as_slice.ensures ∙ c.numbers.ensures.value in
    let added : c.extend_from_slice.new.self.items ≡ c.loop-w.symbols.items ++ c.w-item.result = c.in_ok-extend_from_slice.ensures.items ∙ ap (λ (xs : List ℕ). c.loop-w.symbols.items ++ xs) numbers in
    record {
      value = added ∙ ap (λ (xs : List ℕ). xs ++ c.w-item.result) all.value ∙ sym (symbols_more words c.w-item.result c.loop-w.w-index c.loop-w-test.true c.w-item.is);
      sixteen_each = ap (λ (xs : List ℕ). length xs) added ∙ omega (arith, length-append c.loop-w.symbols.items c.w-item.result, word.sixteen, all.sixteen_each);
      are_symbols = rw added (All-append IsSymbol c.loop-w.symbols.items c.w-item.result all.are_symbols (word_symbols c.w-item.result word));
      are_words = All-more IsWord words c.loop-w.w-index c.w-item.result c.loop-w-test.true all.are_words (subst IsWord c.w-item.is word);
    }
