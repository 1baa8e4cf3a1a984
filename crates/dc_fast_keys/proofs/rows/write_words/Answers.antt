use Rattle.std.proofs.Common.{◌≡◌, ◌+◌, ◌*◌, [], length, get_or, sym, ap, subst, ◌∙◌, arith, inl, inr}
use Rattle.std.proofs.lemmas.Bool.{cases_lt}
use Rattle.std.proofs.lemmas.List.{get_or_read, take_all}
use Rattle.std.proofs.lemmas.List.Elements.{All-more}
use Rattle.dc_spec.specs.Words.{IsWord, AreWords}
use Rattle.dc_fast_keys.proofs.rows.write_words.Goals as goal

pub loop-s-preserved : goal.loop-s-preserved
loop-s-preserved c =
    let all = c.loop-s.invariant in
    let s = c.loop-s.s in
    let w = c.index-words-s.result in
    record {
      are_words = All-more IsWord c.args.words.now s w c.loop-s-test.true all.are_words (subst IsWord c.index-words-s.is c.write_word.ensures.word);
      written = λ r k lt low. elim (cases_lt r s) [
        | inl before ↦ c.write_word.ensures.others k r (omega arith) (λ e. omega arith) ∙ all.written r k before low
        | inr le ↦ (let same : r ≡ s = omega arith in
            ap (λ i. get_or c.write_word.new.rows (length c.args.words.now * k + i) 0) same ∙ c.write_word.ensures.written k low
            ∙ ap (λ l. get_or l k 0) (get_or_read c.args.words.now s w c.loop-s-test.true c.index-words-s.is [] ∙ ap (λ i. get_or c.args.words.now i []) (sym same)))
      ];
      symbols = c.write_word.ensures.symbols;
    }

pub returns-clause-words : goal.returns-clause-words
returns-clause-words c = subst AreWords (take_all c.loop-s.s c.args.words.now (omega arith)) c.loop-s.invariant.are_words
