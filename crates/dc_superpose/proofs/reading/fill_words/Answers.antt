use Rattle.std.proofs.Common.{◌≡◌, ℕ, ◌+◌, ◌*◌, refl, sym, subst, ◌∙◌, arith}
use Rattle.std.proofs.lemmas.List.FromFn.{map-range_with_len_more}
use Rattle.dc_spec.specs.Bytes.{word_at}
use Rattle.dc_superpose.specs.Pieces.{FirstAreSymbols}
use Rattle.dc_superpose.proofs.Symbols.{word_read, word_refused, FirstAreSymbols-more, first_is_told}
use Rattle.dc_superpose.proofs.reading.fill_words.Goals as goal

pub loop-j-init : goal.loop-j-init
loop-j-init c =
    let none : c.args.first ≡ c.args.first + 0 = omega arith in
    record {
      read = c.clear.ensures.items;
      len = c.clear.ensures.len;
      room = c.clear.ensures.capacity;
      good = subst (λ (n : ℕ). FirstAreSymbols c.args.b.now (16 * n)) none c.requires.good;
    }

pub returns-in-Err-clause-words : goal.returns-in-Err-clause-words
returns-in-Err-clause-words c =
    let bad = word_refused c.args.b.now (8 + 64 * (c.args.first + c.loop-j.j)) _ c.in-Err.fault (omega arith) c.in-Err.ensures in
    λ total le. rw c.from.ensures (first_is_told c.args.b.now total (c.args.first + c.loop-j.j) c.in-Err.fault.symbol c.in-Err.fault.seen (omega arith) bad.0 bad.1 bad.2 c.loop-j.invariant.good bad.3)

pub loop-j-preserved : goal.loop-j-preserved
loop-j-preserved c =
    let word = word_read c.args.b.now (8 + 64 * (c.args.first + c.loop-j.j)) _ c.in-Ok.word (omega arith) c.in-Ok.ensures in
    let more = map-range_with_len_more (λ i. word_at c.args.b.now (8 + 64 * i)) c.args.first c.loop-j.j (c.args.first + c.loop-j.j) refl in
    let next : c.args.first + c.loop-j.j + 1 ≡ c.args.first + (c.loop-j.j + 1) = omega arith in
    record {
      read = c.push_reserved.ensures.items ∙ rw (c.loop-j.invariant.read, word.0) (sym more);
      len = omega arith;
      room = c.push_reserved.ensures.capacity ∙ c.loop-j.invariant.room;
      good = subst (λ (n : ℕ). FirstAreSymbols c.args.b.now (16 * n)) next (FirstAreSymbols-more c.args.b.now (c.args.first + c.loop-j.j) c.loop-j.invariant.good word.1);
    }

pub returns-clause-words : goal.returns-clause-words
returns-clause-words c =
    let end : c.loop-j.j ≡ c.args.count = omega arith in
    (rw end at c.loop-j.invariant.read, subst (λ (n : ℕ). FirstAreSymbols c.args.b.now (16 * (c.args.first + n))) end c.loop-j.invariant.good)
