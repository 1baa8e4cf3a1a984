use Rattle.std.proofs.Common.{◌≡◌, ℕ, ◌<◌, ◌+◌, List, [], length, get_or, set, ap, ◌∙◌, arith}
use Rattle.std.proofs.Math.ListN.{length-set}
use Rattle.std.proofs.lemmas.List.{get_or_default, ext_get_or}
use Rattle.std.proofs.lemmas.List.Edits.{fill_by_more}
use Rattle.dc_twin.proofs.summing.put_row.Goals as goal

-- one word more is there
one_more : (words row new : List (List ℕ)) (k : ℕ) (w : List ℕ) → k < length words → length row ≡ length words → ((j : ℕ) → j < k → get_or row j [] ≡ get_or words j [])
    → w ≡ get_or words k w → new ≡ set row k w → (j : ℕ) → j < k + 1 → get_or new j [] ≡ get_or words j []
one_more words row new k w low count each at is j below =
    let same : w ≡ get_or words k [] = at ∙ get_or_default words k w [] low in
    ap (λ (ws : List (List ℕ)). get_or ws j []) (is ∙ ap (set row k) same) ∙ fill_by_more (λ i. get_or words i []) row k [] (omega arith) each j below

pub loop-k-preserved : goal.loop-k-preserved
loop-k-preserved c = record {
  count = ap length c.set.ensures ∙ length-set c.loop-k.row c.loop-k.k _ ∙ c.loop-k.invariant.count;
  each = one_more c.args.words.now c.loop-k.row c.set.new.self c.loop-k.k _ (omega arith) c.loop-k.invariant.count c.loop-k.invariant.each c.index-words-k.is c.set.ensures;
}

pub returns : goal.returns
returns c = ext_get_or [] c.loop-k.row c.args.words.now c.loop-k.invariant.count (λ j low. c.loop-k.invariant.each j (let count = c.loop-k.invariant.count in omega arith))
