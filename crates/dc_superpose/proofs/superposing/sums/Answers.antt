use Rattle.std.proofs.Common.{◌≡◌, ℕ, ◌+◌, ◌*◌, List, [], ◌∷◌, ◌++◌, take, drop, map, sym, ◌∙◌, arith}
use Rattle.std.specs.List.{range_with_len}
use Rattle.std.proofs.lemmas.List.FromFn.{map-range_with_len_more}
use Rattle.dc_spec.specs.Words.{word_sum}
use Rattle.dc_superpose.proofs.superposing.sums.Goals as goal

-- the sums of one round more
one_more : (words : List (List ℕ)) (stations r n : ℕ) (sums new : List (List ℕ)) (sum : List ℕ) → n ≡ stations
    → sums ≡ map (λ r. word_sum (take stations (drop (r * stations) words))) (range_with_len 0 r)
    → sum ≡ word_sum (take n (drop (r * stations) words)) → new ≡ sums ++ sum ∷ [] → new ≡ map (λ r. word_sum (take stations (drop (r * stations) words))) (range_with_len 0 (r + 1))
one_more words stations r n sums new sum width so_far here pushed =
    pushed ∙ rw (so_far, here, width) (sym (map-range_with_len_more (λ r. word_sum (take stations (drop (r * stations) words))) 0 r r (omega arith)))

pub loop-r-preserved : goal.loop-r-preserved
loop-r-preserved c = record {
  sums = one_more c.as_slice-words.result.now c.t.inside.stations c.loop-r.r _ c.loop-r.sums.items _ c.sum.result (omega arith) c.loop-r.invariant.sums c.sum.ensures c.push_reserved.ensures.items;
  len = omega arith;
  room = omega arith;
}
