use Rattle.std.proofs.Common.{◌≡◌, ◌+◌, ◌*◌, ◌/◌, ℕ, List, [], ◌∷◌, ◌++◌, length, map, get_or, refl, ap, sym, ◌∙◌, arith}
use Rattle.std.specs.List.{range_with_len}
use Rattle.std.proofs.lemmas.List.{get_or_default, length_push}
use Rattle.std.proofs.lemmas.List.FromFn.{map-range_with_len_more}
use Rattle.dc_spec.specs.Words.{zero_word}
use Rattle.dc_steer.proofs.Histories.{row_within}
use Rattle.dc_steer.proofs.received.column.Goals as goal

pub loop-k-preserved : goal.loop-k-preserved
loop-k-preserved c =
    let all = c.loop-k.invariant in
    let k = c.loop-k.k in
    let w = c.index-words-k.result in
    let words = c.args.words.now in
    let f : ℕ → List ℕ = λ t. get_or c.args.words.now (t * c.args.count + c.args.place) zero_word in
    let within = row_within (length words / c.args.count) c.args.count k c.args.place (length words) c.loop-k-test.true c.requires refl in
    let here : w ≡ f k = c.index-words-k.is ∙ get_or_default words (k * c.args.count + c.args.place) w zero_word within in
    let more = length_push c.loop-k.column.items w in
    record {
      as_many = omega (arith, ap (λ (ws : List (List ℕ)). length ws) c.push_reserved.ensures.items, more, all.as_many);
      value = c.push_reserved.ensures.items ∙ ap (λ (ws : List (List ℕ)). ws ++ w ∷ []) all.value ∙ ap (λ (v : List ℕ). map f (range_with_len 0 k) ++ v ∷ []) here
          ∙ sym (map-range_with_len_more f 0 k k (omega arith));
      room = c.push_reserved.ensures.capacity ∙ all.room;
    }
