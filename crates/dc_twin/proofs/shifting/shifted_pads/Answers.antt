use Rattle.std.proofs.Common.{◌≡◌, ℕ, ◌/◌, ◌<◌, [], List, length, map, sym, ap, subst, ◌∙◌, arith, below_more}
use Rattle.std.specs.List.{All, range_with_len}
use Rattle.std.proofs.lemmas.List.{get_or_default}
use Rattle.std.proofs.lemmas.List.FromFn.{length-map-range_with_len}
use Rattle.dc_spec.specs.Words.{IsSymbol}
use Rattle.dc_twin.proofs.Rows.{items_more}
use Rattle.dc_twin.proofs.ShiftedPads.{pad_sum, pad-sums, pad-here, sums-symbols}
use Rattle.dc_key_rules.specs.PairKeys.{symbols}
use Rattle.dc_twin.proofs.shifting.shifted_pads.Goals as goal

pub loop-n-preserved : goal.loop-n-preserved
loop-n-preserved c =
    let pads = c.args.pads.now in
    let words = c.args.words.now in
    let low : c.loop-n.n / 16 < length c.args.words.now = let less = c.loop-n-test.true in let count = c.requires.count in omega arith in
    let word = c.numbers-numbers.ensures.word in
    record {
      sums = items_more (pad_sum pads words) c.loop-n.n c.loop-n.shifted.items c.push.new.self.items c.below_modulus.result c.loop-n.invariant.sums
          (pad-here pads words c.index-words-n.result c.numbers-numbers.result.now c.loop-n.n c.below_modulus.result low c.index-words-n.is c.numbers-numbers.ensures.value c.below_modulus.ensures)
          c.in_ok-push.ensures.items;
      sixteen = below_more _ _ c.loop-n.invariant.sixteen
          (ap (λ (w : List ℕ). length w) (sym (c.index-words-n.is ∙ get_or_default words (c.loop-n.n / 16) c.index-words-n.result [] low)) ∙ word.sixteen);
    }

all_there : (n m : ℕ) (pads : List ℕ) (words : List (List ℕ)) (shifted : List ℕ) → n ≡ m → shifted ≡ map (pad_sum pads words) (range_with_len 0 n) → shifted ≡ map (pad_sum pads words) (range_with_len 0 m)
all_there n m pads words shifted same is = is ∙ ap (λ (k : ℕ). map (pad_sum pads words) (range_with_len 0 k)) same

pub returns : goal.returns
returns c =
    let pads = c.args.pads.now in
    let words = c.args.words.now in
    let all : c.loop-n.n ≡ length c.args.pads.now = let done = c.loop-n-test.false in let most = c.loop-n.auto.n-end in omega arith in
    let there = all_there c.loop-n.n (length pads) pads words c.loop-n.shifted.items all c.loop-n.invariant.sums in
    let value = there ∙ pad-sums pads words c.requires.count (λ k low. c.loop-n.invariant.sixteen k (omega arith)) in
    record {
      value = value;
      count = ap (λ (xs : List ℕ). length xs) there ∙ length-map-range_with_len (pad_sum pads words) 0 (length pads);
      symbols = subst (All IsSymbol) (sym value) (sums-symbols pads (symbols words));
    }
