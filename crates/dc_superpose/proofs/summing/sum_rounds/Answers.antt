use Rattle.std.proofs.Common.{◌≡◌, ◌≤◌, ℕ, ◌+◌, ◌*◌, length, ap, sym, subst, ◌∙◌, arith, refl}
use Rattle.std.proofs.Math.Nat.{mul-le-mul}
use Rattle.dc_spec.specs.Words.{word_sum}
use Rattle.dc_superpose.specs.Sizes.{summed}
use Rattle.dc_superpose.specs.Pieces.{FirstAreSymbols}
use Rattle.dc_superpose.proofs.Symbols.{words_are_read}
use Rattle.dc_superpose.proofs.Rounds.{next_round, round_within, all_rounds, one_round_more, length-words_from}
use Rattle.dc_superpose.proofs.summing.sum_rounds.Goals as goal

pub fill_words-requires-clause-most : goal.fill_words-requires-clause-most
fill_words-requires-clause-most c =
    let within = round_within c.loop-r.r c.args.sizes.rounds c.args.sizes.stations (omega arith) in
    let most : c.args.sizes.rounds * c.args.sizes.stations ≤ 4096 * 256 = mul-le-mul c.requires.most_rounds c.requires.most_stations in
    omega (arith, within, most)

pub fill_words-requires-clause-long_enough : goal.fill_words-requires-clause-long_enough
fill_words-requires-clause-long_enough c =
    let within = round_within c.loop-r.r c.args.sizes.rounds c.args.sizes.stations (omega arith) in
    omega (arith, within, c.requires.long_enough)

pub loop-r-init : goal.loop-r-init
loop-r-init c = record { sums = c.in_ok-sums.ensures.items; len = c.in_ok-sums.ensures.len; room = c.in_ok-sums.ensures.exact; width = c.in_ok-round.ensures.exact; good = record { small = λ s lt. absurd (omega arith) } }

pub sum-requires : goal.sum-requires
sum-requires c =
    let length_is : length c.fill_words.new.words.items ≡ c.args.sizes.stations = ap length c.in-Ok.ensures.words.0
    ∙ length-words_from c.args.b.now (c.loop-r.r * c.args.sizes.stations) c.args.sizes.stations in
    omega (arith, length_is, c.requires.most_stations)

pub returns-in-Err : goal.returns-in-Err
returns-in-Err c =
    let within = round_within c.loop-r.r c.args.sizes.rounds c.args.sizes.stations (omega arith) in
    ap (λ read. summed c.args.sizes read) (c.in-Err.ensures.words (c.args.sizes.rounds * c.args.sizes.stations) within)

pub loop-r-preserved : goal.loop-r-preserved
loop-r-preserved c =
    let next : c.loop-r.r * c.args.sizes.stations + c.args.sizes.stations ≡ (c.loop-r.r + 1) * c.args.sizes.stations = sym (next_round c.loop-r.r c.args.sizes.stations) in
    record {
      sums = one_round_more c.args.b.now c.args.sizes.stations c.loop-r.r c.loop-r.sums.items _ c.fill_words.new.words.items _ c.loop-r.invariant.sums c.in-Ok.ensures.words.0
          (c.sum.ensures ∙ ap word_sum c.as_slice.ensures.value) c.push_reserved.ensures.items;
      len = omega arith;
      room = omega arith;
      width = omega arith;
      good = subst (λ (n : ℕ). FirstAreSymbols c.args.b.now (16 * n)) next c.in-Ok.ensures.words.1;
    }

pub returns : goal.returns
returns c =
    let n : ℕ = c.args.sizes.stations in
    let t : ℕ = c.args.sizes.rounds in
    let end : c.loop-r.r ≡ c.args.sizes.rounds = omega arith in
    let good : FirstAreSymbols c.args.b.now (16 * (c.args.sizes.rounds * c.args.sizes.stations)) = subst
    (λ (r : ℕ). FirstAreSymbols c.args.b.now (16 * (r * c.args.sizes.stations))) end c.loop-r.invariant.good in
    rw (
      c.from_vec.ensures,
      c.loop-r.invariant.sums,
      end,
      words_are_read c.args.b.now
          (c.args.sizes.rounds * c.args.sizes.stations) good,
      all_rounds c.args.b.now c.args.sizes.stations c.args.sizes.rounds,
    ) refl
