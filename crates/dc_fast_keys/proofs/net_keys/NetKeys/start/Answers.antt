use Rattle.std.proofs.Common.{◌≡◌, suc, ◌+◌, ◌*◌, ◌^◌, ◌≤◌, length, get_or, refl, arith}
use Rattle.std.proofs.Math.Nat.{mul-le-mul_left}
use Rattle.std.proofs.Math.Pow.{pow_mono}
use Rattle.dc_fast_keys.specs.NetKeys.{KeysState}
use Rattle.dc_fast_keys.proofs.StepLemmas.{StandsFor-none, level-size}
use Rattle.dc_fast_keys.proofs.net_keys.NetKeys.start.Goals as goal

pub invariant_of-result : goal.invariant_of-result
invariant_of-result c = record {
  some_words = omega (arith, c.from-words.ensures);
  most_words = omega (arith, c.from-words.ensures);
  few_stations = c.requires.few;
  within = omega arith;
  sums_long = c.in_ok-sums.ensures.long;
  sums_symbols = c.in_ok-sums.ensures.symbols;
  received_long = c.in_ok-received.ensures.long;
  received_symbols = λ k. (let e = c.in_ok-received.ensures.zeros k in omega arith);
  spectra_many = λ q lt. omega (arith, c.levels_of-levels.ensures.enough q lt, c.in_ok-spectra.ensures.many);
  spectra_long = λ q lt. (c.in_ok-spectra.ensures.spectra q (c.levels_of-levels.ensures.enough q lt)).0;
  work_long = λ q lt.
      let levels = c.levels_of-levels.result in
      let p = c.power_of.result in
      let e = level-size (length c.args.pads.now) q (2 ^ q) refl in
      let one = level-size 1 q (2 ^ q) refl in
      let twice : 2 ^ suc q ≡ 2 * 2 ^ q = omega arith in
      let high : 2 ^ suc q ≤ 2 ^ levels = pow_mono (c.levels_of-levels.ensures.enough q lt) in
      let room : 32 * 2 ^ q ≤ 16 * p = (let is = c.power_of.ensures.value in omega arith) in
      let le : length c.args.pads.now * (32 * 2 ^ q) ≤ length c.args.pads.now * (16 * p) = mul-le-mul_left (length c.args.pads.now) room in
      let all : (length c.args.pads.now + 1) * (16 * p) ≡ length c.args.pads.now * (16 * p) + 16 * p = omega arith in
      omega (arith, c.in_ok-work.ensures.long);
}

pub returns-clause-stands : goal.returns-clause-stands
returns-clause-stands c = λ s none lt.
    let k : KeysState = record {
      stations = length c.args.pads.now;
      words = c.from-words.result;
      spectra = c.in_ok-spectra.spectra.items;
      sums = c.in_ok-sums.sums;
      received = c.in_ok-received.received;
      taken = 0;
    } in
    StandsFor-none k s (get_or c.args.pads.now s none) refl
    (λ q below. (c.in_ok-spectra.ensures.spectra q (c.levels_of-levels.ensures.enough q below)).1 s none lt)
    (λ n low. c.in_ok-sums.ensures.written s n none lt low) c.in_ok-sums.ensures.symbols
