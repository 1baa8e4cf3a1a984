use Rattle.std.proofs.Common.{◌≡◌, ℕ, ◌+◌, ◌-◌, ◌*◌, ◌^◌, ◌<◌, ◌≤◌, [], length, get_or, sym, ap, subst, ◌∙◌, arith, refl}
use Rattle.std.proofs.Math.Nat.{mul-le-mul_left}
use Rattle.std.proofs.lemmas.List.{get_or_read}
use Rattle.dc_transform_rules.specs.Transforms.{size}
use Rattle.dc_fast_keys.specs.Walk.{level}
use Rattle.dc_fast_keys.specs.NetKeys.{KeysState, StandsFor}
use Rattle.dc_fast_keys.proofs.WalkLemmas.{block-within}
use Rattle.dc_fast_keys.proofs.StepLemmas.{StandsFor-last, StandsFor-more, block-size, carried-same, received-written, word-at}
use Rattle.dc_fast_keys.proofs.net_keys.NetKeys.take.Goals as goal

-- the block is not longer than what was taken
in_taken : (q t words : ℕ) → q ≡ level 12 t → 0 < t → t < words → 2 ^ q < words
in_taken q t words is some room = let e = block-within 12 t some in let f = ap (λ x. 2 ^ x) is in omega arith

pub index-requires : goal.index-requires
index-requires c =
    let q = c.level_of-level.result in
    let room = subst (λ (m : KeysState). m.taken < m.words) (sym c.self.view_is) c.requires.taken in
    let few = in_taken q (c.self.inside.taken + 1) c.self.inside.words c.level_of-level.ensures.value (omega arith) (omega arith) in
    omega (arith, c.self.invariant.spectra_many q few, c.self.inside.spectra.ok)

pub carry_block-requires-clause-block : goal.carry_block-requires-clause-block
carry_block-requires-clause-block c = block-size c.self.inside.stations c.level_of-level.result c.power_of.result c.power_of.ensures.value

pub carry_block-requires-clause-before : goal.carry_block-requires-clause-before
carry_block-requires-clause-before c =
    let st = c.self.inside.stations in
    let t = c.self.inside.taken + 1 in
    let p = c.power_of.result in
    let e : p ≤ t = (let h = block-within 12 t (omega arith) in let f = ap (λ x. 2 ^ x) c.level_of-level.ensures.value in let g = c.power_of.ensures.value in omega arith) in
    let le : st * p ≤ st * t = mul-le-mul_left st e in
    let whole : st * t ≡ st * c.self.inside.taken + st = omega arith in
    omega arith

pub carry_block-requires-clause-spectrum_long : goal.carry_block-requires-clause-spectrum_long
carry_block-requires-clause-spectrum_long c =
    let q = c.level_of-level.result in
    let room = subst (λ (m : KeysState). m.taken < m.words) (sym c.self.view_is) c.requires.taken in
    let few = in_taken q (c.self.inside.taken + 1) c.self.inside.words c.level_of-level.ensures.value (omega arith) (omega arith) in
    ap (λ l. length l) (c.as_slice.ensures.value ∙ get_or_read c.self.inside.spectra.items q c.index.result.now (c.self.invariant.spectra_many q few) c.index.ensures [])
    ∙ c.self.invariant.spectra_long q few

pub carry_block-requires-clause-work_long : goal.carry_block-requires-clause-work_long
carry_block-requires-clause-work_long c =
    let q = c.level_of-level.result in
    let room = subst (λ (m : KeysState). m.taken < m.words) (sym c.self.view_is) c.requires.taken in
    c.self.invariant.work_long q (in_taken q (c.self.inside.taken + 1) c.self.inside.words c.level_of-level.ensures.value (omega arith) (omega arith))

pub returns-then-self-clause-stands : goal.returns-then-self-clause-stands
returns-then-self-clause-stands c = λ s pads history lt stands.
    let k = c.self.inside in
    let state : KeysState = record { stations = k.stations; words = k.words; spectra = k.spectra.items; sums = k.sums; received = k.received; taken = k.taken } in
    let within = subst (λ (m : KeysState). s < m.stations) (sym c.self.view_is) lt in
    let so_far = subst (λ (m : KeysState). StandsFor m s pads history) (sym c.self.view_is) stands in
    let as_many : length c.args.words.now ≡ k.stations = c.requires.one_each ∙ ap (λ (m : KeysState). m.stations) (sym c.self.view_is) in
    let w = get_or c.args.words.now s [] in
    StandsFor-last state s pads history w c.write_words.new.self within (word-at c.args.words.now s c.write_words.ensures.words (omega arith)) (omega arith) so_far
    (received-written k.stations k.taken s k.received c.write_words.new.self w history within so_far.words so_far.taken c.write_words.ensures.before
    (λ l low. ap (λ n. get_or c.write_words.new.self (k.stations * (16 * k.taken) + (n * l + s)) 0) (sym as_many) ∙ c.write_words.ensures.written s l (omega arith) low) so_far.received)

pub returns-clause-stands : goal.returns-clause-stands
returns-clause-stands c = λ s pads history lt stands.
    let k = c.self.inside in
    let q = c.level_of-level.result in
    let state : KeysState = record { stations = k.stations; words = k.words; spectra = k.spectra.items; sums = k.sums; received = k.received; taken = k.taken } in
    let within = subst (λ (m : KeysState). s < m.stations) (sym c.self.view_is) lt in
    let room = subst (λ (m : KeysState). m.taken < m.words) (sym c.self.view_is) c.requires.taken in
    let so_far = subst (λ (m : KeysState). StandsFor m s pads history) (sym c.self.view_is) stands in
    let as_many : length c.args.words.now ≡ k.stations = c.requires.one_each ∙ ap (λ (m : KeysState). m.stations) (sym c.self.view_is) in
    let few = in_taken q (k.taken + 1) k.words c.level_of-level.ensures.value (omega arith) (omega arith) in
    let w = get_or c.args.words.now s [] in
    let rows : size 1 (q + 5 - 1) ≡ 16 * 2 ^ q = sym (block-size 1 q (2 ^ q) refl) ∙ (let e : 1 * 16 * 2 ^ q ≡ 16 * 2 ^ q = omega arith in e) in
    let block : k.stations * 16 * c.power_of.result ≡ k.stations * (16 * 2 ^ q) =
    ap (λ x. k.stations * 16 * x) c.power_of.ensures.value ∙ (let e : k.stations * 16 * 2 ^ q ≡ k.stations * (16 * 2 ^ q) = omega arith in e) in
    let now : k.stations * (16 * k.taken) + k.stations * 16 ≡ k.stations * (16 * (k.taken + 1)) = omega arith in
    let spectrum : c.as_slice.result.now ≡ get_or k.spectra.items q [] =
    c.as_slice.ensures.value ∙ get_or_read k.spectra.items q c.index.result.now (c.self.invariant.spectra_many q few) c.index.ensures [] in
    StandsFor-more state s q pads history w c.write_words.new.self c.carry_block.new.self within (word-at c.args.words.now s c.write_words.ensures.words (omega arith))
    (omega arith) (omega (arith, c.self.invariant.most_words)) c.self.invariant.sums_long c.level_of-level.ensures.value so_far
    (received-written k.stations k.taken s k.received c.write_words.new.self w history within so_far.words so_far.taken c.write_words.ensures.before
    (λ l low. ap (λ n. get_or c.write_words.new.self (k.stations * (16 * k.taken) + (n * l + s)) 0) (sym as_many) ∙ c.write_words.ensures.written s l (omega arith) low) so_far.received)
    (carried-same k.stations (q + 5) _ _ _ _ _ _ _ _ _ _ k.sums c.carry_block.new.self rows block now spectrum c.as_slice-2.ensures c.carry_block.ensures.carried)
    (λ n le. c.carry_block.ensures.later n (omega arith))
