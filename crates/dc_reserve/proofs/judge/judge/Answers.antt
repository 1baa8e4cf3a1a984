use Rattle.std.proofs.Common.{◌≡◌, ℕ, ◌<◌, List, ◌++◌, length, get_or, None, sym, ap, ◌∙◌, arith, rules}
use Rattle.dc_spec.specs.Bytes.{short_at}
use Rattle.dc_spec.specs.Values.{word_count, word_limbs}
use Rattle.dc_reserve.specs.Phases.{own_fault}
use Rattle.dc_reserve.proofs.StepLemmas.{own_none, limbs_small, after_word, message_fits}
use Rattle.dc_reserve.proofs.judge.judge.Goals as goal

pub push_limbs-requires-clause-limbs : goal.push_limbs-requires-clause-limbs
push_limbs-requires-clause-limbs c =
    let none : own_fault c.args.phase c.args.w.now ≡ None = search rules in
    limbs_small c.args.w.now (own_none c.args.phase c.args.w.now none).1

pub announced_length-length-requires : goal.announced_length-length-requires
announced_length-length-requires c =
    let none : own_fault c.args.phase c.args.w.now ≡ None = search rules in
    let after = after_word c.args.phase c.args.bytes.now.items c.args.w.now c.requires.going c.requires.fits none in
    rw (c.deref.ensures.value, c.push_limbs.ensures.bytes) (omega (arith, after.long))

pub first_stray-requires : goal.first_stray-requires
first_stray-requires c =
    let none : own_fault c.args.phase c.args.w.now ≡ None = search rules in
    let after = after_word c.args.phase c.args.bytes.now.items c.args.w.now c.requires.going c.requires.fits none in
    let one : word_count c.args.w.now ≡ 1 = sym (ap (λ (w : List ℕ). get_or w 0 0) c.numbers.ensures.value) ∙ c.if-numbers-ne1.false in
    let fits = message_fits c.args.w.now (c.args.bytes.now.items ++ word_limbs c.args.w.now) after one in
    let told : c.from.result ≡ short_at (c.args.bytes.now.items ++ word_limbs c.args.w.now) 0 = c.from.ensures ∙ c.announced_length-length.ensures ∙ ap (λ (bytes : List ℕ). short_at bytes 0) (c.deref.ensures.value ∙ c.push_limbs.ensures.bytes) in
    rw (c.deref-2.ensures.value, c.push_limbs.ensures.bytes, told) fits

pub overflow_cast-result : goal.overflow_cast-result
overflow_cast-result c =
    let none : own_fault c.args.phase c.args.w.now ≡ None = search rules in
    let after = after_word c.args.phase c.args.bytes.now.items c.args.w.now c.requires.going c.requires.fits none in
    let all : length c.deref-2.result.now ≡ length (c.args.bytes.now.items ++ word_limbs c.args.w.now) = ap (λ (bytes : List ℕ). length bytes) (c.deref-2.ensures.value ∙ c.push_limbs.ensures.bytes) in
    let within : c.in-Some-first_stray.at < length c.deref-2.result.now = c.in-Some-first_stray.ensures.within in
    omega (arith, after.due, after.few)
