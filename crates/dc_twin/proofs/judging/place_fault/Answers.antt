use Rattle.std.proofs.Common.{◌≡◌, ℕ, ◌||◌, not, nat_lt, Bool, true, false, List, length, slice_index, slice_index_or, option_map, sym, ap, ◌∙◌, arith}
use Rattle.std.proofs.Math.ListN.{length-set}
use Rattle.dc_twin.specs.declared.fault.TwinFault.TheVariants.{Perm}
use Rattle.dc_twin.specs.Faults.{is_bad_place}
use Rattle.dc_twin.proofs.FirstFaults.{found-here, found-past, found-none, bad-tested, good-below, more-seen}
use Rattle.dc_twin.proofs.judging.place_fault.Goals as goal

-- what the test of a number by the flags says
judged : (image : ℕ) (seen read : List Bool) (tested bad b : Bool) → read ≡ seen → tested ≡ (not (nat_lt image (length read)) || slice_index_or read image false)
    → (not (nat_lt image (length seen)) || slice_index_or seen image false) ≡ bad → tested ≡ b → bad ≡ b
judged image seen read tested bad b same is means was =
    sym means ∙ sym (is ∙ ap (λ (s : List Bool). not (nat_lt image (length s)) || slice_index_or s image false) same) ∙ was

pub returns-then-is_past_or_seen : goal.returns-then-is_past_or_seen
returns-then-is_past_or_seen c =
    let n = c.args.n in
    let p = c.args.perm.now in
    let image = c.from-image.ensures ∙ ap (slice_index p) c.from-in-loop-k.ensures in
    let bad = judged c.from-image.result c.loop-k.seen.items c.deref.result.now c.is_past_or_seen.result (is_bad_place n p c.loop-k.k) true c.deref.ensures.value c.is_past_or_seen.ensures
    (bad-tested n c.loop-k.k c.from-image.result p c.loop-k.seen.items c.loop-k.invariant.wide c.loop-k.invariant.flags image) c.if-is_past_or_seen.true in
    sym (ap (option_map Perm) (found-here (is_bad_place n p) n c.loop-k.k c.loop-k-test.true c.loop-k.invariant.left bad))

pub loop-k-preserved : goal.loop-k-preserved
loop-k-preserved c =
    let n = c.args.n in
    let p = c.args.perm.now in
    let image = c.from-image.ensures ∙ ap (slice_index p) c.from-in-loop-k.ensures in
    let good = judged c.from-image.result c.loop-k.seen.items c.deref.result.now c.is_past_or_seen.result (is_bad_place n p c.loop-k.k) false c.deref.ensures.value c.is_past_or_seen.ensures
    (bad-tested n c.loop-k.k c.from-image.result p c.loop-k.seen.items c.loop-k.invariant.wide c.loop-k.invariant.flags image) c.if-is_past_or_seen.false in
    let station = good-below n c.loop-k.k p good in
    let count = c.requires in
    record {
      wide = length-set c.loop-k.seen.items c.from-image.result true ∙ c.loop-k.invariant.wide;
      flags = more-seen n c.loop-k.k c.from-image.result p c.loop-k.seen.items c.loop-k.invariant.wide (let low = c.loop-k-test.true in omega arith) (omega arith) image c.loop-k.invariant.flags;
      left = found-past (is_bad_place n p) n c.loop-k.k c.loop-k-test.true c.loop-k.invariant.left good;
    }

pub returns : goal.returns
returns c = sym (ap (option_map Perm) (found-none (is_bad_place c.args.n c.args.perm.now) c.args.n c.loop-k.k (let done = c.loop-k-test.false in omega arith) c.loop-k.invariant.left))
