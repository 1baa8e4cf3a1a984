use Rattle.std.proofs.Common.{◌≡◌, ◌+◌, ◌%◌, ◌≤◌, ℕ, List, length, take, get_or, refl, ap, sym, subst, ◌∙◌, arith}
use Rattle.std.specs.List.{All}
use Rattle.std.proofs.lemmas.List.{length_push}
use Rattle.dc_spec.specs.Words.{IsSymbol}
use Rattle.dc_key_rules.specs.PairKeys.{pads_add}
use Rattle.dc_steer.proofs.Zipped.{zipped_put, zipped_all}
use Rattle.dc_steer.proofs.SteeredKeys.{sums_are}
use Rattle.dc_steer.proofs.steered_keys.pads_sum.Goals as goal

pub loop-n-preserved : goal.loop-n-preserved
loop-n-preserved c =
    let all = c.loop-n.invariant in
    let x = (get_or c.args.pads.now c.loop-n.n 0 + get_or c.args.changes.now c.loop-n.n 0) % 65537 in
    let more = length_push c.loop-n.sums.items x in
    record {
      as_many = omega (arith, ap (λ (xs : List ℕ). length xs) c.push_reserved.ensures.items, more, all.as_many);
      value = c.push_reserved.ensures.items ∙ zipped_put (λ (xy : ℕ × ℕ). (xy.0 + xy.1) % 65537) c.args.pads.now c.args.changes.now c.loop-n.n 0 0 _ _
          c.requires.as_many c.loop-n-test.true refl all.value;
      room = c.push_reserved.ensures.capacity ∙ all.room;
    }

whole : (pads changes sums : List ℕ) (n : ℕ) → length changes ≡ length pads → length pads ≤ n → sums ≡ take n (pads_add pads changes) → sums ≡ pads_add pads changes
whole pads changes sums n same all is = zipped_all (λ (xy : ℕ × ℕ). (xy.0 + xy.1) % 65537) pads changes n sums same all is

pub from_vec-requires : goal.from_vec-requires
from_vec-requires c =
    subst (All IsSymbol) (sym (whole c.args.pads.now c.args.changes.now c.loop-n.sums.items c.loop-n.n c.requires.as_many (omega (arith, c.loop-n-test.false)) c.loop-n.invariant.value))
    (sums_are c.args.pads.now c.args.changes.now c.requires.as_many)

pub returns : goal.returns
returns c =
    c.from_vec.ensures ∙ whole c.args.pads.now c.args.changes.now c.loop-n.sums.items c.loop-n.n c.requires.as_many (omega (arith, c.loop-n-test.false)) c.loop-n.invariant.value
