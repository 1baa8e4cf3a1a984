use Rattle.std.proofs.Common.{ℕ, ◌*◌, List, length, sym, ap, subst, ◌∙◌}
use Rattle.dc_spec.specs.Pads.{Keys}
use Rattle.dc_spec.specs.Net.{Net}
use Rattle.dc_formats.specs.KeyFile.{IsKeys}
use Rattle.dc_twin_rules.proofs.Kept.{net-kept}
use Rattle.dc_twin.proofs.Admitted.{permutes-honest}
use Rattle.dc_twin.proofs.EdgeShifts.{demands-size, sums-size, sums-made, shifts-made, pairs-made, twinned-is}
use Rattle.dc_twin.specs.TwinnedKeys.{TwinnedKeys}
use Rattle.dc_twin.proofs.twinning.twinned.Goals as goal

pub demands-requires-clause-permutation : goal.demands-requires-clause-permutation
demands-requires-clause-permutation c = permutes-honest c.args.net.now c.args.perm.now c.net-plain.ensures.is_net c.requires.admitted

pub sums_below-requires-clause-demands : goal.sums_below-requires-clause-demands
sums_below-requires-clause-demands c =
    ap (λ (ws : List (List ℕ)). length ws) c.in_ok-demands.ensures ∙ demands-size c.args.net.now c.args.perm.now ∙ ap (λ (n : Net). n.words * n.stations) (sym c.net-plain.ensures.value)

pub shifted_pairs-requires-clause-sums : goal.shifted_pairs-requires-clause-sums
shifted_pairs-requires-clause-sums c =
    let sums = sums-made c.args.net.now c.net-plain.result.now c.args.perm.now c.in_ok-demands.demands c.in_ok-sums.sums.items c.deref.result.now c.net-plain.ensures.value c.in_ok-demands.ensures c.in_ok-sums.ensures
    c.deref.ensures.value in
    ap (λ (ws : List (List ℕ)). length ws) sums ∙ sums-size c.args.net.now c.args.perm.now ∙ ap (λ (n : Net). n.words * n.stations) (sym c.net-plain.ensures.value)

pub invariant_of-result : goal.invariant_of-result
invariant_of-result c =
    let net = c.args.net.now in
    let is = c.net-plain.ensures.is_net in
    let same = c.net-plain.ensures.value in
    let sums = sums-made net c.net-plain.result.now c.args.perm.now c.in_ok-demands.demands c.in_ok-sums.sums.items c.deref.result.now same c.in_ok-demands.ensures c.in_ok-sums.ensures c.deref.ensures.value in
    let keys = c.keys.view_is ∙ ap (λ (n : Net). n.keys) (c.plain.view_is ∙ same) in
    let shifts = shifts-made net c.net-plain.result.now c.args.perm.now c.deref.result.now c.from_vec.result is same sums (c.from_vec.ensures ∙ c.in_ok-shifts.ensures.shifts) in
    let pairs = pairs-made net c.net-plain.result.now c.args.perm.now c.deref.result.now c.from_vec-2.result is same sums (c.from_vec-2.ensures ∙ c.in_ok-shifts.ensures.pairs) in
    let all = twinned-is net c.args.perm.now c.from_vec.result c.keys.inside.stations c.keys.inside.words c.from_vec-2.result shifts (ap (λ (k : Keys). k.stations) keys) (ap (λ (k : Keys). k.words) keys) pairs in
    subst IsKeys (sym (ap (λ (t : TwinnedKeys). t.keys) all)) (net-kept net c.args.perm.now is c.requires.admitted).keys

pub returns : goal.returns
returns c =
    let net = c.args.net.now in
    let is = c.net-plain.ensures.is_net in
    let same = c.net-plain.ensures.value in
    let sums = sums-made net c.net-plain.result.now c.args.perm.now c.in_ok-demands.demands c.in_ok-sums.sums.items c.deref.result.now same c.in_ok-demands.ensures c.in_ok-sums.ensures c.deref.ensures.value in
    let keys = c.keys.view_is ∙ ap (λ (n : Net). n.keys) (c.plain.view_is ∙ same) in
    let shifts = shifts-made net c.net-plain.result.now c.args.perm.now c.deref.result.now c.from_vec.result is same sums (c.from_vec.ensures ∙ c.in_ok-shifts.ensures.shifts) in
    let pairs = pairs-made net c.net-plain.result.now c.args.perm.now c.deref.result.now c.from_vec-2.result is same sums (c.from_vec-2.ensures ∙ c.in_ok-shifts.ensures.pairs) in
    let all = twinned-is net c.args.perm.now c.from_vec.result c.keys.inside.stations c.keys.inside.words c.from_vec-2.result shifts (ap (λ (k : Keys). k.stations) keys) (ap (λ (k : Keys). k.words) keys) pairs in
    all
