use Rattle.std.proofs.Common.{ℕ, List, [], length, get_or, subst, ap, ◌∙◌, arith}
use Rattle.dc_spec.specs.Pads.{Keys}
use Rattle.dc_spec.specs.Net.{Net}
use Rattle.dc_net_rules.proofs.Agreeing.{all_agree}
use Rattle.dc_net.specs.RoundKeys.{KeysAt}
use Rattle.dc_net.proofs.running.keys_of.Goals as goal

pub returns : goal.returns
returns c =
    let net = c.args.net.now in
    let honest = c.requires.honest in
    let many = ap (λ (xs : List ℕ). length xs) honest in
    let file = ap (λ (n : Net). n.keys) c.net.view_is in
    record {
      places = c.in_ok-keys.ensures.places ∙ many;
      taken = c.in_ok-keys.ensures.taken;
      total = c.in_ok-keys.ensures.total ∙ ap (λ (k : Keys). k.words) file ∙ (all_agree net c.requires.checked.agrees).words;
      each = λ j place.
          subst (λ (xs : List ℕ). KeysAt c.in_ok-keys.keys j net.keys (get_or xs j 0) []) honest
          (subst (λ (k : Keys). KeysAt c.in_ok-keys.keys j k (get_or c.args.honest.now j 0) []) file (c.in_ok-keys.ensures.keyed j (omega arith)));
    }
