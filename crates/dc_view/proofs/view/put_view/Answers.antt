use Rattle.std.proofs.Common.{◌≡◌, length, refl, ap, rules, ◌∙◌, arith}
use Rattle.dc_spec.specs.Net.{Net, Run}
use Rattle.dc_edge.proofs.PutLemmas.{Puts-then, Puts-stops}
use Rattle.dc_net_rules.proofs.RunSizes.{length-sums}
use Rattle.dc_view.proofs.ViewText.{view_text-pieces}
use Rattle.dc_view.proofs.view.put_view.Goals as goal

pub returns-in_err-put_head : goal.returns-in_err-put_head
returns-in_err-put_head g c =
    let net = c.args.net.now in
    let stations : c.stations.result ≡ c.args.net.now.stations = c.stations.ensures.value ∙ ap (λ (n : Net). n.stations) (c.net.view_is ∙ c.net-net.ensures.value) in
    let words : c.net.inside.words ≡ c.args.net.now.words = ap (λ (n : Net). n.words) (c.net.view_is ∙ c.net-net.ensures.value) in
    rw (view_text-pieces net c.args.run.now c.stations.result c.net.inside.words net.script.rounds stations words refl)
    (Puts-stops _ _ _ _ _ _ c.in_err-put_head.ensures (search rules))

pub returns-in_err-put_net : goal.returns-in_err-put_net
returns-in_err-put_net g c =
    let net = c.args.net.now in
    let stations : c.stations.result ≡ c.args.net.now.stations = c.stations.ensures.value ∙ ap (λ (n : Net). n.stations) (c.net.view_is ∙ c.net-net.ensures.value) in
    let words : c.net.inside.words ≡ c.args.net.now.words = ap (λ (n : Net). n.words) (c.net.view_is ∙ c.net-net.ensures.value) in
    rw (view_text-pieces net c.args.run.now c.stations.result c.net.inside.words net.script.rounds stations words refl, ← c.net-net.ensures.value)
    (Puts-then _ _ _ _ _ _ _ c.in_ok-put_head.ensures (Puts-stops _ _ _ _ _ _ c.in_err-put_net.ensures (search rules)))

pub put_script-requires : goal.put_script-requires
put_script-requires g c =
    let rounds : length c.net.inside.script.rounds ≡ length c.args.net.now.script.rounds = ap (λ (n : Net). length n.script.rounds) (c.net.view_is ∙ c.net-net.ensures.value) in
    let sums : length c.args.run.now.sums ≡ length c.args.net.now.script.rounds =
    ap (λ (r : Run). length r.sums) c.requires ∙ length-sums c.args.net.now c.net-net.ensures.checked.agrees in
    omega arith

pub returns : goal.returns
returns g c =
    let net = c.args.net.now in
    let stations : c.stations.result ≡ c.args.net.now.stations = c.stations.ensures.value ∙ ap (λ (n : Net). n.stations) (c.net.view_is ∙ c.net-net.ensures.value) in
    let words : c.net.inside.words ≡ c.args.net.now.words = ap (λ (n : Net). n.words) (c.net.view_is ∙ c.net-net.ensures.value) in
    let rounds : c.net.inside.script.rounds ≡ c.args.net.now.script.rounds = ap (λ (n : Net). n.script.rounds) (c.net.view_is ∙ c.net-net.ensures.value) in
    rw (view_text-pieces net c.args.run.now c.stations.result c.net.inside.words c.net.inside.script.rounds stations words rounds, ← c.net-net.ensures.value)
    (Puts-then _ _ _ _ _ _ _ c.in_ok-put_head.ensures (Puts-then _ _ _ _ _ _ _ c.in_ok-put_net.ensures c.put_script.ensures))
