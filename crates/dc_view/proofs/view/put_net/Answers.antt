use Rattle.std.proofs.Common.{◌≡◌, refl, ap, rules, ◌∙◌}
use Rattle.dc_spec.specs.Net.{Net}
use Rattle.dc_edge.proofs.PutLemmas.{Puts-then, Puts-stops}
use Rattle.dc_net_rules.proofs.Agreeing.{all_agree}
use Rattle.dc_view.proofs.ViewText.{net_text-pieces}
use Rattle.dc_view.proofs.view.put_net.Goals as goal

pub returns-in_err-put_edges : goal.returns-in_err-put_edges
returns-in_err-put_edges g c =
    let net = c.args.net.now in
    let edges : c.edges.result.now ≡ c.args.net.now.edges = c.edges.ensures.value ∙ ap (λ (n : Net). n.edges) c.net.view_is in
    rw (net_text-pieces net c.edges.result.now net.coalition net.stations net.words net.keys.pairs edges refl refl refl refl)
    (Puts-stops _ _ _ _ _ _ c.in_err-put_edges.ensures (search rules))

pub returns-in_err-put_members : goal.returns-in_err-put_members
returns-in_err-put_members g c =
    let net = c.args.net.now in
    let edges : c.edges.result.now ≡ c.args.net.now.edges = c.edges.ensures.value ∙ ap (λ (n : Net). n.edges) c.net.view_is in
    let coalition : c.net.inside.coalition ≡ c.args.net.now.coalition = ap (λ (n : Net). n.coalition) c.net.view_is in
    let stations : c.stations.result ≡ c.args.net.now.stations = c.stations.ensures.value ∙ ap (λ (n : Net). n.stations) c.net.view_is in
    rw (net_text-pieces net c.edges.result.now c.net.inside.coalition c.stations.result net.words net.keys.pairs edges coalition stations refl refl)
    (Puts-then _ _ _ _ _ _ _ c.in_ok-put_edges.ensures (Puts-stops _ _ _ _ _ _ c.in_err-put_members.ensures (search rules)))

pub returns : goal.returns
returns g c =
    let net = c.args.net.now in
    let edges : c.edges.result.now ≡ c.args.net.now.edges = c.edges.ensures.value ∙ ap (λ (n : Net). n.edges) c.net.view_is in
    let coalition : c.net.inside.coalition ≡ c.args.net.now.coalition = ap (λ (n : Net). n.coalition) c.net.view_is in
    let stations : c.stations.result ≡ c.args.net.now.stations = c.stations.ensures.value ∙ ap (λ (n : Net). n.stations) c.net.view_is in
    let words : c.net.inside.keys.words ≡ c.args.net.now.words = ap (λ (n : Net). n.keys.words) c.net.view_is ∙ (all_agree net c.requires.agrees).words in
    let pairs : c.net.inside.keys.pairs ≡ c.args.net.now.keys.pairs = ap (λ (n : Net). n.keys.pairs) c.net.view_is in
    rw (net_text-pieces net c.edges.result.now c.net.inside.coalition c.stations.result c.net.inside.keys.words c.net.inside.keys.pairs edges coalition stations words pairs)
    (Puts-then _ _ _ _ _ _ _ c.in_ok-put_edges.ensures (Puts-then _ _ _ _ _ _ _ c.in_ok-put_members.ensures c.put_keys.ensures))
