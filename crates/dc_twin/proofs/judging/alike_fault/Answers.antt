use Rattle.std.proofs.Common.{◌≡◌, ℕ, ◌*◌, ◌<◌, List, length, refl, sym, ap, ◌∙◌, arith, option_map}
use Rattle.dc_spec.specs.Net.{Net, Run}
use Rattle.dc_net_rules.specs.Runs.{honest_stations}
use Rattle.dc_twin.specs.declared.fault.TwinFault.TheVariants.{NotAlike}
use Rattle.dc_twin.proofs.Received.{delivered-size}
use Rattle.dc_twin.proofs.FirstFaults.{all-honest, round-tested, round-found, round-passed, rounds-passed}
use Rattle.dc_twin.proofs.Rows.{row-size}
use Rattle.dc_twin.proofs.judging.alike_fault.Goals as goal

pub row-received-requires-clause-rows : goal.row-received-requires-clause-rows
row-received-requires-clause-rows c =
    let net = c.args.net.now in
    let all = all-honest net c.net.inside.coalition c.stations.result c.as_slice-stations.result.now (ap (λ (n : Net). n.coalition) c.net.view_is)
    (c.stations.ensures.value ∙ ap (λ (n : Net). n.stations) c.net.view_is) (c.as_slice-stations.ensures.value ∙ c.in_ok-honest.ensures) in
    let same = c.as_slice-delivered.ensures ∙ ap (λ (r : Run). r.delivered) (c.run.view_is ∙ c.requires) in
    let size = delivered-size net in
    let long : length c.as_slice-delivered.result.now ≡ c.net.inside.words * length c.as_slice-stations.result.now =
    ap (λ (ws : List (List ℕ)). length ws) same ∙ size ∙ sym (ap (λ (m : ℕ). m * length (honest_stations net)) (ap (λ (n : Net). n.words) c.net.view_is))
    ∙ sym (ap (λ (m : ℕ). c.net.inside.words * m) (ap (λ (xs : List ℕ). length xs) all)) in omega arith

pub first_unlike-requires : goal.first_unlike-requires
first_unlike-requires c =
    let net = c.args.net.now in
    let all = all-honest net c.net.inside.coalition c.stations.result c.as_slice-stations.result.now (ap (λ (n : Net). n.coalition) c.net.view_is)
    (c.stations.ensures.value ∙ ap (λ (n : Net). n.stations) c.net.view_is) (c.as_slice-stations.ensures.value ∙ c.in_ok-honest.ensures) in
    let same = c.as_slice-delivered.ensures ∙ ap (λ (r : Run). r.delivered) (c.run.view_is ∙ c.requires) in
    let size = delivered-size net in
    let long : length c.as_slice-delivered.result.now ≡ c.net.inside.words * length c.as_slice-stations.result.now =
    ap (λ (ws : List (List ℕ)). length ws) same ∙ size ∙ sym (ap (λ (m : ℕ). m * length (honest_stations net)) (ap (λ (n : Net). n.words) c.net.view_is))
    ∙ sym (ap (λ (m : ℕ). c.net.inside.words * m) (ap (λ (xs : List ℕ). length xs) all)) in
    ap (λ (ws : List (List ℕ)). length ws) c.row-received.ensures ∙ row-size c.net.inside.words (length c.as_slice-stations.result.now) c.loop-t.t c.as_slice-delivered.result.now c.loop-t-test.true (omega arith)

pub returns-in-Some : goal.returns-in-Some
returns-in-Some c =
    let net = c.args.net.now in
    let all = all-honest net c.net.inside.coalition c.stations.result c.as_slice-stations.result.now (ap (λ (n : Net). n.coalition) c.net.view_is)
    (c.stations.ensures.value ∙ ap (λ (n : Net). n.stations) c.net.view_is) (c.as_slice-stations.ensures.value ∙ c.in_ok-honest.ensures) in
    let same = c.as_slice-delivered.ensures ∙ ap (λ (r : Run). r.delivered) (c.run.view_is ∙ c.requires) in
    let low : c.loop-t.t < c.args.net.now.words = let less = c.loop-t-test.true in let words = ap (λ (n : Net). n.words) c.net.view_is in omega arith in
    let tested = round-tested net c.loop-t.t (length c.as_slice-stations.result.now) c.as_slice-stations.result.now c.as_slice-delivered.result.now c.row-received.result.now c.first_unlike.result low all refl same c.row-received.ensures
    c.first_unlike.ensures in
    sym (round-found net c.loop-t.t (NotAlike c.loop-t.t c.in-Some.ends.0 c.in-Some.ends.1) low c.loop-t.invariant
    (tested ∙ ap (option_map (λ (e : ℕ × ℕ). NotAlike c.loop-t.t e.0 e.1)) c.in-Some.is))

pub loop-t-preserved : goal.loop-t-preserved
loop-t-preserved c =
    let net = c.args.net.now in
    let all = all-honest net c.net.inside.coalition c.stations.result c.as_slice-stations.result.now (ap (λ (n : Net). n.coalition) c.net.view_is)
    (c.stations.ensures.value ∙ ap (λ (n : Net). n.stations) c.net.view_is) (c.as_slice-stations.ensures.value ∙ c.in_ok-honest.ensures) in
    let same = c.as_slice-delivered.ensures ∙ ap (λ (r : Run). r.delivered) (c.run.view_is ∙ c.requires) in
    let low : c.loop-t.t < c.args.net.now.words = let less = c.loop-t-test.true in let words = ap (λ (n : Net). n.words) c.net.view_is in omega arith in
    let tested = round-tested net c.loop-t.t (length c.as_slice-stations.result.now) c.as_slice-stations.result.now c.as_slice-delivered.result.now c.row-received.result.now c.first_unlike.result low all refl same c.row-received.ensures
    c.first_unlike.ensures in
    round-passed net c.loop-t.t low c.loop-t.invariant (tested ∙ ap (option_map (λ (e : ℕ × ℕ). NotAlike c.loop-t.t e.0 e.1)) c.in_default.is)

pub returns : goal.returns
returns c = sym (rounds-passed c.args.net.now c.loop-t.t (let done = c.loop-t-test.false in let words = ap (λ (n : Net). n.words) c.net.view_is in omega arith) c.loop-t.invariant)
