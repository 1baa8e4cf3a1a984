use Rattle.std.proofs.Common.{◌≡◌, ℕ, Option, sym, ap, subst, ◌∙◌}
use Rattle.std.specs.Result.{IfOk}
use Rattle.dc_spec.specs.Net.{Net}
use Rattle.dc_twin.specs.declared.fault.TwinFault.{TwinFault}
use Rattle.dc_twin.specs.Faults.{count_fault, place_fault}
use Rattle.dc_twin.proofs.FirstFaults.{by-count, by-place, by-joined, by-alike}
use Rattle.dc_twin.proofs.Faultless.{counted, permutes}
use Rattle.dc_twin.proofs.judging.twin_fault.Goals as goal

pub returns-in-Some : goal.returns-in-Some
returns-in-Some c =
    let stations = c.stations-n.ensures.value ∙ ap (λ (n : Net). n.stations) c.net.view_is in
    sym (by-count c.args.net.now c.args.perm.now c.in-Some.fault (ap (λ (n : ℕ). count_fault n c.args.perm.now) (sym stations) ∙ sym c.count_fault.ensures ∙ c.in-Some.is))

pub returns-in-Some-2 : goal.returns-in-Some-2
returns-in-Some-2 c =
    let stations = c.stations-n.ensures.value ∙ ap (λ (n : Net). n.stations) c.net.view_is in
    sym (by-place c.args.net.now c.args.perm.now c.in-Some-2.fault (ap (λ (n : ℕ). count_fault n c.args.perm.now) (sym stations) ∙ sym c.count_fault.ensures ∙ c.in_default.is)
    (ap (λ (n : ℕ). place_fault n c.args.perm.now) (sym stations) ∙ sym c.in_ok-fault.ensures ∙ c.in-Some-2.is))

pub joined_fault-requires-clause-stations : goal.joined_fault-requires-clause-stations
joined_fault-requires-clause-stations c =
    let stations = c.stations-n.ensures.value ∙ ap (λ (n : Net). n.stations) c.net.view_is in
    (permutes c.args.net.now.stations c.args.perm.now
    (counted c.args.net.now.stations c.args.perm.now (ap (λ (n : ℕ). count_fault n c.args.perm.now) (sym stations) ∙ sym c.count_fault.ensures ∙ c.in_default.is))
    (ap (λ (n : ℕ). place_fault n c.args.perm.now) (sym stations) ∙ sym c.in_ok-fault.ensures ∙ c.in_default-2.is)).stations

pub returns-in-Some-joined_fault : goal.returns-in-Some-joined_fault
returns-in-Some-joined_fault c =
    let stations = c.stations-n.ensures.value ∙ ap (λ (n : Net). n.stations) c.net.view_is in
    sym (by-joined c.args.net.now c.args.perm.now c.in-Some-joined_fault.fault (ap (λ (n : ℕ). count_fault n c.args.perm.now) (sym stations) ∙ sym c.count_fault.ensures ∙ c.in_default.is)
    (ap (λ (n : ℕ). place_fault n c.args.perm.now) (sym stations) ∙ sym c.in_ok-fault.ensures ∙ c.in_default-2.is) (sym c.joined_fault.ensures ∙ c.in-Some-joined_fault.is))

pub returns : goal.returns
returns c =
    let stations = c.stations-n.ensures.value ∙ ap (λ (n : Net). n.stations) c.net.view_is in
    let all = by-alike c.args.net.now c.args.perm.now (ap (λ (n : ℕ). count_fault n c.args.perm.now) (sym stations) ∙ sym c.count_fault.ensures ∙ c.in_default.is)
    (ap (λ (n : ℕ). place_fault n c.args.perm.now) (sym stations) ∙ sym c.in_ok-fault.ensures ∙ c.in_default-2.is) (sym c.joined_fault.ensures ∙ c.in_default-joined_fault.is) in
    subst (λ (due : Option TwinFault). IfOk c.alike_fault.result (λ fault. fault ≡ due)) (sym all) c.alike_fault.ensures
