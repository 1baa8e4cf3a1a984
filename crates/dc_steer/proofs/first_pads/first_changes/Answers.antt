use Rattle.std.proofs.Common.{◌≡◌, ℕ, length, rules, ap, ◌∙◌}
use Rattle.std.proofs.lemmas.List.FromFn.{fill_by_all}
use Rattle.dc_spec.specs.Symbols.{symbol_sub}
use Rattle.dc_steering_rules.specs.Steerings.{first_change}
use Rattle.dc_steer.proofs.first_pads.first_changes.Goals as goal

pub returns-clause-value : goal.returns-clause-value
returns-clause-value c =
    let long : length c.add_history.new.sums ≡ length c.args.cu.now = search rules in
    fill_by_all (first_change c.args.cu.now c.args.second.now) c.in_ok-changes.changes.items _ 0 (c.in_ok-changes.ensures.as_many ∙ long)
    (λ n lt. c.in_ok-changes.ensures.value n (rw long lt) ∙ ap (λ (x : ℕ). symbol_sub 0 x) (c.add_history.ensures n lt))
