use Rattle.std.proofs.Common.{◌≡◌, ℕ, ◌+◌, ◌-◌, ◌*◌, ◌/◌, List, [], length, get_or, refl, ap, ◌∙◌, arith}
use Rattle.std.proofs.lemmas.Grind.{get_or_default_zero}
use Rattle.std.proofs.lemmas.List.Elements.{All-push}
use Rattle.dc_spec.specs.Words.{IsSymbol}
use Rattle.dc_spec.specs.Symbols.{symbol_inverse}
use Rattle.dc_steering_rules.specs.Steerings.{difference_at, changes_up_to}
use Rattle.dc_steer.proofs.Products.{no_changes, sum_after}
use Rattle.dc_steer.proofs.NextChange.{known_more}
use Rattle.dc_steer.proofs.second_pads.changes_by.Goals as goal

pub loop-j-init : goal.loop-j-init
unfolding changes_up_to
loop-j-init c =
    let none : c.in_ok-changes.changes.items ≡ [] = c.in_ok-changes.ensures.items in
    record {
      known = none;
      count = rw none refl;
      are_symbols = rw none (λ k d lt. absurd (omega arith));
      room = c.in_ok-changes.ensures.exact;
      value = λ n lt. c.requires.zeros n ∙ rw none (no_changes (difference_at c.args.cu.now c.args.cv.now) n (16 * (n / 16)));
      small = λ n. omega (arith, c.requires.zeros n);
    }

pub loop-j-preserved : goal.loop-j-preserved
loop-j-preserved c =
    let all = c.loop-j.invariant in
    let d : ℕ → ℕ = difference_at c.args.cu.now c.args.cv.now in
    let change = c.next_change-change.result in
    let pushed = c.push_reserved.ensures.items in
    let first : c.inverse-inverse.result ≡ symbol_inverse (d c.args.p) =
    c.inverse-inverse.ensures ∙ ap (λ (x : ℕ). symbol_inverse x) (c.index.ensures ∙ get_or_default_zero c.in_ok-differences.differences.items c.args.p _ (omega (arith, c.in_ok-differences.ensures.as_many)) ∙ c.in_ok-differences.ensures.value c.args.p c.requires.within) in
    record {
      known = known_more c.args.cu.now c.args.cv.now c.args.wanted.now c.args.p (length c.args.cu.now) c.loop-j.j c.inverse-inverse.result change c.loop-j.sums c.loop-j.changes.items _
          c.requires.place all.count all.known (omega arith) all.value first c.next_change-change.ensures.value pushed;
      count = omega (arith, c.push_reserved.ensures.len);
      are_symbols = rw pushed (All-push IsSymbol c.loop-j.changes.items change all.are_symbols c.next_change-change.ensures.symbol);
      room = omega (arith, c.push_reserved.ensures.capacity);
      value = λ n lt. rw pushed (sum_after c.loop-j.changes.items d change n c.loop-j.j _ _ all.count (c.add_change.ensures.same n) (c.add_change.ensures.same_round n)
          (λ acts le. c.add_change.ensures.added n acts le (omega arith)
          ∙ ap (λ (x : ℕ). get_or c.loop-j.sums n 0 + x * change) (ap (λ (xs : List ℕ). get_or xs (n - c.loop-j.j) 0) c.deref.ensures.value ∙ c.in_ok-differences.ensures.value (n - c.loop-j.j) (omega arith)))
          (all.value n lt));
      small = λ n. omega (arith, c.add_change.ensures.grown n, all.small n);
    }
