use Rattle.std.proofs.Common.{◌≡◌, ◌∙◌, true, ℕ, inl, inr, slice_index, sym, ap, subst, arith}
use Rattle.std.proofs.lemmas.Bool.{cases_lt}
use Rattle.dc_graph.specs.Walk.{edge_at, IsNextTo}
use Rattle.dc_graph.proofs.WalkSteps.{next_place}
use Rattle.dc_graph.proofs.walk.Walk.look_around.Goals as goal

pub loop-w-preserved : goal.loop-w-preserved
loop-w-preserved c = record {
  walk = c.in_ok-reach.ensures.walk;
  head = c.in_ok-reach.ensures.head;
  row = λ x low is_edge.
      let old : edge_at c.args.n c.args.table.now (slice_index c.loop-w.self.order.items c.args.head) x ≡ true = ap (λ u. edge_at c.args.n c.args.table.now u x) (sym c.in_ok-reach.ensures.same) ∙ is_edge in
      subst (λ u. IsNextTo c.reach.new.self.found.items u x) (sym c.in_ok-reach.ensures.same) (elim (cases_lt x c.loop-w.w) [
        | inl less ↦ c.in_ok-reach.ensures.kept x (c.loop-w.invariant.row x less old)
        | inr past ↦ (let at : x ≡ c.loop-w.w = omega arith in subst (λ (y : ℕ). IsNextTo c.reach.new.self.found.items (slice_index c.loop-w.self.order.items c.args.head) y) (sym at)
            (c.in_ok-reach.ensures.next (ap (λ y. edge_at c.args.n c.args.table.now (slice_index c.loop-w.self.order.items c.args.head) y) (sym at) ∙ old)))
      ]);
}

pub returns-clause-walk : goal.returns-clause-walk
returns-clause-walk c = next_place (edge_at c.args.n c.args.table.now) c.args.n c.args.head c.loop-w.self.order.items c.loop-w.self.found.items c.loop-w.invariant.walk c.loop-w.invariant.head
    (λ x low is_edge. c.loop-w.invariant.row x (let past = c.loop-w-test.false in omega arith) is_edge)
