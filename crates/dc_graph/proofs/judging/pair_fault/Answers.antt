use Rattle.std.proofs.Common.{◌≡◌, ◌+◌, ◌*◌, arith, sym, refl, length, ◌∙◌, below_more}
use Rattle.dc_graph.specs.Faults.{is_faulty_pair, pair_at, joins}
use Rattle.dc_graph.proofs.FirstFault.{no_place, IsTable-more, ends_reported, before_reported, ends_of_joins, not_faulty_by_both}
use Rattle.dc_graph.proofs.judging.pair_fault.Goals as goal

pub returns-then-not-is_edge : goal.returns-then-not-is_edge
returns-then-not-is_edge c =
    rw c.reported.ensures (sym (ends_reported c.args.n c.args.edges.now c.loop-i.i c.loop-i-test.true c.loop-i.invariant.clear (sym c.is_edge.ensures ∙ c.if-not-is_edge.true)))

pub returns-then-seen-at : goal.returns-then-seen-at
returns-then-seen-at c =
    let e = pair_at c.args.edges.now c.loop-i.i in
    let joined = sym c.is_edge.ensures ∙ c.if-not-is_edge.false in
    let ends = ends_of_joins c.args.n (pair_at c.args.edges.now c.loop-i.i).0 (pair_at c.args.edges.now c.loop-i.i).1 joined in
    let place : c.from.result * c.from-in-loop-i.result + c.from-in-loop-i-2.result ≡ (pair_at c.args.edges.now c.loop-i.i).0 * c.args.n + (pair_at c.args.edges.now c.loop-i.i).1 = rw (c.from.ensures, c.from-in-loop-i.ensures, c.from-in-loop-i-2.ensures) refl in
    let flag = c.loop-i.invariant.table.flags (pair_at c.args.edges.now c.loop-i.i).0 (pair_at c.args.edges.now c.loop-i.i).1 (omega arith) ends.1 in
    rw c.reported-then-seen-at.ensures (sym (before_reported c.args.n c.args.edges.now c.loop-i.i c.loop-i-test.true c.loop-i.invariant.clear joined (sym flag ∙ (rw place at c.if-seen-at.true))))

pub loop-i-preserved : goal.loop-i-preserved
loop-i-preserved c =
    let joined = sym c.is_edge.ensures ∙ c.if-not-is_edge.false in
    let ends = ends_of_joins c.args.n (pair_at c.args.edges.now c.loop-i.i).0 (pair_at c.args.edges.now c.loop-i.i).1 joined in
    let place : c.from.result * c.from-in-loop-i.result + c.from-in-loop-i-2.result ≡ (pair_at c.args.edges.now c.loop-i.i).0 * c.args.n + (pair_at c.args.edges.now c.loop-i.i).1 = rw (c.from.ensures, c.from-in-loop-i.ensures, c.from-in-loop-i-2.ensures) refl in
    let flag = c.loop-i.invariant.table.flags (pair_at c.args.edges.now c.loop-i.i).0 (pair_at c.args.edges.now c.loop-i.i).1 (omega arith) ends.1 in
    record {
      clear = below_more _ _ c.loop-i.invariant.clear (not_faulty_by_both (joins c.args.n (pair_at c.args.edges.now c.loop-i.i)) _ joined (sym flag ∙ (rw place at c.if-seen-at.false)));
      table = rw place (IsTable-more c.args.n c.args.edges.now c.loop-i.i (pair_at c.args.edges.now c.loop-i.i).0 (pair_at c.args.edges.now c.loop-i.i).1 c.loop-i.seen c.loop-i.invariant.table c.loop-i-test.true refl (omega arith) ends.1);
    }

pub returns : goal.returns
returns c = rw (no_place (is_faulty_pair c.args.n c.args.edges.now) (length c.args.edges.now) (λ k lt. c.loop-i.invariant.clear k (omega arith))) refl
