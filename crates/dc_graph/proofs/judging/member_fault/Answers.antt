use Rattle.std.proofs.Common.{arith, sym, ◌∙◌, length, refl}
use Rattle.dc_graph.specs.Faults.{is_faulty_member}
use Rattle.dc_graph.proofs.FirstFault.{first_place, no_place}
use Rattle.dc_graph.proofs.judging.member_fault.Goals as goal

pub returns-then-is_faulty : goal.returns-then-is_faulty
returns-then-is_faulty c =
    rw (first_place (is_faulty_member c.args.n c.args.members.now) (length c.args.members.now) c.loop-i.i c.loop-i-test.true c.loop-i.invariant (sym c.is_faulty.ensures ∙ c.if-is_faulty.true)) (cc)

pub returns : goal.returns
returns c = rw (no_place (is_faulty_member c.args.n c.args.members.now) (length c.args.members.now) (λ k lt. c.loop-i.invariant k (omega arith))) refl
