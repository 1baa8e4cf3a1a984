use Rattle.std.proofs.Common.{◌≡◌, ◌*◌, ◌++◌, take, sym, ap, ◌∙◌, arith}
use Rattle.std.proofs.lemmas.List.{nil_from_length}
use Rattle.dc_keyfile.proofs.ChunkPairs.{JoinedSoFar-more, JoinedSoFar-all}
use Rattle.dc_keyfile.proofs.sharing.joined.Goals as goal

pub loop-part-init : goal.loop-part-init
loop-part-init c = record {
  split = sym c.into_iter-part-iterator.ensures.into_iter_gives.0;
  pairs_are = λ xs size are. c.in_ok-pairs.ensures.items ∙ (let none : 0 ≡ 0 * size = omega arith in ap (λ n. take n xs) none);
}

pub loop-part-preserved : goal.loop-part-preserved
loop-part-preserved c =
    JoinedSoFar-more c.args.parts.items c.loop-part.yielded _ _ c.loop-part.pairs.items _ _ c.in-Some.part c.loop-part.invariant c.in-Some.ensures.steps.0 c.in-Ok.is
    (c.in_ok-append-in-Ok.ensures.items ∙ ap (λ ys. c.loop-part.pairs.items ++ ys) c.into_vec.ensures)

pub returns : goal.returns
returns c =
    let none = nil_from_length c.loop-part.part-iterator.rest.items
    (let e = c.in-None.ensures.steps.0 in let long = c.loop-part.part-iterator.rest.ok in omega arith) in
    λ xs size are long. c.from_vec.ensures ∙ JoinedSoFar-all c.args.parts.items c.loop-part.yielded _ _ xs size c.loop-part.invariant none are long
