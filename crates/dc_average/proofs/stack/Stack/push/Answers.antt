use Rattle.std.proofs.Common.{◌+◌, ◌≤◌, ◌∷◌, reverse, List, ap, ◌∙◌, sym, subst, arith}
use Rattle.std.proofs.lemmas.List.{length-reverse}
use Rattle.dc_average.specs.Stacks.{stations_in, stations_of}
use Rattle.dc_average.proofs.StackLemmas.{pushed, length-stack}
use Rattle.dc_average.proofs.stack.Stack.push.Goals as goal

pub push_reserved-requires : goal.push_reserved-requires
push_reserved-requires c =
    let items = c.self.inside.items.items in
    let stack = c.self.invariant.1 in
    let some = c.requires.some in
    let room : stations_of c.args.item + stations_in (reverse items) ≤ 256 = subst (λ (zs : List _). stations_of c.args.item + stations_in zs ≤ 256) (sym c.self.view_is) c.requires.room in
    let short = length-stack (reverse items) stack.some in
    let len = length-reverse items in
    let capacity = c.self.invariant.0 in
    omega arith

pub returns : goal.returns
returns c =
    pushed c.push_reserved.new.self.items c.self.inside.items.items c.args.item c.push_reserved.ensures.items ∙ ap (λ zs. c.args.item ∷ zs) c.self.view_is
