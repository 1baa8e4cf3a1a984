use Rattle.std.proofs.Common.{◌≡◌, ◌∙◌, ◌+◌, ◌*◌, ◌<◌, is_some, true, false, Some, None, slice_index, slice_index_or, slice_set, refl, sym, ap, subst, arith, true≢false}
use Rattle.std.specs.Option.{option_map_or}
use Rattle.dc_graph.specs.Walk.{edge_at, is_found, distance_of}
use Rattle.dc_graph.proofs.Tables.{place_within}
use Rattle.dc_graph.proofs.WalkSteps.{IsOneMore, neighbour_can, one_more, on_ok, found_below, found_next, order_within, any_default}
use Rattle.dc_graph.proofs.walk.Walk.reach.Goals.{then-not-is_edge-via-then-not-is_edge, then-not-is_edge-via-else-not-is_edge+then-is_some}
use Rattle.dc_graph.proofs.walk.Walk.reach.Goals as goal

pub bounds-table-from : goal.bounds-table-from
bounds-table-from c =
    let at : c.index-u.result.now ≡ slice_index c.args.self.now.order.items c.args.head = c.index-u.ensures ∙ ap (λ k. slice_index_or c.args.self.now.order.items k c.index-u.result.now) c.from.ensures
    ∙ any_default c.args.self.now.order.items c.args.head c.index-u.result.now 0 c.requires.head in
    let low : c.index-u.result.now < c.args.n = subst (λ z. z < c.args.n) (sym at) (found_below c.args.self.now.found.items c.args.n (slice_index c.args.self.now.order.items c.args.head) c.requires.walk.wide
    (c.requires.walk.listed c.args.head c.requires.head)) in
    rw (c.from-2.ensures, c.from-3.ensures, c.from-4.ensures) (place_within c.args.n c.index-u.result.now c.args.w c.args.table.now low c.requires.within c.requires.table.wide)

pub returns-then-not-is_edge-clause-next : goal.returns-then-not-is_edge-clause-next
returns-then-not-is_edge-clause-next c = λ is_edge.
    let at : c.index-u.result.now ≡ slice_index c.args.self.now.order.items c.args.head = c.index-u.ensures ∙ ap (λ k. slice_index_or c.args.self.now.order.items k c.index-u.result.now) c.from.ensures
    ∙ any_default c.args.self.now.order.items c.args.head c.index-u.result.now 0 c.requires.head in
    let place : c.from-2.result * c.from-3.result + c.from-4.result ≡ slice_index c.args.self.now.order.items c.args.head * c.args.n + c.args.w = rw (c.from-2.ensures, c.from-3.ensures, c.from-4.ensures, at) refl in
    elim c.then-not-is_edge.branch [
      | then-not-is_edge-via-then-not-is_edge w ↦ absurd (true≢false (sym is_edge ∙ ap (λ k. slice_index_or c.args.table.now k false) (sym place) ∙ w.if-not-is_edge.true))
      | then-not-is_edge-via-else-not-is_edge+then-is_some w ↦ found_next (edge_at c.args.n c.args.table.now) c.args.n c.args.head c.args.self.now.order.items c.args.self.now.found.items c.requires.walk
          c.requires.head c.requires.table.both_ways c.args.w
          (ap is_some (any_default c.args.self.now.found.items c.args.w None w.index.result.now (let wide = c.requires.walk.wide in let low = c.requires.within in omega arith)
          ∙ sym (ap (λ k. slice_index_or c.args.self.now.found.items k w.index.result.now) w.from-else-not-is_edge.ensures) ∙ sym w.index.ensures) ∙ sym w.is_some.ensures ∙ w.if-is_some.true) is_edge
    ]

pub one_further-requires : goal.one_further-requires
one_further-requires c =
    let at : c.index-u.result.now ≡ slice_index c.args.self.now.order.items c.args.head = c.index-u.ensures ∙ ap (λ k. slice_index_or c.args.self.now.order.items k c.index-u.result.now) c.from.ensures
    ∙ any_default c.args.self.now.order.items c.args.head c.index-u.result.now 0 c.requires.head in
    let here : slice_index_or c.args.self.now.found.items (slice_index c.args.self.now.order.items c.args.head) None ≡ Some c.in-Some.at =
    any_default c.args.self.now.found.items (slice_index c.args.self.now.order.items c.args.head) None c.index-2.result.now
    (let low = found_below c.args.self.now.found.items c.args.n (slice_index c.args.self.now.order.items c.args.head) c.requires.walk.wide (c.requires.walk.listed c.args.head c.requires.head) in
    let wide = c.requires.walk.wide in omega arith)
    ∙ sym (ap (λ k. slice_index_or c.args.self.now.found.items k c.index-2.result.now) (c.from-5.ensures ∙ at)) ∙ sym c.index-2.ensures ∙ c.in-Some.is in
    let far : distance_of c.args.self.now.found.items (slice_index c.args.self.now.order.items c.args.head) ≡ c.in-Some.at.distance = ap (λ o. option_map_or (λ p. p.distance) o 0) here in
    let short = c.requires.walk.short (slice_index c.args.self.now.order.items c.args.head) (c.requires.walk.listed c.args.head c.requires.head) in
    let most = order_within (edge_at c.args.n c.args.table.now) c.args.n c.args.head c.args.self.now.order.items c.args.self.now.found.items c.requires.walk in
    let fits : c.args.n < 65536 = c.ranges.n.fits in
    omega arith

pub returns-in-Some-clause-walk : goal.returns-in-Some-clause-walk
returns-in-Some-clause-walk c =
    let at : c.index-u.result.now ≡ slice_index c.args.self.now.order.items c.args.head = c.index-u.ensures ∙ ap (λ k. slice_index_or c.args.self.now.order.items k c.index-u.result.now) c.from.ensures
    ∙ any_default c.args.self.now.order.items c.args.head c.index-u.result.now 0 c.requires.head in
    let place : c.from-2.result * c.from-3.result + c.from-4.result ≡ slice_index c.args.self.now.order.items c.args.head * c.args.n + c.args.w = rw (c.from-2.ensures, c.from-3.ensures, c.from-4.ensures, at) refl in
    let here : slice_index_or c.args.self.now.found.items (slice_index c.args.self.now.order.items c.args.head) None ≡ Some c.in-Some.at =
    any_default c.args.self.now.found.items (slice_index c.args.self.now.order.items c.args.head) None c.index-2.result.now
    (let low = found_below c.args.self.now.found.items c.args.n (slice_index c.args.self.now.order.items c.args.head) c.requires.walk.wide (c.requires.walk.listed c.args.head c.requires.head) in
    let wide = c.requires.walk.wide in omega arith)
    ∙ sym (ap (λ k. slice_index_or c.args.self.now.found.items k c.index-2.result.now) (c.from-5.ensures ∙ at)) ∙ sym c.index-2.ensures ∙ c.in-Some.is in
    let missing : is_found c.args.self.now.found.items c.args.w ≡ false =
    ap is_some (any_default c.args.self.now.found.items c.args.w None c.index.result.now (let wide = c.requires.walk.wide in let low = c.requires.within in omega arith)
    ∙ sym (ap (λ k. slice_index_or c.args.self.now.found.items k c.index.result.now) c.from-else-not-is_edge.ensures) ∙ sym c.index.ensures) ∙ sym c.is_some.ensures ∙ c.if-is_some.false in
    let edge : edge_at c.args.n c.args.table.now (slice_index c.args.self.now.order.items c.args.head) c.args.w ≡ true = ap (λ k. slice_index_or c.args.table.now k false) (sym place) ∙ c.if-not-is_edge.false in
    let can = neighbour_can (edge_at c.args.n c.args.table.now) c.args.n c.args.head c.args.self.now.order.items c.args.self.now.found.items c.requires.walk c.requires.head c.args.w c.in-Some.at.root
    c.in-Some.at.distance missing edge here in
    on_ok c.put.result (λ set put.
    let one : IsOneMore c.args.self.now.order.items c.put.new.self.order.items c.args.self.now.found.items c.put.new.self.found.items c.args.w c.in-Some.at.root (c.in-Some.at.distance + 1) =
    record {
      missing = missing;
      within = (let wide = c.requires.walk.wide in let low = c.requires.within in omega arith);
      order_is = put;
      found_is = set ∙ ap (λ p. slice_set c.args.self.now.found.items c.args.w (Some p)) c.one_further.ensures;
    } in
    one_more (edge_at c.args.n c.args.table.now) c.args.n c.args.head one (let low = c.requires.head in omega arith) can c.requires.walk) c.put.ensures.found c.put.ensures.order
