use Rattle.std.proofs.Common.{◌≡◌, ◌∙◌, length, map, sym, ap, subst}
use Rattle.std.proofs.lemmas.List.FromFn.{length-map-range_with_len}
use Rattle.std.specs.List.{range_with_len}
use Rattle.dc_spec.specs.Lists.{is_among}
use Rattle.dc_graph.specs.Graph.{with_coalition}
use Rattle.dc_graph.specs.Walk.{edge_at, IsEdgeTable, IsTableOf, IsWalk}
use Rattle.dc_graph.specs.Forest.{IsForestOf, place_found}
use Rattle.dc_graph.proofs.ForestProofs.{IsMade, edge_table_of, forest_made, order_made, stations_of_forest}
use Rattle.dc_graph.proofs.forest.Forest.of.Goals as goal

pub honest_edges-requires : goal.honest_edges-requires
honest_edges-requires c = ap length c.deref.ensures.value ∙ ap length c.in_ok-members.ensures ∙ length-map-range_with_len (is_among c.args.c.now) 0 c.stations-n.result ∙ c.stations-n.ensures.value

pub of-requires : goal.of-requires
of-requires c =
    let flags : c.deref.result.now ≡ map (is_among c.args.c.now) (range_with_len 0 c.args.g.now.stations) =
    c.deref.ensures.value ∙ c.in_ok-members.ensures ∙ ap (λ m. map (is_among c.args.c.now) (range_with_len 0 m)) c.stations-n.ensures.value in
    let table_of : IsTableOf (with_coalition c.args.g.now c.args.c.now) c.in_ok-table.table.items = c.in_ok-table.ensures c.args.c.now flags in
    subst (λ t. IsEdgeTable c.stations-n.result t) (sym c.deref-2.ensures.value)
    (edge_table_of (with_coalition c.args.g.now c.args.c.now) c.stations-n.result c.in_ok-table.table.items c.stations-n.ensures.value table_of)

pub places-requires-clause-members : goal.places-requires-clause-members
places-requires-clause-members c = ap length c.deref-3.ensures.value ∙ ap length c.in_ok-members.ensures ∙ length-map-range_with_len (is_among c.args.c.now) 0 c.stations-n.result

pub invariant_of-result : goal.invariant_of-result
invariant_of-result c =
    let flags : c.deref.result.now ≡ map (is_among c.args.c.now) (range_with_len 0 c.args.g.now.stations) =
    c.deref.ensures.value ∙ c.in_ok-members.ensures ∙ ap (λ m. map (is_among c.args.c.now) (range_with_len 0 m)) c.stations-n.ensures.value in
    let table_of : IsTableOf (with_coalition c.args.g.now c.args.c.now) c.in_ok-table.table.items = c.in_ok-table.ensures c.args.c.now flags in
    let made : IsMade c.args.g.now c.args.c.now c.stations-n.result c.in_ok-table.table.items c.in_ok-walk.walk.order.items c.in_ok-walk.walk.found.items = record {
      graph = c.stations-n.ensures.graph;
      same = c.stations-n.ensures.value;
      table_of = table_of;
      walk = subst (λ t. IsWalk (edge_at c.stations-n.result t) c.stations-n.result c.stations-n.result c.in_ok-walk.walk.order.items c.in_ok-walk.walk.found.items) c.deref-2.ensures.value c.in_ok-walk.ensures.walk;
      whole = c.in_ok-walk.ensures.whole;
    } in
    let made_so : c.in_ok-places.places.items ≡ map (place_found c.stations-n.result c.in_ok-members.members.items c.in_ok-table.table.items c.in_ok-walk.walk.found.items) (range_with_len 0 c.stations-n.result) =
    c.in_ok-places.ensures
    ∙ ap (λ ms. map (place_found c.stations-n.result ms c.deref-4.result.now c.deref-5.result.now) (range_with_len 0 c.stations-n.result)) c.deref-3.ensures.value
    ∙ ap (λ t. map (place_found c.stations-n.result c.in_ok-members.members.items t c.deref-5.result.now) (range_with_len 0 c.stations-n.result)) c.deref-4.ensures.value
    ∙ ap (λ f. map (place_found c.stations-n.result c.in_ok-members.members.items c.in_ok-table.table.items f) (range_with_len 0 c.stations-n.result)) c.deref-5.ensures.value in
    let is : IsForestOf (with_coalition c.args.g.now c.args.c.now) c.in_ok-places.places.items = forest_made c.args.g.now c.args.c.now c.stations-n.result c.in_ok-members.members.items c.in_ok-table.table.items
    c.in_ok-walk.walk.order.items c.in_ok-walk.walk.found.items c.in_ok-places.places.items made c.in_ok-members.ensures made_so in
    order_made c.args.g.now c.args.c.now c.stations-n.result c.in_ok-table.table.items c.in_ok-walk.walk.order.items c.in_ok-walk.walk.found.items c.in_ok-places.places.items made is

pub returns : goal.returns
returns c =
    let flags : c.deref.result.now ≡ map (is_among c.args.c.now) (range_with_len 0 c.args.g.now.stations) =
    c.deref.ensures.value ∙ c.in_ok-members.ensures ∙ ap (λ m. map (is_among c.args.c.now) (range_with_len 0 m)) c.stations-n.ensures.value in
    let table_of : IsTableOf (with_coalition c.args.g.now c.args.c.now) c.in_ok-table.table.items = c.in_ok-table.ensures c.args.c.now flags in
    let made : IsMade c.args.g.now c.args.c.now c.stations-n.result c.in_ok-table.table.items c.in_ok-walk.walk.order.items c.in_ok-walk.walk.found.items = record {
      graph = c.stations-n.ensures.graph;
      same = c.stations-n.ensures.value;
      table_of = table_of;
      walk = subst (λ t. IsWalk (edge_at c.stations-n.result t) c.stations-n.result c.stations-n.result c.in_ok-walk.walk.order.items c.in_ok-walk.walk.found.items) c.deref-2.ensures.value c.in_ok-walk.ensures.walk;
      whole = c.in_ok-walk.ensures.whole;
    } in
    let made_so : c.in_ok-places.places.items ≡ map (place_found c.stations-n.result c.in_ok-members.members.items c.in_ok-table.table.items c.in_ok-walk.walk.found.items) (range_with_len 0 c.stations-n.result) =
    c.in_ok-places.ensures
    ∙ ap (λ ms. map (place_found c.stations-n.result ms c.deref-4.result.now c.deref-5.result.now) (range_with_len 0 c.stations-n.result)) c.deref-3.ensures.value
    ∙ ap (λ t. map (place_found c.stations-n.result c.in_ok-members.members.items t c.deref-5.result.now) (range_with_len 0 c.stations-n.result)) c.deref-4.ensures.value
    ∙ ap (λ f. map (place_found c.stations-n.result c.in_ok-members.members.items c.in_ok-table.table.items f) (range_with_len 0 c.stations-n.result)) c.deref-5.ensures.value in
    let is : IsForestOf (with_coalition c.args.g.now c.args.c.now) c.in_ok-places.places.items = forest_made c.args.g.now c.args.c.now c.stations-n.result c.in_ok-members.members.items c.in_ok-table.table.items
    c.in_ok-walk.walk.order.items c.in_ok-walk.walk.found.items c.in_ok-places.places.items made c.in_ok-members.ensures made_so in
    record { forest = is; stations = stations_of_forest (with_coalition c.args.g.now c.args.c.now) c.in_ok-places.places.items is }
