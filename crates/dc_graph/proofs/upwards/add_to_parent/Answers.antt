use Rattle.std.proofs.Common.{◌≡◌, ◌∙◌, Some, None, false, slice_index_or, length, arith, ap, sym}
use Rattle.std.proofs.lemmas.List.{get_or-map}
use Rattle.dc_graph.specs.declared.place.Place.{Place}
use Rattle.dc_graph.specs.Forest.{parents_in}
use Rattle.dc_graph.proofs.upwards.add_to_parent.Goals as goal

pub bounds-words-from : goal.bounds-words-from
bounds-words-from c =
    let blank : Place = record { is_member = false; root = 0; parent = None } in
    let up : slice_index_or (parents_in c.args.places.now) c.args.v None ≡ Some c.in-Some.u =
    get_or-map (λ p. p.parent) c.args.places.now c.args.v blank None c.requires.station ∙ ap (λ k. (slice_index_or c.args.places.now k blank).parent) (sym c.from.ensures) ∙ c.in-Some.is in
    let low = c.requires.parents c.args.v c.in-Some.u up in
    let count = c.requires.count in
    let same = ap length c.as_slice-words.ensures in
    let at = c.from-in-Some.ensures in
    omega arith

pub set-requires : goal.set-requires
set-requires c =
    let blank : Place = record { is_member = false; root = 0; parent = None } in
    let up : slice_index_or (parents_in c.args.places.now) c.args.v None ≡ Some c.in-Some.u =
    get_or-map (λ p. p.parent) c.args.places.now c.args.v blank None c.requires.station ∙ ap (λ k. (slice_index_or c.args.places.now k blank).parent) (sym c.from.ensures) ∙ c.in-Some.is in
    let low = c.requires.parents c.args.v c.in-Some.u up in
    let count = c.requires.count in
    let at = c.from-in-Some-3.ensures in
    omega arith
