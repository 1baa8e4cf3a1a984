use Rattle.std.proofs.Common.{◌≡◌, ℕ, ◌*◌, ◌<◌, ◌≤◌, ◌-◌, ◌∙◌, length, map, ap, arith}
use Rattle.std.specs.List.{range_with_len}
use Rattle.std.proofs.lemmas.Slice.Zip.{AllZip-map}
use Rattle.rayon.specs.Numbers.{nat_range}
use Rattle.rayon.proofs.ToStd.{nat_range-All}
use Rattle.dc_keyfile.specs.Generator.{piece_of}
use Rattle.dc_keyfile.proofs.expansion.all_pieces.Goals as goal

pub collect-requires-clause-ready : goal.collect-requires-clause-ready
collect-requires-clause-ready g c κs within =
    let ends = c.into_par_iter.ensures in
    let end = ends.1 ∙ ap (λ (w : ℕ). length c.args.pairs.now * (2 * w)) c.from.ensures in
    let inside = nat_range-All (λ i. (c.args.words ≤ 4096) × (i < length c.args.pairs.now * (2 * c.args.words))) 0 (length c.args.pairs.now * (2 * c.args.words)) (λ i low high.
    (c.requires.most_words, high)) in
    rw (c.map.ensures.base, c.map.ensures.f, ends.0, end) (λ k d lt. (inside k d lt, λ y p. tt))

pub returns : goal.returns
returns g c =
    let ends = c.into_par_iter.ensures in
    let end = ends.1 ∙ ap (λ (w : ℕ). length c.args.pairs.now * (2 * w)) c.from.ensures in
    let n : ℕ = length c.args.pairs.now * (2 * c.args.words) in
    let whole : length c.args.pairs.now * (2 * c.args.words) - 0 ≡ length c.args.pairs.now * (2 * c.args.words) = omega arith in
    let h = c.in_ok-pieces.ensures in
    let chain = rw (c.map.ensures.base, c.map.ensures.f) at h.1 in
    let places = chain.1 ∙ (λ i. nat_range (ends.0 i) (end i)) ∙ ap (range_with_len 0) whole in
    h.2 ∙ AllZip-map (piece_of c.args.pairs.now c.args.words) chain.0 h.0 chain.2 ∙ ap (map (piece_of c.args.pairs.now c.args.words)) places
