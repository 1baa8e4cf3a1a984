use Rattle.std.proofs.Common.{◌≡◌, ◌*◌, sym, subst, ap, ◌∙◌, arith}
use Rattle.std.proofs.lemmas.List.Elements.{All-same}
use Rattle.dc_spec.specs.Words.{IsSymbol}
use Rattle.dc_spec.specs.Pads.{SeedPair}
use Rattle.dc_keys.specs.Pads.{IsPairKey}
use Rattle.dc_keyfile.specs.Generator.{expanded_pair}
use Rattle.dc_keyfile.proofs.Generated.{the_pair, IsPairKey-generated_pair, first_symbols, second_symbols}
use Rattle.dc_keyfile.proofs.Expanded.{length-pieces, length-second, first_half, second_half}
use Rattle.dc_keyfile.proofs.expansion.expanded_pair.Goals as goal

pub split_at-requires : goal.split_at-requires
split_at-requires c = omega (arith, length-pieces c.args.pair.now c.args.words c.args.pieces.now c.requires.pieces, c.from.ensures)

pub joined-requires-2 : goal.joined-requires-2
joined-requires-2 c = omega (arith, length-pieces c.args.pair.now c.args.words c.args.pieces.now c.requires.pieces, c.from.ensures, c.split_at.ensures.back_len)

pub index_mut-requires : goal.index_mut-requires
index_mut-requires c =
    let long = length-second c.args.pair.now c.args.words c.from.result c.args.pieces.now c.split_at.result.1.now c.in_ok-b.b.items
    c.requires.pieces c.split_at.ensures.back c.from.ensures c.in_ok-b.ensures in
    omega (arith, long, c.requires.some_words)

pub from_vec-requires : goal.from_vec-requires
from_vec-requires c =
    All-same IsSymbol _ _ (first_half c.args.pair.now c.args.words c.from.result c.args.pieces.now c.split_at.result.0.now c.in_ok-a.a.items
    c.requires.pieces c.split_at.ensures.front c.from.ensures c.in_ok-a.ensures)
    (first_symbols c.args.pair.now.seed (16 * c.args.words) (c.args.pair.now.u, c.args.pair.now.v))

pub from_vec-requires-2 : goal.from_vec-requires-2
from_vec-requires-2 c =
    All-same IsSymbol _ _ (second_half c.args.pair.now c.args.words c.from.result c.args.pieces.now c.split_at.result.1.now c.in_ok-b.b.items
    c.requires.some_words c.requires.pieces c.split_at.ensures.back c.from.ensures c.in_ok-b.ensures)
    (second_symbols c.args.pair.now.seed (16 * c.args.words) (c.args.pair.now.u, c.args.pair.now.v))

-- the pads are the generated ones
made : (c : goal.After-from_vec-2) → the_pair (c.pair.inside.u, c.pair.inside.v) c.from_vec.result c.from_vec-2.result ≡ expanded_pair (16 * c.args.words) c.args.pair.now
made c =
    let u = ap (λ (p : SeedPair). p.u) c.pair.view_is in
    let v = ap (λ (p : SeedPair). p.v) c.pair.view_is in
    let first = c.from_vec.ensures ∙ first_half c.args.pair.now c.args.words c.from.result c.args.pieces.now c.split_at.result.0.now c.in_ok-a.a.items
    c.requires.pieces c.split_at.ensures.front c.from.ensures c.in_ok-a.ensures in
    let second = c.from_vec-2.ensures ∙ second_half c.args.pair.now c.args.words c.from.result c.args.pieces.now c.split_at.result.1.now c.in_ok-b.b.items
    c.requires.some_words c.requires.pieces c.split_at.ensures.back c.from.ensures c.in_ok-b.ensures in
    λ i. record { u = u i; v = v i; a = first i; b = second i }

pub invariant_of-result : goal.invariant_of-result
invariant_of-result c = subst IsPairKey (sym (made c)) (IsPairKey-generated_pair c.args.pair.now.seed c.args.words
    (c.args.pair.now.u, c.args.pair.now.v) c.requires.some_words c.requires.most_words)

pub returns : goal.returns
returns c = made c
