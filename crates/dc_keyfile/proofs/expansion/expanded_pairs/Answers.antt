use Rattle.std.proofs.Common.{ℕ, List, ◌*◌, length, take, drop, refl, ap, sym, ◌∙◌, arith}
use Rattle.std.proofs.lemmas.List.{get_or_read_under}
use Rattle.dc_keyfile.specs.Generator.{pieces_of, no_seed}
use Rattle.dc_keyfile.proofs.Expanded.{pieces_enough, pieces_there}
use Rattle.dc_keyfile.proofs.expansion.expanded_pairs.Goals as goal

pub pieces_at-own-requires : goal.pieces_at-own-requires
pieces_at-own-requires c = pieces_enough c.args.seeded.now c.args.words c.loop-place.place c.args.pieces.now (omega arith) c.requires.pieces

pub expanded_pair-requires-clause-pieces : goal.expanded_pair-requires-clause-pieces
expanded_pair-requires-clause-pieces c =
    c.pieces_at-own.ensures ∙ ap (λ (ps : List (List ℕ)). take (2 * c.args.words) (drop (2 * c.args.words * c.loop-place.place) ps)) c.requires.pieces
    ∙ pieces_there c.args.seeded.now c.args.words c.loop-place.place (omega arith)
    ∙ ap (pieces_of c.args.words) (sym (get_or_read_under c.args.seeded.now c.loop-place.place
    (length c.args.seeded.now) c.index-seeded-place.result no_seed c.index-seeded-place.is c.loop-place-test.true refl))
