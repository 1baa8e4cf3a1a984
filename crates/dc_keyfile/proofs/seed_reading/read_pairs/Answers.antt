use Rattle.std.proofs.Common.{Ok, ◌∙◌, ap, sym, arith}
use Rattle.dc_keyfile.specs.SeedReading.{seed_pair_of}
use Rattle.dc_keyfile.proofs.AllRead.{one_more, refusal_is_first, pairs_are_read}
use Rattle.dc_keyfile.proofs.seed_reading.read_pairs.Goals as goal

pub returns-in_err-read_pair : goal.returns-in_err-read_pair
returns-in_err-read_pair c =
    refusal_is_first (seed_pair_of c.args.b.now c.args.stations) c.args.count c.loop-place.place _ _ c.from_residual-in_err-read_pair.result
    (omega arith) c.loop-place.invariant c.in_err-read_pair.ensures c.from_residual-in_err-read_pair.ensures.1

pub loop-place-preserved : goal.loop-place-preserved
loop-place-preserved c =
    one_more (seed_pair_of c.args.b.now c.args.stations) c.loop-place.place _ _ _ c.loop-place.invariant c.in_ok-read_pair.ensures c.in_ok-push.ensures.items

pub returns : goal.returns
returns c = pairs_are_read (seed_pair_of c.args.b.now c.args.stations) c.args.count c.loop-place.place _ (omega arith) c.loop-place.invariant ∙ ap Ok (sym c.from_vec.ensures)
