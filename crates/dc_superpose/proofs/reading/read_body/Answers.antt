use Rattle.std.proofs.Common.{◌*◌}
use Rattle.dc_superpose.proofs.Symbols.{words_read, length-words_at, AreWords-words_at}
use Rattle.dc_superpose.proofs.reading.read_body.Goals as goal

pub invariant_of-result : goal.invariant_of-result
invariant_of-result c =
    let read = words_read c.args.b.now (c.args.sizes.rounds * c.args.sizes.stations) c.in_ok-words.words c.in_ok-words.ensures in
    record {
      some_stations = c.requires.some_stations;
      most_stations = c.requires.most_stations;
      some_rounds = c.requires.some_rounds;
      most_rounds = c.requires.most_rounds;
      count = rw read.0 (length-words_at c.args.b.now (c.args.sizes.rounds * c.args.sizes.stations));
      are_words = rw read.0 (AreWords-words_at c.args.b.now (c.args.sizes.rounds * c.args.sizes.stations) read.1);
    }
