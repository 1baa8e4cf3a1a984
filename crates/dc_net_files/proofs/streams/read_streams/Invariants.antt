use Rattle.dc_net_files.proofs.StreamLemmas.{StreamsRead}
use Rattle.dc_net_files.proofs.streams.read_streams.Given as goal

abbrev pub invariant-loop-name : goal.invariant-loop-name
invariant-loop-name g l =
    StreamsRead l.names l.name-index l.streams.items (g.F.Shelf.state l.fn.shelf) (g.F.Shelf.state l.shelf)
