use Rattle.std.proofs.lemmas.Result.{err_from_is_err_and}
use Rattle.dc_live.proofs.ServedLemmas.{serves_as, asks_nothing, Serves-asked, Serves-over, Serves-complete}
use Rattle.dc_live.proofs.serving.serve.Goals as goal

pub returns-in_err-core-clause-asked : goal.returns-in_err-core-clause-asked
returns-in_err-core-clause-asked g c =
    let p = err_from_is_err_and c.from_residual-in_err-core.result c.from_residual-in_err-core.ensures.1 in
    rw p.1 (asks_nothing c.args.addr.now c.args.stations (g.W.Wire.state c.args.wire.now) p.0)

pub returns-clause-asked : goal.returns-clause-asked
returns-clause-asked g c =
    Serves-asked c.args.addr.now c.args.stations c.args.words (g.W.Wire.state c.args.wire.now) (g.W.Wire.state c.serve_with.new.wire) c.serve_with.result
    (serves_as c.args.addr.now (g.W.Wire.state c.args.wire.now) (g.W.Wire.state c.serve_with.new.wire) c.serve_with.result (c.in_ok-seats.ensures).free c.serve_with.ensures)

pub returns-clause-over : goal.returns-clause-over
returns-clause-over g c =
    Serves-over c.args.addr.now c.args.stations c.args.words (g.W.Wire.state c.args.wire.now) (g.W.Wire.state c.serve_with.new.wire) c.serve_with.result
    (serves_as c.args.addr.now (g.W.Wire.state c.args.wire.now) (g.W.Wire.state c.serve_with.new.wire) c.serve_with.result (c.in_ok-seats.ensures).free c.serve_with.ensures)

pub returns-clause-complete : goal.returns-clause-complete
returns-clause-complete g c =
    Serves-complete c.args.addr.now c.args.stations c.args.words (g.W.Wire.state c.args.wire.now) (g.W.Wire.state c.serve_with.new.wire) c.serve_with.result
    (serves_as c.args.addr.now (g.W.Wire.state c.args.wire.now) (g.W.Wire.state c.serve_with.new.wire) c.serve_with.result (c.in_ok-seats.ensures).free c.serve_with.ensures)
