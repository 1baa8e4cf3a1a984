use Rattle.dc_live.proofs.ServeLemmas.{unfit_next}
use Rattle.dc_live.proofs.serving.greet_next.Goals as goal

pub returns-in-Err-greet : goal.returns-in-Err-greet
returns-in-Err-greet g c = unfit_next c.in-Ok.peer c.in-Err-greet.cause c.requires.peers (c.in-Ok.ensures) (c.in-Err-greet.ensures)
