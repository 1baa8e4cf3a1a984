use Rattle.dc_net_files.specs.Parts.{parts_step, agreed, net_step}
use Rattle.dc_net_files.proofs.EndedLemmas.{Ended-error, Ended-first}
use Rattle.dc_net_files.proofs.NetLemmas.{Ended-agreed}
use Rattle.dc_net_files.proofs.SettledLemmas.{Ended-settled}
use Rattle.dc_net_files.proofs.net.read_net.Goals as goal

pub returns-in_err-net-clause-read : goal.returns-in_err-net-clause-read
returns-in_err-net-clause-read g c =
    Ended-error _ _ _ _ _ c.from_residual.ensures.1 (Ended-first (parts_step c.args.name.now) agreed _ _ _ c.in_err-net.ensures.ended)

pub returns-in_err-net-clause-settled : goal.returns-in_err-net-clause-settled
returns-in_err-net-clause-settled g c =
    Ended-settled (net_step c.args.name.now) _ _ _
    (Ended-error _ _ _ _ _ c.from_residual.ensures.1 (Ended-first (parts_step c.args.name.now) agreed _ _ _ c.in_err-net.ensures.ended))

pub returns-clause-read : goal.returns-clause-read
returns-clause-read g c = Ended-agreed _ _ _ _ _ c.in_ok-net.ensures.ended c.agreed.ensures

pub returns-clause-settled : goal.returns-clause-settled
returns-clause-settled g c =
    Ended-settled (net_step c.args.name.now) _ _ _ (Ended-agreed _ _ _ _ _ c.in_ok-net.ensures.ended c.agreed.ensures)
