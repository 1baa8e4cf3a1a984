use Rattle.std.proofs.Common.{ap, sym, ◌∙◌}
use Rattle.dc_manifest.specs.Content.{Content}
use Rattle.dc_script.specs.Quiet.{quiet_script}
use Rattle.dc_net_files.proofs.StreamLemmas.{script-quiet}
use Rattle.dc_net_files.proofs.parts.read_net_script.Goals as goal

pub returns-in-Ok : goal.returns-in-Ok
returns-in-Ok g c =
    script-quiet c.args.manifest.now _ _ (ap (λ (m : Content). m.script) (sym c.manifest.view_is) ∙ c.in-None.is)
    (c.in-Ok.ensures ∙ ap (λ (m : Content). quiet_script m.coalition m.words) c.manifest.view_is)
