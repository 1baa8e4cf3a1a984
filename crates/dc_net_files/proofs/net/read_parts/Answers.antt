use Rattle.std.proofs.Common.{◌∙◌, ap, sym}
use Rattle.dc_manifest.specs.Content.{Content}
use Rattle.dc_net_files.specs.Parts.{net_of}
use Rattle.dc_net_files.proofs.EndedLemmas.{Ended-error}
use Rattle.dc_net_files.proofs.PartsLemmas.{manifest-stops, keys-stop, keys-read, streams-stop, streams-read, script-stops, all-read}
use Rattle.dc_net_files.proofs.net.read_parts.Goals as goal

pub returns-in_err-manifest-clause-ended : goal.returns-in_err-manifest-clause-ended
returns-in_err-manifest-clause-ended g c =
    Ended-error _ _ _ _ _ c.from_residual.ensures.1 (manifest-stops _ _ _ _ c.in_err-manifest.ensures.ended)

pub returns-in_err-keys-clause-ended : goal.returns-in_err-keys-clause-ended
returns-in_err-keys-clause-ended g c =
    Ended-error _ _ _ _ _ c.from_residual-in_err-keys.ensures.1
    (keys-stop _ c.in_ok-manifest.manifest _ _ _ _ _ (record { ended = c.in_ok-manifest.ensures.ended })
    (c.as_str.ensures ∙ ap (λ (m : Content). m.keys) c.manifest.view_is) c.in_err-keys.ensures)

pub returns-in_err-streams-clause-ended : goal.returns-in_err-streams-clause-ended
returns-in_err-streams-clause-ended g c =
    Ended-error _ _ _ _ _ c.from_residual-in_err-streams.ensures.1
    (streams-stop _ c.in_ok-manifest.manifest c.in_ok-keys.keys _ _ _ _ _
    (keys-read _ c.in_ok-manifest.manifest _ _ _ _ _ (record { ended = c.in_ok-manifest.ensures.ended })
    (c.as_str.ensures ∙ ap (λ (m : Content). m.keys) c.manifest.view_is) c.in_ok-keys.ensures)
    (c.as_slice.ensures ∙ ap (λ (m : Content). m.streams) c.manifest.view_is) c.in_err-streams.ensures.ended)

pub returns-in_err-script-clause-ended : goal.returns-in_err-script-clause-ended
returns-in_err-script-clause-ended g c =
    Ended-error _ _ _ _ _ c.from_residual-in_err-script.ensures.1
    (script-stops _ c.in_ok-manifest.manifest c.in_ok-keys.keys c.in_ok-streams.streams _ _ _ _
    (streams-read _ c.in_ok-manifest.manifest c.in_ok-keys.keys _ _ _ _ _
    (keys-read _ c.in_ok-manifest.manifest _ _ _ _ _ (record { ended = c.in_ok-manifest.ensures.ended })
    (c.as_str.ensures ∙ ap (λ (m : Content). m.keys) c.manifest.view_is) c.in_ok-keys.ensures)
    (c.as_slice.ensures ∙ ap (λ (m : Content). m.streams) c.manifest.view_is) c.in_ok-streams.ensures.ended)
    c.in_err-script.ensures)

pub returns-clause-ended : goal.returns-clause-ended
returns-clause-ended g c =
    all-read _ c.in_ok-manifest.manifest c.in_ok-keys.keys c.in_ok-streams.streams c.in_ok-script.script _ _ _ _
    (streams-read _ c.in_ok-manifest.manifest c.in_ok-keys.keys _ _ _ _ _
    (keys-read _ c.in_ok-manifest.manifest _ _ _ _ _ (record { ended = c.in_ok-manifest.ensures.ended })
    (c.as_str.ensures ∙ ap (λ (m : Content). m.keys) c.manifest.view_is) c.in_ok-keys.ensures)
    (c.as_slice.ensures ∙ ap (λ (m : Content). m.streams) c.manifest.view_is) c.in_ok-streams.ensures.ended)
    c.in_ok-script.ensures (ap (λ (m : Content). net_of m c.in_ok-keys.keys c.in_ok-streams.streams c.in_ok-script.script) (sym c.manifest.view_is))
