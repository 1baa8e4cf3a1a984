use Rattle.std.proofs.Common.{◌≡◌, ◌∙◌, ap, arith, map}
use Rattle.std.proofs.lemmas.Grind.{common_steps}
use Rattle.dc_spec.specs.Scripts.{Said}
use Rattle.dc_spec.specs.Lists.{is_among}
use Rattle.dc_script.specs.Quiet.{silent}
use Rattle.dc_script.proofs.Members.{zero_words_more, members_kept}
use Rattle.dc_script.proofs.quiet_script.zero_words.Goals as goal

pub loop-station-preserved : goal.loop-station-preserved
loop-station-preserved c = grind (arith, common_steps, zero_words_more {Y = Said} silent (is_among c.args.c.now) c.loop-station.station)

pub returns : goal.returns
returns c =
    let all : c.loop-station.station ≡ c.args.n = omega arith in
    c.loop-station.invariant ∙ rw all (ap (map {B = Said} silent) (members_kept c.args.c.now c.args.n c.note_members.ensures.rising c.requires))
