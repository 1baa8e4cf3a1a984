use Rattle.std.proofs.Common.{◌∙◌}
use Rattle.dc_station.proofs.SendingLemmas.{marking}
use Rattle.dc_station.proofs.words.mark_word.Goals as goal

pub returns : goal.returns
returns c = c.set.ensures ∙ rw (c.zero-word.ensures, c.one.ensures) (marking c.args.field c.requires)
