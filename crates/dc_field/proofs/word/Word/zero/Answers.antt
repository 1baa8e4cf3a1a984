use Rattle.std.proofs.Common.{refl}
use Rattle.dc_spec.specs.Words.{word_of}
use Rattle.dc_field.proofs.word.Word.zero.Goals as goal

pub returns : goal.returns
unfolding word_of
returns c = refl
