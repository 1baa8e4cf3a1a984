use Rattle.dc_frame.proofs.WrittenFrames.{written_read}
use Rattle.dc_frame.proofs.laws.frames_are_read.Goals as goal

pub returns : goal.returns
returns c = λ frames are. written_read c.bytes_spell_words.ensures.words c.bytes_spell_words.ensures.numbers 0 frames are
