use Rattle.dc_field.proofs.WordBytes.{written_back}
use Rattle.dc_field.proofs.word_from_bytes.read_word_bytes.Goals as goal

pub returns-clause-written : goal.returns-clause-written
returns-clause-written c = written_back c.read_word.result c.args.b.now c.told-b c.fits-b c.read_word.ensures
