use Rattle.std.proofs.Common.{◌+◌, ◌*◌, length, ◌∙◌, arith}
use Rattle.dc_fast_keys.proofs.RowLemmas.{row_within}
use Rattle.dc_fast_keys.proofs.CarryLemmas.{put_here, symbols-put}
use Rattle.dc_fast_keys.proofs.table.write_part.Goals as goal

pub returns-clause-written : goal.returns-clause-written
returns-clause-written c = λ s l lt low.
    let inside = row_within (length c.args.words.now) l 16 s lt low in
    put_here c.args.at _ (length c.args.words.now * l + s) c.args.rows.now c.write_words.new.rows (omega arith) (omega arith) ∙ c.write_words.ensures.written s l lt low

pub returns-clause-symbols : goal.returns-clause-symbols
returns-clause-symbols c = symbols-put c.args.at _ c.args.rows.now c.write_words.new.rows c.requires.symbols c.write_words.ensures.symbols
