use Rattle.std.proofs.Common.{◌≡◌, ◌+◌, ◌*◌, ℕ, subst, arith}
use Rattle.dc_superpose.specs.Pieces.{FirstAreSymbols}
use Rattle.dc_superpose.proofs.Symbols.{words_are_read}
use Rattle.dc_superpose.proofs.reading.read_words.Goals as goal

pub fill_words-requires-clause-good : goal.fill_words-requires-clause-good
fill_words-requires-clause-good c = record { small = λ s lt. absurd (omega arith) }

pub returns-in-Ok : goal.returns-in-Ok
returns-in-Ok c =
    let all : 0 + c.args.count ≡ c.args.count = omega arith in
    let good : FirstAreSymbols c.args.b.now (16 * c.args.count) = subst (λ (n : ℕ). FirstAreSymbols c.args.b.now (16 * n)) all c.in-Ok.ensures.words.1 in
    rw (c.from_vec.ensures, c.in-Ok.ensures.words.0) (words_are_read c.args.b.now c.args.count good)

pub returns-in-Err : goal.returns-in-Err
returns-in-Err c = c.in-Err.ensures.words c.args.count (omega arith)
