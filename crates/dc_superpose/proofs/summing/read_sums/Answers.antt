use Rattle.std.proofs.Common.{◌≡◌, ℕ, List, refl, Result, Ok, Err, subst, ap, ◌∙◌, arith}
use Rattle.dc_spec.specs.Recorded.{Recorded, superposed}
use Rattle.dc_spec.proofs.ByteLemmas.{IsBytes}
use Rattle.dc_field.specs.declared.refusal.Refusal.{Refusal}
use Rattle.dc_field.specs.declared.refusal.Refusal.TheVariants.{NoMemory, Bad}
use Rattle.dc_field.specs.Answers.{Answers}
use Rattle.dc_superpose.specs.declared.fault.TranscriptFault.{TranscriptFault}
use Rattle.dc_superpose.specs.Reading.{transcript_of}
use Rattle.dc_superpose.specs.Sizes.{sums_of, GivesSums}
use Rattle.dc_superpose.proofs.Spelling.{transcript_read, transcript_again}
use Rattle.dc_superpose.proofs.summing.read_sums.Goals as goal

-- what the sums of what is read say of the bytes
gives : (b : List ℕ) (read : Result Recorded TranscriptFault) (result : Result (List (List ℕ)) (Refusal TranscriptFault)) → IsBytes b → transcript_of b ≡ read
    → Answers result (sums_of read) → GivesSums b result
gives b read (Err NoMemory) fits e due = tt
gives b (Ok t) (Ok words) fits e due =
    let found = transcript_read b t fits e in
    let same : words ≡ superposed t = cc in
    (t, found.0, found.1, e, same)
gives b (Ok t) (Err (Bad fault)) fits e due = absurd cc
gives b (Err seen) (Ok words) fits e due = absurd cc
gives b (Err seen) (Err (Bad fault)) fits e due = let same : seen ≡ fault = cc in rw same at e

pub returns-clause-sums : goal.returns-clause-sums
returns-clause-sums c = gives c.args.b.now (transcript_of c.args.b.now) c.sum_in_order.result (λ i. omega (arith, c.type_inv.b i)) refl c.sum_in_order.ensures

pub returns-clause-only : goal.returns-clause-only
returns-clause-only c = λ t is e. subst (λ read. Answers c.sum_in_order.result (sums_of read)) (ap transcript_of e ∙ transcript_again t is) c.sum_in_order.ensures
