use Rattle.std.proofs.Common.{◌≡◌, subst, ap, ◌∙◌, rules}
use Rattle.dc_spec.specs.Recorded.{IsRecorded, transcript_bytes}
use Rattle.dc_superpose.specs.Reading.{transcript_of}
use Rattle.dc_superpose.proofs.Spelling.{transcript_again}
use Rattle.dc_superpose.proofs.writing.transcript_bytes.Goals as goal

pub returns-clause-read : goal.returns-clause-read
returns-clause-read c =
    let written : c.from_vec.result ≡ transcript_bytes c.args.t.now = search rules in
    ap transcript_of written ∙ transcript_again c.args.t.now (subst IsRecorded c.t.view_is c.t.invariant)
