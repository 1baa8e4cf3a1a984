use Rattle.std.proofs.Common.{sym, subst}
use Rattle.dc_frame.specs.Reader.{ReaderState, StandsFor}
use Rattle.dc_frame.proofs.Readers.{needed_is, whole_is}
use Rattle.dc_frame.proofs.reader.Reader.need.Goals as goal

pub returns-clause-needed : goal.returns-clause-needed
returns-clause-needed c = λ bytes taken stands.
    let r : ReaderState = record { start = c.self.inside.start; part = c.self.inside.part.items } in
    let now : StandsFor r bytes taken = subst (λ (r : ReaderState). StandsFor r bytes taken) (sym c.self.view_is) stands in
    rw (c.missing.ensures, c.as_slice.ensures.value) (needed_is r bytes taken c.self.invariant.one now)

pub returns-clause-whole : goal.returns-clause-whole
returns-clause-whole c = λ bytes taken stands.
    let r : ReaderState = record { start = c.self.inside.start; part = c.self.inside.part.items } in
    let now : StandsFor r bytes taken = subst (λ (r : ReaderState). StandsFor r bytes taken) (sym c.self.view_is) stands in
    rw (c.missing.ensures, c.as_slice.ensures.value) (whole_is r bytes taken c.self.invariant.one now)
