use Rattle.std.proofs.Common.{◌≡◌, Ok, Some, sym, ap, subst, ◌∙◌}
use Rattle.dc_frame.specs.Frames.{frame_of}
use Rattle.dc_frame.specs.Reading.{first}
use Rattle.dc_frame.specs.Reader.{ReaderState, StandsFor}
use Rattle.dc_frame.proofs.Readers.{taken_frame, no_frame, after_take}
use Rattle.dc_frame.proofs.reader.Reader.take.Goals as goal

pub invariant_of-self : goal.invariant_of-self
unfolding first
invariant_of-self c = rw c.clear.ensures (record { one = tt })

pub returns-in-Some-clause-frame : goal.returns-in-Some-clause-frame
returns-in-Some-clause-frame c = λ bytes taken stands.
    let r : ReaderState = record { start = c.self.inside.start; part = c.self.inside.part.items } in
    let now : StandsFor r bytes taken = subst (λ (r : ReaderState). StandsFor r bytes taken) (sym c.self.view_is) stands in
    let found : first r.part ≡ Ok (Some (frame_of c.in-Some.frame)) = sym (c.in-Some.ensures ∙ ap first c.as_slice.ensures.value) in
    taken_frame r bytes taken (frame_of c.in-Some.frame) found c.self.invariant.one now

pub returns-in-Some-clause-stands : goal.returns-in-Some-clause-stands
returns-in-Some-clause-stands c = λ bytes taken stands.
    let r : ReaderState = record { start = c.self.inside.start; part = c.self.inside.part.items } in
    let now : StandsFor r bytes taken = subst (λ (r : ReaderState). StandsFor r bytes taken) (sym c.self.view_is) stands in
    let found : first r.part ≡ Ok (Some (frame_of c.in-Some.frame)) = sym (c.in-Some.ensures ∙ ap first c.as_slice.ensures.value) in
    rw (c.clear.ensures, c.fed-self-inside.ensures.value, ← c.self.view_is) (after_take r bytes taken (frame_of c.in-Some.frame) found c.self.invariant.one now)

pub returns-in-None-clause-frame : goal.returns-in-None-clause-frame
returns-in-None-clause-frame c = λ bytes taken stands.
    let r : ReaderState = record { start = c.self.inside.start; part = c.self.inside.part.items } in
    let now : StandsFor r bytes taken = subst (λ (r : ReaderState). StandsFor r bytes taken) (sym c.self.view_is) stands in
    no_frame r bytes taken (sym (c.in-None.ensures ∙ ap first c.as_slice.ensures.value)) now
