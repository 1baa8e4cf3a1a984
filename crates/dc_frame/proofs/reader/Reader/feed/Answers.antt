use Rattle.std.proofs.Common.{◌≡◌, ◌≤◌, ◌++◌, Ok, Err, length, option_map, sym, ap, subst, ◌∙◌}
use Rattle.dc_frame.specs.Frames.{frame_of}
use Rattle.dc_frame.specs.Reading.{first, missing}
use Rattle.dc_frame.specs.Reader.{ReaderState, StandsFor}
use Rattle.dc_frame.proofs.Readers.{one_after, more, no_fault, a_fault}
use Rattle.dc_frame.proofs.reader.Reader.feed.Goals as goal

pub invariant_of-self : goal.invariant_of-self
invariant_of-self c =
    let part = c.self.inside.part.items in
    let piece = c.args.piece.now in
    let whole : c.try_extend_from_slice.new.self.items ≡ part ++ piece = rw c.unwrap.ensures at c.try_extend_from_slice.ensures.ok in
    let found : first (part ++ piece) ≡ Ok (option_map frame_of c.in-Ok.field-0) = sym (c.in-Ok.ensures ∙ ap first (c.as_slice.ensures.value ∙ whole)) in
    let fits : length piece ≤ missing part = rw (← c.self.view_is) at c.requires.fits in
    rw whole (record { one = one_after part piece _ found c.requires.some fits })

pub returns-in-Ok-clause-fault : goal.returns-in-Ok-clause-fault
returns-in-Ok-clause-fault c = λ bytes taken stands.
    let part = c.self.inside.part.items in
    let piece = c.args.piece.now in
    let whole : c.try_extend_from_slice.new.self.items ≡ part ++ piece = rw c.unwrap.ensures at c.try_extend_from_slice.ensures.ok in
    let found : first (part ++ piece) ≡ Ok (option_map frame_of c.in-Ok.field-0) = sym (c.in-Ok.ensures ∙ ap first (c.as_slice.ensures.value ∙ whole)) in
    let fits : length piece ≤ missing part = rw (← c.self.view_is) at c.requires.fits in
    let before : ReaderState = record { start = c.self.inside.start; part = part } in
    let old : StandsFor before bytes taken = subst (λ (r : ReaderState). StandsFor r bytes taken) (sym c.self.view_is) stands in
    no_fault (record { start = c.self.inside.start; part = part ++ piece }) (bytes ++ piece) taken _ found (one_after part piece _ found c.requires.some fits) (more before bytes piece taken old)

pub returns-in-Err-clause-fault : goal.returns-in-Err-clause-fault
returns-in-Err-clause-fault c = λ bytes taken stands.
    let part = c.self.inside.part.items in
    let piece = c.args.piece.now in
    let whole : c.try_extend_from_slice.new.self.items ≡ part ++ piece = rw c.unwrap.ensures at c.try_extend_from_slice.ensures.ok in
    let found : first (part ++ piece) ≡ Err c.in-Err.fault = sym (c.in-Err.ensures ∙ ap first (c.as_slice.ensures.value ∙ whole)) in
    let before : ReaderState = record { start = c.self.inside.start; part = part } in
    let old : StandsFor before bytes taken = subst (λ (r : ReaderState). StandsFor r bytes taken) (sym c.self.view_is) stands in
    rw c.saturating_add.ensures (a_fault (record { start = c.self.inside.start; part = part ++ piece }) (bytes ++ piece) taken c.in-Err.fault found (more before bytes piece taken old))
