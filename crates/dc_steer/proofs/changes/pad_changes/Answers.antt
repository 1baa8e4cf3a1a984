use Rattle.std.proofs.Common.{◌*◌, List, ℕ, ◌++◌, length, replicate, refl, sym, ap, ◌∙◌}
use Rattle.dc_key_rules.specs.PairKeys.{symbols}
use Rattle.dc_steering_rules.specs.Steerings.{first_difference, steered_from, second_changes, first_changes}
use Rattle.dc_steer.proofs.WholeChanges.{changes_are}
use Rattle.dc_steer.proofs.changes.pad_changes.Goals as goal

pub returns : goal.returns
returns c =
    let p = c.first_difference-p.result in
    let xs = c.in_ok-cu.cu.items in
    let ys = c.in_ok-cv.cv.items in
    let ws = c.in_ok-wanted.wanted.items in
    let b = c.in_ok-second.second.items in
    let due : List ℕ → List ℕ → List ℕ → List ℕ = λ us vs es. second_changes us vs (replicate (steered_from p) 0 ++ es) (length us) in
    let place = c.first_difference-p.ensures.value ∙ ap (λ (us : List ℕ). first_difference us c.deref-2.result.now) c.deref.ensures.value ∙ ap (λ (vs : List ℕ). first_difference xs vs) c.deref-2.ensures.value in
    let second = c.in_ok-second.ensures.value ∙ ap (λ (us : List ℕ). due us c.deref-4.result.now c.deref-5.result.now) c.deref-3.ensures.value
    ∙ ap (λ (vs : List ℕ). due xs vs c.deref-5.result.now) c.deref-4.ensures.value ∙ ap (λ (es : List ℕ). due xs ys es) c.deref-5.ensures.value in
    let first = c.in_ok-first.ensures.value ∙ ap (λ (us : List ℕ). first_changes us c.deref-7.result.now (length us)) c.deref-6.ensures.value ∙ ap (λ (zs : List ℕ). first_changes xs zs (length xs)) c.deref-7.ensures.value in
    changes_are c.args.cu.now c.args.cv.now c.args.wanted.now xs ys ws _ _ p _ _
    (c.in_ok-cu.ensures.value ∙ ap symbols c.as_slice.ensures) (c.in_ok-cv.ensures.value ∙ ap symbols c.as_slice-2.ensures) (c.in_ok-wanted.ensures.value ∙ ap symbols c.as_slice-3.ensures)
    (c.in_ok-cu.ensures.sixteen_each ∙ ap (λ (us : List (List ℕ)). 16 * length us) c.as_slice.ensures)
    place (c.from_vec-2.ensures ∙ second) (c.from_vec.ensures ∙ first ∙ ap (λ (zs : List ℕ). first_changes xs zs (length xs)) (sym c.from_vec-2.ensures)) refl refl
