use Rattle.std.proofs.Common.{List, ℕ, [], ◌∷◌, ◌++◌, ap, ◌∙◌, codes}
use Rattle.dc_keyfile.proofs.Putting.{four_put, both_put}
use Rattle.dc_keyfile.proofs.writing.put_head.Goals as goal

pub returns : goal.returns
returns c =
    four_put _ _ _ _ _ _ _ _ _ (both_put _ _ _ (codes "DCK") (c.args.version ∷ []) c.in_ok-extend_from_slice.ensures.items c.in_ok-push.ensures.items)
    (c.in_ok-extend_from_slice-2.ensures.items ∙ ap (λ (xs : List ℕ). c.push.new.self.items ++ xs) c.to_be_bytes.ensures)
    (c.in_ok-extend_from_slice-3.ensures.items ∙ ap (λ (xs : List ℕ). c.extend_from_slice-2.new.self.items ++ xs) c.to_be_bytes-2.ensures)
    (c.in_ok-extend_from_slice-4.ensures.items ∙ ap (λ (xs : List ℕ). c.extend_from_slice-3.new.self.items ++ xs) c.to_be_bytes-3.ensures)
