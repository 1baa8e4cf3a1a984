use Rattle.std.proofs.Common.{◌≡◌, List, ℕ, [], ◌∷◌, ◌++◌, ◌∙◌, append_assoc}
use Rattle.dc_stream.proofs.writing.put_line.Goals as goal

-- a text, a beginning, the rest of a line, and its end
in_order : (text beginning rest end : List ℕ) → ((text ++ beginning) ++ rest) ++ end ≡ text ++ ((beginning ++ rest) ++ end)
in_order text beginning rest end = simp append_assoc

pub returns : goal.returns
returns c =
    c.in_ok-push.ensures.items ∙ (rw (c.in_ok-extend_from_slice-2.ensures.items, c.in_ok-extend_from_slice.ensures.items) (in_order c.args.text.now.items c.args.beginning.now c.args.rest.now (10 ∷ [])))
