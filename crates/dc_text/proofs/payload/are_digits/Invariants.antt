use Rattle.std.proofs.Common.{◌≡◌, is_some, take}
use Rattle.std.specs.List.{list_all}
use Rattle.dc_field.specs.WordInText.{digit_in}
use Rattle.dc_text.proofs.payload.are_digits.Given as goal

-- the characters so far are digits
abbrev pub invariant-loop-c : goal.invariant-loop-c
invariant-loop-c l = l.good ≡ list_all (λ c. is_some (digit_in c)) (take l.c-index l.text)
