use Rattle.std.proofs.Common.{[], ◌∷◌, refl}
use Rattle.dc_text.proofs.PayloadDigits.{put_is}
use Rattle.dc_text.proofs.ByTable.{one_digit, zero_before}
use Rattle.dc_text.proofs.payload.count_of_digit.Goals as goal

pub returns : goal.returns
returns c =
    one_digit c.args.c c.decode_to_slice.new.out
    (put_is (48 ∷ c.args.c ∷ []) (0 ∷ []) c.decode_to_slice.new.out c.decode_to_slice.result (zero_before c.args.c c.requires) refl c.decode_to_slice.ensures.value)
