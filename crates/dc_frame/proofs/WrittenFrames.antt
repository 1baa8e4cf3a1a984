-- What is read of written frames.
use Rattle.std.proofs.Common.{◌≡◌, ℕ, ◌+◌, ltb, List, [], ◌∷◌, ◌++◌, length, take, drop, All, Some, None, Result, Ok, refl, sym, ap, ◌∙◌, arith}
use Rattle.std.proofs.Math.Seq.{drop-append_seam}
use Rattle.std.proofs.lemmas.List.{take_all}
use Rattle.std.proofs.lemmas.List.Elements.{All-head, All-tail}
use Rattle.std.specs.Prelude.{position}
use Rattle.dc_spec.specs.Words.{IsWord}
use Rattle.dc_spec.specs.Bytes.{symbol_bytes, word_bytes}
use Rattle.dc_spec.specs.Frames.{Frame, hello, send, all}
use Rattle.dc_spec.specs.Laws.{BytesSpellWords, BytesSpellNumbers}
use Rattle.dc_spec.proofs.ByteLemmas.{length_of_pieces}
use Rattle.dc_formats.specs.Frames.{frame_bytes, frames_bytes, IsFrame}
use Rattle.dc_field.specs.WordInBytes.{word_of_bytes, word_of_numbers}
use Rattle.dc_field.proofs.FirstAbove.{none_where_small}
use Rattle.dc_field.specs.declared.word_from_bytes.SymFault.{SymFault}
use Rattle.dc_frame.specs.Reading.{first, frame_size, put_before, reading_from, worded}
use Rattle.dc_frame.proofs.Firsts.{first_where_whole, first_stays}
use Rattle.dc_frame.proofs.Readings.{reading_known}

-- the sixty-four bytes of a word
length-word_bytes : (w : List ℕ) → IsWord w → length (word_bytes w) ≡ 64
length-word_bytes w is = let sixteen = is.sixteen in omega (arith, length_of_pieces symbol_bytes 4 w (λ _ _ _. refl))

no_bad_symbol : (w : List ℕ) → IsWord w → position (λ x. ltb 65536 x) w ≡ None
no_bad_symbol w is = none_where_small w (λ k lt. let small = is.symbols k in omega arith)

word_back : BytesSpellWords → (w : List ℕ) → IsWord w → word_of_bytes (take 64 (word_bytes w)) ≡ Ok w
word_back spell w is =
    ap (λ (b : List ℕ). word_of_bytes b) (take_all 64 (word_bytes w) (omega (arith, length-word_bytes w is)))
    ∙ ap (λ (v : List ℕ). word_of_numbers v) (spell w is) ∙ (rw (no_bad_symbol w is) refl)

pub written_size : (frame : Frame) → IsFrame frame → length (frame_bytes frame) ≡ frame_size frame
written_size (hello i n t) is = refl
written_size (send r w) is = omega (arith, length-word_bytes w is.1)
written_size (all r w) is = omega (arith, length-word_bytes w is.1)

written_first : BytesSpellWords → BytesSpellNumbers → (frame : Frame) → IsFrame frame → first (frame_bytes frame) ≡ Ok (Some frame)
written_first spell short (hello i n t) is = first_where_whole (frame_bytes (hello i n t)) (hello i n t) (record {
  size = 6;
  header = refl;
  long = omega arith;
  body = rw (short i is.0, short n is.1, short t is.2) refl;
})
written_first spell short (send r w) is = first_where_whole (frame_bytes (send r w)) (send r w) (record {
  size = 66;
  header = rw (length-word_bytes w is.1) refl;
  long = omega (arith, length-word_bytes w is.1);
  body = ap (λ (x : Result (List ℕ) SymFault). worded (frame_bytes (send r w)) x) (word_back spell w is.1) ∙ (rw (short r is.0) refl);
})
written_first spell short (all r w) is = first_where_whole (frame_bytes (all r w)) (all r w) (record {
  size = 66;
  header = rw (length-word_bytes w is.1) refl;
  long = omega (arith, length-word_bytes w is.1);
  body = ap (λ (x : Result (List ℕ) SymFault). worded (frame_bytes (all r w)) x) (word_back spell w is.1) ∙ (rw (short r is.0) refl);
})

-- of written frames these frames are read, from any offset on
pub written_read : BytesSpellWords → BytesSpellNumbers → (start : ℕ) (frames : List Frame) → All IsFrame frames → reading_from (length (frames_bytes frames)) start (frames_bytes frames) ≡ record { frames = frames; ends = Ok [] }
unfolding reading_from
written_read spell short start [] are = refl
written_read spell short start (frame ∷ frames) are =
    let is = All-head IsFrame frame frames are in
    let found = first_stays (frame_bytes frame) (frames_bytes frames) frame (written_first spell short frame is) in
    let rest : drop (frame_size frame) (frame_bytes frame ++ frames_bytes frames) ≡ frames_bytes frames =
    ap (λ (n : ℕ). drop n (frame_bytes frame ++ frames_bytes frames)) (sym (written_size frame is)) ∙ drop-append_seam (frame_bytes frame) (frames_bytes frames) in
    reading_known start (frame_bytes frame ++ frames_bytes frames) (Ok (Some frame)) found
    ∙ ap (λ (b : List ℕ). put_before frame (reading_from (length b) (start + frame_size frame) b)) rest
    ∙ ap (put_before frame) (written_read spell short (start + frame_size frame) frames (All-tail IsFrame frame frames are))
