-- The pads of pairs that a coalition knows.
use Rattle.std.specs.Prelude.{ℕ, ◌*◌, ◌≡◌, ◌||◌, if◌then◌else◌, List, [], length}
use Rattle.dc_spec.specs.Pads.{Pair}
use Rattle.dc_spec.specs.Lists.{is_among}
use Rattle.dc_run_texts.specs.View.{pair_lines}

-- sixteen first and sixteen second pads for each of so many words
pub record HasPads (words : ℕ) (p : Pair) : Type 0 where
  pub first : length p.a ≡ 16 * words
  pub second : length p.b ≡ 16 * words

-- the lines of a pair that has an end in the coalition; no line of any other
abbrev pub known_lines : List ℕ → ℕ → Pair → List ℕ
known_lines coalition words p =
    if is_among coalition p.u || is_among coalition p.v then pair_lines words p else []
