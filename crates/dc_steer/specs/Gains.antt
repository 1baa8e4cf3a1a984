-- What the sums of a run gain.
use Rattle.std.specs.Prelude.{List, ℕ, map, zip}
use Rattle.dc_spec.specs.Words.{word_sub}

-- the words that turn given sums into wanted ones
abbrev pub gains : List (List ℕ) → List (List ℕ) → List (List ℕ)
gains given wanted = map (λ ws. word_sub ws.0 ws.1) (zip wanted given)
