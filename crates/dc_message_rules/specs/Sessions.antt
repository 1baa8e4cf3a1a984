-- A session without a coalition: each word is the sum of the plain words of all stations.
use Rattle.std.specs.Prelude.{ℕ, ◌≡◌, List, ◌∷◌, ◌++◌, map}
use Rattle.dc_spec.specs.Words.{word_sum}
use Rattle.dc_spec.specs.Entries.{Stream}
use Rattle.dc_station_rules.specs.Stations.{plain_word}

-- the sum of the plain words of stations with these streams
abbrev pub session_sum : List Stream → List (List ℕ) → List ℕ
session_sum streams received = word_sum (map (λ (s : Stream). plain_word s received) streams)

-- each word is the sum after the words before it
abbrev pub AreSums : List Stream → List (List ℕ) → Type 0
AreSums streams words =
    (front : List (List ℕ)) (word : List ℕ) (rest : List (List ℕ))
    → words ≡ front ++ word ∷ rest → word ≡ session_sum streams front
