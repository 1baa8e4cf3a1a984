-- One more word: of a history, of an epoch, of a burst.
use Rattle.std.proofs.Common.{◌≡◌, ℕ, List, [], ◌∷◌, ◌++◌}
use Rattle.dc_station_rules.specs.Epochs.{with_word, epoch_of}
use Rattle.dc_station_rules.specs.Cycles.{with_next, history_of}
use Rattle.dc_station_rules.proofs.OneWay.{with_rest-append}
use Rattle.dc_station_rules.proofs.WholeOrVoid.{with_words-append}

-- the history of words and one more
pub history_of-push : (words : List (List ℕ)) (word : List ℕ) → history_of (words ++ word ∷ []) ≡ with_next (history_of words) word
unfolding history_of
history_of-push words word = with_rest-append _ words (word ∷ [])

-- the epoch of words and one more
pub epoch_of-push : (words : List (List ℕ)) (word : List ℕ) → epoch_of (words ++ word ∷ []) ≡ with_word (epoch_of words) word
unfolding epoch_of
epoch_of-push words word = with_words-append _ words (word ∷ [])
