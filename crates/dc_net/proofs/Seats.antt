-- A seat, and one word more.
use Rattle.std.proofs.Common.{◌≡◌, ℕ, ◌+◌, ◌-◌, ◌*◌, ◌<◌, List, [], ◌∷◌, ◌++◌, length, Bool, true, get_or, ltb, lt-ltb, if◌then◌else◌, sym, ap, subst, ◌∙◌, arith}
use Rattle.dc_spec.specs.Words.{zero_word, word_add}
use Rattle.dc_key_rules.specs.PairKeys.{key_part}
use Rattle.dc_station_rules.specs.Stations.{plain_word}
use Rattle.dc_net_rules.specs.Runs.{station_word}
use Rattle.dc_station.specs.State.{ReceiverState, SenderState, IsSenderOf}
use Rattle.dc_station.specs.StandsFor.{ReceiverStandsFor, SenderStandsFor}
use Rattle.dc_net.specs.Seat.{SeatState, SeatStandsFor, seat_word, HearsNext, with_heard}
use Rattle.dc_net.proofs.Columns.{column_more}

-- the seat received the word at its place in the last row
pub with_word : (heard : List (List ℕ)) (seat : SeatState) (w : List ℕ) → HearsNext heard seat
    → w ≡ get_or heard (length heard - seat.seats + seat.place) zero_word
    → (with_heard heard seat).received ≡ seat.received ++ w ∷ []
with_word heard seat w next is =
    let place : length heard - seat.seats + seat.place ≡ length seat.received * seat.seats + seat.place = let e = next.count in omega arith in
    column_more heard seat.received seat.seats seat.place next.place next.count next.before
    ∙ ap (λ (x : List ℕ). seat.received ++ x ∷ []) (sym (is ∙ ap (λ (i : ℕ). get_or heard i zero_word) place))

-- each part has taken the word
pub SeatStandsFor-more : (heard : List (List ℕ)) (seat : SeatState) (w : List ℕ) (r receiver : ReceiverState) (s sender : SenderState) (k key : List ℕ)
    → SeatStandsFor r s k seat → HearsNext heard seat → w ≡ get_or heard (length heard - seat.seats + seat.place) zero_word
    → ((total : ℕ) (words : List (List ℕ)) → ReceiverStandsFor r total words → ReceiverStandsFor receiver total (words ++ w ∷ []))
    → IsSenderOf sender seat.stream
    → ((total : ℕ) (words : List (List ℕ)) (word : List ℕ) → SenderStandsFor s seat.stream total words → ReceiverStandsFor receiver total (words ++ word ∷ [])
    → SenderStandsFor sender seat.stream total (words ++ word ∷ []))
    → (length (with_heard heard seat).received < seat.keys.words → key ≡ key_part seat.keys.pairs seat.station (with_heard heard seat).received)
    → SeatStandsFor receiver sender key (with_heard heard seat)
SeatStandsFor-more heard seat w r receiver s sender k key stands next is takes own sends keyed =
    let e = sym (with_word heard seat w next is) in
    let receives : ReceiverStandsFor receiver seat.keys.words (seat.received ++ w ∷ []) = takes seat.keys.words seat.received stands.receives in
    record {
      receives = subst (λ (xs : List (List ℕ)). ReceiverStandsFor receiver seat.keys.words xs) e receives;
      sends = subst (λ (xs : List (List ℕ)). SenderStandsFor sender seat.stream seat.keys.words xs) e
          (sends seat.keys.words seat.received w stands.sends receives);
      own = own;
      keyed = keyed;
    }

-- before the end of the session the word is the plain word and the keys
pub word_of_seat : (seat : SeatState) (plain keys w : List ℕ) → length seat.received < seat.keys.words → plain ≡ plain_word seat.stream seat.received
    → keys ≡ key_part seat.keys.pairs seat.station seat.received
    → w ≡ word_add plain keys → w ≡ seat_word seat
word_of_seat seat plain keys w within is_plain is_keys is =
    let e : ltb (length seat.received) seat.keys.words ≡ true = lt-ltb _ _ within in
    is ∙ ap (λ (p : List ℕ). word_add p keys) is_plain ∙ ap (λ (k : List ℕ). word_add (plain_word seat.stream seat.received) k) is_keys
    ∙ ap (λ (b : Bool). if b then station_word seat.stream seat.keys.pairs seat.station seat.received else zero_word) (sym e)
