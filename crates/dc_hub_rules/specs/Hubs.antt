-- The hub: which arrivals it accepts, which rounds are complete, and what it replies, by places in
-- one list of all arrivals.
use Rattle.std.specs.Prelude.{ℕ, zero, suc, ◌+◌, max, ◌==◌, ◌&&◌, nat_lt, nat_le, if◌then◌else◌, List, [], ◌∷◌, ◌++◌, length, drop, fold, find, count_by, filter_map, slice_get, Option, Some, None, option_map, option_and_then, is_some, is_none, Bool, true, false, IsTrue}
use Rattle.std.specs.List.{range_with_len, position_from, list_all}
use Rattle.dc_spec.specs.Words.{word_sum}

-- a word that came from a station for a round
pub record Arrival : Type 0 where
  pub station : ℕ
  pub round : ℕ
  pub word : List ℕ

-- a reply: the least station still missing, or the sum of the complete round; or a refusal of a
-- number that no station has, of any word after the last round, of a word for an earlier or a later
-- round than the one in progress, which is stated, or of a second word, with the accepted one
pub data HubReply : Type 0 where
  waiting : ℕ → HubReply
  complete : List ℕ → HubReply
  no_station : ℕ → HubReply
  over : HubReply
  old : ℕ → HubReply
  ahead : ℕ → HubReply
  repeated : List ℕ → HubReply

-- the first place, not before this one, of a word of this station for this round
abbrev pub first_arrival : List Arrival → ℕ → ℕ → ℕ → Option ℕ
first_arrival arrivals from i t =
    position_from (λ a. (a.station == i) && (a.round == t)) from (drop from arrivals)

-- the places of all stations' words for a round, each the first not before this one
abbrev pub places : ℕ → List Arrival → ℕ → ℕ → List ℕ
places n arrivals from t = filter_map (λ i. first_arrival arrivals from i t) (range_with_len 0 n)

-- one past the last of the places, where every station has one
abbrev pub end_from : ℕ → List Arrival → ℕ → ℕ → Option ℕ
end_from n arrivals t from =
    let found = places n arrivals from t in
    if length found == n then Some (fold (λ m place. max m (place + 1)) from found) else None

-- how many arrivals there are up to the one that completed the round before t, where that is
-- complete; a round begins there
unfoldable pub round_start : ℕ → List Arrival → ℕ → Option ℕ
round_start n arrivals zero = Some 0
round_start n arrivals (suc t) = option_and_then (end_from n arrivals t) (round_start n arrivals t)

-- the place of the accepted arrival of a station in a round: its first one since the round began
abbrev pub accepted_place : ℕ → List Arrival → ℕ → ℕ → Option ℕ
accepted_place n arrivals i t =
    option_and_then (λ from. first_arrival arrivals from i t) (round_start n arrivals t)

-- the accepted word of a station in a round
abbrev pub accepted : ℕ → List Arrival → ℕ → ℕ → Option (List ℕ)
accepted n arrivals i t =
    option_and_then (λ place. option_map (λ a. a.word) (slice_get arrivals place))
    (accepted_place n arrivals i t)

-- the sum of the accepted words of a round
abbrev pub accepted_sum : ℕ → List Arrival → ℕ → List ℕ
accepted_sum n arrivals t =
    word_sum (filter_map (λ i. accepted n arrivals i t) (range_with_len 0 n))

-- whether every station has an accepted word in a round
abbrev pub is_complete : ℕ → List Arrival → ℕ → Bool
is_complete n arrivals t = is_some (round_start n arrivals (t + 1))

-- what is broadcast for a round: the sum of its accepted words, once it is complete
abbrev pub broadcast : ℕ → List Arrival → ℕ → Option (List ℕ)
broadcast n arrivals t = if is_complete n arrivals t then Some (accepted_sum n arrivals t) else None

-- how many of the session's rounds are complete, which is also the round in progress where not all
-- are
abbrev pub complete_rounds : ℕ → ℕ → List Arrival → ℕ
complete_rounds n rounds arrivals = count_by (is_complete n arrivals) (range_with_len 0 rounds)

-- the least station that has no accepted word in a round
abbrev pub first_missing : ℕ → List Arrival → ℕ → Option ℕ
first_missing n arrivals t = find (λ i. is_none (accepted n arrivals i t)) (range_with_len 0 n)

-- the reply where an arrival is accepted as a word of the round in progress
abbrev pub reply_accepted : ℕ → List Arrival → ℕ → Option ℕ → HubReply
reply_accepted n arrivals t None = complete (accepted_sum n arrivals t)
reply_accepted n arrivals t (Some missing) = waiting missing

-- the reply to an arrival for the round in progress, by the word accepted before from that station,
-- if one is
abbrev pub reply_now : ℕ → List Arrival → Arrival → Option (List ℕ) → HubReply
reply_now n before a (Some kept) = repeated kept
reply_now n before a None =
    reply_accepted n (before ++ a ∷ []) a.round (first_missing n (before ++ a ∷ []) a.round)

-- the reply of a hub of so many stations and rounds to an arrival, after the arrivals before it
abbrev pub reply : ℕ → ℕ → List Arrival → Arrival → HubReply
reply n rounds before a =
    let now = complete_rounds n rounds before in
    if nat_le n a.station then no_station a.station
    else if now == rounds then over
    else if nat_lt a.round now then old now
    else if nat_lt now a.round then ahead now
    else reply_now n before a (accepted n before a.station now)

-- the replies to the arrivals of a list one after the other, where others came before them
abbrev pub replies_after : ℕ → ℕ → List Arrival → List Arrival → List HubReply
replies_after n rounds before [] = []
replies_after n rounds before (a ∷ more) =
    reply n rounds before a ∷ replies_after n rounds (before ++ a ∷ []) more

-- the replies to all arrivals of a session
abbrev pub replies : ℕ → ℕ → List Arrival → List HubReply
replies n rounds arrivals = replies_after n rounds [] arrivals

-- whether by this reply the arrival was accepted
abbrev pub is_taken : HubReply → Bool
is_taken (waiting missing) = true
is_taken (complete sum) = true
is_taken _ = false

-- no arrival of the list is refused
abbrev pub AreAllTaken : ℕ → ℕ → List Arrival → Type 0
AreAllTaken n rounds arrivals = IsTrue (list_all is_taken (replies n rounds arrivals))
