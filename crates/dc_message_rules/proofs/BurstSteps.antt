-- A word of a burst: the log and the lists of sent entries gain the same.
use Rattle.std.proofs.Common.{◌≡◌, ℕ, ◌==◌, Bool, true, false, cond, List, [], ◌∷◌, ◌++◌, map, get_or, sum_by, Option, Some, if◌then◌else◌, refl, sym, ◌∙◌, ap, subst, append_assoc}
use Rattle.std.specs.Option.{option_to_list}
use Rattle.std.proofs.lemmas.Slice.Eq.{bytes_eq-Decides}
use Rattle.dc_spec.specs.Entries.{Entry, long, Stream}
use Rattle.dc_spec.proofs.SumLemmas.{sum_by-map}
use Rattle.dc_station_rules.specs.Bursts.{burst_of, fragments, has_ended, message_of}
use Rattle.dc_station_rules.specs.Cycles.{Cycle, fields_left, place_in, history_of}
use Rattle.dc_station_rules.specs.Stations.{marked, next_mark, gave_message}
use Rattle.dc_station_rules.proofs.MessageBursts.{fragments-give, front-goes}
use Rattle.dc_station_rules.proofs.StationSteps.{at_cycle, since_then, with_ended, sent_by, burst_goes_on, burst_ends}
use Rattle.dc_net_rules.specs.Bags.{Message, count_in}
use Rattle.dc_message_rules.specs.Sessions.{session_sum}
use Rattle.dc_message_rules.proofs.Tallies.{total-same}
use Rattle.dc_message_rules.proofs.Markers.{at_mark, by_mark, HasMarker}
use Rattle.dc_message_rules.proofs.BurstWords.{burst-next}
use Rattle.dc_message_rules.proofs.Balance.{AreFit, all_pending, IsNext, CycleHolds, next-starts, place_sum, session-place, burst-place, Balanced, no_stream, same-state, same-balance, more-balance, left-markers}

-- what a station's first message counts where a burst gave a message
abbrev pub given_count : Message → List ℕ → List ℕ → ℕ
given_count x got message = count_in x (map long (if gave_message message (Some got) then message ∷ [] else []))

sent-mark : (x : Message) (got : List ℕ) (field : ℕ) (longs : List (List ℕ)) (coins : List ℕ)
    → count_in x (map long (sent_by longs (next_mark longs coins) field (Some got))) ≡ by_mark field (given_count x got) longs coins
sent-mark x got field [] coins = refl
sent-mark x got field (m ∷ longs) [] = refl
sent-mark x got field (m ∷ longs) (c ∷ coins) = by_field (c == field)
  where
    by_field : (b : Bool) → count_in x (map long (if b then (if gave_message m (Some got) then m ∷ [] else []) else [])) ≡ cond b (given_count x got m) 0
    by_field true = refl
    by_field false = refl

-- the message of a burst is sent by its marker alone
message-count : (pending : List Stream) (field : ℕ) (m : HasMarker field pending) (x : Message) → count_in x (map long (m.message ∷ []))
    ≡ sum_by (λ (s : Stream). count_in x (map long (sent_by s.longs (marked s) field (Some m.message)))) pending
message-count pending field m x =
    sym (total-same (λ (s : Stream). count_in x (map long (sent_by s.longs (marked s) field (Some m.message)))) (at_mark field (given_count x m.message)) pending
    (λ k d within. sent-mark x m.message field (get_or pending k d).longs (get_or pending k d).coins)
    ∙ m.only (given_count x m.message)
    ∙ ap (λ (b : Bool). count_in x (map long (if b then m.message ∷ [] else []))) ((bytes_eq-Decides m.message m.message).1 refl))

-- what a burst's word does, by the fragments that are left
pub burst-step : (streams : List Stream) (words : List (List ℕ)) → AreFit streams → Balanced streams words → (cycle : Cycle) (field : ℕ) (fields : List ℕ) → (history_of words).begun ≡ Some cycle
    → fields_left cycle ≡ field ∷ fields → Balanced streams (words ++ session_sum streams words ∷ [])
burst-step streams words fit held cycle field fields begun left =
    let pending = all_pending streams words in
    let holds = held.cycle_holds cycle begun in
    let next : IsNext pending (field ∷ fields) cycle.since = subst (λ (fs : List ℕ). IsNext pending fs cycle.since) left holds.next in
    by_more holds next.0 next.1 next.2 next.3
    (session-place streams words ∙ ap (λ (b : Option Cycle). place_sum pending (place_in b)) begun ∙ burst-place pending cycle field fields left
    ∙ burst-next pending field next.0 cycle.since next.1 next.2 next.3)
  where
    by_more : CycleHolds (all_pending streams words) cycle → (m : HasMarker field (all_pending streams words)) (n : List ℕ) (more : List (List ℕ)) → cycle.since ++ n ∷ more ≡ fragments m.message
        → session_sum streams words ≡ n → Balanced streams (words ++ session_sum streams words ∷ [])
    by_more holds m n [] is word_is =
        let word = session_sum streams words in
        let after = words ++ word ∷ [] in
        let pending = all_pending streams words in
        let since : List (List ℕ) = cycle.since ++ word ∷ [] in
        let gave_it = ap (λ (w : List ℕ). burst_of (cycle.since ++ w ∷ [])) word_is ∙ ap burst_of is ∙ fragments-give m.message m.is_message in
        let ended : has_ended (burst_of since) ≡ true = ap has_ended gave_it in
        let got : message_of (burst_of since) ≡ Some m.message = ap message_of gave_it in
        let all = burst_ends no_stream words word cycle field fields begun left ended in
        let more : Stream → List Entry = λ s. map long (sent_by (at_cycle s words).longs (marked (at_cycle s words)) field (message_of (burst_of since))) in
        let same : (x : Message) → count_in x (map long (option_to_list (message_of (burst_of since)))) ≡ sum_by (λ (s : Stream). count_in x (more s)) streams = λ x.
        subst (λ (o : Option (List ℕ)). count_in x (map long (option_to_list o)) ≡ sum_by (λ (s : Stream). count_in x (map long (sent_by (at_cycle s words).longs (marked
        (at_cycle s words)) field o))) streams) (sym got)
        (message-count pending field m x ∙ sum_by-map (λ (s : Stream). count_in x (map long (sent_by s.longs (marked s) field (Some m.message)))) (λ (s : Stream). at_cycle s words) streams) in
        record {
          balance = λ x. more-balance streams words after (map long (option_to_list (message_of (burst_of since)))) more all.log
              (λ s. (burst_ends s words word cycle field fields begun left ended).sent) held x (same x);
          cycle_holds = same-state streams words after (with_ended cycle field since) all.history
              (record {
                markers = holds.markers;
                next = subst
                    (λ (fs : List ℕ). IsNext pending fs []) (sym all.left) (next-starts pending fields (left-markers pending cycle field fields left holds));
              });
        }
    by_more holds m n (n' ∷ more) is word_is =
        let word = session_sum streams words in
        let after = words ++ word ∷ [] in
        let pending = all_pending streams words in
        let since : List (List ℕ) = cycle.since ++ word ∷ [] in
        let goes : (cycle.since ++ n ∷ []) ++ n' ∷ more ≡ fragments m.message = append_assoc cycle.since (n ∷ []) (n' ∷ more) ∙ is in
        let still : (cycle.since ++ word ∷ []) ++ n' ∷ more ≡ fragments m.message = ap (λ (w : List ℕ). (cycle.since ++ w ∷ []) ++ n' ∷ more) word_is ∙ goes in
        let going : has_ended (burst_of since) ≡ false = ap has_ended (front-goes since n' more m.message (record { is_message = m.is_message; are_fragments = still })) in
        let all = burst_goes_on no_stream words word cycle field fields begun left going in
        record {
          balance = same-balance streams words after all.log (λ s. (burst_goes_on s words word cycle field fields begun left going).sent) held;
          cycle_holds = same-state streams words after (since_then cycle since) all.history
              (record { markers = holds.markers; next = subst (λ (fs : List ℕ). IsNext pending fs since) (sym left) (m, n', more, still) });
        }
