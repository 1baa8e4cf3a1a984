-- In a session without a coalition no burst and no epoch is disturbed.
use Rattle.std.proofs.Common.{◌≡◌, ℕ, Bool, true, false, List, [], ◌∷◌, ◌++◌, length, map, Option, Some, None, if◌then◌else◌, refl, sym, ◌∙◌, ap, subst, inl, inr, arith, append_assoc}
use Rattle.std.specs.List.{AllByRecursion}
use Rattle.std.specs.Option.{option_to_list}
use Rattle.std.proofs.lemmas.Option.{none-some}
use Rattle.std.proofs.lemmas.List.{append-nil}
use Rattle.dc_spec.specs.Entries.{Stream}
use Rattle.dc_spec.proofs.Options.{some-inj}
use Rattle.dc_station_rules.specs.Bursts.{IsMessageBurst, burst_of, fragments, has_ended}
use Rattle.dc_station_rules.specs.Epochs.{epoch_of, is_over}
use Rattle.dc_station_rules.specs.Cycles.{Cycle, History, fields_left, opened, words_of_epoch, place_among, place_in, epoch_words, history_of}
use Rattle.dc_station_rules.specs.Stations.{left_after}
use Rattle.dc_station_rules.proofs.CycleSteps.{no-epoch_words, no-words}
use Rattle.dc_station_rules.proofs.MessageBursts.{fragments-give, front-goes}
use Rattle.dc_station_rules.proofs.StationSteps.{since_then, with_ended, reserves, burst_goes_on, burst_ends, epoch_takes}
use Rattle.dc_message_rules.specs.SentEpochs.{epoch_sum, AreSent}
use Rattle.dc_message_rules.specs.Sessions.{session_sum, AreSums}
use Rattle.dc_message_rules.specs.Undisturbed.{first_values, IsUndisturbed, AreUndisturbed}
use Rattle.dc_message_rules.proofs.Markers.{HasMarker}
use Rattle.dc_message_rules.proofs.BurstWords.{burst-next}
use Rattle.dc_message_rules.proofs.Balance.{AreFit, all_pending, IsNext, nothing-front, place_sum, session-place, burst-place, epoch-place, Balanced, no_stream}
use Rattle.dc_message_rules.proofs.EpochSteps.{split-last, sent-push}
use Rattle.dc_message_rules.proofs.SessionBalance.{start, step, none-begun}

-- what holds after each round
pub record Clean (streams : List Stream) (words : List (List ℕ)) : Type 0 where
  pub whole : (before : List Cycle) (cycle : Cycle) (after : List Cycle) → (history_of words).whole ≡ before ++ cycle ∷ after → IsUndisturbed (map (λ (s : Stream). left_after s before) streams) cycle
  pub begun : (cycle : Cycle) → (history_of words).begun ≡ Some cycle → IsUndisturbed (all_pending streams words) cycle

-- a cycle goes on
clean-on : (streams : List Stream) (words after : List (List ℕ)) (cycle : Cycle) → Clean streams words → history_of after ≡ record { whole = (history_of words).whole; begun = Some cycle }
    → IsUndisturbed (all_pending streams words) cycle → Clean streams after
clean-on streams words after cycle held is here = record {
  whole = λ before c rest e. held.whole before c rest (sym (ap (λ (h : History). h.whole) is) ∙ e);
  begun = λ c e. subst (λ (d : Cycle). IsUndisturbed (all_pending streams after) d) (some-inj (sym (ap (λ (h : History). h.begun) is) ∙ e))
      (subst (λ (w : List Cycle). IsUndisturbed (map (λ (s : Stream). left_after s w) streams) cycle) (sym (ap (λ (h : History). h.whole) is)) here);
}

-- a cycle is whole
clean-whole : (streams : List Stream) (words after : List (List ℕ)) (cycle : Cycle) → Clean streams words → history_of after ≡ record { whole = (history_of words).whole ++ cycle ∷ []; begun = None }
    → IsUndisturbed (all_pending streams words) cycle → Clean streams after
clean-whole streams words after cycle held is here = record {
  whole = λ before c rest e. elim (split-last (history_of words).whole cycle before c rest (sym (ap (λ (h : History). h.whole) is) ∙ e)) [
    | inl last ↦ subst (λ (w : List Cycle). IsUndisturbed (map (λ (s : Stream). left_after s w) streams) c) (sym last.0)
        (subst (λ (d : Cycle). IsUndisturbed (all_pending streams words) d) (sym last.1) here)
    | inr earlier ↦ held.whole before c earlier.0 earlier.1
  ];
  begun = λ c e. absurd (none-some c (sym (ap (λ (h : History). h.begun) is) ∙ e));
}

-- an epoch without a word
none-sent : (values words : List (List ℕ)) → words ≡ [] → AreSent values words
none-sent values words none front word rest e = absurd (nothing-front front word rest (sym none ∙ e))

reserve-clean : (streams : List Stream) (words : List (List ℕ)) → Clean streams words → (history_of words).begun ≡ None → Clean streams (words ++ session_sum streams words ∷ [])
reserve-clean streams words held none =
    let word = session_sum streams words in
    clean-on streams words (words ++ word ∷ []) (opened word) held (reserves no_stream words word none).history
    (record { bursts = tt; epoch = none-sent (first_values (all_pending streams words)) (epoch_words (opened word)) (no-words (fields_left (opened word))) })

all-push : {A : Type 0} (P : A → Type 0) (xs : List A) (x : A) → AllByRecursion P xs → P x → AllByRecursion P (xs ++ x ∷ [])
all-push P [] x all last = (last, tt)
all-push P (y ∷ xs) x all last = (all.0, all-push P xs x all.1 last)

burst-clean : (streams : List Stream) (words : List (List ℕ)) → Balanced streams words → Clean streams words → (cycle : Cycle) (field : ℕ) (fields : List ℕ) → (history_of words).begun ≡ Some cycle
    → fields_left cycle ≡ field ∷ fields → Clean streams (words ++ session_sum streams words ∷ [])
burst-clean streams words held clean cycle field fields begun left =
    let pending = all_pending streams words in
    let next : IsNext pending (field ∷ fields) cycle.since = subst (λ (fs : List ℕ). IsNext pending fs cycle.since) left (held.cycle_holds cycle begun).next in
    by_more next.0 next.1 next.2 next.3
    (session-place streams words ∙ ap (λ (b : Option Cycle). place_sum pending (place_in b)) begun ∙ burst-place pending cycle field fields left
    ∙ burst-next pending field next.0 cycle.since next.1 next.2 next.3)
  where
    by_more : (m : HasMarker field (all_pending streams words)) (n : List ℕ) (more : List (List ℕ)) → cycle.since ++ n ∷ more ≡ fragments m.message → session_sum streams words ≡ n
        → Clean streams (words ++ session_sum streams words ∷ [])
    by_more m n [] is word_is =
        let word = session_sum streams words in
        let since : List (List ℕ) = cycle.since ++ word ∷ [] in
        let all_of : since ≡ fragments m.message = ap (λ (w : List ℕ). cycle.since ++ w ∷ []) word_is ∙ is in
        let ended : has_ended (burst_of since) ≡ true = ap (λ (ws : List (List ℕ)). has_ended (burst_of ws)) all_of ∙ ap has_ended (fragments-give m.message m.is_message) in
        let all = burst_ends no_stream words word cycle field fields begun left ended in
        clean-on streams words (words ++ word ∷ []) (with_ended cycle field since) clean all.history (record {
          bursts = all-push (λ (b : ℕ × List (List ℕ)). (message : List ℕ) × IsMessageBurst b.1 message) cycle.bursts (field, since) (clean.begun cycle begun).bursts
              (m.message, record { is_message = m.is_message; are_fragments = all_of });
          epoch = none-sent (first_values (all_pending streams words)) (epoch_words (with_ended cycle field since)) (no-words (fields_left (with_ended cycle field since)));
        })
    by_more m n (n' ∷ more) is word_is =
        let word = session_sum streams words in
        let since : List (List ℕ) = cycle.since ++ word ∷ [] in
        let still : since ++ n' ∷ more ≡ fragments m.message = ap (λ (w : List ℕ). (cycle.since ++ w ∷ []) ++ n' ∷ more) word_is ∙ append_assoc cycle.since (n ∷ []) (n' ∷ more) ∙ is in
        let going : has_ended (burst_of since) ≡ false = ap has_ended (front-goes since n' more m.message (record { is_message = m.is_message; are_fragments = still })) in
        let all = burst_goes_on no_stream words word cycle field fields begun left going in
        clean-on streams words (words ++ word ∷ []) (since_then cycle since) clean all.history (record {
          bursts = (clean.begun cycle begun).bursts;
          epoch = none-sent (first_values (all_pending streams words)) (epoch_words (since_then cycle since)) (no-epoch_words (since_then cycle since) field fields left);
        })

epoch-clean : (streams : List Stream) (words : List (List ℕ)) → Balanced streams words → Clean streams words → (cycle : Cycle) → (history_of words).begun ≡ Some cycle → fields_left cycle ≡ []
    → Clean streams (words ++ session_sum streams words ∷ [])
epoch-clean streams words held clean cycle begun left =
    let pending = all_pending streams words in
    let word = session_sum streams words in
    let since : List (List ℕ) = cycle.since ++ word ∷ [] in
    let next : IsNext pending [] cycle.since = subst (λ (fs : List ℕ). IsNext pending fs cycle.since) left (held.cycle_holds cycle begun).next in
    let is : word ≡ epoch_sum (first_values pending) cycle.since = session-place streams words ∙ ap (λ (b : Option Cycle). place_sum pending (place_in b)) begun ∙ epoch-place pending cycle left in
    let more = sent-push (first_values pending) cycle.since word next.0 next.1 is in
    let here : IsUndisturbed pending (since_then cycle since) = record {
      bursts = (clean.begun cycle begun).bursts;
      epoch = subst (λ (fs : List ℕ). AreSent (first_values pending) (words_of_epoch (place_among fs since))) (sym left) more;
    } in
    by_end (is_over (epoch_of since)) here (epoch_takes no_stream words word cycle begun left).history
  where
    by_end : (b : Bool) → IsUndisturbed (all_pending streams words) (since_then cycle (cycle.since ++ session_sum streams words ∷ [])) → history_of (words ++ session_sum streams words ∷ [])
        ≡ (if b then record { whole = (history_of words).whole ++ since_then cycle (cycle.since ++ session_sum streams words ∷ []) ∷ []; begun = None }
        else record { whole = (history_of words).whole; begun = Some (since_then cycle (cycle.since ++ session_sum streams words ∷ [])) })
        → Clean streams (words ++ session_sum streams words ∷ [])
    by_end true here history = clean-whole streams words (words ++ session_sum streams words ∷ []) (since_then cycle (cycle.since ++ session_sum streams words ∷ [])) clean history here
    by_end false here history = clean-on streams words (words ++ session_sum streams words ∷ []) (since_then cycle (cycle.since ++ session_sum streams words ∷ [])) clean history here

step-clean : (streams : List Stream) (words : List (List ℕ)) → Balanced streams words → Clean streams words → Clean streams (words ++ session_sum streams words ∷ [])
step-clean streams words held clean = by_begun (history_of words).begun refl
  where
    by_begun : (o : Option Cycle) → (history_of words).begun ≡ o → Clean streams (words ++ session_sum streams words ∷ [])
    by_begun None begun = reserve-clean streams words clean begun
    by_begun (Some cycle) begun = by_left (fields_left cycle) refl
      where
        by_left : (fs : List ℕ) → fields_left cycle ≡ fs → Clean streams (words ++ session_sum streams words ∷ [])
        by_left [] left = epoch-clean streams words held clean cycle begun left
        by_left (field ∷ fields) left = burst-clean streams words held clean cycle field fields begun left

rounds-clean : (streams : List Stream) → AreFit streams → (words before : List (List ℕ)) → AreSums streams (before ++ words) → Balanced streams before → Clean streams before
    → Clean streams (before ++ words)
rounds-clean streams fit [] before are held clean = subst (Clean streams) (sym (append-nil before)) clean
rounds-clean streams fit (word ∷ words) before are held clean =
    let assoc : (before ++ word ∷ []) ++ words ≡ before ++ word ∷ words = append_assoc before (word ∷ []) words in
    let is = sym (are before word words refl) in
    let next : Balanced streams (before ++ word ∷ []) = subst (λ (w : List ℕ). Balanced streams (before ++ w ∷ [])) is (step streams before fit held) in
    let clean_next : Clean streams (before ++ word ∷ []) = subst (λ (w : List ℕ). Clean streams (before ++ w ∷ [])) is (step-clean streams before held clean) in
    subst (Clean streams) assoc (rounds-clean streams fit words (before ++ word ∷ []) (subst (AreSums streams) (sym assoc) are) next clean_next)

none-whole : (history_of []).whole ≡ []
unfolding history_of
none-whole = refl

no-cycle : (before : List Cycle) (cycle : Cycle) (after : List Cycle) → [] ≡ before ++ cycle ∷ after → ⊥
no-cycle [] cycle after e = let size = ap (λ (cs : List Cycle). length cs) e in absurd (omega arith)
no-cycle (c ∷ before) cycle after e = let size = ap (λ (cs : List Cycle). length cs) e in absurd (omega arith)

start-clean : (streams : List Stream) → Clean streams []
start-clean streams = record {
  whole = λ before cycle after e. absurd (no-cycle before cycle after (sym none-whole ∙ e));
  begun = λ cycle e. absurd (none-some cycle (sym none-begun ∙ e));
}

-- each cycle of a session is undisturbed
pub session-undisturbed : (streams : List Stream) → AreFit streams → (words : List (List ℕ)) → AreSums streams words → AreUndisturbed streams words
session-undisturbed streams fit words are before cycle after e = by_begun (history_of words).begun refl e
  where
    clean : Clean streams words
    clean = rounds-clean streams fit words [] are (start streams) (start-clean streams)

    by_begun : (o : Option Cycle) → (history_of words).begun ≡ o → (history_of words).whole ++ option_to_list o ≡ before ++ cycle ∷ after
        → IsUndisturbed (map (λ (s : Stream). left_after s before) streams) cycle
    by_begun None is e = clean.whole before cycle after (sym (append-nil (history_of words).whole) ∙ e)
    by_begun (Some c) is e = elim (split-last (history_of words).whole c before cycle after e) [
      | inl last ↦ subst (λ (w : List Cycle). IsUndisturbed (map (λ (s : Stream). left_after s w) streams) cycle) (sym last.0)
          (subst (λ (d : Cycle). IsUndisturbed (all_pending streams words) d) (sym last.1) (clean.begun c is))
      | inr earlier ↦ clean.whole before cycle earlier.0 earlier.1
    ]
