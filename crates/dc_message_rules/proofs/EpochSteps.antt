-- A word of an epoch: the log and the lists of sent entries gain the same.
use Rattle.std.proofs.Common.{◌≡◌, ℕ, ◌+◌, ◌⊎◌, Bool, true, false, List, [], ◌∷◌, ◌++◌, length, map, drop, get_or, slice_index_or, sum_by, Option, Some, None, if◌then◌else◌, refl, sym, ◌∙◌, ap, ap₂, subst, inl, inr, arith, length-append}
use Rattle.std.proofs.lemmas.Option.{none-some}
use Rattle.std.proofs.lemmas.List.{map-append}
use Rattle.std.proofs.lemmas.List.Sums.{sum_by-append}
use Rattle.dc_spec.specs.Entries.{Entry, short, Stream}
use Rattle.dc_spec.proofs.SumLemmas.{sum_by-map}
use Rattle.dc_station_rules.specs.Epochs.{Leaf, epoch_of, leaves, leaves_at, is_over}
use Rattle.dc_station_rules.specs.Cycles.{Cycle, History, fields_left, with_epoch, place_in, history_of}
use Rattle.dc_station_rules.specs.Stations.{leaf_entry, first_short, shorts_sent}
use Rattle.dc_station_rules.proofs.CycleSteps.{epoch-leaves}
use Rattle.dc_station_rules.proofs.MoreLeaves.{leaves-push}
use Rattle.dc_station_rules.proofs.StationSteps.{at_cycle, since_then, unless_sent, epoch_takes}
use Rattle.dc_net_rules.specs.Bags.{Message, times_in, count_in}
use Rattle.dc_message_rules.specs.SentEpochs.{epoch_sum, AreSent}
use Rattle.dc_message_rules.specs.Sessions.{session_sum}
use Rattle.dc_message_rules.proofs.Tallies.{total-same, total-plus}
use Rattle.dc_message_rules.proofs.SentEpochs.{sent-sound, Reached, sound-reached}
use Rattle.dc_message_rules.proofs.Firsts.{firsts, firsts-values, firsts-few, shorts_count, leaves-balance}
use Rattle.dc_message_rules.proofs.Balance.{AreFit, fit-pending, all_pending, IsNext, CycleHolds, place_sum, session-place, epoch-place, Balanced, no_stream, same-state, more-balance}

-- where one more item is split, it is the last one or one before
too-long : {A : Type 0} (x f : A) (front : List A) (y : A) (rest : List A) → x ∷ [] ≡ f ∷ front ++ y ∷ rest → ⊥
too-long {A} x f front y rest e = let size = ap (λ (ws : List A). length ws) e in let parts = length-append front (y ∷ rest) in absurd (omega arith)

pub split-last : {A : Type 0} (xs : List A) (x : A) (front : List A) (y : A) (rest : List A) → xs ++ x ∷ [] ≡ front ++ y ∷ rest
    → ((front ≡ xs) × (y ≡ x)) ⊎ ((more : List A) × (xs ≡ front ++ y ∷ more))
split-last {A} [] x [] y rest e = inl (refl, ap (λ (l : List A). slice_index_or l 0 x) (sym e))
split-last [] x (f ∷ front) y rest e = absurd (too-long x f front y rest e)
split-last {A} (z ∷ xs) x [] y rest e = inr (xs, ap (λ (w : A). w ∷ xs) (ap (λ (l : List A). slice_index_or l 0 z) e))
split-last {A} (z ∷ xs) x (f ∷ front) y rest e =
    let head : z ≡ f = ap (λ (l : List A). slice_index_or l 0 z) e in
    elim (split-last xs x front y rest (ap (drop 1) e)) [
      | inl last ↦ inl (ap₂ (λ (a : A) (b : List A). a ∷ b) (sym head) last.0, last.1)
      | inr before ↦ inr (before.0, ap₂ (λ (a : A) (b : List A). a ∷ b) head before.1)
    ]

-- one more word of an epoch that nobody disturbs
pub sent-push : (values since : List (List ℕ)) (word : List ℕ) → AreSent values since → is_over (epoch_of since) ≡ false → word ≡ epoch_sum values since → AreSent values (since ++ word ∷ [])
sent-push values since word sent goes_on is front w rest e = elim (split-last since word front w rest e) [
  | inl last ↦ subst (λ (fs : List (List ℕ)). (is_over (epoch_of fs) ≡ false) × (w ≡ epoch_sum values fs)) (sym last.0) (goes_on, last.1 ∙ is)
  | inr before ↦ sent front w before.0 before.1
]

-- the leaves after words that were sent
pub reached-of : (pending : List Stream) → AreFit pending → (words : List (List ℕ)) → AreSent (firsts pending) words → Reached (firsts pending) (epoch_of words)
reached-of pending fit words sent =
    let are = firsts-values pending fit.values in
    let most = fit.few in
    let few = firsts-few pending in
    sound-reached (firsts pending) are (epoch_of words) (sent-sound (firsts pending) are (omega arith) words sent)

-- what a word adds to the values of a station that count as sent
value-more : (s : Stream) (words : List (List ℕ)) (word : List ℕ) (cycle : Cycle) → (history_of words).begun ≡ Some cycle → fields_left cycle ≡ [] → (x : Message)
    → shorts_count x (leaves (epoch_of (cycle.since ++ word ∷ []))) (at_cycle s words).shorts ≡ shorts_count x (leaves (epoch_of cycle.since)) (at_cycle s words).shorts
    + count_in x (map (λ v. short v 1) (unless_sent (shorts_sent (at_cycle s words) cycle) (first_short (at_cycle s words).shorts (leaves_at cycle.since word))))
unfolding shorts_sent
value-more s words word cycle begun left x =
    let p = at_cycle s words in
    let more = unless_sent (shorts_sent p cycle) (first_short p.shorts (leaves_at cycle.since word)) in
    let entry : List ℕ → Entry = λ v. short v 1 in
    let now : first_short p.shorts (leaves (epoch_of (cycle.since ++ word ∷ []))) ≡ first_short p.shorts (leaves (epoch_of cycle.since)) ++ more =
    sym (ap (first_short p.shorts) (epoch-leaves (since_then cycle (cycle.since ++ word ∷ [])) left)) ∙ (epoch_takes s words word cycle begun left).shorts
    ∙ ap (λ (vs : List (List ℕ)). vs ++ more) (ap (first_short p.shorts) (epoch-leaves cycle left)) in
    ap (λ (vs : List (List ℕ)). count_in x (map entry vs)) now
    ∙ ap (count_in x) (map-append entry (first_short p.shorts (leaves (epoch_of cycle.since))) more)
    ∙ sum_by-append (times_in x) (map entry (first_short p.shorts (leaves (epoch_of cycle.since)))) (map entry more)

-- the leaves that a word adds are sent by the stations
leaves-more : (streams : List Stream) (words : List (List ℕ)) (word : List ℕ) (cycle : Cycle) → AreFit streams → (history_of words).begun ≡ Some cycle → fields_left cycle ≡ []
    → AreSent (firsts (all_pending streams words)) cycle.since → AreSent (firsts (all_pending streams words)) (cycle.since ++ word ∷ []) → (x : Message)
    → count_in x (map leaf_entry (leaves_at cycle.since word)) ≡ sum_by (λ (s : Stream). count_in x (map (λ v. short v 1) (unless_sent (shorts_sent (at_cycle s words) cycle)
    (first_short (at_cycle s words).shorts (leaves_at cycle.since word))))) streams
leaves-more streams words word cycle fit begun left sent more x =
    let pending = all_pending streams words in
    let before = leaves (epoch_of cycle.since) in
    let now = leaves (epoch_of (cycle.since ++ word ∷ [])) in
    let fit' = fit-pending streams words fit in
    let r0 = reached-of pending fit' cycle.since sent in
    let r1 = reached-of pending fit' (cycle.since ++ word ∷ []) more in
    let b0 = leaves-balance pending before r0.end r0.covers x ∙ sum_by-map (λ (s : Stream). shorts_count x before s.shorts) (λ (s : Stream). at_cycle s words) streams in
    let b1 = leaves-balance pending now r1.end r1.covers x ∙ sum_by-map (λ (s : Stream). shorts_count x now s.shorts) (λ (s : Stream). at_cycle s words) streams in
    let own : Stream → ℕ = λ s. count_in x (map (λ v. short v 1) (unless_sent (shorts_sent (at_cycle s words) cycle) (first_short (at_cycle s words).shorts (leaves_at cycle.since word)))) in
    let old : Stream → ℕ = λ s. shorts_count x before (at_cycle s words).shorts in
    let parts = total-same (λ (s : Stream). shorts_count x now (at_cycle s words).shorts) (λ (s : Stream). old s + own s) streams
    (λ k d within. value-more (get_or streams k d) words word cycle begun left x) ∙ total-plus old own streams in
    let gained = ap (λ (ls : List Leaf). count_in x (map leaf_entry ls)) (leaves-push cycle.since word) ∙ ap (count_in x) (map-append leaf_entry before (leaves_at cycle.since word))
    ∙ sum_by-append (times_in x) (map leaf_entry before) (map leaf_entry (leaves_at cycle.since word)) in
    cancel _ _ _ _ (sym gained ∙ b1 ∙ parts) b0
  where
    cancel : (a b c d : ℕ) → a + b ≡ c + d → a ≡ c → b ≡ d
    cancel a b c d sum same = omega arith

-- the state after the word
epoch-state : (streams : List Stream) (words after : List (List ℕ)) (cycle : Cycle) (since : List (List ℕ)) → fields_left cycle ≡ []
    → history_of after ≡ with_epoch (history_of words).whole cycle since
    → CycleHolds (all_pending streams words) cycle → AreSent (firsts (all_pending streams words)) since → (other : Cycle) → (history_of after).begun ≡ Some other
    → CycleHolds (all_pending streams after) other
epoch-state streams words after cycle since left is holds sent = by_end (is_over (epoch_of since)) refl is
  where
    by_end : (b : Bool) → is_over (epoch_of since) ≡ b → history_of after
        ≡ (if b then record { whole = (history_of words).whole ++ since_then cycle since ∷ []; begun = None } else record { whole = (history_of words).whole; begun = Some (since_then cycle since) })
        → (other : Cycle) → (history_of after).begun ≡ Some other → CycleHolds (all_pending streams after) other
    by_end true over history other begun = absurd (none-some other (sym (ap (λ (h : History). h.begun) history) ∙ begun))
    by_end false goes_on history other begun = same-state streams words after (since_then cycle since) history
        (record { markers = holds.markers; next = subst (λ (fs : List ℕ). IsNext (all_pending streams words) fs since) (sym left) (sent, goes_on) }) other begun

pub epoch-step : (streams : List Stream) (words : List (List ℕ)) → AreFit streams → Balanced streams words → (cycle : Cycle) → (history_of words).begun ≡ Some cycle → fields_left cycle ≡ []
    → Balanced streams (words ++ session_sum streams words ∷ [])
epoch-step streams words fit held cycle begun left =
    let pending = all_pending streams words in
    let word = session_sum streams words in
    let after = words ++ word ∷ [] in
    let holds = held.cycle_holds cycle begun in
    let next : IsNext pending [] cycle.since = subst (λ (fs : List ℕ). IsNext pending fs cycle.since) left holds.next in
    let is : word ≡ epoch_sum (firsts pending) cycle.since = session-place streams words ∙ ap (λ (b : Option Cycle). place_sum pending (place_in b)) begun ∙ epoch-place pending cycle left in
    let more = sent-push (firsts pending) cycle.since word next.0 next.1 is in
    let all = epoch_takes no_stream words word cycle begun left in
    record {
      balance = λ x. more-balance streams words after (map leaf_entry (leaves_at cycle.since word))
          (λ s. map (λ v. short v 1) (unless_sent (shorts_sent (at_cycle s words) cycle) (first_short (at_cycle s words).shorts (leaves_at cycle.since word))))
          all.log (λ s. (epoch_takes s words word cycle begun left).sent) held x (leaves-more streams words word cycle fit begun left next.0 more x);
      cycle_holds = epoch-state streams words after cycle (cycle.since ++ word ∷ []) left all.history holds more;
    }
