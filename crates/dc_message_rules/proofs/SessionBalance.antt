-- In a session without a coalition the log holds each message as often as it was sent.
use Rattle.std.proofs.Common.{◌≡◌, ℕ, List, [], ◌∷◌, ◌++◌, sum_by, Option, Some, None, refl, sym, ◌∙◌, subst, append_assoc}
use Rattle.std.proofs.lemmas.Option.{none-some}
use Rattle.std.proofs.lemmas.List.{append-nil}
use Rattle.dc_spec.specs.Entries.{Stream}
use Rattle.dc_station_rules.specs.Cycles.{Cycle, fields_left, history_of}
use Rattle.dc_station_rules.specs.Stations.{log_of, sent_of}
use Rattle.dc_net_rules.specs.Bags.{Message, count_in}
use Rattle.dc_message_rules.specs.Sessions.{session_sum, AreSums}
use Rattle.dc_message_rules.proofs.Tallies.{total-zero}
use Rattle.dc_message_rules.proofs.Balance.{AreFit, Balanced, reserve-step}
use Rattle.dc_message_rules.proofs.BurstSteps.{burst-step}
use Rattle.dc_message_rules.proofs.EpochSteps.{epoch-step}

-- before the first round
pub none-begun : (history_of []).begun ≡ None
unfolding history_of
none-begun = refl

none-counted : (streams : List Stream) (x : Message) → count_in x (log_of []) ≡ sum_by (λ (s : Stream). count_in x (sent_of s [])) streams
unfolding log_of sent_of history_of
none-counted streams x = sym (total-zero streams)

pub start : (streams : List Stream) → Balanced streams []
start streams = record { balance = none-counted streams; cycle_holds = λ cycle begun. absurd (none-some cycle (sym none-begun ∙ begun)) }

-- each round
pub step : (streams : List Stream) (words : List (List ℕ)) → AreFit streams → Balanced streams words → Balanced streams (words ++ session_sum streams words ∷ [])
step streams words fit held = by_begun (history_of words).begun refl
  where
    by_begun : (o : Option Cycle) → (history_of words).begun ≡ o → Balanced streams (words ++ session_sum streams words ∷ [])
    by_begun None begun = reserve-step streams words fit held begun
    by_begun (Some cycle) begun = by_left (fields_left cycle) refl
      where
        by_left : (fs : List ℕ) → fields_left cycle ≡ fs → Balanced streams (words ++ session_sum streams words ∷ [])
        by_left [] left = epoch-step streams words fit held cycle begun left
        by_left (field ∷ fields) left = burst-step streams words fit held cycle field fields begun left

rounds-hold : (streams : List Stream) → AreFit streams → (words before : List (List ℕ)) → AreSums streams (before ++ words) → Balanced streams before → Balanced streams (before ++ words)
rounds-hold streams fit [] before are held = subst (Balanced streams) (sym (append-nil before)) held
rounds-hold streams fit (word ∷ words) before are held =
    let assoc : (before ++ word ∷ []) ++ words ≡ before ++ word ∷ words = append_assoc before (word ∷ []) words in
    let next : Balanced streams (before ++ word ∷ []) = subst (λ (w : List ℕ). Balanced streams (before ++ w ∷ [])) (sym (are before word words refl)) (step streams before fit held) in
    subst (Balanced streams) assoc (rounds-hold streams fit words (before ++ word ∷ []) (subst (AreSums streams) (sym assoc) are) next)

pub session-holds : (streams : List Stream) → AreFit streams → (words : List (List ℕ)) → AreSums streams words → Balanced streams words
session-holds streams fit words are = rounds-hold streams fit words [] are (start streams)
