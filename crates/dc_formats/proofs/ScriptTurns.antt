-- The rounds of a script one after the other, each with its number.
use Rattle.std.proofs.Common.{◌≡◌, ℕ, suc, ◌+◌, ◌<◌, List, ◌∷◌, length, slice_index_or, subst, refl, arith}
use Rattle.std.proofs.lemmas.List.Elements.{All-nil}
use Rattle.dc_spec.specs.Scripts.{Delivery, all_sum, each, delivered_words, Turn}
use Rattle.dc_formats.specs.ScriptFile.{IsSaid, AreSaid, IsTurn}

-- rounds that a script may have from this number on
abbrev pub AreTurnsFrom : ℕ → List Turn → Type 0
AreTurnsFrom k turns = (i : ℕ) (d : Turn) → i < length turns → IsTurn (k + i) (slice_index_or turns i d)

-- the first of them
pub first_turn : (k : ℕ) (turn : Turn) (turns : List Turn) → AreTurnsFrom k (turn ∷ turns) → IsTurn k turn
first_turn k turn turns are = let same : k + 0 ≡ k = omega arith in subst (λ r. IsTurn r turn) same (are 0 turn (omega arith))

-- the others
pub later_turns : (k : ℕ) (turn : Turn) (turns : List Turn) → AreTurnsFrom k (turn ∷ turns) → AreTurnsFrom (k + 1) turns
later_turns k turn turns are i d lt =
    let same : k + suc i ≡ (k + 1) + i = omega arith in
    subst (λ r. IsTurn r (slice_index_or turns i d)) same (are (suc i) d (omega arith))

-- all rounds, from round 0 on
pub all_turns : (turns : List Turn) → ((r : ℕ) (d : Turn) → r < length turns → IsTurn r (slice_index_or turns r d)) → AreTurnsFrom 0 turns
all_turns turns are i d lt = let same : i ≡ 0 + i = omega arith in subst (λ r. IsTurn r (slice_index_or turns i d)) same (are i d lt)

-- the words that are delivered in a round are those that a script may have
pub delivered_are : (r : ℕ) (turn : Turn) → IsTurn r turn → AreSaid r (delivered_words turn.delivery)
delivered_are r turn is = by_delivery turn.delivery refl
  where
    by_delivery : (d : Delivery) → turn.delivery ≡ d → AreSaid r (delivered_words d)
    by_delivery all_sum e = record { stations_rise = λ k lt. absurd (omega arith); are_said = All-nil (IsSaid r) }
    by_delivery (each dealt) e = is.dealt_words dealt e
