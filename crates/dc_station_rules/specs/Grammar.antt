-- The grammar of a session, as relations: which lists of words are a burst, an epoch, a whole
-- cycle, a begun cycle.
use Rattle.std.specs.Prelude.{◌≡◌, ℕ, ◌⊎◌, Bool, true, false, List, [], ◌∷◌, ◌++◌, length, map, Some, IfSome}
use Rattle.std.specs.List.{AllByRecursion}
use Rattle.dc_spec.specs.Words.{AreWords}
use Rattle.dc_station_rules.specs.Bursts.{IsMessageBurst, BurstFault, fault_at, burst_of, gave, void_burst, has_ended}
use Rattle.dc_station_rules.specs.Epochs.{epoch_of, is_over}
use Rattle.dc_station_rules.specs.Cycles.{Cycle, History, granted, cycle_words, history_of, history_words}

-- a test fails on each beginning of these words, themselves included
abbrev pub NotYet : (List (List ℕ) → Bool) → List (List ℕ) → Type 0
NotYet test words = (front rest : List (List ℕ)) → words ≡ front ++ rest → test front ≡ false

-- a test holds on these words, and on no shorter beginning of them
pub record EndsWith (test : List (List ℕ) → Bool) (words : List (List ℕ)) : Type 0 where
  pub ended : test words ≡ true
  pub before : (front : List (List ℕ)) (word : List ℕ) (rest : List (List ℕ))
      → words ≡ front ++ word ∷ rest → test front ≡ false

-- whether words are a whole burst, one of a message or a void one
abbrev pub is_burst : List (List ℕ) → Bool
is_burst words = has_ended (burst_of words)

-- whether words are an epoch that has ended, whole or void
abbrev pub is_epoch : List (List ℕ) → Bool
is_epoch words = is_over (epoch_of words)

-- the words of one burst, all of them and no more
abbrev pub IsBurst : List (List ℕ) → Type 0
IsBurst words = EndsWith is_burst words

-- the words of one epoch, all of them and no more
abbrev pub IsEpoch : List (List ℕ) → Type 0
IsEpoch words = EndsWith is_epoch words

-- a void burst: a proper prefix of a message burst, and then the first word that breaks a check
pub record IsVoidBurst (words : List (List ℕ)) (fault : BurstFault) : Type 0 where
  pub before : List (List ℕ)
  pub word : List ℕ
  pub is : words ≡ before ++ word ∷ []
  pub message : List ℕ
  pub next : List ℕ
  pub more : List (List ℕ)
  pub is_part : IsMessageBurst (before ++ next ∷ more) message
  pub breaks : fault_at words (length before) ≡ Some fault

-- words that are a burst are a message burst or a void one and not both, and the computed burst is
-- that one, with its message or fault
pub record IsMessageOrVoid (words : List (List ℕ)) : Type 0 where
  pub one : AreWords words → IsBurst words
      → ((message : List ℕ) × IsMessageBurst words message)
      ⊎ ((fault : BurstFault) × IsVoidBurst words fault)
  pub message : (message : List ℕ) → IsMessageBurst words message
      → IsBurst words × (burst_of words ≡ gave message)
  pub void : (fault : BurstFault) → IsVoidBurst words fault
      → IsBurst words × (burst_of words ≡ void_burst fault)
  pub not_both : (message : List ℕ) (fault : BurstFault) → IsMessageBurst words message
      → IsVoidBurst words fault → ⊥

-- bursts, each of them ended
abbrev pub AreBursts : List (ℕ × List (List ℕ)) → Type 0
AreBursts bursts = AllByRecursion (λ (b : ℕ × List (List ℕ)). IsBurst b.1) bursts

-- the fields of bursts
abbrev pub burst_fields : List (ℕ × List (List ℕ)) → List ℕ
burst_fields bursts = map (λ (b : ℕ × List (List ℕ)). b.0) bursts

-- a whole cycle: a burst for each granted field in rising order, then an epoch
pub record IsWholeCycle (cycle : Cycle) : Type 0 where
  pub fields : burst_fields cycle.bursts ≡ granted cycle.reservation
  pub bursts : AreBursts cycle.bursts
  pub epoch : IsEpoch cycle.since

-- whether words are all of what comes next in a cycle: a burst where fields are left, else an epoch
abbrev pub is_all_of_next : List ℕ → List (List ℕ) → Bool
is_all_of_next [] words = is_epoch words
is_all_of_next (field ∷ fields) words = is_burst words

-- a begun cycle, which is a proper prefix of a whole one: bursts for the first granted fields, then
-- words that are not all of what comes next
pub record IsBegunCycle (cycle : Cycle) : Type 0 where
  pub left : List ℕ
  pub fields : burst_fields cycle.bursts ++ left ≡ granted cycle.reservation
  pub bursts : AreBursts cycle.bursts
  pub since : NotYet (is_all_of_next left) cycle.since

-- whole cycles, and then nothing or a begun one
pub record IsHistory (history : History) : Type 0 where
  pub whole : AllByRecursion IsWholeCycle history.whole
  pub begun : IfSome history.begun IsBegunCycle

-- words are whole cycles and then a proper prefix of one in just one way, which the history of the
-- words is
pub record IsCyclesInOneWay (words : List (List ℕ)) : Type 0 where
  pub is_history : IsHistory (history_of words)
  pub spells : history_words (history_of words) ≡ words
  pub only : (other : History) → IsHistory other → history_words other ≡ words
      → other ≡ history_of words

-- these words and one or more words of sixteen symbols after them are the words of a whole cycle
pub record IsProperPrefixOfWhole (words : List (List ℕ)) : Type 0 where
  pub whole : Cycle
  pub is_whole : IsWholeCycle whole
  pub next : List ℕ
  pub more : List (List ℕ)
  pub goes_on : cycle_words whole ≡ words ++ next ∷ more
  pub are_words : AreWords (next ∷ more)
