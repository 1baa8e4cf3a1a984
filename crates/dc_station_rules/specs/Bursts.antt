-- Bursts: the words in which one station sends one message, and what received words are as a burst.
use Rattle.std.specs.Prelude.{◌≡◌, ℕ, zero, suc, ◌+◌, ◌-◌, ◌*◌, Bool, List, [], ◌∷◌, ◌++◌, length, map, take, drop, replicate, slice_index, Option, Some, None, option_map, if◌then◌else◌, true, false, nat_lt, nat_le, not, ◌==◌, ◌&&◌}
use Rattle.std.specs.List.{range_with_len, find, filter_map, flat_map, slice_index_or}
use Rattle.std.specs.Int.{w16, to_be_bytes, div_ceil}
use Rattle.std.specs.Option.{option_or}
use Rattle.dc_spec.specs.Bytes.{short_at}
use Rattle.dc_spec.specs.Values.{word_count, word_limbs}
use Rattle.dc_spec.specs.Entries.{IsMessage}

-- how many fragments a message of so many bytes has: fifteen bytes each, two of them for the length
abbrev pub fragment_count : ℕ → ℕ
fragment_count size = div_ceil (size + 2) 15

-- the bytes that the fragments carry: two length bytes, the message, zeros up to a multiple of
-- fifteen
abbrev pub burst_bytes : List ℕ → List ℕ
burst_bytes message =
    to_be_bytes w16 (length message) ++ message
    ++ replicate (15 * fragment_count (length message) - (length message + 2)) 0

-- fragment i: how many fragments are left, this one included, and fifteen of the bytes
unfoldable pub fragment : List ℕ → ℕ → List ℕ
fragment message i =
    (fragment_count (length message) - i) ∷ take 15 (drop (15 * i) (burst_bytes message))

-- all fragments in order
unfoldable pub fragments : List ℕ → List (List ℕ)
fragments message = map (fragment message) (range_with_len 0 (fragment_count (length message)))

-- the message burst of a message: its fragments
pub record IsMessageBurst (words : List (List ℕ)) (message : List ℕ) : Type 0 where
  pub is_message : IsMessage message
  pub are_fragments : words ≡ fragments message

-- why a word breaks a burst: its count; the number of a limb (1 to 15) above 255, and that limb;
-- the length in the first word and that word's count, which do not fit; the place of the first byte
-- after the message that is not 0
pub data BurstFault : Type 0 where
  burst_count : ℕ → BurstFault
  burst_limb : ℕ → ℕ → BurstFault
  burst_length : ℕ → ℕ → BurstFault
  burst_padding : ℕ → BurstFault

-- word i of a list
abbrev pub nth_word : List (List ℕ) → ℕ → List ℕ
nth_word words i = slice_index_or words i []

-- the bytes that words carry
abbrev pub carried : List (List ℕ) → List ℕ
carried words = flat_map word_limbs words

-- the length of the message, as the first word states it
abbrev pub stated_length : List (List ℕ) → ℕ
stated_length words = short_at (nth_word words 0) 1

-- whether the count of word i is right: 1 to 256 in the first word, and in each later word one less
-- than in the word before
abbrev pub count_fits : List (List ℕ) → ℕ → Bool
count_fits words zero =
    nat_le 1 (word_count (nth_word words 0)) && nat_le (word_count (nth_word words 0)) 256
count_fits words (suc i) = word_count (nth_word words (suc i)) + 1 == word_count (nth_word words i)

-- the fault of a word whose count is not right
abbrev pub count_fault : List (List ℕ) → ℕ → Option BurstFault
count_fault words i =
    if count_fits words i then None else Some (burst_count (word_count (nth_word words i)))

-- the fault of a word with a limb above 255, by the first such limb
abbrev pub limb_fault : List ℕ → Option BurstFault
limb_fault word =
    option_map (λ l. burst_limb l (slice_index word l))
    (find (λ l. nat_lt 255 (slice_index word l)) (range_with_len 1 15))

-- the fault of a first word that states a length for which the count would be another
abbrev pub length_fault : List (List ℕ) → ℕ → Option BurstFault
length_fault words zero =
    if fragment_count (stated_length words) == word_count (nth_word words 0) then None
    else Some (burst_length (stated_length words) (word_count (nth_word words 0)))
length_fault words (suc i) = None

-- the first place, of so many from this one on, at which a byte is not 0
abbrev pub first_nonzero : List ℕ → ℕ → ℕ → Option ℕ
first_nonzero bytes from count =
    find (λ at. not (slice_index bytes at == 0)) (range_with_len from count)

-- the fault of a last word, one of count 1, where a byte after the message is not 0
abbrev pub padding_fault : List (List ℕ) → ℕ → Option BurstFault
padding_fault words i =
    let bytes = carried (take (i + 1) words) in
    let end = stated_length words + 2 in
    if word_count (nth_word words i) == 1
    then option_map burst_padding (first_nonzero bytes end (15 * (i + 1) - end))
    else None

-- the fault of the first check that word i breaks
unfoldable pub fault_at : List (List ℕ) → ℕ → Option BurstFault
fault_at words i =
    option_or (count_fault words i) (option_or (limb_fault (nth_word words i))
    (option_or (length_fault words i) (padding_fault words i)))

-- the faults of all words that break a check, in order, one for each such word
unfoldable pub burst_faults : List (List ℕ) → List BurstFault
burst_faults words = filter_map (fault_at words) (range_with_len 0 (length words))

-- what words are as a burst: one that goes on, one that gave a message, or a void one
pub data Burst : Type 0 where
  goes_on : Burst
  gave : List ℕ → Burst
  void_burst : BurstFault → Burst

-- the message that the words of a whole burst carry
abbrev pub carried_message : List (List ℕ) → List ℕ
carried_message words = take (stated_length words) (drop 2 (carried words))

-- the burst of words with these faults: void by the first fault; with none it has given its message
-- once the last count is 1. A whole burst with further words of count 0 would go on here, but no
-- place has such words: a burst ends with its last word
abbrev pub burst_by_faults : List (List ℕ) → List BurstFault → Burst
burst_by_faults words (fault ∷ faults) = void_burst fault
burst_by_faults words [] =
    if word_count (nth_word words (length words - 1)) == 1 then gave (carried_message words)
    else goes_on

-- the burst of words
unfoldable pub burst_of : List (List ℕ) → Burst
burst_of words = burst_by_faults words (burst_faults words)

-- whether a burst has ended
abbrev pub has_ended : Burst → Bool
has_ended goes_on = false
has_ended (gave message) = true
has_ended (void_burst fault) = true

-- the message that a burst gave, if it gave one
abbrev pub message_of : Burst → Option (List ℕ)
message_of goes_on = None
message_of (gave message) = Some message
message_of (void_burst fault) = None
