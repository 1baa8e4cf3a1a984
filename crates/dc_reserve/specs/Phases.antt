-- A burst between two words, and what a word makes of it.
use Rattle.std.specs.Prelude.{◌≡◌, ℕ, ◌+◌, ◌-◌, ◌*◌, ◌≤◌, Bool, false, nat_le, not, ◌==◌, ◌&&◌, if◌then◌else◌, List, [], ◌++◌, length, slice_index, Option, Some, None, option_map}
use Rattle.std.specs.List.{find, range_with_len}
use Rattle.std.specs.Option.{option_or}
use Rattle.dc_spec.specs.Bytes.{short_at}
use Rattle.dc_spec.specs.Values.{word_count, word_limbs}
use Rattle.dc_station_rules.specs.Bursts.{BurstFault, burst_count, burst_limb, burst_length, burst_padding, fragment_count, limb_fault}
use Rattle.dc_reserve.specs.declared.judge.BadBurst.{BadBurst}
use Rattle.dc_reserve.specs.declared.judge.BadBurst.TheVariants.{Count, Limb, Length, Padding}
use Rattle.dc_reserve.specs.declared.judge.BurstStep.{BurstStep}
use Rattle.dc_reserve.specs.declared.judge.BurstStep.TheVariants.{Goes, Message, Void}
use Rattle.dc_reserve.specs.declared.judge.Phase.{Phase}
use Rattle.dc_reserve.specs.declared.judge.Phase.TheVariants.{First, Later, Whole, Broken}

-- the check that a word breaks, in the terms of the definitions
abbrev pub burst_fault_of : BadBurst → BurstFault
burst_fault_of (Count seen) = burst_count seen
burst_fault_of (Limb l seen) = burst_limb l seen
burst_fault_of (Length told words) = burst_length told words
burst_fault_of (Padding at) = burst_padding at

-- further words are needed
abbrev pub IsGoing : Phase → Type 0
IsGoing First = Unit {0}
IsGoing (Later left) = Unit {0}
IsGoing (Whole size) = ⊥
IsGoing Broken = ⊥

-- the bytes so far go with the phase: with those of the words that are due they are as many as their length bytes need
abbrev pub FitsPhase : Phase → List ℕ → Type 0
FitsPhase First bytes = bytes ≡ []
FitsPhase (Later left) bytes = (1 ≤ left) × (15 ≤ length bytes) × (length bytes + 15 * left ≡ 15 * fragment_count (short_at bytes 0)) × (fragment_count (short_at bytes 0) ≤ 256)
FitsPhase (Whole size) bytes = size + 2 ≤ length bytes
FitsPhase Broken bytes = Unit {0}

-- whether a count may come next
abbrev pub count_allowed : Phase → ℕ → Bool
count_allowed First count = nat_le 1 count && nat_le count 256
count_allowed (Later left) count = count == left
count_allowed (Whole size) count = false
count_allowed Broken count = false

-- a first word has a length that needs another count
abbrev pub first_length_fault : Phase → List ℕ → Option BurstFault
first_length_fault First word = if fragment_count (short_at word 1) == word_count word then None else Some (burst_length (short_at word 1) (word_count word))
first_length_fault (Later left) word = None
first_length_fault (Whole size) word = None
first_length_fault Broken word = None

-- the first check that a word breaks by itself: its count, its limbs, its length
abbrev pub own_fault : Phase → List ℕ → Option BurstFault
own_fault phase word = option_or (if count_allowed phase (word_count word) then None else Some (burst_count (word_count word))) (option_or (limb_fault word) (first_length_fault phase word))

-- the first byte after the message that is not 0, in all bytes of a burst
abbrev pub stray_byte : List ℕ → Option ℕ
stray_byte bytes = find (λ at. not (slice_index bytes at == 0)) (range_with_len (short_at bytes 0 + 2) (length bytes - (short_at bytes 0 + 2)))

-- what a word after these bytes leads to: more words, a message in all bytes, or a broken check
abbrev pub Leads : Phase → List ℕ → List ℕ → BurstStep → List ℕ → Type 0
Leads phase bytes word Goes new = (own_fault phase word ≡ None) × (word_count word ≡ 1 → ⊥) × (new ≡ bytes ++ word_limbs word)
Leads phase bytes word (Message size) new = (own_fault phase word ≡ None) × (word_count word ≡ 1) × (new ≡ bytes ++ word_limbs word) × (stray_byte new ≡ None) × (size ≡ short_at new 0)
Leads phase bytes word (Void why) new = option_or (own_fault phase word) (if word_count word == 1 then option_map burst_padding (stray_byte (bytes ++ word_limbs word)) else None) ≡ Some (burst_fault_of why)

-- the phase of a burst after a step at a word
abbrev pub burst_phase_after : BurstStep → List ℕ → Phase
burst_phase_after Goes word = Later (word_count word - 1)
burst_phase_after (Message size) word = Whole size
burst_phase_after (Void why) word = Broken

-- a word after which a burst goes on has a count from 1 to 256
abbrev pub MayFollow : BurstStep → List ℕ → Type 0
MayFollow Goes word = (1 ≤ word_count word) × (word_count word ≤ 256)
MayFollow (Message size) word = Unit {0}
MayFollow (Void why) word = Unit {0}
