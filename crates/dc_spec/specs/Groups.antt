-- Groups: what the stations that send values in one word add up to, a count and fifteen limbs.
use Rattle.std.specs.Prelude.{ℕ, ◌+◌, ◌-◌, ◌*◌, ◌/◌, ◌%◌, Bool, List, slice_index, Option, Some, None, Result, Ok, Err, nat_lt, not, ◌==◌, ◌||◌, if◌then◌else◌}
use Rattle.std.specs.List.{range_with_len, find}
use Rattle.dc_spec.specs.Values.{number_of, fifteen, word_count, word_limbs}

-- how many stations, and the sum of each of the fifteen bytes of their values
pub record Group : Type 0 where
  pub count : ℕ
  pub limbs : List ℕ

-- why a word is no group: its count, which is above 256; or the number of a limb (1 to 15) that is
-- above 255 times the count, and that limb
pub data GroupFault : Type 0 where
  group_count : ℕ → GroupFault
  group_limb : ℕ → ℕ → GroupFault

-- why a group is no part of a whole: the two counts, that of the whole first; or the number of a
-- limb (1 to 15) with the limb of the whole and that of the part
pub data SplitFault : Type 0 where
  split_count : ℕ → ℕ → SplitFault
  split_limb : ℕ → ℕ → ℕ → SplitFault

-- limb i, from 0, of a group
abbrev pub limb : Group → ℕ → ℕ
limb group i = slice_index group.limbs i

-- the first of the fifteen limbs, counted from 0, at which a test holds
unfoldable pub first_limb_where : (ℕ → Bool) → Option ℕ
first_limb_where test = find test (range_with_len 0 15)

-- the total of a group: its limbs as digits
abbrev pub total : Group → ℕ
total group = number_of group.limbs

-- the total divided by the count
abbrev pub mean : Group → Option ℕ
mean group = if group.count == 0 then None else Some (total group / group.count)

-- a word's count and limbs, whether they are those of a group or not
abbrev pub counted : List ℕ → Group
counted word = record { count = word_count word; limbs = word_limbs word }

-- the place of the first limb above 255 times the count
abbrev pub high_limb : Group → Option ℕ
high_limb group = first_limb_where (λ i. nat_lt (255 * group.count) (limb group i))

-- the group, or the fault of its limb at this place
abbrev pub group_or_fault : Group → Option ℕ → Result Group GroupFault
group_or_fault group None = Ok group
group_or_fault group (Some i) = Err (group_limb (i + 1) (limb group i))

-- a word as a group, or the first fault that shows it is none
unfoldable pub group_of : List ℕ → Result Group GroupFault
group_of word =
    if nat_lt 256 (word_count word) then Err (group_count (word_count word))
    else group_or_fault (counted word) (high_limb (counted word))

-- what is left of a whole without a part, whether it is one or not
abbrev pub group_rest : Group → Group → Group
group_rest whole part =
    record { count = whole.count - part.count; limbs = fifteen (λ i. limb whole i - limb part i) }

-- the place of the first limb that the part has more of than the whole, or that leaves more than
-- 255 for each of the rest
abbrev pub unfit_limb : Group → Group → Option ℕ
unfit_limb whole part =
    first_limb_where (λ i. nat_lt (limb whole i) (limb part i)
    || nat_lt (255 * (whole.count - part.count)) (limb whole i - limb part i))

-- the rest of a group, or the fault of the limb at this place
abbrev pub rest_or_fault : Group → Group → Option ℕ → Result Group SplitFault
rest_or_fault whole part None = Ok (group_rest whole part)
rest_or_fault whole part (Some i) = Err (split_limb (i + 1) (limb whole i) (limb part i))

-- the whole minus a part of it, or the first fault that shows it is no part
unfoldable pub minus : Group → Group → Result Group SplitFault
minus whole part =
    if part.count == 0 || nat_lt whole.count part.count
    then Err (split_count whole.count part.count)
    else rest_or_fault whole part (unfit_limb whole part)

-- the place of the first limb that the count does not divide
abbrev pub uneven_limb : Group → Option ℕ
uneven_limb group = first_limb_where (λ i. not (limb group i % group.count == 0))

-- each limb divided by the count
abbrev pub divided : Group → List ℕ
divided group = fifteen (λ i. limb group i / group.count)

-- the value, or none where the limb at some place is uneven
abbrev pub value_or_none : Group → Option ℕ → Option (List ℕ)
value_or_none group None = Some (divided group)
value_or_none group (Some i) = None

-- the value that all stations of a group sent, if they may all have sent the same
unfoldable pub equal_value : Group → Option (List ℕ)
equal_value group = if group.count == 0 then None else value_or_none group (uneven_limb group)
