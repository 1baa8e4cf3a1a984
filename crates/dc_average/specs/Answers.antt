-- The answers of an epoch in the protocol's terms.
use Rattle.std.specs.Prelude.{◌≡◌, ℕ, ◌+◌, ◌≤◌, Bool, true, false, List, [], ◌∷◌, ◌++◌, map, Result, Ok, Err}
use Rattle.dc_spec.specs.Groups.{Group, GroupFault}
use Rattle.dc_spec.specs.Values.{last_number}
use Rattle.dc_station_rules.specs.Epochs.{Leaf, EpochFault, no_group, no_part, uneven, Tree, unsplit, equal_values, parts, Ranged, Epoch, resolving, void_epoch, Request, for_root, for_at_most, for_nothing, is_over}
use Rattle.dc_field.specs.GroupAnswers.{group_fault, split_fault}
use Rattle.dc_average.specs.declared.ask.Ask.{Ask}
use Rattle.dc_average.specs.declared.ask.Ask.TheVariants.{Root, AtMost, Over}
use Rattle.dc_average.specs.declared.ask.Step.{Step}
use Rattle.dc_average.specs.declared.ask.Step.TheVariants.{Went, Ended, Void}
use Rattle.dc_average.specs.declared.ask.BadWord.{BadWord}
use Rattle.dc_average.specs.declared.ask.BadWord.TheVariants.{Group as bad_group, Split as bad_split, Uneven as bad_limb}
use Rattle.dc_average.specs.declared.answer.Answer.{Answer}
use Rattle.dc_average.specs.declared.answer.Answer.TheVariants.{Alike, Split}
use Rattle.dc_average.specs.Items.{a_group, items_of, from_open, leaves_in}

-- what is asked for
abbrev pub asked_of : Ask → Request
asked_of Root = for_root
asked_of (AtMost mean) = for_at_most mean
asked_of Over = for_nothing

-- whether it is nothing
abbrev pub is_nothing : Ask → Bool
is_nothing Root = false
is_nothing (AtMost mean) = false
is_nothing Over = true

-- the check that a word broke
abbrev pub epoch_fault_of : BadWord → EpochFault
epoch_fault_of (bad_group fault) = no_group (group_fault fault)
epoch_fault_of (bad_split fault) = no_part (split_fault fault)
epoch_fault_of (bad_limb l seen) = uneven l seen

-- a step leads to an epoch: one that goes on, one that is whole, or one that is void by this check
abbrev pub StepLeadsTo : Step → Epoch → Type 0
StepLeadsTo Went epoch = is_over epoch ≡ false
StepLeadsTo Ended epoch = (tree : Tree) × ((epoch ≡ resolving tree) × (is_over epoch ≡ true))
StepLeadsTo (Void why) epoch = (out : List Leaf) × (epoch ≡ void_epoch out (epoch_fault_of why))

-- what a word made of the current group
abbrev pub leaf_result_of : Result Leaf BadWord → Result Tree EpochFault
leaf_result_of (Ok leaf) = Ok (equal_values leaf)
leaf_result_of (Err why) = Err (epoch_fault_of why)

abbrev pub answer_result_of : Result Answer BadWord → Result Tree EpochFault
answer_result_of (Ok (Alike leaf)) = Ok (equal_values leaf)
answer_result_of (Ok (Split left right)) = Ok (parts (unsplit left.group left.low left.high) (unsplit right.group right.low right.high))
answer_result_of (Err why) = Err (epoch_fault_of why)

-- of how many stations an answer is
abbrev pub stations_of_answer : Answer → ℕ
stations_of_answer (Alike leaf) = leaf.times
stations_of_answer (Split left right) = left.group.count + right.group.count

-- its leaf, or each of its groups, is of one station or more
abbrev pub IsOfSome : Answer → Type 0
IsOfSome (Alike leaf) = 1 ≤ leaf.times
IsOfSome (Split left right) = (1 ≤ left.group.count) × (1 ≤ right.group.count)

-- the root, judged
abbrev pub root_tree : Result Group GroupFault → Result Tree EpochFault
root_tree (Ok group) = Ok (unsplit group 0 last_number)
root_tree (Err fault) = Err (no_group fault)

-- the step after which these groups wait
abbrev pub step_with : List Ranged → Step
step_with [] = Ended
step_with (place ∷ rest) = Went

-- what a word leaves: after a fault nothing; else the groups that still wait, and the leaves that it gives
abbrev pub LeftBy : Result Tree EpochFault → List Ranged → List Ranged → List Leaf → Step → Type 0
LeftBy (Err fault) rest stack out step = (why : BadWord) × ((step ≡ Void why) × (fault ≡ epoch_fault_of why) × (stack ≡ []) × (out ≡ []))
LeftBy (Ok tree) rest stack out step = (stack ≡ from_open (items_of tree ++ map a_group rest)) × (out ≡ leaves_in (items_of tree ++ map a_group rest)) × (step ≡ step_with stack)
