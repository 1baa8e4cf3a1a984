-- Groups as the code keeps them, and its faults as those of the protocol.
use Rattle.std.specs.Prelude.{Result, Ok, Err}
use Rattle.dc_spec.specs.Groups.{Group, GroupFault, SplitFault, group_count, group_limb, split_count, split_limb}
use Rattle.dc_field.specs.declared.group.BadGroup.{BadGroup}
use Rattle.dc_field.specs.declared.group.BadGroup.TheVariants.{Count as bad_count, Limb as bad_limb}
use Rattle.dc_field.specs.declared.group.BadSplit.{BadSplit}
use Rattle.dc_field.specs.declared.group.BadSplit.TheVariants.{Count as unlike_count, Limb as unlike_limb}

-- the fault that a word is no group
abbrev pub group_fault : BadGroup → GroupFault
group_fault (bad_count seen) = group_count seen
group_fault (bad_limb l seen) = group_limb l seen

-- the fault that a group is no part of another
abbrev pub split_fault : BadSplit → SplitFault
split_fault (unlike_count whole part) = split_count whole part
split_fault (unlike_limb l whole part) = split_limb l whole part

-- what a word is as a group, in the protocol's terms
abbrev pub told_group : Result Group BadGroup → Result Group GroupFault
told_group (Ok group) = Ok group
told_group (Err bad) = Err (group_fault bad)

-- what is left of a group without a part, in the protocol's terms
abbrev pub told_rest : Result Group BadSplit → Result Group SplitFault
told_rest (Ok rest) = Ok rest
told_rest (Err bad) = Err (split_fault bad)
