-- The leaves of a whole epoch have the count and the total of its root.
use Rattle.std.proofs.Common.{◌≡◌, ℕ, ◌+◌, ◌*◌, ◌<◌, ◌≤◌, List, get_or, refl, sym, ap₂, ◌∙◌, subst, arith, zero-add, zero-mul, div-one, one-mul}
use Rattle.std.proofs.lemmas.List.Sums.{sum_by-append}
use Rattle.dc_spec.specs.Values.{number_of}
use Rattle.dc_spec.specs.Groups.{Group, total, limb, group_rest, divided}
use Rattle.dc_station_rules.specs.Epochs.{Leaf}
use Rattle.dc_station_rules.specs.Resolving.{Resolves, empty, single, equal, halves}
use Rattle.dc_station_rules.specs.Laws.{times_of, total_of, LeavesAddUp}
use Rattle.dc_spec.proofs.GroupLemmas.{IsGroup, IsPart, group_of-ok, minus-ok, rest-IsGroup, divided-exact, number_of-add, number_of-times, length-fifteen, get_or-fifteen}

-- the total of a part and of the rest is the total of the whole
pub total-parts : (whole part rest : Group) → IsGroup whole → IsGroup part → IsPart whole part rest → total whole ≡ total part + total rest
total-parts whole part rest is part_is split = rw split.is_rest (number_of-add part.limbs (group_rest whole part).limbs whole.limbs
    (part_is.fifteen ∙ sym is.fifteen) (length-fifteen _ ∙ sym is.fifteen)
    (λ i lt. let below : i < 15 = subst (λ n. i < n) is.fifteen lt in let fits : limb part i ≤ limb whole i = split.limbs i below in rw (get_or-fifteen _ i below) (omega arith)))

-- and so the counts
count-parts : (whole part rest : Group) → IsPart whole part rest → part.count + rest.count ≡ whole.count
count-parts whole part rest split = rw split.is_rest (let fits : part.count ≤ whole.count = split.most_count in omega arith)

-- a group of count 0 has total 0
total-empty : (group : Group) → IsGroup group → group.count ≡ 0 → 0 ≡ total group
total-empty group is none = sym (zero-mul _) ∙ sym (number_of-times 0 group.limbs group.limbs refl (λ i lt. let low : limb group i ≤ 255 * group.count =
    is.limbs i (subst (λ n. i < n) is.fifteen lt) in omega arith))

-- a group whose limbs are all so many times their share has that many times the total of its value
total-shared : (group : Group) → IsGroup group → ((i : ℕ) → i < 15 → limb group i ≡ group.count * get_or (divided group) i 0) → group.count * number_of (divided group) ≡ total group
total-shared group is each = sym (number_of-times group.count (divided group) group.limbs (length-fifteen _ ∙ sym is.fifteen) (λ i lt. each i (subst (λ n. i < n) is.fifteen lt)))

-- the same at count 1
single-exact : (group : Group) → group.count ≡ 1 → (i : ℕ) → i < 15 → limb group i ≡ group.count * get_or (divided group) i 0
single-exact group one i lt = rw (get_or-fifteen _ i lt) rw (one, div-one (limb group i), one-mul (limb group i))

-- what words resolve a group into adds up to the group
adds_up : {group : Group} {low high : ℕ} {words : List (List ℕ)} {leaves : List Leaf} → Resolves group low high words leaves → IsGroup group → (times_of leaves ≡ group.count)
    × (total_of leaves ≡ total group)
adds_up (empty {group = g} none) is = (sym none, total-empty g is none)
adds_up (single {group = g} one) is = (zero-add g.count, zero-add _ ∙ total-shared g is (single-exact g one))
adds_up (equal {group = g} two parts all even) is = (zero-add g.count, zero-add _ ∙ total-shared g is (divided-exact g even))
adds_up (halves {group = g} {part = x} {rest = r} {word = w} {leaves = out} {others = after} two parts fewer first second) is =
    let part_is = (group_of-ok w x parts.is_part).1 in
    let split = minus-ok g x r parts.is_rest in
    let left = adds_up first part_is in
    let right = adds_up second (rest-IsGroup g x r is split) in (
      sum_by-append _ out after ∙ ap₂ (λ a b. a + b) left.0 right.0 ∙ count-parts g x r split,
      sum_by-append _ out after ∙ ap₂ (λ a b. a + b) left.1 right.1 ∙ sym (total-parts g x r is part_is split),
    )

-- the leaves of a whole epoch
pub leaves_add_up : LeavesAddUp
leaves_add_up words leaves whole = adds_up whole.resolves (group_of-ok whole.root whole.group whole.is_group).1
