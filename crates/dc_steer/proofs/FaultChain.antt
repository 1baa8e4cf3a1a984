-- The faults of a steering in two groups are the faults in their order.
use Rattle.std.proofs.Common.{◌≡◌, ℕ, ◌/◌, List, [], ◌∷◌, Option, Some, None, refl, ◌∙◌}
use Rattle.dc_spec.specs.Net.{Net}
use Rattle.dc_net_rules.specs.Agreement.{first_of}
use Rattle.dc_steer.specs.declared.fault.SteerFault.{SteerFault}
use Rattle.dc_steer.specs.Faults.{edge_fault, member_fault, heard_difference, difference_fault, sum_fault, term_fault, count_fault, steer_fault}
use Rattle.dc_steer.specs.Tests.{ends_fault, rounds_fault}

-- where one of the first two gives an answer, it is the first
first_two : {A : Type 0} (a b : Option A) (rest : List (Option A)) (x : A) → first_of (a ∷ b ∷ []) ≡ Some x → first_of (a ∷ b ∷ rest) ≡ Some x
first_two None None rest x h = let clash : ⊥ = cc in absurd clash
first_two None (Some y) rest x h = h
first_two (Some y) b rest x h = h

-- where they give none, it is the first of the rest
after_two : {A : Type 0} (a b : Option A) (rest : List (Option A)) → first_of (a ∷ b ∷ []) ≡ None → first_of (a ∷ b ∷ rest) ≡ first_of rest
after_two None None rest h = refl
after_two None (Some y) rest h = let clash : ⊥ = cc in absurd clash
after_two (Some y) b rest h = let clash : ⊥ = cc in absurd clash

-- the last three by themselves
last_three : {A : Type 0} (d a b c : Option A) → first_of (d ∷ a ∷ b ∷ c ∷ []) ≡ first_of (d ∷ first_of (a ∷ b ∷ c ∷ []) ∷ [])
last_three (Some x) a b c = refl
last_three None (Some x) b c = refl
last_three None None (Some x) c = refl
last_three None None None (Some x) = refl
last_three None None None None = refl

-- a fault of the two stations is the first one
pub ends_faulty : (net : Net) (u v : ℕ) (wanted : List (List ℕ)) (fault : SteerFault) → ends_fault net u v ≡ Some fault → steer_fault net u v wanted ≡ Some fault
unfolding steer_fault
ends_faulty net u v wanted fault h = first_two (edge_fault net u v) (member_fault net u v) _ fault h

-- where they have none, it is that of the rounds
pub ends_faultless : (net : Net) (u v : ℕ) (wanted : List (List ℕ)) → ends_fault net u v ≡ None
    → steer_fault net u v wanted ≡ rounds_fault net (heard_difference net u v) wanted
unfolding steer_fault
ends_faultless net u v wanted h =
    let p = heard_difference net u v in
    after_two (edge_fault net u v) (member_fault net u v) _ h
    ∙ last_three (difference_fault net p) (sum_fault net (p / 16)) (term_fault net (p / 16)) (count_fault net (p / 16) wanted)

-- the tests of the rounds, one by one
pub first_none : {A : Type 0} (o : Option A) (rest : List (Option A)) → first_of (o ∷ rest) ≡ None → (o ≡ None) × (first_of rest ≡ None)
first_none None rest h = (refl, h)
first_none (Some x) rest h = let clash : ⊥ = cc in absurd clash

pub none_first : {A : Type 0} (o : Option A) (rest : List (Option A)) → o ≡ None → first_of rest ≡ None → first_of (o ∷ rest) ≡ None
none_first o rest none more = rw none more

-- where there is no fault at all, the two stations have none
pub fine_ends : (net : Net) (u v : ℕ) (wanted : List (List ℕ)) → steer_fault net u v wanted ≡ None → ends_fault net u v ≡ None
unfolding steer_fault
fine_ends net u v wanted h =
    let a = first_none (edge_fault net u v) _ h in
    let b = first_none (member_fault net u v) _ a.1 in
    none_first (edge_fault net u v) (member_fault net u v ∷ []) a.0 (none_first (member_fault net u v) [] b.0 refl)
