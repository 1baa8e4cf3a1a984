-- A walk finds one station more, and goes on to the next place of its order.
use Rattle.std.proofs.Common.{◌≡◌, ◌≢◌, ℕ, zero, suc, ◌+◌, ◌<◌, ◌≤◌, Bool, true, false, cond, ◌||◌, ◌⊎◌, not, nat_eq, find, is_some, Result, Ok, Err, List, [], ◌∷◌, ◌++◌, length, sum_by, slice_index, slice_index_or, slice_set, replicate, Option, Some, None, refl, sym, ap, subst, ◌∙◌, arith, inl, inr, eqb-true, eq-eqb, true≢false, zero-le, get_or-set_other, get_or-set_same, length-append}
use Rattle.std.proofs.Math.ListN.{length-set, get_or-append, get_or-eq_default}
use Rattle.std.proofs.Math.Seq.{get_or-append_seam}
use Rattle.std.proofs.lemmas.List.Sums.{sum_by-cons, sum_by-append, count_by-le-length}
use Rattle.std.proofs.lemmas.Bool.{cases_Bool, cases_lt}
use Rattle.std.specs.List.{range_with_len}
use Rattle.std.specs.Option.{option_map_or}
use Rattle.std.specs.Result.{OnOk}
use Rattle.std.proofs.lemmas.List.{get_or-replicate, length-replicate}
use Rattle.std.proofs.lemmas.List.FromFn.{length-range_with_len}
use Rattle.std.proofs.lemmas.Option.{none-some}
use Rattle.dc_spec.proofs.ListLemmas.{found_passes, below_range}
use Rattle.dc_graph_rules.proofs.ForestLemmas.{either_counts}
use Rattle.dc_graph_rules.proofs.DistanceLemmas.{found_by}
use Rattle.dc_graph_rules.proofs.ParentLemmas.{found_first}
use Rattle.dc_spec.proofs.SumLemmas.{sum_by-same, sum_by-plus, sum_by-zero, sum_by-single}
use Rattle.dc_graph.specs.declared.walk.Found.{Found}
use Rattle.dc_graph.specs.Walk.{is_found, root_of, distance_of, IsNextTo, IsWalk}

-- the stations stay as they are but one that was not found
pub record IsOneMore (order order' : List ℕ) (found found' : List (Option Found)) (w root distance : ℕ) : Type 0 where
  pub missing : is_found found w ≡ false
  pub within : w < length found
  pub order_is : order' ≡ order ++ w ∷ []
  pub found_is : found' ≡ slice_set found w (Some (record { root = root; distance = distance }))

-- what the station is then known by
at_new : {order order' : List ℕ} {found found' : List (Option Found)} {w root distance : ℕ} → IsOneMore order order' found found' w root distance → slice_index_or found' w None ≡ Some (record { root = root; distance = distance })
at_new {found = found} {w = w} {root = root} {distance = distance} one = ap (λ xs. slice_index_or xs w None) one.found_is ∙ get_or-set_same found w (Some (record { root = root; distance = distance })) None one.within

-- the others stay
at_old : {order order' : List ℕ} {found found' : List (Option Found)} {w root distance : ℕ} → IsOneMore order order' found found' w root distance → (x : ℕ) → x ≢ w → slice_index_or found' x None ≡ slice_index_or found x None
at_old {found = found} {w = w} {root = root} {distance = distance} one x apart = ap (λ xs. slice_index_or xs x None) one.found_is ∙ get_or-set_other found w x (Some (record { root = root; distance = distance })) None apart

-- in particular those that were found
old_found : {order order' : List ℕ} {found found' : List (Option Found)} {w root distance : ℕ} → IsOneMore order order' found found' w root distance → (x : ℕ) → is_found found x ≡ true → slice_index_or found' x None ≡ slice_index_or found x None
old_found {found = found} {w = w} one x seen = at_old one x (λ e. true≢false (sym seen ∙ ap (is_found found) e ∙ one.missing))

pub stays_found : {order order' : List ℕ} {found found' : List (Option Found)} {w root distance : ℕ} → IsOneMore order order' found found' w root distance → (x : ℕ) → is_found found x ≡ true → is_found found' x ≡ true
stays_found one x seen = ap is_some (old_found one x seen) ∙ seen

old_root : {order order' : List ℕ} {found found' : List (Option Found)} {w root distance : ℕ} → IsOneMore order order' found found' w root distance → (x : ℕ) → is_found found x ≡ true → root_of found' x ≡ root_of found x
old_root one x seen = ap (λ o. option_map_or (λ p. p.root) o 0) (old_found one x seen)

old_distance : {order order' : List ℕ} {found found' : List (Option Found)} {w root distance : ℕ} → IsOneMore order order' found found' w root distance → (x : ℕ) → is_found found x ≡ true → distance_of found' x ≡ distance_of found x
old_distance one x seen = ap (λ o. option_map_or (λ p. p.distance) o 0) (old_found one x seen)

new_root : {order order' : List ℕ} {found found' : List (Option Found)} {w root distance : ℕ} → IsOneMore order order' found found' w root distance → root_of found' w ≡ root
new_root one = ap (λ o. option_map_or (λ p. p.root) o 0) (at_new one)

new_distance : {order order' : List ℕ} {found found' : List (Option Found)} {w root distance : ℕ} → IsOneMore order order' found found' w root distance → distance_of found' w ≡ distance
new_distance one = ap (λ o. option_map_or (λ p. p.distance) o 0) (at_new one)

-- a station found now was found before, or is the new one
found_cases : {order order' : List ℕ} {found found' : List (Option Found)} {w root distance : ℕ} → IsOneMore order order' found found' w root distance → (x : ℕ) → is_found found' x ≡ true → (x ≡ w) ⊎ (is_found found x ≡ true)
found_cases {w = w} one x seen = elim (cases_Bool (nat_eq x w)) [
  | inl same ↦ inl (eqb-true x w same)
  | inr other ↦ inr (sym (ap is_some (at_old one x (λ e. true≢false (sym (eq-eqb x w e) ∙ other)))) ∙ seen)
]

-- a station next to another stays so
pub stays_next : {order order' : List ℕ} {found found' : List (Option Found)} {w root distance : ℕ} → IsOneMore order order' found found' w root distance → (u x : ℕ) → is_found found u ≡ true →
    IsNextTo found u x → IsNextTo found' u x
stays_next one u x seen next =
    let du = old_distance one u seen in
    let dx = old_distance one x next.seen in
    let near = next.distance in
    record { seen = stays_found one x next.seen; root = old_root one x next.seen ∙ next.root ∙ sym (old_root one u seen); distance = omega arith }

-- the order has one place more
longer : {order order' : List ℕ} {found found' : List (Option Found)} {w root distance : ℕ} → IsOneMore order order' found found' w root distance → length order' ≡ length order + 1
longer {order = order} {w = w} one = ap length one.order_is ∙ length-append order (w ∷ [])

pub old_place : {order order' : List ℕ} {found found' : List (Option Found)} {w root distance : ℕ} → IsOneMore order order' found found' w root distance → (k : ℕ) → k < length order → slice_index order' k ≡ slice_index order k
old_place {order = order} {w = w} one k low = ap (λ xs. slice_index xs k) one.order_is ∙ get_or-append order (w ∷ []) 0 k low

new_place : {order order' : List ℕ} {found found' : List (Option Found)} {w root distance : ℕ} → IsOneMore order order' found found' w root distance → slice_index order' (length order) ≡ w
new_place {order = order} {w = w} one = ap (λ xs. slice_index xs (length order)) one.order_is ∙ get_or-append_seam order w [] 0

place_cases : {order order' : List ℕ} {found found' : List (Option Found)} {w root distance : ℕ} → IsOneMore order order' found found' w root distance → (k : ℕ) → k < length order' → (k < length order) ⊎ (slice_index order' k ≡ w)
place_cases {order = order} {order' = order'} one k low = elim (cases_lt k (length order)) [
  | inl less ↦ inl less
  | inr past ↦ inr (let long = longer one in let at : k ≡ length order = omega arith in ap (slice_index order') at ∙ new_place one)
]

-- what lets a station be found: from a station one step nearer, or as the root of a part of which none was found
pub record CanBeFound (edge : ℕ → ℕ → Bool) (head : ℕ) (order : List ℕ) (found : List (Option Found)) (w root distance : ℕ) : Type 0 where
  pub short : distance ≤ length order
  pub begins : distance ≡ 0 → root ≡ w
  pub goes_on : 0 < distance → (u : ℕ) × (is_found found u ≡ true) × (edge u w ≡ true) × (root_of found u ≡ root) × (distance_of found u + 1 ≡ distance)
  pub least : root ≤ w
  pub before : (x : ℕ) → x ≤ root → (x ≡ w) ⊎ (is_found found x ≡ true)
  pub rising : (j : ℕ) → j < length order → root_of found (slice_index order j) ≡ root → distance_of found (slice_index order j) ≤ distance
  pub queue : head < length order → (root ≡ root_of found (slice_index order head)) × (distance ≤ distance_of found (slice_index order head) + 1)

-- each station found stands once in the order
once_more : {order order' : List ℕ} {found found' : List (Option Found)} {w root distance : ℕ} → IsOneMore order order' found found' w root distance → (n : ℕ) → length found ≡ n → (f : ℕ → ℕ) →
    sum_by f order ≡ sum_by (λ v. cond (is_found found v) (f v) 0) (range_with_len 0 n) → sum_by f order' ≡ sum_by (λ v. cond (is_found found' v) (f v) 0) (range_with_len 0 n)
once_more {order = order} {found = found} {found' = found'} {w = w} one n wide f before =
    let stations = range_with_len 0 n in
    let here = ap (sum_by f) one.order_is ∙ sum_by-append f order (w ∷ []) in
    let single : sum_by f (w ∷ []) ≡ f w = sum_by-cons f w [] ∙ (let none : f w + 0 ≡ f w = omega arith in none) in
    let split = sum_by-same (λ v. cond (is_found found' v) (f v) 0) (λ v. cond (nat_eq v w) (f v) 0 + cond (is_found found v) (f v) 0) stations (λ v there. elim (cases_Bool (nat_eq v w)) [
      | inl same ↦ (let e : v ≡ w = eqb-true v w same in
          let now : is_found found' v ≡ true = ap (is_found found') e ∙ ap is_some (at_new one) in
          let then_not : is_found found v ≡ false = ap (is_found found) e ∙ one.missing in
          rw (now, same, then_not) (let none : f v ≡ f v + 0 = omega arith in none))
      | inr other ↦ (let kept : is_found found' v ≡ is_found found v = ap is_some (at_old one v (λ e. true≢false (sym (eq-eqb v w e) ∙ other))) in
          rw (kept, other) (let none : cond (is_found found v) (f v) 0 ≡ 0 + cond (is_found found v) (f v) 0 = omega arith in none))
    ]) in
    let both = sum_by-plus (λ v. cond (nat_eq v w) (f v) 0) (λ v. cond (is_found found v) (f v) 0) stations in
    let inside = one.within in
    let own = sum_by-single f 0 n w zero-le (omega arith) in
    omega arith

-- the walk with one station more
pub one_more : (edge : ℕ → ℕ → Bool) (n head : ℕ) {order order' : List ℕ} {found found' : List (Option Found)} {w root distance : ℕ} → IsOneMore order order' found found' w root distance →
    head ≤ length order → CanBeFound edge head order found w root distance → IsWalk edge n head order found → IsWalk edge n head order' found'
one_more edge n head {order = order} {order' = order'} {found = found} {found' = found'} {w = w} {root = root} {distance = distance} one fits can walk =
    let long = longer one in
    record {
      wide = ap length one.found_is ∙ length-set found w (Some (record { root = root; distance = distance })) ∙ walk.wide;
      listed = λ k low. elim (place_cases one k low) [
        | inl less ↦ ap (is_found found') (old_place one k less) ∙ stays_found one (slice_index order k) (walk.listed k less)
        | inr last ↦ ap (is_found found') last ∙ ap is_some (at_new one)
      ];
      each_once = λ f. once_more one n walk.wide f (walk.each_once f);
      short = λ v seen. elim (found_cases one v seen) [
        | inl new ↦ (let at : distance_of found' v ≡ distance = ap (distance_of found') new ∙ new_distance one in let bound = can.short in omega arith)
        | inr old ↦ (let at = old_distance one v old in let bound = walk.short v old in omega arith)
      ];
      begins = λ v seen zero_far. elim (found_cases one v seen) [
        | inl new ↦ ap (root_of found') new ∙ new_root one ∙ can.begins (sym (new_distance one) ∙ sym (ap (distance_of found') new) ∙ zero_far) ∙ sym new
        | inr old ↦ old_root one v old ∙ walk.begins v old (sym (old_distance one v old) ∙ zero_far)
      ];
      goes_on = λ v seen far. elim (found_cases one v seen) [
        | inl new ↦ (let at : distance_of found' v ≡ distance = ap (distance_of found') new ∙ new_distance one in
            let from = can.goes_on (omega arith) in
            let steps = from.4 in
            let near = old_distance one from.0 from.1 in (
              from.0,
              record {
                seen = stays_found one from.0 from.1;
                is_edge = ap (edge from.0) new ∙ from.2;
                root = old_root one from.0 from.1 ∙ from.3 ∙ sym (ap (root_of found') new ∙ new_root one);
                distance = omega arith;
              },
            ))
        | inr old ↦ (let at = old_distance one v old in
            let from = walk.goes_on v old (omega arith) in
            let steps = from.1.distance in
            let near = old_distance one from.0 from.1.seen in (
              from.0,
              record {
                seen = stays_found one from.0 from.1.seen;
                is_edge = from.1.is_edge;
                root = old_root one from.0 from.1.seen ∙ from.1.root ∙ sym (old_root one v old);
                distance = omega arith;
              },
            ))
      ];
      least = λ v seen. elim (found_cases one v seen) [
        | inl new ↦ (let at : root_of found' v ≡ root = ap (root_of found') new ∙ new_root one in let bound = can.least in omega arith)
        | inr old ↦ (let at = old_root one v old in let bound = walk.least v old in omega arith)
      ];
      before = λ v u seen low. elim (found_cases one v seen) [
        | inl new ↦ (let at : root_of found' v ≡ root = ap (root_of found') new ∙ new_root one in elim (can.before u (omega arith)) [
          | inl same ↦ ap (is_found found') same ∙ ap is_some (at_new one)
          | inr there ↦ stays_found one u there
        ])
        | inr old ↦ (let at = old_root one v old in stays_found one u (walk.before v u old (omega arith)))
      ];
      closed = λ k x less inside is_edge. (let within : k < length order = omega arith in
          let at = old_place one k within in
          subst (λ u. IsNextTo found' u x) (sym at)
          (stays_next one (slice_index order k) x (walk.listed k within) (walk.closed k x less inside (subst (λ u. edge u x ≡ true) at is_edge))));
      rising = λ j k below low same. elim (place_cases one k low) [
        | inl less ↦ (let at_j = old_place one j (omega arith) in let at_k = old_place one k less in
            let seen_j = walk.listed j (omega arith) in let seen_k = walk.listed k less in
            let d_j : distance_of found' (slice_index order' j) ≡ distance_of found (slice_index order j) = ap (distance_of found') at_j ∙ old_distance one (slice_index order j) seen_j in
            let d_k : distance_of found' (slice_index order' k) ≡ distance_of found (slice_index order k) = ap (distance_of found') at_k ∙ old_distance one (slice_index order k) seen_k in
            let roots : root_of found (slice_index order j) ≡ root_of found (slice_index order k) = sym (ap (root_of found') at_j ∙ old_root one (slice_index order j) seen_j) ∙ same
            ∙ (ap (root_of found') at_k ∙ old_root one (slice_index order k) seen_k) in
            let bound = walk.rising j k below less roots in omega arith)
        | inr last ↦ (let d_k : distance_of found' (slice_index order' k) ≡ distance = ap (distance_of found') last ∙ new_distance one in
            elim (place_cases one j (omega arith)) [
              | inl before_it ↦ (let at_j = old_place one j before_it in let seen_j = walk.listed j before_it in
                  let d_j : distance_of found' (slice_index order' j) ≡ distance_of found (slice_index order j) = ap (distance_of found') at_j ∙ old_distance one (slice_index order j) seen_j in
                  let roots : root_of found (slice_index order j) ≡ root = sym (ap (root_of found') at_j ∙ old_root one (slice_index order j) seen_j) ∙ same ∙ ap (root_of found') last ∙ new_root one in
                  let bound = can.rising j before_it roots in omega arith)
              | inr it ↦ (let d_j : distance_of found' (slice_index order' j) ≡ distance = ap (distance_of found') it ∙ new_distance one in omega arith)
            ])
      ];
      queue = λ k high low. elim (place_cases one k low) [
        | inl less ↦ (let at_h = old_place one head (omega arith) in let at_k = old_place one k less in
            subst (λ x. IsNextTo found' (slice_index order' head) x) (sym at_k) (subst (λ u. IsNextTo found' u (slice_index order k)) (sym at_h)
            (stays_next one (slice_index order head) (slice_index order k) (walk.listed head (omega arith)) (walk.queue k high less))))
        | inr last ↦ elim (cases_lt head (length order)) [
          | inl less ↦ (let at_h = old_place one head less in
              let seen_h = walk.listed head less in
              let next = can.queue less in
              let near = next.1 in
              let d_h : distance_of found' (slice_index order' head) ≡ distance_of found (slice_index order head) = ap (distance_of found') at_h ∙ old_distance one (slice_index order head) seen_h in
              let d_k : distance_of found' (slice_index order' k) ≡ distance = ap (distance_of found') last ∙ new_distance one in
              record {
                seen = ap (is_found found') last ∙ ap is_some (at_new one);
                root = ap (root_of found') last ∙ new_root one ∙ next.0 ∙ sym (ap (root_of found') at_h ∙ old_root one (slice_index order head) seen_h);
                distance = omega arith;
              })
          | inr past ↦ (let at : head ≡ k = omega arith in
              record {
                seen = ap (is_found found') last ∙ ap is_some (at_new one);
                root = ap (λ i. root_of found' (slice_index order' i)) (sym at);
                distance = (let d : distance_of found' (slice_index order' k)
                    ≡ distance_of found' (slice_index order' head) = ap (λ i. distance_of found' (slice_index order' i)) (sym at) in omega arith);
              })
        ]
      ];
    }

-- no station is found at first
pub no_walk : (edge : ℕ → ℕ → Bool) (n : ℕ) → IsWalk edge n 0 [] (replicate n None)
no_walk edge n =
    let long : length (replicate {A = Option Found} n None) ≡ n = length-replicate n None in
    let none : (v : ℕ) → is_found (replicate n None) v ≡ false = λ v. elim (cases_lt v n) [
      | inl low ↦ ap is_some (get_or-replicate n v None None low)
      | inr past ↦ ap is_some (get_or-eq_default (replicate n None) None (omega arith))
    ] in
    let never : (v : ℕ) → is_found (replicate n None) v ≡ true → ⊥ = λ v seen. true≢false (sym seen ∙ none v) in
    record {
      wide = long;
      listed = λ k low. absurd (omega arith);
      each_once = λ f. sym (sum_by-same (λ v. cond (is_found (replicate n None) v) (f v) 0) (λ v. 0) (range_with_len 0 n) (λ v there. ap (λ b. cond b (f v) 0) (none v)) ∙ sum_by-zero (range_with_len 0 n));
      short = λ v seen. absurd (never v seen);
      begins = λ v seen at. absurd (never v seen);
      goes_on = λ v seen far. absurd (never v seen);
      least = λ v seen. absurd (never v seen);
      before = λ v u seen low. absurd (never v seen);
      closed = λ k w less. absurd (omega arith);
      rising = λ j k below low. absurd (omega arith);
      queue = λ k high low. absurd (omega arith);
    }

-- where all neighbours of a station are next to it, the walk goes on to the next place
pub next_place : (edge : ℕ → ℕ → Bool) (n head : ℕ) (order : List ℕ) (found : List (Option Found)) → IsWalk edge n head order found → head < length order →
    ((x : ℕ) → x < n → edge (slice_index order head) x ≡ true → IsNextTo found (slice_index order head) x) → IsWalk edge n (head + 1) order found
next_place edge n head order found walk here row = record {
  wide = walk.wide;
  listed = walk.listed;
  each_once = walk.each_once;
  short = walk.short;
  begins = walk.begins;
  goes_on = walk.goes_on;
  least = walk.least;
  before = walk.before;
  closed = λ k x less inside is_edge. elim (cases_lt k head) [
    | inl sooner ↦ walk.closed k x sooner inside is_edge
    | inr past ↦ (let at : k ≡ head = omega arith in
        subst (λ i. IsNextTo found (slice_index order i) x) (sym at) (row x inside (subst (λ i. edge (slice_index order i) x ≡ true) at is_edge)))
  ];
  rising = walk.rising;
  queue = λ k high low.
      let of_k = walk.queue k (omega arith) low in
      let of_next = walk.queue (head + 1) (omega arith) (omega arith) in
      let up = walk.rising head (head + 1) (omega arith) (omega arith) (sym of_next.root) in
      let near = of_k.distance in
      record { seen = walk.listed k low; root = of_k.root ∙ sym of_next.root; distance = omega arith };
}

-- as many ones as items
ones : (xs : List ℕ) → sum_by (λ x. 1) xs ≡ length xs
ones [] = refl
ones (x ∷ xs) = let rest = ones xs in let split = sum_by-cons (λ x. 1) x xs in omega arith

-- the order is no longer than the stations are many
pub order_within : (edge : ℕ → ℕ → Bool) (n head : ℕ) (order : List ℕ) (found : List (Option Found)) → IsWalk edge n head order found → length order ≤ n
order_within edge n head order found walk =
    let all = walk.each_once (λ v. 1) in
    let most = count_by-le-length (is_found found) (range_with_len 0 n) in
    let long = length-range_with_len 0 n in
    let many = ones order in
    omega arith

-- an order as long as the stations are many has all of them
pub all_found : (edge : ℕ → ℕ → Bool) (n head : ℕ) (order : List ℕ) (found : List (Option Found)) → IsWalk edge n head order found → n ≤ length order → (v : ℕ) → v < n → is_found found v ≡ true
all_found edge n head order found walk whole v low = elim (cases_Bool (is_found found v)) [
  | inl seen ↦ seen
  | inr missing ↦ (let stations = range_with_len 0 n in
      let all = walk.each_once (λ x. 1) in
      let many = ones order in
      let long = length-range_with_len 0 n in
      let most = count_by-le-length (λ x. nat_eq x v || is_found found x) stations in
      let split = sum_by-same (λ x. cond (nat_eq x v || is_found found x) 1 0) (λ x. cond (nat_eq x v) 1 0 + cond (is_found found x) 1 0) stations
      (λ x there. either_counts (nat_eq x v) (is_found found x) 1 (λ same. ap (is_found found) (eqb-true x v same) ∙ missing)) in
      let both = sum_by-plus (λ x. cond (nat_eq x v) 1 0) (λ x. cond (is_found found x) 1 0) stations in
      let single = sum_by-single (λ x. 1) 0 n v zero-le (omega arith) in
      absurd (omega arith))
]

-- a station found is one of the stations
pub found_below : (found : List (Option Found)) (n v : ℕ) → length found ≡ n → is_found found v ≡ true → v < n
found_below found n v wide seen = elim (cases_lt v n) [
  | inl low ↦ low
  | inr past ↦ absurd (true≢false (sym seen ∙ ap is_some (get_or-eq_default found None (omega arith))))
]

-- the place of a number that counts
place_of : (v : ℕ) (xs : List ℕ) → 0 < sum_by (λ x. cond (nat_eq x v) 1 0) xs → (k : ℕ) × (k < length xs) × (slice_index xs k ≡ v)
place_of v [] some = absurd (omega arith)
place_of v (x ∷ xs) some = elim (cases_Bool (nat_eq x v)) [
  | inl same ↦ (0, omega arith, eqb-true x v same)
  | inr other ↦ (let split = sum_by-cons (λ x. cond (nat_eq x v) 1 0) x xs in
      let none : cond {A = ℕ} (nat_eq x v) 1 0 ≡ 0 = ap (λ b. cond {A = ℕ} b 1 0) other in
      let later = place_of v xs (omega arith) in
      let low = later.1 in
      (suc later.0, omega arith, later.2))
]

-- a station found stands in the order
pub place_found_at : (edge : ℕ → ℕ → Bool) (n head : ℕ) (order : List ℕ) (found : List (Option Found)) → IsWalk edge n head order found → (v : ℕ) → v < n → is_found found v ≡ true →
    (k : ℕ) × (k < length order) × (slice_index order k ≡ v)
place_found_at edge n head order found walk v low seen =
    let stations = range_with_len 0 n in
    let all = walk.each_once (λ x. cond (nat_eq x v) 1 0) in
    let turned = sum_by-same (λ x. cond (is_found found x) (cond (nat_eq x v) 1 0) 0) (λ x. cond (nat_eq x v) (cond (is_found found x) 1 0) 0) stations (λ x there. turn (is_found found x) (nat_eq x v)) in
    let single = sum_by-single (λ x. cond (is_found found x) 1 0) 0 n v zero-le (omega arith) in
    let one : cond {A = ℕ} (is_found found v) 1 0 ≡ 1 = ap (λ b. cond {A = ℕ} b 1 0) seen in
    place_of v order (omega arith)
  where
    turn : (a b : Bool) → cond {A = ℕ} a (cond b 1 0) 0 ≡ cond b (cond a 1 0) 0
    turn true true = refl
    turn true false = refl
    turn false true = refl
    turn false false = refl

-- the least station that was not found can be the root of a part
pub root_can : (edge : ℕ → ℕ → Bool) (n head : ℕ) (order : List ℕ) (found : List (Option Found)) → IsWalk edge n head order found → length order ≤ head → (r : ℕ) →
    find (λ v. not (is_found found v)) (range_with_len 0 n) ≡ Some r → (is_found found r ≡ false) × (r < n) × CanBeFound edge head order found r r 0
root_can edge n head order found walk past r is =
    let passes = found_passes (λ v. not (is_found found v)) (range_with_len 0 n) r is in
    let missing : is_found found r ≡ false = not_true (is_found found r) passes.0 in
    let bound : r < 0 + n = below_range 0 n r passes.1 in (
      missing,
      omega arith,
      record {
        short = omega arith;
        begins = λ at. refl;
        goes_on = λ far. absurd (omega arith);
        least = omega arith;
        before = λ x low. elim (cases_lt x r) [
          | inl less ↦ inr (not_false (is_found found x) (found_first (λ v. not (is_found found v)) 0 n r x is (omega arith) less))
          | inr high ↦ inl (let same : x ≡ r = omega arith in same)
        ];
        rising = λ j low same. absurd (true≢false (sym (walk.before (slice_index order j) r (walk.listed j low) (omega arith)) ∙ missing));
        queue = λ low. absurd (omega arith);
      },
    )
  where
    not_true : (b : Bool) → not b ≡ true → b ≡ false
    not_true true h = absurd (true≢false (sym h))
    not_true false h = refl

    not_false : (b : Bool) → not b ≡ false → b ≡ true
    not_false true h = refl
    not_false false h = absurd (true≢false h)

-- where there is none, all stations are in the order
pub none_missing : (edge : ℕ → ℕ → Bool) (n head : ℕ) (order : List ℕ) (found : List (Option Found)) → IsWalk edge n head order found → find (λ v. not (is_found found v)) (range_with_len 0 n) ≡ None → n ≤ length order
none_missing edge n head order found walk none =
    let all = walk.each_once (λ v. 1) in
    let each = sum_by-same (λ v. cond (is_found found v) 1 0) (λ v. 1) (range_with_len 0 n) (λ v there. elim (cases_Bool (is_found found v)) [
      | inl seen ↦ ap (λ b. cond {A = ℕ} b 1 0) seen
      | inr missing ↦ absurd (let some = found_by (λ v. not (is_found found v)) (range_with_len 0 n) v there (ap not missing) in none-some some.0 (sym none ∙ some.1))
    ]) in
    let long = length-range_with_len 0 n in
    let stations = ones (range_with_len 0 n) in
    let many = ones order in
    omega arith

-- a neighbour of the station at the head that was not found can be found from there
pub neighbour_can : (edge : ℕ → ℕ → Bool) (n head : ℕ) (order : List ℕ) (found : List (Option Found)) → IsWalk edge n head order found → head < length order → (w root distance : ℕ) →
    is_found found w ≡ false → edge (slice_index order head) w ≡ true → slice_index_or found (slice_index order head) None ≡ Some (record { root = root; distance = distance }) →
    CanBeFound edge head order found w root (distance + 1)
neighbour_can edge n head order found walk here w root distance missing is_edge is =
    let u = slice_index order head in
    let seen = walk.listed head here in
    let at_root : root_of found u ≡ root = ap (λ o. option_map_or (λ p. p.root) o 0) is in
    let at_distance : distance_of found u ≡ distance = ap (λ o. option_map_or (λ p. p.distance) o 0) is in
    let bound = walk.short u seen in
    record {
      short = omega arith;
      begins = λ at. absurd (omega arith);
      goes_on = λ far. (u, seen, is_edge, at_root, ap (λ d. d + 1) at_distance);
      least = elim (cases_lt w root) [
        | inl less ↦ absurd (true≢false (sym (walk.before u w seen (omega arith)) ∙ missing))
        | inr high ↦ high
      ];
      before = λ x low. inr (walk.before u x seen (omega arith));
      rising = λ j low same. elim (cases_lt j head) [
        | inl sooner ↦ (let up = walk.rising j head (omega arith) here (same ∙ sym at_root) in omega arith)
        | inr later ↦ (let next = walk.queue j later low in let near = next.distance in omega arith)
      ];
      queue = λ low. (sym at_root, omega arith);
    }

-- what follows from two facts of a success
pub on_ok : {T E P Q R : Type 0} (r : Result T E) → (P → Q → R) → OnOk r P → OnOk r Q → OnOk r R
on_ok (Ok x) f p q = f p q
on_ok (Err e) f p q = tt

-- a place within a list has the same item whatever stands for places past it
pub any_default : {A : Type 0} (xs : List A) (i : ℕ) (d e : A) → i < length xs → slice_index_or xs i d ≡ slice_index_or xs i e
any_default [] i d e low = absurd (omega arith)
any_default (x ∷ xs) zero d e low = refl
any_default (x ∷ xs) (suc i) d e low = any_default xs i d e (omega arith)

-- a neighbour of the station at the head that was found before is next to it
pub found_next : (edge : ℕ → ℕ → Bool) (n head : ℕ) (order : List ℕ) (found : List (Option Found)) → IsWalk edge n head order found → head < length order →
    ((u v : ℕ) → u < n → v < n → edge u v ≡ true → edge v u ≡ true) → (w : ℕ) → is_found found w ≡ true → edge (slice_index order head) w ≡ true → IsNextTo found (slice_index order head) w
found_next edge n head order found walk here both w seen is_edge =
    let u = slice_index order head in
    let low_u = found_below found n u walk.wide (walk.listed head here) in
    let low_w = found_below found n w walk.wide seen in
    let at = place_found_at edge n head order found walk w low_w seen in
    elim (cases_lt at.0 head) [
      | inl sooner ↦ (let back : edge (slice_index order at.0) u ≡ true = ap (λ x. edge x u) at.2 ∙ both u w low_u low_w is_edge in
          let next = walk.closed at.0 u sooner low_u back in
          let roots : root_of found (slice_index order at.0) ≡ root_of found u = sym next.root in
          let up = walk.rising at.0 head (omega arith) here roots in
          let far : distance_of found (slice_index order at.0) ≡ distance_of found w = ap (distance_of found) at.2 in
          record { seen = seen; root = ap (root_of found) (sym at.2) ∙ roots; distance = omega arith })
      | inr later ↦ subst (λ x. IsNextTo found u x) at.2 (walk.queue at.0 later at.1)
    ]
