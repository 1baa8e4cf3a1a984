-- What a word leaves is what is kept of the epoch with that word.
use Rattle.std.proofs.Common.{◌≡◌, ℕ, ◌&&◌, Bool, true, false, List, [], ◌∷◌, ◌++◌, length, map, drop, Option, Some, Result, Ok, Err, refl, sym, ap, ◌∙◌, subst, is_none, slice_get}
use Rattle.std.proofs.Math.Seq.{drop-append_seam, drop-length}
use Rattle.dc_spec.specs.Groups.{Group, GroupFault, group_of}
use Rattle.dc_spec.specs.Values.{last_number, number_of}
use Rattle.dc_station_rules.specs.Epochs.{Leaf, EpochFault, Tree, unsplit, Ranged, split_by, put, current, come_out, Epoch, unbegun, resolving, void_epoch, root_or_fault, grown_tree, with_word, epoch_of, leaves, leaves_at, request_after, request_for, is_called, calls, is_over}
use Rattle.dc_average.specs.declared.ask.Step.{Step}
use Rattle.dc_average.specs.Items.{Item, a_group, items_of, groups_in, from_open, leaves_in}
use Rattle.dc_average.specs.StandsFor.{State, is_empty, is_done, state_of, StandsFor}
use Rattle.dc_average.specs.Answers.{StepLeadsTo, LeftBy, root_tree, step_with}
use Rattle.dc_station_rules.proofs.Pushes.{epoch_of-push}
use Rattle.dc_average.proofs.ItemLemmas.{first, current-first, from_open-after, leaves_in-after, come_out-leaves, Grafted, cut_of, cut_from_open, cut_come_out, cut_groups, groups_are, IsOrdered, epoch_of-ordered}

-- a list is empty exactly where it has no first
empty_first : (xs : List Ranged) → is_empty xs ≡ is_none (first xs)
empty_first [] = refl
empty_first (x ∷ xs) = refl

-- whether the epoch takes no further word can be seen from what is kept
over_kept : (epoch : Epoch) → is_done (state_of epoch) ≡ is_over epoch
over_kept unbegun = refl
over_kept (resolving t) = empty_first (from_open (items_of t)) ∙ ap is_none (sym (current-first t))
over_kept (void_epoch out fault) = refl

-- what is kept of the epoch of words stands for them
pub StandsFor-from_kept : (state : State) (words : List (List ℕ)) → state ≡ state_of (epoch_of words) → StandsFor state words
StandsFor-from_kept state words kept = record {
  kept = kept;
  over = ap is_done kept ∙ over_kept (epoch_of words);
}

-- before its root an epoch stands for no words
pub StandsFor-nil : (waiting : List Ranged) → waiting ≡ [] → StandsFor (record { begun = false; waiting = waiting }) []
unfolding epoch_of
StandsFor-nil waiting none = StandsFor-from_kept (record { begun = false; waiting = waiting }) [] (rw none refl)

-- an epoch is not both before its root and after it
root_apart : (xs ys : List Ranged) → ◌≡◌ {A = State} (record { begun = true; waiting = xs }) (record { begun = false; waiting = ys }) → ⊥
root_apart xs ys e = let b : true ≡ false = ap (λ (s : State). s.begun) e in cc

-- a group that waits is not none
none_apart : (x : Ranged) (xs : List Ranged) → ◌≡◌ {A = State} (record { begun = true; waiting = x ∷ xs }) (record { begun = true; waiting = [] }) → ⊥
none_apart x xs e = let w : x ∷ xs ≡ [] = ap (λ (s : State). s.waiting) e in cc

-- before the root nothing was received
pub before_root : (epoch : Epoch) (waiting : List Ranged) → record { begun = false; waiting = waiting } ≡ state_of epoch → epoch ≡ unbegun
before_root unbegun waiting kept = refl
before_root (resolving t) waiting kept = absurd (root_apart (from_open (items_of t)) waiting (sym kept))
before_root (void_epoch out fault) waiting kept = absurd (root_apart [] waiting (sym kept))

-- the current group is the first of those that wait
pub current_kept : (t : Tree) (whole : Ranged) (rest : List Ranged) → whole ∷ rest ≡ from_open (items_of t) → current t ≡ Some whole
current_kept t whole rest kept = current-first t ∙ ap first (sym kept)

-- what an epoch asks for, by its first group that waits
pub asked_kept : (epoch : Epoch) (whole : Ranged) (rest : List Ranged) → record { begun = true; waiting = whole ∷ rest } ≡ state_of epoch → request_after epoch ≡ request_for (Some whole)
asked_kept unbegun whole rest kept = absurd (root_apart (whole ∷ rest) [] kept)
asked_kept (resolving t) whole rest kept = ap request_for (current_kept t whole rest (ap (λ (s : State). s.waiting) kept))
asked_kept (void_epoch out fault) whole rest kept = absurd (none_apart whole rest kept)

-- whom an epoch calls, by its first group that waits
pub calls_kept : (value : List ℕ) (epoch : Epoch) (whole : Ranged) (rest : List Ranged) → record { begun = true; waiting = whole ∷ rest } ≡ state_of epoch
    → calls value epoch ≡ is_called (number_of value) (Some whole)
calls_kept value unbegun whole rest kept = absurd (root_apart (whole ∷ rest) [] kept)
calls_kept value (resolving t) whole rest kept = ap (is_called (number_of value)) (current_kept t whole rest (ap (λ (s : State). s.waiting) kept))
calls_kept value (void_epoch out fault) whole rest kept = absurd (none_apart whole rest kept)

-- how an epoch goes on at a word, by what the word left
pub record Taken (before after : Epoch) (stack : List Ranged) (out : List Leaf) (step : Step) : Type 0 where
  pub kept : record { begun = true; waiting = stack } ≡ state_of after
  pub leads : StepLeadsTo step after
  pub came_out : out ≡ drop (length (leaves before)) (leaves after)

-- the step by the groups that wait
leads_by : (stack : List Ranged) (t : Tree) → stack ≡ from_open (items_of t) → StepLeadsTo (step_with stack) (resolving t)
leads_by [] t kept = (t, (refl, ap is_none (current-first t ∙ ap first (sym kept))))
leads_by (place ∷ rest) t kept = ap is_none (current-first t ∙ ap first (sym kept))

-- a root leaves what is kept of the epoch with it
root_by : (root : Result Group GroupFault) (stack : List Ranged) (out : List Leaf) (step : Step) → LeftBy (root_tree root) [] stack out step → Taken unbegun (root_or_fault root) stack out step
root_by (Err fault) stack out step left = record {
  kept = rw left.1.2 refl;
  leads = rw left.1.0 ([], rw (sym left.1.1) refl);
  came_out = left.1.3;
}
root_by (Ok group) stack out step left = record {
  kept = rw left.0 refl;
  leads = rw left.2 (leads_by stack (unsplit group 0 last_number) left.0);
  came_out = left.1 ∙ sym (come_out-leaves (unsplit group 0 last_number));
}

-- an answer leaves what is kept of the tree with it
grown_by : (t : Tree) (made : Result Tree EpochFault) (grown : Option (Result Tree EpochFault)) (before : List Item) (rest stack : List Ranged) (out : List Leaf) (step : Step) → from_open before ≡ []
    → come_out t ≡ leaves_in before → Grafted made grown before (map a_group rest) → LeftBy made rest stack out step → Taken (resolving t) (grown_tree t grown) stack out step
grown_by t (Err fault) grown before rest stack out step closed came graft left = rw graft (record {
  kept = rw left.1.2 refl;
  leads = rw left.1.0 (come_out t, rw (sym left.1.1) refl);
  came_out = left.1.3 ∙ sym (drop-length (come_out t));
})
grown_by t (Ok tree) grown before rest stack out step closed came graft left =
    let new = graft.0 in
    let kept : stack ≡ from_open (items_of new) = left.0 ∙ sym (ap from_open graft.1.1 ∙ from_open-after before (items_of tree ++ map a_group rest) closed) in
    let all : come_out new ≡ leaves_in before ++ leaves_in (items_of tree ++ map a_group rest) = come_out-leaves new ∙ (ap leaves_in graft.1.1 ∙ leaves_in-after before (items_of tree ++ map a_group rest) closed) in
    rw graft.1.0 (record {
      kept = rw (sym kept) refl;
      leads = rw left.2 (leads_by stack new kept);
      came_out = rw (came, all) (left.1 ∙ sym (drop-append_seam (leaves_in before) (leaves_in (items_of tree ++ map a_group rest))));
    })

-- the same list has the same rest
same_rest : (x y : Ranged) (xs ys : List Ranged) → x ∷ xs ≡ y ∷ ys → xs ≡ ys
same_rest x y xs ys e = cc

-- a word for the current group leaves what is kept of the epoch with it
resolved_by : (epoch : Epoch) (word : List ℕ) (whole : Ranged) (rest stack : List Ranged) (out : List Leaf) (step : Step) → IsOrdered epoch
    → record { begun = true; waiting = whole ∷ rest } ≡ state_of epoch → LeftBy (split_by whole.group whole.low whole.high word) rest stack out step → Taken epoch (with_word epoch word) stack out step
resolved_by unbegun word whole rest stack out step ordered kept left = absurd (root_apart (whole ∷ rest) [] kept)
resolved_by (void_epoch before fault) word whole rest stack out step ordered kept left = absurd (none_apart whole rest kept)
resolved_by (resolving t) word whole rest stack out step ordered kept left =
    let waits : whole ∷ rest ≡ from_open (items_of t) = ap (λ (s : State). s.waiting) kept in
    let cut = cut_of word t whole (current_kept t whole rest waits) in
    let same : rest ≡ groups_in cut.after = same_rest whole whole rest (groups_in cut.after) (waits ∙ cut_from_open word t whole cut) in
    let after : cut.after ≡ map a_group rest = groups_are cut.after (cut_groups word t whole cut ordered) ∙ ap (map a_group) (sym same) in
    let graft = subst (λ (zs : List Item). Grafted (split_by whole.group whole.low whole.high word) (put word t) cut.before zs) after cut.grafted in
    grown_by t (split_by whole.group whole.low whole.high word) (put word t) cut.before rest stack out step cut.closed (cut_come_out word t whole cut) graft left

-- what holds of the epoch with one more word
pub record WithWord (words : List (List ℕ)) (word : List ℕ) (stack : List Ranged) (out : List Leaf) (step : Step) : Type 0 where
  pub stands : StandsFor (record { begun = true; waiting = stack }) (words ++ word ∷ [])
  pub leads : StepLeadsTo step (epoch_of (words ++ word ∷ []))
  pub came_out : out ≡ leaves_at words word

-- the same, said of all words so far
with_word_by : (words : List (List ℕ)) (word : List ℕ) (stack : List Ranged) (out : List Leaf) (step : Step) → Taken (epoch_of words) (with_word (epoch_of words) word) stack out step
    → WithWord words word stack out step
with_word_by words word stack out step taken =
    let more = epoch_of-push words word in
    record {
      stands = StandsFor-from_kept (record { begun = true; waiting = stack }) (words ++ word ∷ []) (taken.kept ∙ ap state_of (sym more));
      leads = rw more taken.leads;
      came_out = taken.came_out ∙ ap (λ (epoch : Epoch). drop (length (leaves (epoch_of words))) (leaves epoch)) (sym more);
    }

-- a root after no words
pub with_root : (words : List (List ℕ)) (word : List ℕ) (waiting stack : List Ranged) (out : List Leaf) (step : Step) → StandsFor (record { begun = false; waiting = waiting }) words
    → LeftBy (root_tree (group_of word)) [] stack out step → WithWord words word stack out step
with_root words word waiting stack out step stands left =
    let none : epoch_of words ≡ unbegun = before_root (epoch_of words) waiting stands.kept in
    with_word_by words word stack out step (subst (λ (epoch : Epoch). Taken epoch (with_word epoch word) stack out step) (sym none) (root_by (group_of word) stack out step left))

-- a word for the current group after other words
pub with_answer : (words : List (List ℕ)) (word : List ℕ) (whole : Ranged) (rest stack : List Ranged) (out : List Leaf) (step : Step)
    → StandsFor (record { begun = true; waiting = whole ∷ rest }) words → LeftBy (split_by whole.group whole.low whole.high word) rest stack out step → WithWord words word stack out step
with_answer words word whole rest stack out step stands left =
    with_word_by words word stack out step (resolved_by (epoch_of words) word whole rest stack out step (epoch_of-ordered words) stands.kept left)

-- a state that takes a word has a group that waits
no_next : (state : State) (begun : Bool) → record { begun = begun; waiting = [] } ≡ state → begun ≡ true → is_done state ≡ false → ⊥
no_next state begun is started unfinished =
    let e : begun && true ≡ false = ap is_done is ∙ unfinished in
    let t : true ≡ false = sym (ap (λ (b : Bool). b && true) started) ∙ e in
    cc

-- a word for the current group of a state that takes one
pub with_next : (state : State) (words : List (List ℕ)) (word : List ℕ) (begun : Bool) (waiting stack : List Ranged) (out : List Leaf) (step : Step)
    → record { begun = begun; waiting = waiting } ≡ state → begun ≡ true → is_done state ≡ false → StandsFor state words
    → ((whole : Ranged) (rest : List Ranged) → waiting ≡ whole ∷ rest → LeftBy (split_by whole.group whole.low whole.high word) rest stack out step) → WithWord words word stack out step
with_next state words word begun [] stack out step is started unfinished stands left = absurd (no_next state begun is started unfinished)
with_next state words word begun (whole ∷ rest) stack out step is started unfinished stands left =
    let same : ◌≡◌ {A = State} state (record { begun = true; waiting = whole ∷ rest }) = sym is ∙ ap (λ (b : Bool). record { begun = b; waiting = whole ∷ rest }) started in
    with_answer words word whole rest stack out step (subst (λ (s : State). StandsFor s words) same stands) (left whole rest refl)

-- a root for a state before it
pub with_first : (state : State) (words : List (List ℕ)) (word : List ℕ) (begun : Bool) (waiting stack : List Ranged) (out : List Leaf) (step : Step)
    → record { begun = begun; waiting = waiting } ≡ state → begun ≡ false → StandsFor state words → LeftBy (root_tree (group_of word)) [] stack out step → WithWord words word stack out step
with_first state words word begun waiting stack out step is started stands left =
    let same : ◌≡◌ {A = State} state (record { begun = false; waiting = waiting }) = sym is ∙ ap (λ (b : Bool). record { begun = b; waiting = waiting }) started in
    with_root words word waiting stack out step (subst (λ (s : State). StandsFor s words) same stands) left

-- what a state that takes a word for a group asks for, and whom it calls
pub asked_by : (state : State) (words : List (List ℕ)) (begun : Bool) (waiting : List Ranged) (top : Ranged) → record { begun = begun; waiting = waiting } ≡ state → begun ≡ true
    → slice_get waiting 0 ≡ Some top → StandsFor state words → request_after (epoch_of words) ≡ request_for (Some top)
asked_by state words begun [] top is started here stands = absurd cc
asked_by state words begun (whole ∷ rest) top is started here stands =
    let same : whole ≡ top = cc in
    asked_kept (epoch_of words) whole rest ((sym (ap (λ (b : Bool). record { begun = b; waiting = whole ∷ rest }) started) ∙ is) ∙ stands.kept) ∙ ap (λ (p : Ranged). request_for (Some p)) same

-- whom a state calls that takes a word for a group
pub called_by : (state : State) (words : List (List ℕ)) (value : List ℕ) (begun : Bool) (waiting : List Ranged) (top : Ranged) → record { begun = begun; waiting = waiting } ≡ state → begun ≡ true
    → slice_get waiting 0 ≡ Some top → StandsFor state words → calls value (epoch_of words) ≡ is_called (number_of value) (Some top)
called_by state words value begun [] top is started here stands = absurd cc
called_by state words value begun (whole ∷ rest) top is started here stands =
    let same : whole ≡ top = cc in
    calls_kept value (epoch_of words) whole rest ((sym (ap (λ (b : Bool). record { begun = b; waiting = whole ∷ rest }) started) ∙ is) ∙ stands.kept) ∙ ap (λ (p : Ranged). is_called (number_of value) (Some p)) same
