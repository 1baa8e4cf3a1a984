-- What is accepted keeps the limits.
use Rattle.std.proofs.Common.{◌≡◌, ℕ, ℤ, pos, negsuc, ◌*◌, ◌<◌, ◌≤◌, ◌&&◌, leb, ltb, eqb, List, length, get_or, Option, Some, None, Result, Ok, Err, codes, sym, ap, subst, ◌∙◌, arith, inl, inr}
use Rattle.std.specs.List.{range_with_len, All}
use Rattle.std.proofs.lemmas.Bool.{cases_Bool, leb-true, ltb-false, eqb-true, and_parts}
use Rattle.std.proofs.lemmas.List.Elements.{All-filter, All-from_get_or}
use Rattle.std.proofs.lemmas.List.FromFn.{get_or-range_with_len, length-range_with_len}
use Rattle.dc_spec.specs.Lists.{is_among}
use Rattle.dc_spec.specs.Limits.{most_words, most_pads}
use Rattle.dc_graph.specs.declared.fault.GraphFault.{GraphFault}
use Rattle.dc_graph.specs.declared.fault.MemberFault.{MemberFault}
use Rattle.dc_graph.specs.Graph.{PlainGraph, IsGraph, AreMembers}
use Rattle.dc_manifest.specs.declared.fault.ManifestFault.{ManifestFault}
use Rattle.dc_manifest.specs.Content.{Content, IsContent}
use Rattle.dc_manifest.specs.Fields.{◌>>=◌, FieldValues}
use Rattle.dc_manifest.specs.Reading.{within, short, short_pair, each, with_streams, GivenNumbers, numbers_of, graph_of, coalition_of, rising_edges, rising_members, sized}

within_ok : (name : List ℕ) (low high : ℕ) (z : ℤ) (n : ℕ) → within name low high z ≡ Ok n → (low ≤ n) × (n ≤ high)
within_ok name low high (negsuc m) n e = absurd cc
within_ok name low high (pos m) n e = elim (cases_Bool (leb low m && leb m high)) [
  | inl passes ↦ (let same : m ≡ n = (let h : Ok m ≡ Ok n = rw passes at e in cc) in
      let parts = and_parts (leb low m) (leb m high) passes in
      let least = leb-true low m parts.0 in
      let most = leb-true m high parts.1 in
      (omega arith, omega arith))
  | inr fails ↦ absurd (let h = rw fails at e in cc)
]

streams_ok : (stations count n : ℕ) → with_streams stations count ≡ Ok n → count ≡ n
streams_ok stations count n e = elim (cases_Bool (eqb count stations)) [
  | inl same ↦ (let is = eqb-true count stations same in let h : Ok stations ≡ Ok n = rw same at e in is ∙ cc)
  | inr differ ↦ absurd (let h = rw differ at e in cc)
]

sized_ok : (edges words w : ℕ) → sized edges words ≡ Ok w → (w ≡ words) × (edges * (32 * w) ≤ most_pads)
sized_ok edges words w e = elim (cases_Bool (ltb most_pads (edges * 32 * words))) [
  | inl above ↦ absurd (let h = rw above at e in cc)
  | inr fits ↦ (let h : Ok words ≡ Ok w = rw fits at e in
      let same : w ≡ words = cc in
      let most = ltb-false most_pads (edges * 32 * words) fits in
      (same, rw same (omega arith)))
]

-- the numbers of accepted values
pub record InRange (values : FieldValues) (numbers : GivenNumbers) : Type 0 where
  pub some_words : 1 ≤ numbers.words
  pub most_words : numbers.words ≤ most_words
  pub streams : length values.streams ≡ numbers.stations

-- what the last two of the tests gave
last_read : (r words : Result ℕ ManifestFault) (coalition : List ℕ) (edges : List (ℕ × ℕ)) (numbers : GivenNumbers)
    → (r >>= λ n. words >>= λ w. Ok (record { coalition = coalition; edges = edges; stations = n; words = w })) ≡ Ok numbers → (r ≡ Ok numbers.stations) × (words ≡ Ok numbers.words)
last_read (Err fault) words coalition edges numbers e = absurd cc
last_read (Ok n) (Err fault) coalition edges numbers e = absurd cc
last_read (Ok n) (Ok w) coalition edges numbers e =
    let given : GivenNumbers = record { coalition = coalition; edges = edges; stations = n; words = w } in
    let same : given ≡ numbers = cc in
    (ap (λ (g : GivenNumbers). Ok g.stations) same, ap (λ (g : GivenNumbers). Ok g.words) same)

-- what all of them gave
all_read : (members : Result (List ℕ) ManifestFault) (edges : Result (List (ℕ × ℕ)) ManifestFault) (stations : Result ℕ ManifestFault) (counted : ℕ → Result ℕ ManifestFault) (words : Result ℕ ManifestFault) (numbers : GivenNumbers)
    → (members >>= λ ms. edges >>= λ es. stations >>= λ n. counted n >>= λ n. words >>= λ w. Ok (record { coalition = ms; edges = es; stations = n; words = w })) ≡ Ok numbers
    → (n : ℕ) × (counted n ≡ Ok numbers.stations) × (words ≡ Ok numbers.words)
all_read (Err fault) edges stations counted words numbers e = absurd cc
all_read (Ok ms) (Err fault) stations counted words numbers e = absurd cc
all_read (Ok ms) (Ok es) (Err fault) counted words numbers e = absurd cc
all_read (Ok ms) (Ok es) (Ok n) counted words numbers e = let given = last_read (counted n) words ms es numbers e in (n, given.0, given.1)

in_range : (values : FieldValues) (numbers : GivenNumbers) → numbers_of values ≡ Ok numbers → InRange values numbers
unfolding numbers_of
in_range values numbers e =
    let (n, read_streams, read_words) = all_read (each (short (codes "coalition")) values.coalition) (each (short_pair (codes "edges")) values.edges) (short (codes "stations") values.stations) (λ n. with_streams n (length values.streams)) (within (codes "words") 1 most_words values.words) numbers e in
    let range = within_ok (codes "words") 1 most_words values.words numbers.words read_words in
    record { some_words = range.0; most_words = range.1; streams = streams_ok n (length values.streams) numbers.stations read_streams }

graph_ok : (n : ℕ) (edges : List (ℕ × ℕ)) (fault : Option GraphFault) (g : PlainGraph) → graph_of n edges fault ≡ Ok g → g.stations ≡ n
graph_ok n edges None g e = let same : record { stations = n; edges = rising_edges n edges } ≡ g = cc in sym (ap (λ (h : PlainGraph). h.stations) same)
graph_ok n edges (Some fault) g e = absurd cc

members_ok : (n : ℕ) (members : List ℕ) (fault : Option MemberFault) (kept : List ℕ) → coalition_of n members fault ≡ Ok kept → All (λ m. m < n) kept
members_ok n members (Some fault) kept e = absurd cc
members_ok n members None kept e =
    let below : ℕ → Type 0 = λ m. m < n in
    let all : All below (range_with_len 0 n) = All-from_get_or below (range_with_len 0 n) 0 (λ k lt. let short : k < n = omega (arith, length-range_with_len 0 n) in let at : get_or (range_with_len 0 n) k 0 ≡ k = get_or-range_with_len 0 n k 0 short ∙ omega arith in rw at short) in
    let same : rising_members n members ≡ kept = cc in
    subst (All below) same (All-filter (is_among members) below (range_with_len 0 n) all)

-- the content that is accepted
pub accepted : (values : FieldValues) (numbers : GivenNumbers) (m : Content) (n : ℕ) (edges : List (ℕ × ℕ)) (members : List ℕ) (fault : Option GraphFault) (other : Option MemberFault) (count words : ℕ)
    → numbers_of values ≡ Ok numbers → n ≡ numbers.stations → graph_of n edges fault ≡ Ok m.graph → IsGraph m.graph → coalition_of m.graph.stations members other ≡ Ok m.coalition → AreMembers m.coalition
    → count ≡ length m.graph.edges → words ≡ numbers.words → sized count words ≡ Ok m.words → m.streams ≡ values.streams → IsContent m
accepted values numbers m n edges members fault other count words read stations made is_graph joined are_members counted told fits same =
    let range = in_range values numbers read in
    let some = range.some_words in
    let most = range.most_words in
    let size = sized_ok count words m.words fits in
    let kept = size.0 in
    record {
      graph = is_graph;
      coalition = are_members;
      members = members_ok m.graph.stations members other m.coalition joined;
      some_words = omega arith;
      most_words = rw (kept, told) most;
      streams = rw same (range.streams ∙ sym stations ∙ sym (graph_ok n edges fault m.graph made));
      pads = rw (← counted) size.1;
    }
