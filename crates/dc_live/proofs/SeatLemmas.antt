-- Seats: one more peer, and the peer of each station.
use Rattle.std.proofs.Common.{◌≡◌, ◌≢◌, ℕ, zero, suc, ◌+◌, ◌<◌, ◌≤◌, ◌==◌, ◌&&◌, not, nat_lt, nat_eq, Bool, true, false, if◌then◌else◌, IsTrue, ◌⊎◌, inl, inr, List, [], ◌∷◌, ◌++◌, length, get_or, refl, sym, ap, subst, ◌∙◌, arith, eqb-true, eq-eqb, true≢false}
use Rattle.std.proofs.Math.Seq.{get_or-append_seam}
use Rattle.std.proofs.lemmas.Bool.{cases_Bool, ne_eqb, cases_lt, ltb-true}
use Rattle.std.proofs.lemmas.Bool.Decides.{Decides-eqb}
use Rattle.std.proofs.lemmas.List.{length-append, get_or_append_left}
use Rattle.std.proofs.lemmas.List.Kept.{AllPairs-cons}
use Rattle.std.specs.Prelude.{AllPairs}
use Rattle.std.proofs.lemmas.Map.Made.{IsDistinct-from_AllPairs}
use Rattle.std.proofs.lemmas.Map.Steps.{length-le_from_distinct_below}
use Rattle.dc_spec.specs.Lists.{is_among}
use Rattle.dc_spec.proofs.Booleans.{or_cases, or_first, or_second}
use Rattle.dc_spec.specs.Frames.{hello}
use Rattle.dc_frame.specs.Reader.{ReaderState}
use Rattle.dc_live.specs.Receiving.{HasRead, Waits}
use Rattle.dc_live.specs.Seats.{SeatsState, no_seat, with_peer, AreSeats, AreNew, GaveHellos}
use Rattle.dc_live.specs.Greeting.{fits}
use Rattle.dc_live.specs.declared.seats.Seat.{Seat}

-- an item of a list stands in it, and what stands in it has a place
pub stands : (xs : List ℕ) (k d : ℕ) → k < length xs → is_among xs (get_or xs k d) ≡ true
stands [] k d low = absurd (omega arith)
stands (x ∷ xs) zero d low = or_first (nat_eq x x) (is_among xs x) (eq-eqb x x refl)
stands (x ∷ xs) (suc k) d low = or_second (nat_eq (get_or xs k d) x) (is_among xs (get_or xs k d)) (stands xs k d (omega arith))

pub place_in : (xs : List ℕ) (x : ℕ) → is_among xs x ≡ true → (k : ℕ) × (k < length xs) × (get_or xs k 0 ≡ x)
place_in [] x there = absurd (true≢false (sym there))
place_in (y ∷ ys) x there = elim (or_cases (nat_eq x y) (is_among ys x) there) [
  | inl same ↦ (zero, (omega arith), sym (eqb-true x y same))
  | inr later ↦ (let at = place_in ys x later in (suc at.0, (omega (arith, at.1)), at.2))
]

and_last : (a b : Bool) → a && b ≡ true → b ≡ true
and_last true b e = e
and_last false b e = absurd (true≢false (sym e))

and_front : (a b : Bool) → a && b ≡ true → a ≡ true
and_front true b e = refl
and_front false b e = absurd (true≢false (sym e))

not_true : (b : Bool) → not b ≡ true → b ≡ false
not_true true e = absurd (true≢false (sym e))
not_true false e = refl

-- what a fitting hello says of its station
fits-free : (s : SeatsState) (i : ℕ) → IsTrue (fits s i s.stations s.words) → is_among s.told i ≡ false
fits-free s i ok = not_true (is_among s.told i) (and_last ((s.stations == s.stations) && (s.words == s.words) && nat_lt i s.stations) (not (is_among s.told i)) ok)

fits-below : (s : SeatsState) (i : ℕ) → IsTrue (fits s i s.stations s.words) → i < s.stations
fits-below s i ok =
    ltb-true i s.stations (and_last ((s.stations == s.stations) && (s.words == s.words)) (nat_lt i s.stations)
    (and_front ((s.stations == s.stations) && (s.words == s.words) && nat_lt i s.stations) (not (is_among s.told i)) ok))

-- a place of a list with one item more is an old one or the last
old_or_last : (p n : ℕ) → p < n + 1 → (p < n) ⊎ (p ≡ n)
old_or_last p n low = elim (cases_lt p n) [ inl lt ↦ inl lt | inr le ↦ inr (omega arith) ]

-- a fact of every place, where the items of a list stay and one is put at the end
pub each_more : {X : Type 0} (P : ℕ → X → Type 0) (xs : List X) (d x : X) → ((p : ℕ) → p < length xs → P p (get_or xs p d)) → P (length xs) x → (p : ℕ) → p < length (xs ++ x ∷ []) → P p (get_or (xs ++ x ∷ []) p d)
each_more {X} P xs d x all last p low = elim (old_or_last p (length xs) (omega (arith, length-append xs (x ∷ [])))) [
  | inl old ↦ subst (λ (y : X). P p y) (sym (get_or_append_left xs (x ∷ []) d p old)) (all p old)
  | inr same ↦ subst (λ (q : ℕ). P q (get_or (xs ++ x ∷ []) q d)) (sym same) (subst (λ (y : X). P (length xs) y) (sym (get_or-append_seam xs x [] d)) last)
]

-- a fitting hello makes one more seat
pub AreNew-more : (s : SeatsState) (i : ℕ) (r : ReaderState) → AreNew s → Waits r → IsTrue (fits s i s.stations s.words) → length s.told < s.stations → AreNew (with_peer s i r)
AreNew-more s i r new waits ok free =
    let are = new.are in
    let long = length-append s.told (i ∷ []) in
    let seat : Seat = record { heard = 0; reader = r } in
    let seats_long = length-append s.seats (seat ∷ []) in
    let count = are.seats in
    record {
      are = record {
        some_stations = are.some_stations;
        some_words = are.some_words;
        few_words = are.few_words;
        within = omega arith;
        seats = omega arith;
        below = each_more (λ p t. t < s.stations) s.told 0 i are.below (fits-below s i ok);
        distinct = λ p q less low. elim (old_or_last q (length s.told) (omega arith)) [
          | inl old ↦ subst (λ (x : ℕ). x ≢ get_or (s.told ++ i ∷ []) q 0) (sym (get_or_append_left s.told (i ∷ []) 0 p (omega arith)))
              (subst (λ (y : ℕ). get_or s.told p 0 ≢ y) (sym (get_or_append_left s.told (i ∷ []) 0 q old)) (are.distinct p q less old))
          | inr last ↦ λ same. true≢false (
              sym (stands s.told p 0 (omega arith))
              ∙ ap (is_among s.told) (sym (get_or_append_left s.told (i ∷ []) 0 p (omega arith)) ∙ same ∙ ap (λ (x : ℕ). get_or (s.told ++ i ∷ []) x 0) last ∙ get_or-append_seam s.told i [] 0)
              ∙ fits-free s i ok)
        ];
        waits = λ p low. each_more (λ k x. Waits x.reader) s.seats no_seat seat (λ k lt. are.waits k (omega arith)) waits p (omega arith);
      };
      fresh = λ p low. each_more (λ k x. x.heard ≡ 0) s.seats no_seat seat (λ k lt. new.fresh k (omega arith)) refl p (omega arith);
    }

-- and its bytes are those of the peer
pub GaveHellos-more : (s : SeatsState) (i : ℕ) (r : ReaderState) (bytes : List ℕ) (gave : ℕ → List ℕ) → length s.seats ≡ length s.told → HasRead r bytes (hello i s.stations s.words ∷ []) → GaveHellos s gave
    → GaveHellos (with_peer s i r) (λ p. if p == length s.told then bytes else gave p)
GaveHellos-more s i r bytes gave count read before p low =
    let seat : Seat = record { heard = 0; reader = r } in
    let long = length-append s.told (i ∷ []) in
    elim (old_or_last p (length s.told) (omega arith)) [
      | inl old ↦ (
          let other : (p == length s.told) ≡ false = ne_eqb p (length s.told) (λ same. omega arith) in
          rw (other, get_or_append_left s.told (i ∷ []) 0 p old, get_or_append_left s.seats (seat ∷ []) no_seat p (omega arith)) (before p old))
      | inr last ↦ (
          let same : (p == length s.told) ≡ true = eq-eqb p (length s.told) last in
          let told : get_or (s.told ++ i ∷ []) p 0 ≡ i = ap (λ (x : ℕ). get_or (s.told ++ i ∷ []) x 0) last ∙ get_or-append_seam s.told i [] 0 in
          let is : get_or (s.seats ++ seat ∷ []) p no_seat ≡ seat = ap (λ (x : ℕ). get_or (s.seats ++ seat ∷ []) x no_seat) (last ∙ sym count) ∙ get_or-append_seam s.seats seat [] no_seat in
          rw (same, told, is) read)
    ]

-- ---- the peer of a station

same_default : (xs : List ℕ) (k d e : ℕ) → k < length xs → get_or xs k d ≡ get_or xs k e
same_default [] k d e low = absurd (omega arith)
same_default (x ∷ xs) zero d e low = refl
same_default (x ∷ xs) (suc k) d e low = same_default xs k d e (omega arith)

pairs_of : (s : SeatsState) → AreSeats s → AllPairs (λ i j. i ≢ j) s.told
pairs_of s are i j d less low same = are.distinct i j less low (same_default s.told i 0 d (omega arith) ∙ same ∙ same_default s.told j d 0 low)

-- where all stations have peers, each has one
pub has_peer : (s : SeatsState) → AreSeats s → length s.told ≡ s.stations → (w : ℕ) → w < s.stations → is_among s.told w ≡ true
has_peer s are all w low = elim (cases_Bool (is_among s.told w)) [
  | inl there ↦ there
  | inr gone ↦ (
      let apart = IsDistinct-from_AllPairs Decides-eqb (w ∷ s.told) (AllPairs-cons (λ (x y : ℕ). x ≢ y) w s.told
      (λ k d within same. true≢false (sym (subst (λ (z : ℕ). is_among s.told z ≡ true) (sym same) (stands s.told k d within)) ∙ gone)) (pairs_of s are)) in
      let below : (q : ℕ) → is_among (w ∷ s.told) q ≡ true → q < s.stations = λ q there. elim (or_cases (nat_eq q w) (is_among s.told q) there) [
        | inl same ↦ subst (λ (z : ℕ). z < s.stations) (sym (eqb-true q w same)) low
        | inr later ↦ (let at = place_in s.told q later in subst (λ (y : ℕ). y < s.stations) at.2 (are.below at.0 at.1))
      ] in
      let most : suc (length s.told) ≤ s.stations = length-le_from_distinct_below (w ∷ s.told) s.stations apart below in
      absurd (omega arith))
]

-- a station that was told has a place
pub has_place : (told : List ℕ) (i : ℕ) → is_among told i ≡ true → ((k : ℕ) → k < length told → get_or told k 0 ≢ i) → ⊥
has_place told i there nowhere = let at = place_in told i there in nowhere at.0 at.1 at.2
