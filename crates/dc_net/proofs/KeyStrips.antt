-- The keys of the honest stations, strip by strip.
use Rattle.std.proofs.Common.{◌≡◌, ℕ, ◌+◌, ◌-◌, ◌*◌, ◌/◌, ◌%◌, ◌<◌, ◌≤◌, min, List, [], ◌∷◌, ◌++◌, length, get_or, set, sym, ap, subst, ◌∙◌, arith, refl, inl, inr, All}
use Rattle.std.proofs.Math.Nat.{mul-le-mul_right}
use Rattle.std.proofs.lemmas.Bool.{cases_lt}
use Rattle.std.proofs.lemmas.List.{length-append, length-set, get_or-set_same, get_or-set_other, get_or_default, get_or_append_left, get_or_push}
use Rattle.std.proofs.lemmas.Nat.{div-add-mod', mod_below}
use Rattle.dc_spec.specs.Pads.{Keys}
use Rattle.dc_net.specs.KeyStrip.{stations_in, StripStandsFor, TakesRow, TookRow, AllTookRow}
use Rattle.dc_net.specs.RoundKeys.{RoundKeysState, AreRoundKeys, KeysAt, IsNewStrip, AreNewStrips}
use Rattle.dc_net.specs.declared.key_strip.KeyStrip.{KeyStrip}

-- the strip of a place, and the place in it
pub record IsIn (width places strips place : ℕ) : Type 0 where
  pub strip : place / width < strips
  pub here : place / width * width + place % width ≡ place
  pub within : place % width < min width (places - place / width * width)

-- fewer whole strips
fewer : (a b w : ℕ) → a * w < b * w → a < b
fewer a b w less = elim (cases_lt a b) [
  | inl below ↦ below
  | inr past ↦ let le = mul-le-mul_right {m = b} {n = a} w (omega arith) in absurd (omega arith)
]

pub in_strip : (width places strips place : ℕ) → 1 ≤ width → places ≤ strips * width → place < places → IsIn width places strips place
in_strip width places strips place some enough within =
    let here = div-add-mod' place width in
    let low = mod_below place width (omega arith) in
    record {
      strip = fewer (place / width) strips width (omega arith);
      here = here;
      within = omega arith;
    }

-- a place is in its strip
pub place_in : (k : RoundKeysState) (place : ℕ) → AreRoundKeys k → place < k.places → IsIn k.width k.places (length k.strips) place
place_in k place are within = in_strip k.width k.places (length k.strips) place are.some are.enough within

-- the station is one of its strip
pub station_in : (k : RoundKeysState) (place : ℕ) (d : KeyStrip) → AreRoundKeys k → place < k.places
    → place % k.width < stations_in (get_or k.strips (place / k.width) d).keys
station_in k place d are within =
    let here = place_in k place are within in
    let strip = are.strips (place / k.width) d here.strip in
    let count = strip.stations in let low = here.within in omega arith

-- the words of all strips are in a row
pub all_take_row : (k : RoundKeysState) (row : List (List ℕ)) → AreRoundKeys k → length row ≡ k.places → k.taken < k.total → All (TakesRow row) k.strips
all_take_row k row are long left = λ q d low.
    let strip = are.strips q d low in
    record {
      within = let first = strip.first in let count = strip.stations in let begins = strip.begins in omega arith;
      left = let taken = strip.taken in let total = strip.total in omega arith;
    }

-- the keys after a row
pub AreRoundKeys-more : (k : RoundKeysState) (row : List (List ℕ)) (strips : List KeyStrip) → AreRoundKeys k → AllTookRow row k.strips strips
    → AreRoundKeys (record { width = k.width; places = k.places; taken = k.taken + 1; total = k.total; strips = strips })
AreRoundKeys-more k row strips are took = record {
  some = are.some;
  enough = subst (λ (n : ℕ). k.places ≤ n * k.width) (sym took.as_many) are.enough;
  strips = λ q d low.
      let below : q < length k.strips = let long = took.as_many in omega arith in
      let strip = are.strips q d below in
      let more = took.each q d below in
      record {
        begins = strip.begins;
        first = more.first ∙ strip.first;
        stations = more.stations ∙ strip.stations;
        taken = more.taken ∙ ap (λ (n : ℕ). n + 1) strip.taken;
        total = more.total ∙ strip.total;
      };
}

-- each place has its word of the row
pub KeysAt-more : (k : RoundKeysState) (row : List (List ℕ)) (strips : List KeyStrip) (place : ℕ) (keys : Keys) (station : ℕ) (received : List (List ℕ)) → AreRoundKeys k
    → AllTookRow row k.strips strips → KeysAt k place keys station received
    → KeysAt (record { width = k.width; places = k.places; taken = k.taken + 1; total = k.total; strips = strips }) place keys station
    (received ++ get_or row place [] ∷ [])
KeysAt-more k row strips place keys station received are took at =
    let here = place_in k place are at.within in
    record {
      within = at.within;
      session = at.session;
      counted = ap (λ (n : ℕ). n + 1) at.counted ∙ sym (length-append received (get_or row place [] ∷ []));
      stands = λ d.
          let strip = are.strips (place / k.width) d here.strip in
          let more = took.each (place / k.width) d here.strip in
          let next = more.stands (place % k.width) keys station received (station_in k place d are at.within) (at.stands d) in
          let where_is : (get_or k.strips (place / k.width) d).first + place % k.width ≡ place =
          ap (λ (n : ℕ). n + place % k.width) strip.first ∙ here.here in
          subst (λ (n : ℕ). StripStandsFor (get_or strips (place / k.width) d).keys (place % k.width) keys station (received ++ get_or row n [] ∷ [])) where_is next;
    }

-- the strips of new keys
pub AreRoundKeys-new : (strips : List KeyStrip) (keys : Keys) (stations : List ℕ) (width total : ℕ) → 1 ≤ width → total ≡ keys.words → AreNewStrips strips keys stations width
    → AreRoundKeys (record { width = width; places = length stations; taken = 0; total = total; strips = strips })
AreRoundKeys-new strips keys stations width total some same are = record {
  some = some;
  enough = are.enough;
  strips = λ q d low.
      let strip = are.each q d low in
      record {
        begins = strip.begins;
        first = strip.first;
        stations = strip.count;
        taken = strip.taken;
        total = strip.total ∙ sym same;
      };
}

-- no station has received a word
pub KeysAt-new : (strips : List KeyStrip) (keys : Keys) (stations : List ℕ) (width total place : ℕ) → 1 ≤ width → total ≡ keys.words
    → AreNewStrips strips keys stations width → place < length stations
    → KeysAt (record { width = width; places = length stations; taken = 0; total = total; strips = strips }) place keys (get_or stations place 0) []
KeysAt-new strips keys stations width total place some same are within =
    let here = in_strip width (length stations) (length strips) place some are.enough within in
    record {
      within = within;
      session = same;
      counted = refl;
      stands = λ d.
          let strip = are.each (place / width) d here.strip in
          subst (λ (n : ℕ). StripStandsFor (get_or strips (place / width) d).keys (place % width) keys (get_or stations n 0) []) here.here
          (strip.stands (place % width) (let count = strip.count in let low = here.within in omega arith));
    }

-- so many strips have taken their words, the others are as they were
pub record TookSoFar (row : List (List ℕ)) (before now : List KeyStrip) (i : ℕ) : Type 0 where
  pub as_many : length now ≡ length before
  pub done : (q : ℕ) (d : KeyStrip) → q < i → q < length before → TookRow row (get_or before q d) (get_or now q d)
  pub rest : (q : ℕ) (d : KeyStrip) → i ≤ q → get_or now q d ≡ get_or before q d

-- the next one can take its word
pub next_takes : (row : List (List ℕ)) (before now : List KeyStrip) (i : ℕ) (strip : KeyStrip) → TookSoFar row before now i → i < length now → strip ≡ get_or now i strip
    → All (TakesRow row) before → TakesRow row strip
next_takes row before now i strip so_far low is all =
    subst (TakesRow row) (sym (is ∙ so_far.rest i strip (omega arith))) (all i strip (let long = so_far.as_many in omega arith))

-- and has then taken it
pub TookSoFar-more : (row : List (List ℕ)) (before now : List KeyStrip) (i : ℕ) (strip after : KeyStrip) → TookSoFar row before now i → i < length now
    → strip ≡ get_or now i strip → TookRow row strip after → TookSoFar row before (set now i after) (i + 1)
TookSoFar-more row before now i strip after so_far low is took = record {
  as_many = length-set now i after ∙ so_far.as_many;
  done = λ q d less within. elim (cases_lt q i) [
    | inl early ↦ subst (λ (x : KeyStrip). TookRow row (get_or before q d) x) (sym (get_or-set_other now i q after d (λ e. omega (arith, e))))
        (so_far.done q d early within)
    | inr late ↦
        let here : q ≡ i = omega arith in
        let same : get_or before q d ≡ strip =
        sym (so_far.rest q d (omega arith)) ∙ ap (λ (n : ℕ). get_or now n d) here ∙ get_or_default now i d strip low ∙ sym is in
        subst (λ (x : KeyStrip). TookRow row x (get_or (set now i after) q d)) (sym same)
        (subst (λ (x : KeyStrip). TookRow row strip x) (sym (ap (λ (n : ℕ). get_or (set now i after) n d) here ∙ get_or-set_same now i after d low)) took)
  ];
  rest = λ q d past. get_or-set_other now i q after d (λ e. omega (arith, e)) ∙ so_far.rest q d (omega arith);
}

-- at the end all have
pub TookSoFar-all : (row : List (List ℕ)) (before now : List KeyStrip) (i : ℕ) → TookSoFar row before now i → length now ≤ i → AllTookRow row before now
TookSoFar-all row before now i so_far past = record {
  as_many = so_far.as_many;
  each = λ q d within. so_far.done q d (let long = so_far.as_many in omega arith) within;
}

-- what a call left of a strip that it was given
pub strip_left : (row : List (List ℕ)) (more after argument strip : KeyStrip) → after ≡ more → TookRow row argument after → argument ≡ strip → TookRow row strip more
strip_left row more after argument strip left call is =
    subst (λ (x : KeyStrip). TookRow row strip x) left (subst (λ (x : KeyStrip). TookRow row x after) is call)

-- one new strip more
pub new_more : (strips : List KeyStrip) (strip : KeyStrip) (keys : Keys) (stations : List ℕ) (width : ℕ)
    → ((q : ℕ) (d : KeyStrip) → q < length strips → IsNewStrip (get_or strips q d) keys stations width q) → IsNewStrip strip keys stations width (length strips)
    → (q : ℕ) (d : KeyStrip) → q < length (strips ++ strip ∷ []) → IsNewStrip (get_or (strips ++ strip ∷ []) q d) keys stations width q
new_more strips strip keys stations width each is q d within = elim (cases_lt q (length strips)) [
  | inl early ↦ subst (λ (x : KeyStrip). IsNewStrip x keys stations width q) (sym (get_or_append_left strips (strip ∷ []) d q early)) (each q d early)
  | inr late ↦
      let here : length strips ≡ q = (let long = length-append strips (strip ∷ []) in omega arith) in
      subst (λ (x : KeyStrip). IsNewStrip x keys stations width q) (sym (get_or_push strips strip d q here))
      (subst (λ (n : ℕ). IsNewStrip strip keys stations width n) here is)
]
