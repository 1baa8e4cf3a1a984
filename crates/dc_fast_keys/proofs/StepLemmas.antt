-- The keys of a station with one word more.
use Rattle.std.proofs.Common.{◌≡◌, ℕ, zero, suc, ◌+◌, ◌-◌, ◌*◌, ◌/◌, ◌%◌, ◌^◌, ◌<◌, ◌≤◌, List, [], ◌∷◌, ◌++◌, length, get_or, take, drop, sum_by, refl, sym, ap, subst, ◌∙◌, arith, inl, inr}
use Rattle.std.specs.List.{range_with_len}
use Rattle.std.proofs.Math.Nat.{mul-le-mul_left}
use Rattle.std.proofs.lemmas.Bool.{cases_lt}
use Rattle.std.proofs.lemmas.Nat.{pow_pos, pow-add}
use Rattle.std.proofs.Math.Nat.{mod-mod}
use Rattle.std.proofs.lemmas.List.{length-append, append-nil, get_or-take, get_or-drop, get_or_append_left, get_or-append-add}
use Rattle.std.proofs.lemmas.List.Sums.{sum_by-cons}
use Rattle.std.proofs.lemmas.List.Concat.{flat_map-append}
use Rattle.std.proofs.lemmas.List.Elements.{All-head, All-tail, All-append}
use Rattle.dc_spec.specs.Words.{IsWord, AreWords, word_of}
use Rattle.dc_spec.proofs.WordLemmas.{word_of-same}
use Rattle.dc_key_rules.specs.PairKeys.{symbols, key_symbol}
use Rattle.dc_keys.specs.StationPads.{StationPads, station_key}
use Rattle.dc_spec.specs.Symbols.{AreSymbols}
use Rattle.dc_transform_rules.specs.Polynomials.{scaled}
use Rattle.dc_transform_rules.specs.Transforms.{size, forward, column}
use Rattle.dc_transform_rules.proofs.ColumnLemmas.{column-scaled, column-forward, map_range-same}
use Rattle.dc_transform_rules.proofs.TransformLemmas.{size-rows}
use Rattle.dc_transform_rules.proofs.CoefficientLemmas.{sum_range-same, sum_range-split}
use Rattle.dc_fast_keys.specs.Spectrum.{IsSpectrum, CarriedFrom}
use Rattle.dc_fast_keys.specs.Walk.{level, included}
use Rattle.dc_fast_keys.specs.NetKeys.{KeysState, StandsFor, sum_of}
use Rattle.dc_fast_keys.proofs.RowLemmas.{row_within}
use Rattle.dc_fast_keys.proofs.WalkLemmas.{included-none, included-next, included-block, included-later, included-within, block-within}

-- sixteen symbols for each word
length-symbols : (h : List (List ℕ)) → AreWords h → length (symbols h) ≡ 16 * length h
length-symbols [] are = refl
length-symbols (w ∷ ws) are =
    let here : length w ≡ 16 = (All-head IsWord w ws are).sixteen in
    let rest = length-symbols ws (All-tail IsWord w ws are) in
    omega (arith, length-append w (symbols ws))

-- the symbols of a history with one word more
symbols-push : (h : List (List ℕ)) (w : List ℕ) → symbols (h ++ w ∷ []) ≡ symbols h ++ w
symbols-push h w = flat_map-append (λ (v : List ℕ). v) h (w ∷ []) ∙ ap (λ l. symbols h ++ l) (append-nil w)

symbol-before : (h : List (List ℕ)) (w : List ℕ) (n : ℕ) → AreWords h → n < 16 * length h → get_or (symbols (h ++ w ∷ [])) n 0 ≡ get_or (symbols h) n 0
symbol-before h w n are lt = ap (λ l. get_or l n 0) (symbols-push h w) ∙ get_or_append_left (symbols h) w 0 n (let e = length-symbols h are in omega arith)

symbol-of_last : (h : List (List ℕ)) (w : List ℕ) (l : ℕ) → AreWords h → get_or (symbols (h ++ w ∷ [])) (16 * length h + l) 0 ≡ get_or w l 0
symbol-of_last h w l are =
    ap (λ t. get_or t (16 * length h + l) 0) (symbols-push h w) ∙ ap (λ i. get_or (symbols h ++ w) (i + l) 0) (sym (length-symbols h are)) ∙ get_or-append-add (symbols h) w l 0

-- sums of the same words in a longer history
sum-before : (pads : StationPads) (h : List (List ℕ)) (w : List ℕ) (words n : ℕ) → AreWords h → words ≤ length h → sum_of pads h words n ≡ sum_of pads (h ++ w ∷ []) words n
sum-before pads h w words n are le =
    ap (λ x. (get_or pads.first n 0 + x) % 65537) (sum_range-same (λ i. get_or pads.second (n - i) 0 * get_or (symbols h) i 0)
    (λ i. get_or pads.second (n - i) 0 * get_or (symbols (h ++ w ∷ [])) i 0) 0 (16 * words) (λ i low high. ap (λ x. get_or pads.second (n - i) 0 * x) (sym (symbol-before h w i are (omega arith)))))

-- a sum over a range that begins later
sum_range-moved : (f : ℕ → ℕ) (a m n : ℕ) → sum_by f (range_with_len (a + m) n) ≡ sum_by (λ k. f (k + m)) (range_with_len a n)
sum_range-moved f a m zero = refl
sum_range-moved f a m (suc n) =
    let place : a + m + 1 ≡ a + 1 + m = omega arith in
    sum_by-cons f (a + m) (range_with_len (a + m + 1) n) ∙ ap (λ x. f (a + m) + x) (ap (λ k. sum_by f (range_with_len k n)) place ∙ sum_range-moved f (a + 1) m n)
    ∙ sym (sum_by-cons (λ k. f (k + m)) a (range_with_len (a + 1) n))

joined_sum : (first was front back more all : ℕ) → was ≡ (first + front) % 65537 → more ≡ back → all ≡ front + back → (was + more) % 65537 ≡ (first + all) % 65537
joined_sum first was front back more all so_far same split = omega arith

-- a sum with a block of words more
sum-block : (pads : StationPads) (h : List (List ℕ)) (t b i n was : ℕ) (c : ℕ → ℕ) → b ≤ t → n ≡ 16 * t + i → was ≡ sum_of pads h (t - b) n
    → ((k : ℕ) → k < 16 * b → c k ≡ get_or (symbols h) (16 * (t - b) + k) 0)
    → (was + sum_by (λ k. get_or pads.second (16 * b + i - k) 0 * c k) (range_with_len 0 (16 * b))) % 65537 ≡ sum_of pads h t n
sum-block pads h t b i n was c le place so_far read =
    let f : ℕ → ℕ = λ k. get_or pads.second (n - k) 0 * get_or (symbols h) k 0 in
    let front = 16 * (t - b) in
    let whole : 16 * t ≡ front + 16 * b = omega arith in
    let zero_place : 0 + front ≡ front = omega arith in
    let split = sum_range-split f 0 front (16 * b) in
    let later : sum_by (λ k. get_or pads.second (16 * b + i - k) 0 * c k) (range_with_len 0 (16 * b)) ≡ sum_by f (range_with_len (0 + front) (16 * b)) =
    sum_range-same (λ k. get_or pads.second (16 * b + i - k) 0 * c k) (λ k. f (k + front)) 0 (16 * b) (λ k low high.
    let at : 16 * b + i - k ≡ n - (k + front) = omega arith in
    let other : front + k ≡ k + front = omega arith in
    ap (λ j. get_or pads.second j 0 * c k) at ∙ ap (λ x. get_or pads.second (n - (k + front)) 0 * x) (read k (omega arith) ∙ ap (λ j. get_or (symbols h) j 0) other))
    ∙ sym (sum_range-moved f 0 front (16 * b)) in
    joined_sum (get_or pads.first n 0) was (sum_by f (range_with_len 0 front)) (sum_by f (range_with_len (0 + front) (16 * b)))
    (sum_by (λ k. get_or pads.second (16 * b + i - k) 0 * c k) (range_with_len 0 (16 * b))) (sum_by f (range_with_len 0 (16 * t))) so_far later
    (ap (λ m. sum_by f (range_with_len 0 m)) whole ∙ split)

-- a history of words and one word more
one_word : (h : List (List ℕ)) (w : List ℕ) → AreWords h → IsWord w → AreWords (h ++ w ∷ [])
one_word h w are is = All-append IsWord h (w ∷ []) are (λ k d lt. grind (arith, is))

-- the word that a station's sums give
pub word-key : (k : KeysState) (s : ℕ) (pads : StationPads) (h : List (List ℕ)) (rows : List ℕ) (result : List ℕ) → k.taken < k.words → k.words ≤ 4096 → StandsFor k s pads h
    → result ≡ word_of (λ l. get_or rows (k.stations * l + s) 0 % 65537)
    → ((l : ℕ) → l < 16 → get_or rows (k.stations * l + s) 0 ≡ get_or k.sums (k.stations * (16 * k.taken + l) + s) 0) → result ≡ station_key pads h
word-key k s pads h rows result room most stands is read =
    is ∙ word_of-same _ _ (λ l low.
    let n = 16 * k.taken + l in
    let round : n / 16 ≡ k.taken = omega arith in
    let all : included 12 k.taken (n / 16) ≡ k.taken = ap (included 12 k.taken) round ∙ included-next 12 k.taken (omega arith) in
    let sum : get_or k.sums (k.stations * n + s) 0 ≡ sum_of pads h k.taken n = stands.sums n (omega arith) (omega arith) ∙ ap (λ m. sum_of pads h m n) all in
    ap (λ x. x % 65537) (read l low ∙ sum) ∙ mod-mod (get_or pads.first n 0 + sum_by (λ i. get_or pads.second (n - i) 0 * get_or (symbols h) i 0) (range_with_len 0 (16 * k.taken))) 65537
    ∙ ap (λ t. key_symbol pads.first pads.second (symbols h) (16 * t) (16 * t + l)) stands.taken)

-- the state after the last word
pub StandsFor-last : (k : KeysState) (s : ℕ) (pads : StationPads) (h : List (List ℕ)) (w : List ℕ) (received : List ℕ) → s < k.stations → IsWord w → k.taken + 1 ≡ k.words
    → StandsFor k s pads h → ((n : ℕ) → n < 16 * (k.taken + 1) → get_or received (k.stations * n + s) 0 ≡ get_or (symbols (h ++ w ∷ [])) n 0)
    → StandsFor (record { stations = k.stations; words = k.words; spectra = k.spectra; sums = k.sums; received = received; taken = k.taken + 1 }) s pads (h ++ w ∷ [])
StandsFor-last k s pads h w received within word last stands read = record {
  words = one_word h w stands.words word;
  taken = ap (λ t. t + 1) stands.taken ∙ sym (length-append h (w ∷ []));
  spectra = stands.spectra;
  received = read;
  sums = λ n low high. absurd (omega arith);
}

-- the state after another word
pub StandsFor-more : (k : KeysState) (s q : ℕ) (pads : StationPads) (h : List (List ℕ)) (w : List ℕ) (received sums : List ℕ) → s < k.stations → IsWord w → k.taken + 1 < k.words
    → k.words ≤ 4096 → length k.sums ≡ k.stations * (16 * k.words) → q ≡ level 12 (k.taken + 1)
    → StandsFor k s pads h → ((n : ℕ) → n < 16 * (k.taken + 1) → get_or received (k.stations * n + s) 0 ≡ get_or (symbols (h ++ w ∷ [])) n 0)
    → CarriedFrom k.stations (q + 5) (16 * 2 ^ q) (k.stations * (16 * 2 ^ q)) (k.stations * (16 * (k.taken + 1))) (get_or k.spectra q []) received k.sums sums
    → ((n : ℕ) → k.stations * (16 * (k.taken + 1)) + k.stations * (16 * 2 ^ q) ≤ n → get_or sums n 0 ≡ get_or k.sums n 0)
    → StandsFor (record { stations = k.stations; words = k.words; spectra = k.spectra; sums = sums; received = received; taken = k.taken + 1 }) s pads (h ++ w ∷ [])
StandsFor-more k s q pads h w received sums within word room most long level_is stands read carried later =
    let t = k.taken + 1 in
    let b = 2 ^ q in
    let hw = h ++ w ∷ [] in
    let power : 2 ^ level 12 t ≡ b = ap (λ x. 2 ^ x) (sym level_is) in
    let in_taken : b ≤ t = (let e = block-within 12 t (omega arith) in omega arith) in
    let some : 0 < b = pow_pos q in
    let pads_is : IsSpectrum k.stations (q + 5) s (get_or k.spectra q []) pads.second = stands.spectra q (omega arith) in
    record {
      words = one_word h w stands.words word;
      taken = ap (λ t. t + 1) stands.taken ∙ sym (length-append h (w ∷ []));
      spectra = stands.spectra;
      received = read;
      sums = λ n low high.
          let old = stands.sums n (omega arith) high in
          let round : t ≤ n / 16 = omega arith in
          let below : n / 16 < 2 ^ 12 = (let e : n / 16 < 4096 = omega arith in e) in
          let inside = row_within k.stations n (16 * k.words) s within high in
          let taken_is = stands.taken in
          elim (cases_lt (n / 16) (t + b)) [
            | inl near ↦
                let facts = included-block 12 t (n / 16) (omega arith) round below (omega arith) in
                let after : included 12 t (n / 16) ≡ t = facts.0 in
                let before : included 12 k.taken (n / 16) ≡ t - b = (let e : t - 1 ≡ k.taken = omega arith in let f = facts.1 in let g = ap (λ x. included 12 x (n / 16)) e in omega arith) in
                let i = n - 16 * t in
                let place : n ≡ 16 * t + i = omega arith in
                let at : k.stations * n + s ≡ k.stations * (16 * t) + (k.stations * i + s) =
                (let e = ap (λ m. k.stations * m) place in let f : k.stations * (16 * t + i) ≡ k.stations * (16 * t) + k.stations * i = omega arith in omega arith) in
                let was : get_or k.sums (k.stations * (16 * t) + (k.stations * i + s)) 0 ≡ sum_of pads hw (t - b) n =
                ap (λ j. get_or k.sums j 0) (sym at) ∙ old ∙ ap (λ m. sum_of pads h m n) before ∙ sum-before pads h w (t - b) n stands.words (omega arith) in
                let start : k.stations * (16 * t) - k.stations * (16 * b) ≡ k.stations * (16 * (t - b)) =
                (let e : k.stations * (16 * t) ≡ k.stations * (16 * (t - b)) + k.stations * (16 * b) = (let f : 16 * t ≡ 16 * (t - b) + 16 * b = omega arith in
                ap (λ m. k.stations * m) f ∙ (let g : k.stations * (16 * (t - b) + 16 * b) ≡ k.stations * (16 * (t - b)) + k.stations * (16 * b) = omega arith in g)) in omega arith) in
                let c : ℕ → ℕ = λ j. get_or received (k.stations * (16 * t) - k.stations * (16 * b) + (k.stations * j + s)) 0 in
                ap (λ j. get_or sums j 0) at ∙ carried s pads.second i within pads_is (omega arith) (omega arith)
                ∙ sum-block pads hw t b i n (get_or k.sums (k.stations * (16 * t) + (k.stations * i + s)) 0) c in_taken place was (λ j lt.
                let spot : k.stations * (16 * t) - k.stations * (16 * b) + (k.stations * j + s) ≡ k.stations * (16 * (t - b) + j) + s =
                (let g : k.stations * (16 * (t - b) + j) ≡ k.stations * (16 * (t - b)) + k.stations * j = omega arith in omega arith) in
                ap (λ m. get_or received m 0) spot ∙ read (16 * (t - b) + j) (omega arith)) ∙ ap (λ m. sum_of pads hw m n) (sym after)
            | inr far ↦
                let same : included 12 t (n / 16) ≡ included 12 k.taken (n / 16) =
                included-later 12 t (n / 16) (omega arith) (omega arith) ∙ (let e : t - 1 ≡ k.taken = omega arith in ap (λ x. included 12 x (n / 16)) e) in
                let beyond : k.stations * (16 * t) + k.stations * (16 * b) ≤ k.stations * n + s =
                (let e : k.stations * (16 * t + 16 * b) ≤ k.stations * n = mul-le-mul_left k.stations (omega arith) in
                let f : k.stations * (16 * t + 16 * b) ≡ k.stations * (16 * t) + k.stations * (16 * b) = omega arith in omega arith) in
                let few : included 12 k.taken (n / 16) ≤ length h = (let e = included-within 12 k.taken (n / 16) in omega arith) in
                later (k.stations * n + s) beyond ∙ old ∙ sum-before pads h w (included 12 k.taken (n / 16)) n stands.words few
                ∙ ap (λ m. sum_of pads hw m n) (sym same)
          ];
    }

-- the sums of a round
pub read-rows : (st t l s k : ℕ) (sums part : List ℕ) → s < st → l < 16 → k ≡ st * 16 → part ≡ sums
    → get_or (take k (drop (st * (16 * t)) part)) (st * l + s) 0 ≡ get_or sums (st * (16 * t + l) + s) 0
read-rows st t l s k sums part within low long same =
    let inside = row_within st l 16 s within low in
    let at : st * (16 * t) + (st * l + s) ≡ st * (16 * t + l) + s = (let g : st * (16 * t + l) ≡ st * (16 * t) + st * l = omega arith in omega arith) in
    get_or-take k (drop (st * (16 * t)) part) (st * l + s) 0 (omega arith) ∙ get_or-drop (st * (16 * t)) part (st * l + s) 0
    ∙ ap (λ i. get_or part i 0) at ∙ ap (λ p. get_or p (st * (16 * t + l) + s) 0) same

-- the length of a block
pub block-size : (st q p : ℕ) → p ≡ 2 ^ q → st * 16 * p ≡ size st (q + 5 - 1)
block-size st q p is =
    let depth : q + 5 - 1 ≡ q + 4 = omega arith in
    let power : 2 ^ (q + 4) ≡ 2 ^ q * 16 = pow-add 2 q 4 in
    let e : size st (q + 5 - 1) ≡ st * 2 ^ (q + 4) = ap (size st) depth ∙ size-rows st (q + 4) in
    let f : st * 2 ^ (q + 4) ≡ st * (2 ^ q * 16) = ap (λ x. st * x) power in
    let g : st * 16 * p ≡ st * 16 * 2 ^ q = ap (λ x. st * 16 * x) is in
    let h : st * 16 * 2 ^ q ≡ st * (2 ^ q * 16) = omega arith in
    g ∙ h ∙ sym f ∙ sym e

-- the same places, written otherwise
pub carried-same : (w d rows rows' block block' now now' : ℕ) (spectrum spectrum' received received' before after : List ℕ) → rows ≡ rows' → block ≡ block' → now ≡ now'
    → spectrum ≡ spectrum' → received ≡ received' → CarriedFrom w d rows block now spectrum received before after → CarriedFrom w d rows' block' now' spectrum' received' before after
carried-same w d rows rows' block block' now now' spectrum spectrum' received received' before after r b n sp re carried =
    subst (λ (x : ℕ). CarriedFrom w d x block' now' spectrum' received' before after) r
    (subst (λ (x : ℕ). CarriedFrom w d rows x now' spectrum' received' before after) b
    (subst (λ (x : ℕ). CarriedFrom w d rows block x spectrum' received' before after) n
    (subst (λ (x : List ℕ). CarriedFrom w d rows block now x received' before after) sp
    (subst (λ (x : List ℕ). CarriedFrom w d rows block now spectrum x before after) re carried))))

-- the received symbols, where the new ones are known by their places
pub received-written : (st t s : ℕ) (received more w : List ℕ) (h : List (List ℕ)) → s < st → AreWords h → t ≡ length h
    → ((i : ℕ) → i < st * (16 * t) → get_or more i 0 ≡ get_or received i 0)
    → ((l : ℕ) → l < 16 → get_or more (st * (16 * t) + (st * l + s)) 0 ≡ get_or w l 0)
    → ((n : ℕ) → n < 16 * t → get_or received (st * n + s) 0 ≡ get_or (symbols h) n 0)
    → (n : ℕ) → n < 16 * (t + 1) → get_or more (st * n + s) 0 ≡ get_or (symbols (h ++ w ∷ [])) n 0
received-written st t s received more w h within are taken before written so_far n lt = elim (cases_lt n (16 * t)) [
  | inl less ↦ before (st * n + s) (row_within st n (16 * t) s within less) ∙ so_far n less ∙ sym (symbol-before h w n are (omega arith))
  | inr le ↦
      let l = n - 16 * t in
      let at : st * n + s ≡ st * (16 * t) + (st * l + s) = (let e : n ≡ 16 * t + l = omega arith in let f = ap (λ m. st * m) e in let g : st * (16 * t + l) ≡ st * (16 * t) + st * l = omega arith in omega arith) in
      let place : 16 * length h + l ≡ n = omega arith in
      ap (λ i. get_or more i 0) at ∙ written l (omega arith) ∙ sym (symbol-of_last h w l are) ∙ ap (λ i. get_or (symbols (h ++ w ∷ [])) i 0) place
]

-- the word of a station
pub word-at : (words : List (List ℕ)) (s : ℕ) → AreWords words → s < length words → IsWord (get_or words s [])
word-at words s are lt = are s [] lt

-- the transform of columns that hold pads is the transforms of the pads
pub spectrum-of_columns : (width depth s : ℕ) (rows after pads : List ℕ) → s < width → length rows ≡ size width depth
    → ((k : ℕ) → k < size 1 depth → get_or rows (width * k + s) 0 ≡ get_or pads k 0) → scaled (2 ^ depth) after ≡ forward width depth 0 rows
    → IsSpectrum width depth s after pads
spectrum-of_columns width depth s rows after pads within long written is =
    sym (column-scaled width s within (size 1 depth) (2 ^ depth) after) ∙ ap (column width (size 1 depth) s) is ∙ column-forward width s within depth 0 rows long
    ∙ ap (forward 1 depth 0) (map_range-same _ _ 0 (size 1 depth) (λ k low high.
    let e : 1 * k + 0 ≡ k = omega arith in
    written k (omega arith) ∙ ap (λ i. get_or pads i 0) (sym e)))

-- the state before the first word
pub StandsFor-none : (k : KeysState) (s : ℕ) (pads : StationPads) → k.taken ≡ 0
    → ((q : ℕ) → 2 ^ q < k.words → IsSpectrum k.stations (q + 5) s (get_or k.spectra q []) pads.second)
    → ((n : ℕ) → n < 16 * k.words → get_or k.sums (k.stations * n + s) 0 ≡ get_or pads.first n 0)
    → AreSymbols k.sums → StandsFor k s pads []
StandsFor-none k s pads none spectra sums small_sums = record {
  words = λ i d lt. absurd (omega arith);
  taken = none;
  spectra = spectra;
  received = λ n lt. absurd (omega arith);
  sums = λ n low high.
      let first = sums n high in
      let small = small_sums (k.stations * n + s) in
      let no_words : included 12 k.taken (n / 16) ≡ 0 = ap (λ t. included 12 t (n / 16)) none ∙ included-none 12 (n / 16) in
      let nothing : 16 * 0 ≡ 0 = omega arith in
      let sum : sum_of pads [] 0 n ≡ get_or pads.first n 0 =
      ap (λ m. (get_or pads.first n 0 + sum_by (λ i. get_or pads.second (n - i) 0 * get_or (symbols []) i 0) (range_with_len 0 m)) % 65537) nothing
      ∙ (let e : (get_or pads.first n 0 + 0) % 65537 ≡ get_or pads.first n 0 = omega arith in e) in
      first ∙ sym sum ∙ ap (λ m. sum_of pads [] m n) (sym no_words);
}

-- the length of the transforms of a level
pub level-size : (st level p : ℕ) → p ≡ 2 ^ level → st * (32 * p) ≡ size st (level + 5)
level-size st level p is =
    let power : 2 ^ (level + 5) ≡ 2 ^ level * 32 = pow-add 2 level 5 in
    let f : st * 2 ^ (level + 5) ≡ st * (2 ^ level * 32) = ap (λ x. st * x) power in
    let g : st * (32 * p) ≡ st * (32 * 2 ^ level) = ap (λ x. st * (32 * x)) is in
    let h : st * (32 * 2 ^ level) ≡ st * (2 ^ level * 32) = omega arith in
    g ∙ h ∙ sym f ∙ sym (size-rows st (level + 5))
