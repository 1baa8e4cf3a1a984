-- A mask with one word more, and the word that it gives.
use Rattle.std.proofs.Common.{◌≡◌, ℕ, ◌+◌, ◌-◌, ◌*◌, ◌/◌, ◌%◌, ◌^◌, ◌<◌, ◌≤◌, min, List, [], ◌∷◌, ◌++◌, length, get_or, drop, sum_by, refl, sym, ap, subst, ◌∙◌, arith, inl, inr}
use Rattle.std.specs.List.{range_with_len}
use Rattle.std.proofs.Math.ListN.{drop_of_length-le}
use Rattle.std.proofs.lemmas.Bool.{cases_lt}
use Rattle.std.proofs.lemmas.List.{length-append, drop-append-le, length-drop}
use Rattle.std.proofs.lemmas.List.Elements.{All-append}
use Rattle.dc_spec.specs.Words.{IsWord, AreWords}
use Rattle.dc_key_rules.specs.PairKeys.{symbols, key_symbol}
use Rattle.dc_keys.specs.StationPads.{StationPads, history_sum}
use Rattle.dc_keys.proofs.Histories.{sum-front, sum-front_rest}
use Rattle.dc_conv.specs.Mask.{MaskState, IsMask, StandsFor, session_words, block_start, running_sum}

-- a history of words and one word more
one_word : (h : List (List ℕ)) (w : List ℕ) → AreWords h → IsWord w → AreWords (h ++ w ∷ [])
one_word h w are is = All-append IsWord h (w ∷ []) are (λ k d lt. grind (arith, is))

-- a running sum over a front stays in a longer history
running_sum-front : (pads : StationPads) (h more : List (List ℕ)) (t n : ℕ) → AreWords h → t ≤ length h → running_sum pads h t n ≡ running_sum pads (h ++ more) t n
running_sum-front pads h more t n are le = ap (λ (x : ℕ). get_or pads.first n 0 + x) (sum-front pads.second h more t n are le)

-- a running sum with the words of a rest
running_sum-rest : (pads : StationPads) (h : List (List ℕ)) (m r n : ℕ) → AreWords h → m ≤ length h
    → running_sum pads h (m + r) n ≡ running_sum pads h m n + sum_by (λ k. get_or pads.second (n - 16 * m - k) 0 * get_or (symbols (drop m h)) k 0) (range_with_len 0 (16 * r))
running_sum-rest pads h m r n are le = omega (arith, sum-front_rest pads.second h m r n are le)

-- where a block is not full yet, no boundary moves
same_start : (taken t : ℕ) → taken % 32 + 1 < 32 → block_start taken t ≡ block_start (taken + 1) t
same_start taken t rest = ap (λ (x : ℕ). 32 * x) (small taken t rest)
  where
    small : (taken t : ℕ) → taken % 32 + 1 < 32 → min taken t / 32 ≡ min (taken + 1) t / 32
    small taken t rest = omega arith

start_within : (taken t : ℕ) → block_start taken t ≤ taken
start_within taken t = omega arith

-- a word that does not fill its block
pub StandsFor-more : (m : MaskState) (pads : StationPads) (h : List (List ℕ)) (w : List ℕ) (block : List (List ℕ)) → IsMask m → IsWord w
    → StandsFor m pads h → block ≡ m.block ++ w ∷ [] → length block < 32
    → StandsFor (record { second = m.second; sums = m.sums; block = block; taken = m.taken + 1 }) pads (h ++ w ∷ [])
StandsFor-more m pads h w block mask word stands is short =
    let long : length block ≡ m.taken % 32 + 1 = ap (λ (b : List (List ℕ)). length b) is ∙ length-append m.block (w ∷ []) ∙ (let e = mask.rest in omega arith) in
    let more : length (h ++ w ∷ []) ≡ length h + 1 = length-append h (w ∷ []) in
    let taken = stands.taken in
    let same : 32 * (length (h ++ w ∷ []) / 32) ≡ 32 * (length h / 32) = omega arith in
    record {
      words = one_word h w stands.words word;
      taken = omega arith;
      block = is ∙ ap (λ (b : List (List ℕ)). b ++ w ∷ []) stands.block
          ∙ sym (ap (λ (i : ℕ). drop i (h ++ w ∷ [])) same ∙ drop-append-le (32 * (length h / 32)) h (w ∷ []) (omega arith));
      second = stands.second;
      sums = λ n lt. stands.sums n lt
          ∙ running_sum-front pads h (w ∷ []) (block_start m.taken (n / 16)) n stands.words (let e = start_within m.taken (n / 16) in omega arith)
          ∙ ap (λ (t : ℕ). running_sum pads (h ++ w ∷ []) t n) (same_start m.taken (n / 16) (omega arith));
    }

-- the boundary of a symbol before the end of a full block
start_before : (taken n : ℕ) → n < 16 * (taken + 1) → block_start taken (n / 16) ≡ block_start (taken + 1) (n / 16)
start_before taken n lt = let e : min taken (n / 16) ≡ min (taken + 1) (n / 16) = omega arith in ap (λ (x : ℕ). 32 * (x / 32)) e

-- the boundary of a symbol after it
start_after : (taken n : ℕ) → taken % 32 ≡ 31 → 16 * (taken + 1) ≤ n → block_start (taken + 1) (n / 16) ≡ block_start taken (n / 16) + 32
start_after taken n full le =
    let e : min taken (n / 16) ≡ taken = omega arith in
    let f : min (taken + 1) (n / 16) ≡ taken + 1 = omega arith in
    rw (e, f) (omega arith)

start_is : (taken n : ℕ) → 16 * taken ≤ n → block_start taken (n / 16) ≡ 32 * (taken / 32)
start_is taken n le = let e : min taken (n / 16) ≡ taken = omega arith in ap (λ (x : ℕ). 32 * (x / 32)) e

-- what a sum has gained is what the last words of the history contribute
gained : (pads : StationPads) (h : List (List ℕ)) (block : List (List ℕ)) (second : List ℕ) (m r n i sum was : ℕ) → AreWords h → m + r ≡ length h
    → block ≡ drop m h → second ≡ pads.second → n ≡ 16 * length h + i → was ≡ running_sum pads h m n
    → sum ≡ was + history_sum second block (16 * length block + i) → sum ≡ running_sum pads h (length h) n
gained pads h block second m r n i sum was are both is same place so_far grown =
    let long : length block ≡ r = ap (λ (b : List (List ℕ)). length b) is ∙ length-drop m h ∙ omega arith in
    let at : 16 * length block + i ≡ n - 16 * m = omega arith in
    let rest : history_sum second block (16 * length block + i) ≡ sum_by (λ k. get_or pads.second (n - 16 * m - k) 0 * get_or (symbols (drop m h)) k 0) (range_with_len 0 (16 * r)) =
    rw (at, long, is, same) refl in
    grown ∙ ap (λ (x : ℕ). x + history_sum second block (16 * length block + i)) so_far ∙ ap (λ (x : ℕ). running_sum pads h m n + x) rest
    ∙ sym (running_sum-rest pads h m r n are (omega arith)) ∙ ap (λ (t : ℕ). running_sum pads h t n) both

-- a word that fills its block
pub StandsFor-block : (m : MaskState) (pads : StationPads) (h : List (List ℕ)) (w : List ℕ) (block none : List (List ℕ)) (sums : List ℕ) (at : ℕ)
    → IsMask m → IsWord w → StandsFor m pads h → block ≡ m.block ++ w ∷ [] → 32 ≤ length block → none ≡ [] → at ≡ 16 * (m.taken + 1) → length sums ≡ length m.sums
    → ((n : ℕ) → n < at → get_or sums n 0 ≡ get_or m.sums n 0)
    → ((i : ℕ) → at + i < length m.sums → get_or sums (at + i) 0 ≡ get_or m.sums (at + i) 0 + history_sum m.second block (16 * length block + i))
    → StandsFor (record { second = m.second; sums = sums; block = none; taken = m.taken + 1 }) pads (h ++ w ∷ [])
StandsFor-block m pads h w block none sums at mask word stands is full empty start as_many before added =
    let long : length block ≡ m.taken % 32 + 1 = ap (λ (b : List (List ℕ)). length b) is ∙ length-append m.block (w ∷ []) ∙ (let e = mask.rest in omega arith) in
    let more : length (h ++ w ∷ []) ≡ length h + 1 = length-append h (w ∷ []) in
    let taken = stands.taken in
    let last : m.taken % 32 ≡ 31 = omega arith in
    let are = one_word h w stands.words word in
    let block_is : block ≡ drop (32 * (length h / 32)) (h ++ w ∷ []) = is ∙ ap (λ (b : List (List ℕ)). b ++ w ∷ []) stands.block
    ∙ sym (drop-append-le (32 * (length h / 32)) h (w ∷ []) (omega arith)) in
    record {
      words = are;
      taken = omega arith;
      block = empty ∙ sym (drop_of_length-le (h ++ w ∷ []) (omega arith));
      second = stands.second;
      sums = λ n lt. elim (cases_lt n at) [
        | inl less ↦ before n less ∙ stands.sums n (omega arith)
            ∙ running_sum-front pads h (w ∷ []) (block_start m.taken (n / 16)) n stands.words (let e = start_within m.taken (n / 16) in omega arith)
            ∙ ap (λ (t : ℕ). running_sum pads (h ++ w ∷ []) t n) (start_before m.taken n (omega arith))
        | inr le ↦
            let place : at + (n - at) ≡ n = omega arith in
            let boundary : block_start m.taken (n / 16) ≡ 32 * (length h / 32) = start_is m.taken n (omega arith) ∙ ap (λ (t : ℕ). 32 * (t / 32)) taken in
            let so_far : get_or m.sums n 0 ≡ running_sum pads (h ++ w ∷ []) (32 * (length h / 32)) n = stands.sums n (omega arith)
            ∙ ap (λ (t : ℕ). running_sum pads h t n) boundary ∙ running_sum-front pads h (w ∷ []) (32 * (length h / 32)) n stands.words (omega arith) in
            let full_start : length (h ++ w ∷ []) ≡ block_start (m.taken + 1) (n / 16) = (let e = start_after m.taken n last (omega arith) in omega arith) in
            let grown = subst (λ (x : ℕ). x < length m.sums → get_or sums x 0 ≡ get_or m.sums x 0 + history_sum m.second block (16 * length block + (n - at))) place (added (n - at)) (omega arith) in
            gained pads (h ++ w ∷ []) block m.second (32 * (length h / 32)) 32 n (n - at) _ _ are (omega arith) block_is stands.second (omega arith) so_far grown
            ∙ ap (λ (t : ℕ). running_sum pads (h ++ w ∷ []) t n) full_start
      ];
    }

-- the sums after a full block stay small
pub IsMask-block : (m : MaskState) (w : List ℕ) (block none : List (List ℕ)) (sums : List ℕ) (at : ℕ) → IsMask m → m.taken < session_words m
    → block ≡ m.block ++ w ∷ [] → 32 ≤ length block → none ≡ [] → at ≡ 16 * (m.taken + 1) → length sums ≡ length m.sums
    → ((n : ℕ) → n < at → get_or sums n 0 ≡ get_or m.sums n 0)
    → ((i : ℕ) → at + i < length m.sums → get_or sums (at + i) 0 ≤ get_or m.sums (at + i) 0 + 68719476736 * length block)
    → IsMask (record { second = m.second; sums = sums; block = none; taken = m.taken + 1 })
IsMask-block m w block none sums at mask room is full empty start as_many before grown =
    let long : length block ≡ m.taken % 32 + 1 = ap (λ (b : List (List ℕ)). length b) is ∙ length-append m.block (w ∷ []) ∙ (let e = mask.rest in omega arith) in
    let last : m.taken % 32 ≡ 31 = omega arith in
    let words_32 : length block ≡ 32 = omega arith in
    record {
      some_words = mask.some_words;
      most_words = mask.most_words;
      pads = mask.pads;
      symbols = mask.symbols;
      as_many = as_many ∙ mask.as_many;
      within = omega arith;
      rest = ap (λ (b : List (List ℕ)). length b) empty ∙ omega arith;
      small = λ n lt. elim (cases_lt n at) [
        | inl less ↦ let e = before n less in let s = mask.small n (omega arith) in let b = start_before m.taken n (omega arith) in rw (e, ← b) s
        | inr le ↦
            let place : at + (n - at) ≡ n = omega arith in
            let g = subst (λ (x : ℕ). x < length m.sums → get_or sums x 0 ≤ get_or m.sums x 0 + 68719476736 * length block) place (grown (n - at)) (omega arith) in
            let s = mask.small n (omega arith) in
            let b = start_after m.taken n last (omega arith) in
            rw b (bigger (get_or sums n 0) (get_or m.sums n 0) (block_start m.taken (n / 16)) (length block) words_32 g s)
      ];
    }
  where
    bigger : (now was f r : ℕ) → r ≡ 32 → now ≤ was + 68719476736 * r → was ≤ 65536 + 16 * f * 2 ^ 32 → now ≤ 65536 + 16 * (f + 32) * 2 ^ 32
    bigger now was f r is grown small = omega arith

-- a total of a mask is the symbol of the key before it is reduced
pub total-key_symbol : (m : MaskState) (pads : StationPads) (h : List (List ℕ)) (l total : ℕ) → IsMask m → StandsFor m pads h → m.taken < session_words m → l < 16
    → total ≡ get_or m.sums (16 * m.taken + l) 0 + history_sum m.second m.block (16 * length m.block + l)
    → total % 65537 ≡ key_symbol pads.first pads.second (symbols h) (16 * length h) (16 * length h + l)
total-key_symbol m pads h l total mask stands room lt is =
    let taken = stands.taken in
    let place : 16 * m.taken + l ≡ 16 * length h + l = omega arith in
    let boundary : block_start m.taken ((16 * m.taken + l) / 16) ≡ 32 * (length h / 32) = start_is m.taken (16 * m.taken + l) (omega arith)
    ∙ ap (λ (t : ℕ). 32 * (t / 32)) taken in
    let within : 16 * m.taken + l < length m.sums = let e = mask.as_many in omega arith in
    let so_far : get_or m.sums (16 * m.taken + l) 0 ≡ running_sum pads h (32 * (length h / 32)) (16 * length h + l) = stands.sums (16 * m.taken + l) within
    ∙ ap (λ (t : ℕ). running_sum pads h t (16 * m.taken + l)) boundary ∙ ap (λ (n : ℕ). running_sum pads h (32 * (length h / 32)) n) place in
    ap (λ (x : ℕ). x % 65537)
    (gained pads h m.block m.second (32 * (length h / 32)) (length h % 32) (16 * length h + l) l total _ stands.words (omega arith) stands.block stands.second refl so_far is)
