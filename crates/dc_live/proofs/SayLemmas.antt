-- What a station says, one word after the other.
use Rattle.std.proofs.Common.{◌≡◌, ℕ, zero, suc, ◌+◌, ◌<◌, ◌≤◌, min, List, [], ◌∷◌, ◌++◌, length, take, map, refl, sym, ap, ◌∙◌, arith, append_assoc, append-nil}
use Rattle.std.specs.List.{range_with_len, flat_map}
use Rattle.std.proofs.lemmas.List.{map-append, take-append-le}
use Rattle.std.proofs.lemmas.List.Concat.{flat_map-append}
use Rattle.dc_spec.specs.Entries.{Stream}
use Rattle.dc_spec.specs.Pads.{Pair}
use Rattle.dc_spec.specs.Frames.{Frame as frame, hello, send}
use Rattle.dc_formats.specs.Frames.{frame_bytes, frames_bytes}
use Rattle.dc_net_rules.specs.Runs.{station_word}
use Rattle.dc_net_rules.specs.SessionTexts.{says}

pub range_push : (a n : ℕ) → range_with_len a (suc n) ≡ range_with_len a n ++ (a + n) ∷ []
range_push a zero = let same : a ≡ a + 0 = omega arith in ap (λ (m : ℕ). m ∷ []) same
range_push a (suc n) =
    let same : a + 1 + n ≡ a + suc n = omega arith in
    ap (λ (ms : List ℕ). a ∷ ms) (range_push (a + 1) n ∙ ap (λ (m : ℕ). range_with_len (a + 1) n ++ m ∷ []) same)

-- the words of so many rounds, each after the words received before it
abbrev pub sends : List Pair → ℕ → Stream → List (List ℕ) → ℕ → List ℕ
sends pairs i stream received count = frames_bytes (map (λ t. send t (station_word stream pairs i (take t received))) (range_with_len 0 count))

-- a greeting and the words of so many rounds
abbrev pub said : ℕ → ℕ → ℕ → List Pair → Stream → List (List ℕ) → ℕ → List ℕ
said i n words pairs stream received count = frame_bytes (hello i n words) ++ sends pairs i stream received count

-- what a station says, as far as it has received
pub says-said : (i n words : ℕ) (pairs : List Pair) (stream : Stream) (received : List (List ℕ)) (count : ℕ) → min (length received + 1) words ≡ count
    → frames_bytes (says i n words pairs stream received) ≡ said i n words pairs stream received count
says-said i n words pairs stream received count e = ap (said i n words pairs stream received) e

take_all : (words : List (List ℕ)) → take (length words) words ≡ words
take_all [] = refl
take_all (w ∷ words) = ap (λ (ws : List (List ℕ)). w ∷ ws) (take_all words)

-- one more word
pub said-more : (i n words : ℕ) (pairs : List Pair) (stream : Stream) (received : List (List ℕ)) (count : ℕ) → count ≡ length received
    → said i n words pairs stream received (suc count) ≡ said i n words pairs stream received count ++ frame_bytes (send count (station_word stream pairs i received))
said-more i n words pairs stream received count e =
    let f : ℕ → frame = λ (t : ℕ). send t (station_word stream pairs i (take t received)) in
    let greeting = frame_bytes (hello i n words) in
    let all_taken : take count received ≡ received = ap (λ (k : ℕ). take k received) e ∙ take_all received in
    let last : flat_map frame_bytes (f count ∷ []) ≡ frame_bytes (send count (station_word stream pairs i received)) =
    append-nil (frame_bytes (f count)) ∙ ap (λ (ws : List (List ℕ)). frame_bytes (send count (station_word stream pairs i ws))) all_taken in
    let zero_less : 0 + count ≡ count = omega arith in
    ap (λ (ts : List ℕ). greeting ++ frames_bytes (map f ts)) (range_push 0 count ∙ ap (λ (t : ℕ). range_with_len 0 count ++ t ∷ []) zero_less)
    ∙ ap (λ (fs : List frame). greeting ++ frames_bytes fs) (map-append f (range_with_len 0 count) (count ∷ []))
    ∙ ap (λ (bs : List ℕ). greeting ++ bs) (flat_map-append frame_bytes (map f (range_with_len 0 count)) (f count ∷ []))
    ∙ ap (λ (bs : List ℕ). greeting ++ (sends pairs i stream received count ++ bs)) last
    ∙ sym (append_assoc greeting (sends pairs i stream received count) (frame_bytes (send count (station_word stream pairs i received))))

same_frames : (f g : ℕ → frame) (count a : ℕ) → ((t : ℕ) → t < a + count → f t ≡ g t) → map f (range_with_len a count) ≡ map g (range_with_len a count)
same_frames f g zero a same = refl
same_frames f g (suc count) a same =
    let first : f a ≡ g a = same a (omega arith) in
    let rest : map f (range_with_len (a + 1) count) ≡ map g (range_with_len (a + 1) count) = same_frames f g count (a + 1) (λ t low. same t (omega arith)) in
    ap (λ (x : frame). x ∷ map f (range_with_len (a + 1) count)) first ∙ ap (λ (xs : List frame). g a ∷ xs) rest

-- a word received later changes nothing that was said
pub said-stays : (i n words : ℕ) (pairs : List Pair) (stream : Stream) (received : List (List ℕ)) (word : List ℕ) (count : ℕ) → count ≤ length received + 1
    → said i n words pairs stream received count ≡ said i n words pairs stream (received ++ word ∷ []) count
said-stays i n words pairs stream received word count low =
    ap (λ (fs : List frame). frame_bytes (hello i n words) ++ frames_bytes fs)
    (same_frames (λ t. send t (station_word stream pairs i (take t received))) (λ t. send t (station_word stream pairs i (take t (received ++ word ∷ [])))) count 0
    (λ t lt. ap (λ (ws : List (List ℕ)). send t (station_word stream pairs i ws)) (sym (take-append-le t received (word ∷ []) (omega arith)))))
