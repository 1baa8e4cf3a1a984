-- What is heard of the sums of rounds in turn.
use Rattle.std.proofs.Common.{◌≡◌, ℕ, ◌+◌, ◌<◌, ◌≤◌, true, false, nat_lt, if◌then◌else◌, List, [], ◌∷◌, ◌++◌, length, Option, Some, None, option_map, Result, Ok, refl, sym, ap, ◌∙◌, arith, append-nil, eq-eqb}
use Rattle.std.specs.Result.{result_err}
use Rattle.std.proofs.lemmas.Bool.{lt-ltb}
use Rattle.dc_spec.specs.Frames.{Frame as frame, all}
use Rattle.dc_frame.specs.Reading.{Reading, reading}
use Rattle.dc_live.specs.declared.fault.PeerFault.{PeerFault}
use Rattle.dc_live.specs.declared.fault.PeerFault.TheVariants.{Frame}
use Rattle.dc_live.specs.Hearing.{Heard, heard_first, hear, sum_of, frame_fault, sums_heard}

-- the sums of these words, of the rounds from `now` on
abbrev pub sums_from : ℕ → List (List ℕ) → List frame
sums_from now [] = []
sums_from now (word ∷ words) = all now word ∷ sums_from (now + 1) words

pub sums_from-push : (now : ℕ) (words : List (List ℕ)) (word : List ℕ) → sums_from now (words ++ word ∷ []) ≡ sums_from now words ++ all (now + length words) word ∷ []
sums_from-push now [] word = let same : now ≡ now + 0 = omega arith in ap (λ (n : ℕ). all n word ∷ []) same
sums_from-push now (w ∷ words) word =
    let same : now + 1 + length words ≡ now + length (w ∷ words) = omega arith in
    ap (λ (fs : List frame). all now w ∷ fs) (sums_from-push (now + 1) words word ∙ ap (λ (n : ℕ). sums_from (now + 1) words ++ all n word ∷ []) same)

pub length-sums_from : (now : ℕ) (words : List (List ℕ)) → length (sums_from now words) ≡ length words
length-sums_from now [] = refl
length-sums_from now (w ∷ words) = let rest = length-sums_from (now + 1) words in omega arith

-- these words before what is heard later
abbrev pub heard_before : List (List ℕ) → Heard → Heard
heard_before words later = record { words = words ++ later.words; fault = later.fault }

one_sum : (total now : ℕ) (word : List ℕ) (frames : List frame) (fault : Option PeerFault) → now < total
    → hear sum_of total now (all now word ∷ frames) fault ≡ heard_first (Ok word) (hear sum_of total (now + 1) frames fault)
one_sum total now word frames fault low = rw (lt-ltb now total low, eq-eqb now now refl) refl

pub hear-sums : (total now : ℕ) (words : List (List ℕ)) (tail : List frame) (fault : Option PeerFault) → now + length words ≤ total
    → hear sum_of total now (sums_from now words ++ tail) fault ≡ heard_before words (hear sum_of total (now + length words) tail fault)
hear-sums total now [] tail fault low = let same : now ≡ now + 0 = omega arith in ap (λ (n : ℕ). hear sum_of total n tail fault) same
hear-sums total now (w ∷ words) tail fault low =
    let same : now + 1 + length words ≡ now + length (w ∷ words) = omega arith in
    let first : now < total = omega arith in
    one_sum total now w (sums_from (now + 1) words ++ tail) fault first
    ∙ ap (heard_first (Ok w)) (hear-sums total (now + 1) words tail fault (omega arith))
    ∙ ap (λ (n : ℕ). heard_before (w ∷ words) (hear sum_of total n tail fault)) same

-- past the frames nothing is heard but the fault of the bytes
none_more : (word_of : ℕ → frame → Result (List ℕ) PeerFault) (total now : ℕ) → hear word_of total now [] None ≡ record { words = []; fault = None }
none_more word_of total now = elim (nat_lt now total) as (λ b. ◌≡◌ {A = Heard} (record { words = []; fault = if b then None else None }) (record { words = []; fault = None })) [ true ↦ refl | false ↦ refl ]

-- bytes that are sums of these words and then the beginning of a frame
pub sums_heard-words : (total : ℕ) (bytes : List ℕ) (words : List (List ℕ)) (rest : List ℕ) → length words ≤ total
    → reading bytes ≡ record { frames = sums_from 0 words; ends = Ok rest } → sums_heard total bytes ≡ record { words = words; fault = None }
unfolding sums_heard
sums_heard-words total bytes words rest low e =
    ap (λ (r : Reading). hear sum_of total 0 r.frames (option_map Frame (result_err r.ends))) e
    ∙ ap (λ (fs : List frame). hear sum_of total 0 fs None) (sym (append-nil (sums_from 0 words)))
    ∙ hear-sums total 0 words [] None (omega arith)
    ∙ ap (heard_before words) (none_more sum_of total (0 + length words))
    ∙ ap (λ (ws : List (List ℕ)). record { words = ws; fault = None }) (append-nil words)

-- bytes that are sums of these words and then show a fault
pub sums_heard-fault : (total : ℕ) (bytes : List ℕ) (words : List (List ℕ)) (tail : List frame) (fault : PeerFault) → length words ≤ total → (reading bytes).frames ≡ sums_from 0 words ++ tail
    → hear sum_of total (length words) tail (frame_fault bytes) ≡ record { words = []; fault = Some fault } → sums_heard total bytes ≡ record { words = words; fault = Some fault }
unfolding sums_heard
sums_heard-fault total bytes words tail fault low e shown =
    let place : 0 + length words ≡ length words = omega arith in
    ap (λ (fs : List frame). hear sum_of total 0 fs (frame_fault bytes)) e
    ∙ hear-sums total 0 words tail (frame_fault bytes) (omega arith)
    ∙ ap (λ (n : ℕ). heard_before words (hear sum_of total n tail (frame_fault bytes))) place
    ∙ ap (heard_before words) shown
    ∙ ap (λ (ws : List (List ℕ)). record { words = ws; fault = Some fault }) (append-nil words)
