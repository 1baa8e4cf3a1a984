-- What is heard of a station's words in turn, behind a hello.
use Rattle.std.proofs.Common.{◌≡◌, ℕ, ◌+◌, ◌<◌, ◌≤◌, true, false, nat_lt, if◌then◌else◌, List, [], ◌∷◌, ◌++◌, length, drop, Option, Some, None, option_map, Result, Ok, refl, sym, ap, ◌∙◌, arith, append-nil, eq-eqb}
use Rattle.std.specs.Result.{result_err}
use Rattle.std.proofs.lemmas.Bool.{lt-ltb}
use Rattle.dc_spec.specs.Frames.{Frame as frame, send}
use Rattle.dc_frame.specs.Reading.{Reading, reading}
use Rattle.dc_live.specs.declared.fault.PeerFault.{PeerFault}
use Rattle.dc_live.specs.declared.fault.PeerFault.TheVariants.{Frame}
use Rattle.dc_live.specs.Hearing.{Heard, heard_first, hear, word_of, frame_fault}
use Rattle.dc_live.specs.HubSession.{words_heard}
use Rattle.dc_live.proofs.HearLemmas.{heard_before}

-- these words, of the rounds from `now` on
abbrev pub words_from : ℕ → List (List ℕ) → List frame
words_from now [] = []
words_from now (word ∷ words) = send now word ∷ words_from (now + 1) words

pub words_from-push : (now : ℕ) (words : List (List ℕ)) (word : List ℕ) → words_from now (words ++ word ∷ []) ≡ words_from now words ++ send (now + length words) word ∷ []
words_from-push now [] word = let same : now ≡ now + 0 = omega arith in ap (λ (n : ℕ). send n word ∷ []) same
words_from-push now (w ∷ words) word =
    let same : now + 1 + length words ≡ now + length (w ∷ words) = omega arith in
    ap (λ (fs : List frame). send now w ∷ fs) (words_from-push (now + 1) words word ∙ ap (λ (n : ℕ). words_from (now + 1) words ++ send n word ∷ []) same)

pub length-words_from : (now : ℕ) (words : List (List ℕ)) → length (words_from now words) ≡ length words
length-words_from now [] = refl
length-words_from now (w ∷ words) = let rest = length-words_from (now + 1) words in omega arith

one_word : (total now : ℕ) (word : List ℕ) (frames : List frame) (fault : Option PeerFault) → now < total
    → hear word_of total now (send now word ∷ frames) fault ≡ heard_first (Ok word) (hear word_of total (now + 1) frames fault)
one_word total now word frames fault low = rw (lt-ltb now total low, eq-eqb now now refl) refl

pub hear-words : (total now : ℕ) (words : List (List ℕ)) (tail : List frame) (fault : Option PeerFault) → now + length words ≤ total
    → hear word_of total now (words_from now words ++ tail) fault ≡ heard_before words (hear word_of total (now + length words) tail fault)
hear-words total now [] tail fault low = let same : now ≡ now + 0 = omega arith in ap (λ (n : ℕ). hear word_of total n tail fault) same
hear-words total now (w ∷ words) tail fault low =
    let same : now + 1 + length words ≡ now + length (w ∷ words) = omega arith in
    let first : now < total = omega arith in
    one_word total now w (words_from (now + 1) words ++ tail) fault first
    ∙ ap (heard_first (Ok w)) (hear-words total (now + 1) words tail fault (omega arith))
    ∙ ap (λ (n : ℕ). heard_before (w ∷ words) (hear word_of total n tail fault)) same

none_more : (due : ℕ → frame → Result (List ℕ) PeerFault) (total now : ℕ) → hear due total now [] None ≡ record { words = []; fault = None }
none_more due total now = elim (nat_lt now total) as (λ b. ◌≡◌ {A = Heard} (record { words = []; fault = if b then None else None }) (record { words = []; fault = None })) [ true ↦ refl | false ↦ refl ]

-- bytes that are a hello, these words, and then the beginning of a frame
pub words_heard-words : (total : ℕ) (bytes : List ℕ) (first : frame) (words : List (List ℕ)) (rest : List ℕ) → length words ≤ total
    → reading bytes ≡ record { frames = first ∷ words_from 0 words; ends = Ok rest } → words_heard total bytes ≡ record { words = words; fault = None }
unfolding words_heard
words_heard-words total bytes first words rest low e =
    ap (λ (r : Reading). hear word_of total 0 (drop 1 r.frames) (option_map Frame (result_err r.ends))) e
    ∙ ap (λ (fs : List frame). hear word_of total 0 fs None) (sym (append-nil (words_from 0 words)))
    ∙ hear-words total 0 words [] None (omega arith)
    ∙ ap (heard_before words) (none_more word_of total (0 + length words))
    ∙ ap (λ (ws : List (List ℕ)). record { words = ws; fault = None }) (append-nil words)

-- bytes that are a hello and these words, and then show a fault
pub words_heard-fault : (total : ℕ) (bytes : List ℕ) (first : frame) (words : List (List ℕ)) (tail : List frame) (fault : PeerFault) → length words ≤ total
    → (reading bytes).frames ≡ first ∷ words_from 0 words ++ tail
    → hear word_of total (length words) tail (frame_fault bytes) ≡ record { words = []; fault = Some fault } → words_heard total bytes ≡ record { words = words; fault = Some fault }
unfolding words_heard
words_heard-fault total bytes first words tail fault low e shown =
    let place : 0 + length words ≡ length words = omega arith in
    ap (λ (fs : List frame). hear word_of total 0 (drop 1 fs) (frame_fault bytes)) e
    ∙ hear-words total 0 words tail (frame_fault bytes) (omega arith)
    ∙ ap (λ (n : ℕ). heard_before words (hear word_of total n tail (frame_fault bytes))) place
    ∙ ap (heard_before words) shown
    ∙ ap (λ (ws : List (List ℕ)). record { words = ws; fault = Some fault }) (append-nil words)
