-- What is heard stays when more bytes come.
use Rattle.std.proofs.Common.{◌≡◌, ℕ, ◌+◌, ◌<◌, Bool, true, false, ◌⊎◌, inl, inr, nat_lt, if◌then◌else◌, List, [], ◌∷◌, ◌++◌, length, Option, Some, None, option_map, Result, Ok, Err, refl, ap, ◌∙◌, arith, ltb-true}
use Rattle.std.specs.Result.{result_err}
use Rattle.dc_spec.specs.Frames.{Frame as frame}
use Rattle.dc_frame.specs.declared.fault.FrameFault.{FrameFault}
use Rattle.dc_frame.specs.Reading.{Reading, reading}
use Rattle.dc_frame.proofs.Growing.{Grows, reading_grows}
use Rattle.dc_live.specs.declared.fault.PeerFault.{PeerFault}
use Rattle.dc_live.specs.declared.fault.PeerFault.TheVariants.{Frame}
use Rattle.dc_live.specs.Hearing.{Heard, heard_first, hear, sum_of, frame_fault, sums_heard, heard, station_fault}

-- either the bytes had no fault, or nothing new was read and the fault is the same
abbrev pub SameEnd : Option PeerFault → Option PeerFault → List frame → Type 0
SameEnd before after rest = (before ≡ None) ⊎ ((rest ≡ []) × (after ≡ before))

abbrev none : Heard
none = record { words = []; fault = None }

end_stays : (b : Bool) (before after : Option PeerFault) (rest : List frame) (f : PeerFault) → (if b then before else None) ≡ Some f → SameEnd before after rest → (b ≡ true) × (rest ≡ []) × (after ≡ before)
end_stays true before after rest f shown (inl nothing) = absurd (cc)
end_stays true before after rest f shown (inr same) = (refl, same.0, same.1)
end_stays false before after rest f shown end = absurd (cc)

first_stays : (b : Bool) (x : Result (List ℕ) PeerFault) (h h' : Heard) (f : PeerFault) → (if b then heard_first x h else none).fault ≡ Some f → (h.fault ≡ Some f → h' ≡ h)
    → (if b then heard_first x h' else none) ≡ (if b then heard_first x h else none)
first_stays false x h h' f shown same = refl
first_stays true (Err e) h h' f shown same = refl
first_stays true (Ok word) h h' f shown same = ap (heard_first (Ok word)) (same shown)

pub hear_stays : (word_of : ℕ → frame → Result (List ℕ) PeerFault) (total now : ℕ) (frames rest : List frame) (before after : Option PeerFault) (f : PeerFault)
    → (hear word_of total now frames before).fault ≡ Some f → SameEnd before after rest → hear word_of total now (frames ++ rest) after ≡ hear word_of total now frames before
hear_stays word_of total now [] rest before after f shown end =
    let parts = end_stays (nat_lt now total) before after rest f shown end in
    ap (λ (fs : List frame). hear word_of total now fs after) parts.1 ∙ ap (hear word_of total now []) parts.2
hear_stays word_of total now (x ∷ frames) rest before after f shown end =
    first_stays (nat_lt now total) (word_of now x) (hear word_of total (now + 1) frames before) (hear word_of total (now + 1) (frames ++ rest) after) f shown
    (λ later. hear_stays word_of total (now + 1) frames rest before after f later end)

few_first : (b : Bool) (x : Result (List ℕ) PeerFault) (h : Heard) (total now : ℕ) (f : PeerFault) → (b ≡ true → now < total) → (if b then heard_first x h else none).fault ≡ Some f
    → (h.fault ≡ Some f → now + 1 + length h.words < total) → now + length (if b then heard_first x h else none).words < total
few_first false x h total now f low shown later = absurd (cc)
few_first true (Err e) h total now f low shown later = let here = low refl in omega arith
few_first true (Ok word) h total now f low shown later = let more = later shown in omega arith

few_end : (b : Bool) (fault : Option PeerFault) (f : PeerFault) → (if b then fault else None) ≡ Some f → b ≡ true
few_end true fault f shown = refl
few_end false fault f shown = absurd (cc)

-- where a fault is heard, words are missing
pub few_words : (word_of : ℕ → frame → Result (List ℕ) PeerFault) (total now : ℕ) (frames : List frame) (fault : Option PeerFault) (f : PeerFault)
    → (hear word_of total now frames fault).fault ≡ Some f → now + length (hear word_of total now frames fault).words < total
few_words word_of total now [] fault f shown = let low = ltb-true now total (few_end (nat_lt now total) fault f shown) in omega arith
few_words word_of total now (x ∷ frames) fault f shown =
    few_first (nat_lt now total) (word_of now x) (hear word_of total (now + 1) frames fault) total now f (ltb-true now total) shown (few_words word_of total (now + 1) frames fault f)

-- how the ends of two readings go together
same_end_by : (x : Result (List ℕ) FrameFault) (r s : Reading) → (g : Grows r s) → r.ends ≡ x → SameEnd (option_map Frame (result_err x)) (option_map Frame (result_err s.ends)) g.rest
same_end_by (Ok rest) r s g e = inl refl
same_end_by (Err fault) r s g e =
    let same = g.fault fault e in
    inr (same.0, ap (λ (x : Result (List ℕ) FrameFault). option_map Frame (result_err x)) same.1)

pub same_end : (bytes more : List ℕ) → SameEnd (frame_fault bytes) (frame_fault (bytes ++ more)) (reading_grows bytes more).rest
same_end bytes more = same_end_by (reading bytes).ends (reading bytes) (reading (bytes ++ more)) (reading_grows bytes more) refl

-- a fault that bytes show a station is shown by all bytes that begin with them
pub sums_heard-stays : (total : ℕ) (bytes more : List ℕ) (f : PeerFault) → station_fault total bytes ≡ Some f → sums_heard total (bytes ++ more) ≡ sums_heard total bytes
unfolding sums_heard
sums_heard-stays total bytes more f shown =
    ap (λ (fs : List frame). hear sum_of total 0 fs (frame_fault (bytes ++ more))) (reading_grows bytes more).frames
    ∙ hear_stays sum_of total 0 (reading bytes).frames (reading_grows bytes more).rest (frame_fault bytes) (frame_fault (bytes ++ more)) f shown (same_end bytes more)

pub sums_heard-few : (total : ℕ) (bytes : List ℕ) (f : PeerFault) → station_fault total bytes ≡ Some f → length (heard total bytes) < total
unfolding sums_heard
sums_heard-few total bytes f shown = let few = few_words sum_of total 0 (reading bytes).frames (frame_fault bytes) f shown in omega arith
