-- A hub whose peers give all their words.
use Rattle.std.proofs.Common.{◌≡◌, ℕ, ◌<◌, List, [], ◌∷◌, ◌++◌, length, drop, Some, Result, Ok, Err, refl, sym, ap, subst, ◌∙◌, arith, append_assoc, append-nil}
use Rattle.std.specs.Prelude.{IsOk}
use Rattle.dc_spec.specs.Outside.{WireState, IsEmptyIfKnown}
use Rattle.dc_spec.specs.Frames.{Frame as frame, hello}
use Rattle.dc_frame.specs.Reading.{Reading, reading}
use Rattle.dc_frame.proofs.Growing.{reading_grows}
use Rattle.dc_live.specs.Hearing.{Heard, hear, word_of, frame_fault}
use Rattle.dc_live.specs.Seats.{SeatsState, told_by}
use Rattle.dc_live.specs.HubSession.{words_heard, RunsHub, HearsWords}
use Rattle.dc_superpose.specs.HubCore.{HubState}
use Rattle.dc_live.specs.declared.fault.LiveFault.{LiveFault}
use Rattle.dc_live.specs.declared.fault.LiveFault.TheVariants.{Wire, Peer}
use Rattle.dc_live.specs.declared.fault.PeerFault.{PeerFault}
use Rattle.dc_live.specs.declared.fault.PeerFault.TheVariants as faults
use Rattle.dc_live.proofs.ReadLemmas.{HasRead-reading}
use Rattle.dc_live.proofs.StayLemmas.{hear_stays, few_words, same_end}
use Rattle.dc_live.proofs.StationLemmas.{given_front}

-- a fault that bytes show behind their first frame is shown by all bytes that begin with them
words_heard-stays : (total : ℕ) (bytes more : List ℕ) (first : frame) (frames : List frame) (f : PeerFault) → (reading bytes).frames ≡ first ∷ frames → (words_heard total bytes).fault ≡ Some f
    → words_heard total (bytes ++ more) ≡ words_heard total bytes
unfolding words_heard
words_heard-stays total bytes more first frames f begins shown =
    let grown = reading_grows bytes more in
    let later : drop 1 (reading (bytes ++ more)).frames ≡ drop 1 (reading bytes).frames ++ grown.rest =
    ap (λ (fs : List frame). drop 1 fs) (grown.frames ∙ ap (λ (fs : List frame). fs ++ grown.rest) begins) ∙ ap (λ (fs : List frame). drop 1 fs ++ grown.rest) (sym begins) in
    ap (λ (fs : List frame). hear word_of total 0 fs (frame_fault (bytes ++ more))) later
    ∙ hear_stays word_of total 0 (drop 1 (reading bytes).frames) grown.rest (frame_fault bytes) (frame_fault (bytes ++ more)) f shown (same_end bytes more)

words_heard-few : (total : ℕ) (bytes : List ℕ) (f : PeerFault) → (words_heard total bytes).fault ≡ Some f → length (words_heard total bytes).words < total
unfolding words_heard
words_heard-few total bytes f shown = let few = few_words word_of total 0 (drop 1 (reading bytes).frames) (frame_fault bytes) f shown in omega arith

-- bytes that show a fault are no beginning of all words
fault_incomplete : {A : Type 0} {s : SeatsState} {c : HubState} {before after : WireState} {result : Result Unit LiveFault} (fault : PeerFault) (who : ℕ) → (runs : RunsHub s c before after result) → (gives : HearsWords s before after)
    → who < s.stations → length s.told ≡ s.stations → (words_heard s.words (gives.greeted who ++ runs.taken who)).fault ≡ Some fault → A
fault_incomplete {s = s} {before = before} {after = after} fault who runs gives low every shown =
    let front = given_front (before.left who) (after.left who) (runs.taken who) (gives.rest who) (runs.talks.left who low) (gives.known who low) in
    let greeting = HasRead-reading (gives.hellos who (omega arith)) in
    let grown = reading_grows (gives.greeted who) (runs.taken who) in
    let begins : (reading (gives.greeted who ++ runs.taken who)).frames ≡ hello (told_by s who) s.stations s.words ∷ grown.rest =
    grown.frames ∙ ap (λ (x : Reading). x.frames ++ grown.rest) greeting in
    let whole : gives.greeted who ++ gives.rest who ≡ gives.greeted who ++ runs.taken who ++ front.0 =
    ap (λ (b : List ℕ). gives.greeted who ++ b) front.1 ∙ sym (append_assoc (gives.greeted who) (runs.taken who) front.0) in
    let words = ap (λ (b : List ℕ). length (words_heard s.words b).words) whole
    ∙ ap (λ (h : Heard). length h.words) (words_heard-stays s.words (gives.greeted who ++ runs.taken who) front.0 (hello (told_by s who) s.stations s.words) grown.rest fault begins shown) in
    let few = words_heard-few s.words (gives.greeted who ++ runs.taken who) fault shown in
    let full = gives.words who low in
    absurd (omega arith)

-- a session with peers that give all their words ends well
pub RunsHub-complete : {s : SeatsState} {c : HubState} {before after : WireState} (result : Result Unit LiveFault) → length s.told ≡ s.stations → RunsHub s c before after result → HearsWords s before after → IsOk result
RunsHub-complete (Ok u) every runs gives = refl
RunsHub-complete (Err Wire) every runs gives = absurd (gives.counted (runs.heard gives.greeted gives.hellos).ends.1)
RunsHub-complete {s} {before = before} {after = after} (Err (Peer who (faults.Ended at))) every runs gives =
    let ends = (runs.heard gives.greeted gives.hellos).ends in
    let low = ends.0.peer in
    let front = given_front (before.left who) (after.left who) (runs.taken who) (gives.rest who) (runs.talks.left who low) (gives.known who low) in
    let none : front.0 ≡ [] = subst IsEmptyIfKnown front.2 ends.3 in
    let same : gives.rest who ≡ runs.taken who = front.1 ∙ ap (λ (x : List ℕ). runs.taken who ++ x) none ∙ append-nil (runs.taken who) in
    let words = ap (λ (b : List ℕ). length (words_heard s.words (gives.greeted who ++ b)).words) same in
    let full = gives.words who low in
    let few = ends.2.words in
    absurd (omega arith)
RunsHub-complete (Err (Peer who (faults.Frame f))) every runs gives = let ends = (runs.heard gives.greeted gives.hellos).ends in fault_incomplete (faults.Frame f) who runs gives ends.0.peer every ends.1
RunsHub-complete (Err (Peer who (faults.Unexpected tag))) every runs gives = let ends = (runs.heard gives.greeted gives.hellos).ends in fault_incomplete (faults.Unexpected tag) who runs gives ends.0.peer every ends.1
RunsHub-complete (Err (Peer who (faults.Hello i n w))) every runs gives = let ends = (runs.heard gives.greeted gives.hellos).ends in fault_incomplete (faults.Hello i n w) who runs gives ends.0.peer every ends.1
RunsHub-complete (Err (Peer who (faults.Round told now))) every runs gives = let ends = (runs.heard gives.greeted gives.hellos).ends in fault_incomplete (faults.Round told now) who runs gives ends.0.peer every ends.1
