-- The session of a station, step by step.
use Rattle.std.proofs.Common.{◌≡◌, ℕ, suc, ◌+◌, ◌<◌, min, List, [], ◌∷◌, ◌++◌, length, Option, Some, None, Result, Ok, Err, refl, sym, ap, subst, ◌∙◌, arith, append_assoc, append-nil}
use Rattle.std.specs.Prelude.{IsOk}
use Rattle.dc_spec.specs.Outside.{WireState, IsFront, IsEmptyIfKnown, preceded}
use Rattle.dc_spec.specs.Entries.{Stream}
use Rattle.dc_spec.specs.Pads.{Keys}
use Rattle.dc_spec.specs.Frames.{Frame as frame, hello, send, all}
use Rattle.dc_formats.specs.Frames.{frame_bytes, frames_bytes}
use Rattle.dc_formats.specs.KeyFile.{IsKeys}
use Rattle.dc_net_rules.specs.Runs.{station_word}
use Rattle.dc_net_rules.specs.SessionTexts.{says}
use Rattle.dc_keys.specs.StationPads.{StationPads, station_pads}
use Rattle.dc_frame.specs.Reading.{Reading, reading, reading_from}
use Rattle.dc_frame.specs.Reader.{ReaderState, StandsFor}
use Rattle.dc_station.specs.State.{State}
use Rattle.dc_station.specs.StandsFor.{StandsFor as station_stands_for}
use Rattle.dc_conv.specs.Mask.{MaskState, session_words, StandsFor as mask_stands_for}
use Rattle.dc_live.specs.Hearing.{Heard, heard, sums_heard, station_fault}
use Rattle.dc_live.specs.Receiving.{HasRead}
use Rattle.dc_live.specs.Sending.{SendsText}
use Rattle.dc_live.specs.Talking.{Talks, Spoke}
use Rattle.dc_live.specs.StationSession.{Greeting, IsBefore, IsUnfinished, StationEnds, RunsStation, HearsAll, IsHello, greeting_of}
use Rattle.dc_live.specs.StationSteps.{SaysWord, HearsSum, ShowsInRound}
use Rattle.dc_live.specs.declared.fault.LiveFault.{LiveFault}
use Rattle.dc_live.specs.declared.fault.LiveFault.TheVariants.{Wire, Peer}
use Rattle.dc_live.specs.declared.fault.PeerFault.{PeerFault}
use Rattle.dc_live.specs.declared.fault.PeerFault.TheVariants as faults
use Rattle.std.proofs.lemmas.List.{length-append}
use Rattle.dc_live.proofs.TalkLemmas.{Talks-then}
use Rattle.dc_live.proofs.ReadLemmas.{HasRead-reading, HasRead-new}
use Rattle.dc_live.proofs.StayLemmas.{sums_heard-stays, sums_heard-few}
use Rattle.dc_live.proofs.HearLemmas.{sums_from, sums_from-push, length-sums_from, sums_heard-words, sums_heard-fault}
use Rattle.dc_live.proofs.SayLemmas.{said, says-said, said-more, said-stays}

-- what a station has said after these words, in words of so many rounds, for each stream and keys
abbrev pub HasSaid : Greeting → State → MaskState → List (List ℕ) → ℕ → List ℕ → Type 0
HasSaid g st mask words count given = (stream : Stream) (keys : Keys) → IsKeys keys → station_stands_for st stream g.words [] → mask_stands_for mask (station_pads keys g.station) []
    → given ≡ said g.station g.stations g.words keys.pairs stream words count

-- the station and the mask went from no word to these
abbrev pub HasReceived : Greeting → State → State → List (List ℕ) → Type 0
HasReceived g st now words = (stream : Stream) → station_stands_for st stream g.words [] → station_stands_for now stream g.words words

abbrev pub HasMasked : MaskState → MaskState → List (List ℕ) → Type 0
HasMasked mask now words = (pads : StationPads) → mask_stands_for mask pads [] → mask_stands_for now pads words

-- the station and the mask have taken so many words of a session
pub record IsAt (round words : ℕ) (st : State) (mask : MaskState) : Type 0 where
  pub received : st.taken ≡ round
  pub session : st.total ≡ words
  pub taken : mask.taken ≡ round
  pub pads : session_words mask ≡ words

-- the rounds before this one were played
pub record SoFar (peer round : ℕ) (g : Greeting) (st0 st : State) (mask0 mask : MaskState) (r : ReaderState) (s0 s : WireState) : Type 0 where
  pub taken : List ℕ
  pub given : List ℕ
  pub words : List (List ℕ)
  pub count : length words ≡ round
  pub talks : Talks peer taken given s0 s
  pub read : HasRead r taken (sums_from 0 words)
  pub begins : r.part ≡ []
  pub spoke : HasSaid g st0 mask0 words round given
  pub received : HasReceived g st0 st words
  pub masked : HasMasked mask0 mask words
  pub at : IsAt round g.words st mask

-- a session by the words that were heard
session_by : {peer : ℕ} {g : Greeting} {st0 st : State} {mask0 mask : MaskState} {s0 s : WireState} {result : Result Unit LiveFault} (taken given : List ℕ) (words : List (List ℕ)) (fault : Option PeerFault)
    → sums_heard g.words taken ≡ record { words = words; fault = fault } → Talks peer taken given s0 s → StationEnds peer g.words taken s0 s result
    → ((stream : Stream) (keys : Keys) → IsKeys keys → station_stands_for st0 stream g.words [] → mask_stands_for mask0 (station_pads keys g.station) []
    → Spoke (frames_bytes (says g.station g.stations g.words keys.pairs stream words)) given result)
    → HasReceived g st0 st words → HasMasked mask0 mask words → RunsStation peer g st0 st mask0 mask s0 s result
session_by {g = g} {st0 = st0} {st = st} {mask0 = mask0} {mask = mask} {result = result} taken given words fault is talks ends spoke received masked =
    let same : words ≡ heard g.words taken = ap (λ (h : Heard). h.words) (sym is) in
    record {
      taken = taken;
      given = given;
      talks = talks;
      ends = ends;
      spoke = λ stream keys are a b. subst (λ (ws : List (List ℕ)). Spoke (frames_bytes (says g.station g.stations g.words keys.pairs stream ws)) given result) same (spoke stream keys are a b);
      received = subst (λ (ws : List (List ℕ)). HasReceived g st0 st ws) same received;
      masked = subst (λ (ws : List (List ℕ)). HasMasked mask0 mask ws) same masked;
    }

-- bytes that show no fault and do not have all words
unfinished : {total : ℕ} {taken : List ℕ} {words : List (List ℕ)} → sums_heard total taken ≡ record { words = words; fault = None } → length words < total → IsUnfinished total taken
unfinished {total} {taken} {words} is low = record {
  words = let same : length (heard total taken) ≡ length words = ap (λ (h : Heard). length h.words) is in omega arith;
  fault = ap (λ (h : Heard). h.fault) is;
}

-- the last round was played
pub SoFar-done : {peer : ℕ} {g : Greeting} {st0 st : State} {mask0 mask : MaskState} {r : ReaderState} {s0 s : WireState} → SoFar peer g.words g st0 st mask0 mask r s0 s → RunsStation peer g st0 st mask0 mask s0 s (Ok tt)
SoFar-done {g = g} {r = r} p =
    let read = HasRead-reading p.read in
    let count = p.count in
    let is = sums_heard-words g.words p.taken p.words r.part (omega arith) read in
    let same : heard g.words p.taken ≡ p.words = ap (λ (h : Heard). h.words) is in
    let all : min (length p.words + 1) g.words ≡ g.words = omega arith in
    session_by p.taken p.given p.words None is p.talks
    (record {
      words = ap (λ (ws : List (List ℕ)). length ws) same ∙ p.count;
      frames = ap (λ (x : Reading). length x.frames) read ∙ length-sums_from 0 p.words ∙ p.count;
      rest = ap (λ (x : Reading). x.ends) read ∙ ap (λ (b : List ℕ). Ok b) p.begins;
    })
    (λ stream keys are a b. p.spoke stream keys are a b ∙ sym (says-said g.station g.stations g.words keys.pairs stream p.words g.words all))
    p.received p.masked

-- the text after the station's word for this round went out
text_of_round : {peer round : ℕ} {g : Greeting} {st0 st : State} {mask0 mask : MaskState} {r : ReaderState} {s0 s s1 : WireState} {result : Result Unit LiveFault} → round < g.words
    → (p : SoFar peer round g st0 st mask0 mask r s0 s) (w : SaysWord peer round st mask s s1 result)
    → (stream : Stream) (keys : Keys) → IsKeys keys → station_stands_for st0 stream g.words [] → mask_stands_for mask0 (station_pads keys g.station) []
    → p.given ++ frame_bytes (send round w.word) ≡ said g.station g.stations g.words keys.pairs stream p.words (suc round)
text_of_round {round = round} {g = g} low p w stream keys are a b =
    let word = w.is stream g.words keys g.station p.words are (p.received stream a) (p.masked (station_pads keys g.station) b) in
    ap (λ (x : List ℕ). p.given ++ frame_bytes (send round x)) word
    ∙ ap (λ (x : List ℕ). x ++ frame_bytes (send round (station_word stream keys.pairs g.station p.words))) (p.spoke stream keys are a b)
    ∙ sym (said-more g.station g.stations g.words keys.pairs stream p.words round (sym p.count))

front_after : (before text front : List ℕ) → IsFront front text → IsFront (before ++ front) (before ++ text)
front_after before text front f = (f.0, ap (λ (x : List ℕ). before ++ x) f.1 ∙ sym (append_assoc before front f.0))

-- the wire failed where the station's word was to go out
pub SoFar-unsaid : {peer round : ℕ} {g : Greeting} {st0 st : State} {mask0 mask : MaskState} {r : ReaderState} {s0 s s1 : WireState} (fault : LiveFault) → round < g.words
    → SoFar peer round g st0 st mask0 mask r s0 s → SaysWord peer round st mask s s1 (Err fault) → RunsStation peer g st0 st mask0 mask s0 s1 (Err fault)
SoFar-unsaid (Peer who fault) low p w = absurd w.sends.answer
SoFar-unsaid {round = round} {g = g} {r = r} {s0 = s0} {s = s} {s1 = s1} Wire low p w =
    let count = p.count in
    let is = sums_heard-words g.words p.taken p.words r.part (omega arith) (HasRead-reading p.read) in
    let next : min (length p.words + 1) g.words ≡ suc round = omega arith in
    let talks = Talks-then p.talks w.sends.talks in
    let earlier = p.talks.counted in
    let rose = w.sends.answer.1 in
    session_by p.taken (p.given ++ w.sends.given) p.words None is
    (subst (λ (t : List ℕ). Talks _ t (p.given ++ w.sends.given) s0 s1) (append-nil p.taken) talks)
    (unfinished is (omega arith), omega arith)
    (λ stream keys are a b. subst (λ (t : List ℕ). IsFront (p.given ++ w.sends.given) t)
    (text_of_round low p w stream keys are a b ∙ sym (says-said g.station g.stations g.words keys.pairs stream p.words (suc round) next))
    (front_after p.given (frame_bytes (send round w.word)) w.sends.given w.sends.answer.0))
    p.received p.masked

-- the talk of a round: a word out, a piece in
round_talk : {peer : ℕ} {taken given out piece text : List ℕ} {s0 s s1 s2 : WireState} → Talks peer taken given s0 s → Talks peer [] out s s1 → out ≡ text → Talks peer piece [] s1 s2
    → Talks peer (taken ++ piece) (given ++ text) s0 s2
round_talk {peer} {taken} {given} {out} {piece} {text} {s0} {s} {s1} {s2} before said same heard_then =
    let talks = Talks-then (Talks-then before said) heard_then in
    let t : taken ++ [] ++ piece ≡ taken ++ piece = ap (λ (x : List ℕ). x ++ piece) (append-nil taken) in
    let g : given ++ out ++ [] ≡ given ++ text = append-nil (given ++ out) ∙ ap (λ (x : List ℕ). given ++ x) same in
    subst (λ (y : List ℕ). Talks peer (taken ++ piece) y s0 s2) g (subst (λ (x : List ℕ). Talks peer x (given ++ out ++ []) s0 s2) t talks)

-- how a session ends where the sum of a round is not heard, for a fault that the bytes show
shown_ends : (peer who total : ℕ) (taken : List ℕ) (words : List (List ℕ)) (before after : WireState) (fault : PeerFault) → ((at : ℕ) → fault ≡ faults.Ended at → ⊥) → who ≡ peer
    → sums_heard total taken ≡ record { words = words; fault = Some fault } → StationEnds peer total taken before after (Err (Peer who fault))
shown_ends peer who total taken words before after (faults.Ended at) not is_peer is = absurd (not at refl)
shown_ends peer who total taken words before after (faults.Frame f) not is_peer is = (is_peer, ap (λ (h : Heard). h.fault) is)
shown_ends peer who total taken words before after (faults.Unexpected tag) not is_peer is = (is_peer, ap (λ (h : Heard). h.fault) is)
shown_ends peer who total taken words before after (faults.Hello i n w) not is_peer is = (is_peer, ap (λ (h : Heard). h.fault) is)
shown_ends peer who total taken words before after (faults.Round told now) not is_peer is = (is_peer, ap (λ (h : Heard). h.fault) is)

-- all was sent, whatever the fault
spoke_all : {text given : List ℕ} (fault : LiveFault) → given ≡ text → Spoke text given (Err fault)
spoke_all {text} {given} Wire same = ([], sym same ∙ sym (append-nil given))
spoke_all (Peer who fault) same = same

-- a round in which the word went out and no sum came in, by what is heard of all bytes
unheard_by : {peer round : ℕ} {g : Greeting} {st0 st : State} {mask0 mask : MaskState} {r : ReaderState} {s0 s s1 s2 : WireState} {u : Unit} (piece : List ℕ) (shown : Option PeerFault) (fault : LiveFault)
    → round < g.words → (p : SoFar peer round g st0 st mask0 mask r s0 s) → SaysWord peer round st mask s s1 (Ok u) → Talks peer piece [] s1 s2
    → sums_heard g.words (p.taken ++ piece) ≡ record { words = p.words; fault = shown } → StationEnds peer g.words (p.taken ++ piece) s0 s2 (Err fault)
    → RunsStation peer g st0 st mask0 mask s0 s2 (Err fault)
unheard_by {round = round} {g = g} piece shown fault low p w talks is ends =
    let count = p.count in
    let next : min (length p.words + 1) g.words ≡ suc round = omega arith in
    session_by (p.taken ++ piece) (p.given ++ frame_bytes (send round w.word)) p.words shown is (round_talk p.talks w.sends.talks w.sends.answer talks) ends
    (λ stream keys are a b.
    let all = text_of_round low p w stream keys are a b ∙ sym (says-said g.station g.stations g.words keys.pairs stream p.words (suc round) next) in
    spoke_all fault all)
    p.received p.masked

-- a round in which the bytes show a fault
unheard_shown : {peer round who : ℕ} {g : Greeting} {st0 st : State} {mask0 mask : MaskState} {r : ReaderState} {s0 s s1 s2 : WireState} {u : Unit} (fault : PeerFault) → ((at : ℕ) → fault ≡ faults.Ended at → ⊥)
    → round < g.words → (p : SoFar peer round g st0 st mask0 mask r s0 s) → SaysWord peer round st mask s s1 (Ok u) → (piece : List ℕ) → Talks peer piece [] s1 s2 → who ≡ peer
    → ShowsInRound round (p.taken ++ piece) (sums_from 0 p.words) fault → RunsStation peer g st0 st mask0 mask s0 s2 (Err (Peer who fault))
unheard_shown {peer} {round} {who} {g} {s0 = s0} {s2 = s2} fault not low p w piece talks is_peer shows =
    let count = p.count in
    let same : length p.words ≡ round = p.count in
    let shown = shows.shown g.words low in
    let is = sums_heard-fault g.words (p.taken ++ piece) p.words shows.tail fault (omega arith) shows.read (rw same shown) in
    unheard_by piece (Some fault) (Peer who fault) low p w talks is (shown_ends peer who g.words (p.taken ++ piece) p.words s0 s2 fault not is_peer is)

-- the sum of a round did not come
pub SoFar-unheard : {peer round : ℕ} {g : Greeting} {st0 st : State} {mask0 mask : MaskState} {r new : ReaderState} {s0 s s1 s2 : WireState} {u : Unit} (fault : LiveFault) → round < g.words
    → SoFar peer round g st0 st mask0 mask r s0 s → SaysWord peer round st mask s s1 (Ok u) → HearsSum peer round r new s1 s2 (Err fault) → RunsStation peer g st0 st mask0 mask s0 s2 (Err fault)
SoFar-unheard {g = g} {new = new} Wire low p w h =
    let count = p.count in
    let read = h.read p.taken (sums_from 0 p.words) p.read in
    let is = sums_heard-words g.words (p.taken ++ h.piece) p.words new.part (omega arith) (HasRead-reading read) in
    let earlier = p.talks.counted in
    let then = w.sends.talks.counted in
    let rose = h.answer in
    unheard_by h.piece None Wire low p w h.talks is (unfinished is (omega arith), omega arith)
SoFar-unheard {g = g} {new = new} (Peer who (faults.Ended at)) low p w h =
    let count = p.count in
    let read = h.read p.taken (sums_from 0 p.words) p.read in
    let is = sums_heard-words g.words (p.taken ++ h.piece) p.words new.part (omega arith) (HasRead-reading read.0) in
    unheard_by h.piece None (Peer who (faults.Ended at)) low p w h.talks is (h.answer.0, read.1, unfinished is (omega arith), h.answer.1)
SoFar-unheard (Peer who (faults.Frame f)) low p w h = unheard_shown (faults.Frame f) (λ at e. absurd (cc)) low p w h.piece h.talks h.answer (h.read p.taken (sums_from 0 p.words) p.read)
SoFar-unheard (Peer who (faults.Unexpected tag)) low p w h = unheard_shown (faults.Unexpected tag) (λ at e. absurd (cc)) low p w h.piece h.talks h.answer (h.read p.taken (sums_from 0 p.words) p.read)
SoFar-unheard (Peer who (faults.Hello i n x)) low p w h = unheard_shown (faults.Hello i n x) (λ at e. absurd (cc)) low p w h.piece h.talks h.answer (h.read p.taken (sums_from 0 p.words) p.read)
SoFar-unheard (Peer who (faults.Round told now)) low p w h = unheard_shown (faults.Round told now) (λ at e. absurd (cc)) low p w h.piece h.talks h.answer (h.read p.taken (sums_from 0 p.words) p.read)

-- a round was played
pub SoFar-next : {peer round : ℕ} {g : Greeting} {st0 st st2 : State} {mask0 mask mask2 : MaskState} {r new : ReaderState} {s0 s s1 s2 : WireState} {u : Unit} (sum : List ℕ) → round < g.words
    → SoFar peer round g st0 st mask0 mask r s0 s → SaysWord peer round st mask s s1 (Ok u) → HearsSum peer round r new s1 s2 (Ok sum) → IsAt (round + 1) g.words st2 mask2
    → ((stream : Stream) (total : ℕ) (words : List (List ℕ)) → station_stands_for st stream total words → station_stands_for st2 stream total (words ++ sum ∷ []))
    → ((pads : StationPads) (words : List (List ℕ)) → mask_stands_for mask pads words → mask_stands_for mask2 pads (words ++ sum ∷ []))
    → SoFar peer (round + 1) g st0 st2 mask0 mask2 new s0 s2
SoFar-next {peer} {round} {g} {new = new} sum low p w h at receives takes =
    let count = p.count in
    let place : 0 + length p.words ≡ round = omega arith in
    let frames : sums_from 0 p.words ++ all round sum ∷ [] ≡ sums_from 0 (p.words ++ sum ∷ []) =
    ap (λ (n : ℕ). sums_from 0 p.words ++ all n sum ∷ []) (sym place) ∙ sym (sums_from-push 0 p.words sum) in
    let next : suc round ≡ round + 1 = omega arith in
    record {
      taken = p.taken ++ h.piece;
      given = p.given ++ frame_bytes (send round w.word);
      words = p.words ++ sum ∷ [];
      count = omega (arith, length-append p.words (sum ∷ []));
      talks = round_talk p.talks w.sends.talks w.sends.answer h.talks;
      read = subst (λ (fs : List frame). HasRead new (p.taken ++ h.piece) fs) frames (h.read p.taken (sums_from 0 p.words) p.read);
      begins = h.answer.1;
      spoke = λ stream keys are a b.
          text_of_round low p w stream keys are a b ∙ said-stays g.station g.stations g.words keys.pairs stream p.words sum (suc round) (omega arith)
          ∙ ap (λ (n : ℕ). said g.station g.stations g.words keys.pairs stream (p.words ++ sum ∷ []) n) next;
      received = λ stream a. receives stream g.words p.words (p.received stream a);
      masked = λ pads a. takes pads p.words (p.masked pads a);
      at = at;
    }

-- a hello by its numbers
hello_is : (f : frame) → IsHello f → f ≡ hello (greeting_of f).station (greeting_of f).stations (greeting_of f).words
hello_is (hello i n w) is = refl
hello_is (send t w) is = absurd is
hello_is (all t w) is = absurd is

-- the greeting went out
pub SoFar-greeted : {peer : ℕ} {st : State} {mask : MaskState} {r : ReaderState} {s0 s : WireState} {u : Unit} (f : frame) → IsHello f → IsBefore (greeting_of f).words st mask → StandsFor r [] 0
    → SendsText peer (frame_bytes f) s0 s (Ok u) → SoFar peer 0 (greeting_of f) st st mask mask r s0 s
SoFar-greeted f is before fresh out =
    let read = HasRead-new _ fresh in
    record {
      taken = [];
      given = out.given;
      words = [];
      count = refl;
      talks = out.talks;
      read = read.0;
      begins = read.1;
      spoke = λ stream keys are a b. out.answer ∙ ap frame_bytes (hello_is f is) ∙ sym (append-nil (frame_bytes (hello (greeting_of f).station (greeting_of f).stations (greeting_of f).words)));
      received = λ stream a. a;
      masked = λ pads a. a;
      at = record { received = before.received; session = before.session; taken = before.taken; pads = before.pads };
    }

nothing_read : reading [] ≡ record { frames = []; ends = Ok [] }
unfolding reading_from
nothing_read = refl

front_more : (front text more : List ℕ) → IsFront front text → IsFront front (text ++ more)
front_more front text more f = (f.0 ++ more, ap (λ (x : List ℕ). x ++ more) f.1 ∙ append_assoc front f.0 more)

-- the greeting did not go out
pub greeting-unsaid : {peer : ℕ} {st : State} {mask : MaskState} {s0 s : WireState} (f : frame) (fault : LiveFault) → IsHello f → IsBefore (greeting_of f).words st mask
    → SendsText peer (frame_bytes f) s0 s (Err fault) → RunsStation peer (greeting_of f) st st mask mask s0 s (Err fault)
greeting-unsaid f (Peer who fault) is before out = absurd out.answer
greeting-unsaid {s0 = s0} {s = s} f Wire is before out =
    let g = greeting_of f in
    let some = before.some in
    let nothing = sums_heard-words g.words [] [] [] (omega arith) nothing_read in
    let count : min (0 + 1) g.words ≡ 1 = omega arith in
    let text : frame_bytes f ≡ frame_bytes (hello g.station g.stations g.words) = ap frame_bytes (hello_is f is) in
    session_by [] out.given [] None nothing out.talks (unfinished nothing (omega arith), out.answer.1)
    (λ stream keys are a b. subst (λ (t : List ℕ). IsFront out.given t) (sym (says-said g.station g.stations g.words keys.pairs stream [] 1 count))
    (front_more out.given (frame_bytes (hello g.station g.stations g.words)) _ (subst (λ (t : List ℕ). IsFront out.given t) text out.answer.0)))
    (λ stream a. a) (λ pads a. a)

-- what a peer gave is a front of what it had to give
pub given_front : (known later : Option (List ℕ)) (taken bytes : List ℕ) → known ≡ preceded taken later → known ≡ Some bytes → (rest : List ℕ) × (bytes ≡ taken ++ rest) × (later ≡ Some rest)
given_front known None taken bytes e is = absurd (cc)
given_front known (Some rest) taken bytes e is = (rest, (let same : bytes ≡ taken ++ rest = cc in same), refl)

-- bytes that show a fault are no beginning of all sums
fault_incomplete : {A : Type 0} {peer total : ℕ} {s0 s : WireState} {given : List ℕ} (fault : PeerFault) (taken : List ℕ) → Talks peer taken given s0 s → station_fault total taken ≡ Some fault → HearsAll peer total s0 s → A
fault_incomplete {peer = peer} {total = total} {s0 = s0} {s = s} fault taken talks shown gives =
    let front = given_front (s0.left peer) (s.left peer) taken gives.bytes talks.left gives.known in
    let words = ap (λ (b : List ℕ). length (heard total b)) front.1 ∙ ap (λ (h : Heard). length h.words) (sums_heard-stays total taken front.0 fault shown) in
    let few = sums_heard-few total taken fault shown in
    let full = gives.words in
    absurd (omega arith)

-- a session with a peer that gives all sums ends well
pub RunsStation-complete : {peer : ℕ} {g : Greeting} {st new_st : State} {mask new_mask : MaskState} {s0 s : WireState} (result : Result Unit LiveFault) → RunsStation peer g st new_st mask new_mask s0 s result
    → HearsAll peer g.words s0 s → IsOk result
RunsStation-complete (Ok u) runs gives = refl
RunsStation-complete (Err Wire) runs gives = absurd (gives.counted runs.ends.1)
RunsStation-complete {peer} {g} {s0 = s0} {s = s} (Err (Peer who (faults.Ended at))) runs gives =
    let front = given_front (s0.left peer) (s.left peer) runs.taken gives.bytes runs.talks.left gives.known in
    let none : front.0 ≡ [] = subst IsEmptyIfKnown front.2 runs.ends.3 in
    let same : gives.bytes ≡ runs.taken = front.1 ∙ ap (λ (x : List ℕ). runs.taken ++ x) none ∙ append-nil runs.taken in
    let words = ap (λ (b : List ℕ). length (heard g.words b)) same in
    let total = gives.words in
    let few = runs.ends.2.words in
    absurd (omega arith)
RunsStation-complete (Err (Peer who (faults.Frame f))) runs gives = fault_incomplete (faults.Frame f) runs.taken runs.talks runs.ends.1 gives
RunsStation-complete (Err (Peer who (faults.Unexpected tag))) runs gives = fault_incomplete (faults.Unexpected tag) runs.taken runs.talks runs.ends.1 gives
RunsStation-complete (Err (Peer who (faults.Hello i n w))) runs gives = fault_incomplete (faults.Hello i n w) runs.taken runs.talks runs.ends.1 gives
RunsStation-complete (Err (Peer who (faults.Round told now))) runs gives = fault_incomplete (faults.Round told now) runs.taken runs.talks runs.ends.1 gives
