-- A hub's session so far, and how it goes on.
use Rattle.std.proofs.Common.{◌≡◌, ◌≢◌, ℕ, zero, suc, ◌+◌, ◌-◌, ◌*◌, ◌<◌, ◌≤◌, ◌==◌, Bool, true, false, IsTrue, ◌↔◌, if◌then◌else◌, nat_lt, ◌⊎◌, inl, inr, List, [], ◌∷◌, ◌++◌, length, get_or, set, slice_get, sum_by, Option, Some, None, option_map, Result, Ok, Err, refl, sym, ap, subst, ◌∙◌, arith, append_assoc, append-nil, eqb-true}
use Rattle.std.specs.Result.{result_err}
use Rattle.std.proofs.lemmas.Bool.{cases_lt, lt-ltb}
use Rattle.std.proofs.lemmas.List.{get_or-set_same, get_or-set_other, length-set, length-append}
use Rattle.std.proofs.lemmas.List.Sums.{sum_by-set}
use Rattle.std.proofs.lemmas.Option.{slice_get_past, slice_get_within}
use Rattle.dc_spec.specs.Outside.{WireState, IsFront, IsEmptyIfKnown}
use Rattle.dc_spec.specs.Frames.{Frame as frame, hello, send, all}
use Rattle.dc_formats.specs.Frames.{frame_bytes}
use Rattle.dc_frame.specs.Frames.{frame_of}
use Rattle.dc_frame.specs.declared.frame.Frame.{Frame}
use Rattle.dc_frame.specs.Reading.{Reading, reading, capped}
use Rattle.dc_frame.specs.Reader.{ReaderState}
use Rattle.dc_hub_rules.specs.Hubs.{Arrival, accepted, accepted_sum, complete_rounds, first_missing, reply_accepted}
use Rattle.dc_hub_rules.proofs.OneMore.{rounds_within, none_accepted}
use Rattle.dc_superpose.specs.HubCore.{HubState, StandsFor}
use Rattle.dc_superpose.specs.HubSteps.{answer_of, Counts}
use Rattle.dc_superpose.specs.declared.hub_step.HubStep.{HubStep}
use Rattle.dc_superpose.specs.declared.hub_fault.HubFault.{HubFault}
use Rattle.dc_live.specs.Hearing.{Heard, word_of, frame_fault}
use Rattle.dc_live.specs.Receiving.{HasRead, Waits, ReceivesFrame}
use Rattle.dc_live.specs.Talking.{Talks, Spoke}
use Rattle.dc_live.specs.Seats.{SeatsState, no_seat, seat_at, told_by, with_seat, counted_once, read_by, AreSeats, AreGreeted, GaveHellos, ReceivesAt}
use Rattle.dc_live.specs.HubSession.{TalksWithAll, words_heard, sums_bytes, IsUnfinishedPeer, IsInStep, IsFaultInRound, HubEnds, RunsHub}
use Rattle.dc_live.specs.HubSteps.{InStep, AreInStep, IsDue, GoesOut, FeedsCore, sum_in, TakesFrame}
use Rattle.dc_live.specs.declared.seats.Seat.{Seat}
use Rattle.dc_live.specs.declared.fault.LiveFault.{LiveFault}
use Rattle.dc_live.specs.declared.fault.LiveFault.TheVariants.{Wire, Peer}
use Rattle.dc_live.specs.declared.fault.PeerFault.{PeerFault}
use Rattle.dc_live.specs.declared.fault.PeerFault.TheVariants as faults
use Rattle.dc_live.proofs.ReadLemmas.{HasRead-reading}
use Rattle.dc_live.proofs.FrameLemmas.{waits_short}
use Rattle.dc_live.proofs.WordLemmas.{words_from, words_from-push, length-words_from, words_heard-words, words_heard-fault}
use Rattle.dc_live.proofs.TalkAllLemmas.{at_peer, at_peer-same, at_peer-other, same_or_other, told_apart, TalksWithAll-none, TalksWithAll-then, TalksWithAll-same, Talks-all}
use Rattle.dc_live.proofs.AcceptLemmas.{grown_by, grown_by-same, grown_by-other, AcceptedAre, arrival_of, accepted_next, reply_due, sums_stay, sums_more, no_rounds, complete_words}

-- the seats of a session with other readers and counts
abbrev pub seated : SeatsState → List Seat → SeatsState
seated s seats = record s { seats = seats }

-- the seats, the core and the wire after some turns
pub record HubAt (s : SeatsState) (seats : List Seat) (c : HubState) (w0 w : WireState) : Type 0 where
  pub taken : ℕ → List ℕ
  pub given : ℕ → List ℕ
  pub arrivals : List Arrival
  pub words : ℕ → List (List ℕ)
  pub talks : TalksWithAll s.stations taken given w0 w
  pub step : InStep (seated s seats) c arrivals words
  pub sent : (p : ℕ) → p < s.stations → given p ≡ sums_bytes s.stations arrivals c.round
  pub read : (greeted : ℕ → List ℕ) → GaveHellos s greeted → (p : ℕ) → p < s.stations
      → HasRead (get_or seats p no_seat).reader (greeted p ++ taken p) (hello (told_by s p) s.stations s.words ∷ words_from 0 (words p))

-- what was taken so far, and how far the core is
pub record Played (s : SeatsState) (seats : List Seat) (c : HubState) (taken : ℕ → List ℕ) (arrivals : List Arrival) (words : ℕ → List (List ℕ)) : Type 0 where
  pub step : InStep (seated s seats) c arrivals words
  pub read : (greeted : ℕ → List ℕ) → GaveHellos s greeted → (p : ℕ) → p < s.stations
      → HasRead (get_or seats p no_seat).reader (greeted p ++ taken p) (hello (told_by s p) s.stations s.words ∷ words_from 0 (words p))

pub record HubSoFar (s now : SeatsState) (c : HubState) (w0 w : WireState) : Type 0 where
  pub seats : List Seat
  pub same : now ≡ seated s seats
  pub at : HubAt s seats c w0 w

-- ---- the start

pub HubSoFar-start : (s : SeatsState) (c : HubState) (w : WireState) → AreGreeted s → StandsFor c s.stations s.words [] → HubSoFar s s c w w
HubSoFar-start s c w greeted core =
    let are = greeted.new.are in
    let every = greeted.all in
    let some = are.some_stations in
    let some_words = are.some_words in
    let stations = core.stations_are in
    let rounds = core.rounds_are in
    let none : c.round ≡ 0 =
    core.round_is ∙ ap (λ (n : ℕ). complete_rounds n c.rounds []) stations ∙ ap (λ (t : ℕ). complete_rounds s.stations t []) rounds ∙ no_rounds s.stations s.words some in
    record {
      seats = s.seats;
      same = refl;
      at = record {
        taken = λ p. [];
        given = λ p. [];
        arrivals = [];
        words = λ p. [];
        talks = TalksWithAll-none s.stations w;
        step = record {
          are = are;
          all = every;
          core = core;
          counted = λ p low. greeted.new.fresh p (omega arith);
          level = λ p low. (omega arith, omega arith);
          accepted = λ p t low less. none_accepted s.stations (told_by s p) t;
          there = λ p low e. absurd (omega arith);
          over = λ le p low. absurd (omega arith);
        };
        sent = λ p low. sym (ap (sums_bytes s.stations []) none);
        read = λ gave hellos p low. subst (λ (b : List ℕ). HasRead (seat_at s p).reader b (hello (told_by s p) s.stations s.words ∷ [])) (sym (append-nil (gave p))) (hellos p (omega arith));
      };
    }

-- ---- the seats after a turn

set_same : (seats : List Seat) (p : ℕ) (x : Seat) → p < length seats → get_or (set seats p x) p no_seat ≡ x
set_same seats p x low = get_or-set_same seats p x no_seat low

set_other : (seats : List Seat) (p q : ℕ) (x : Seat) → q ≢ p → get_or (set seats p x) q no_seat ≡ get_or seats q no_seat
set_other seats p q x ne = get_or-set_other seats p q x no_seat ne

-- a fact of each seat, where one is another
each_seat : (P : ℕ → Seat → Type 0) (seats : List Seat) (p : ℕ) (x : Seat) → p < length seats → P p x → (q : ℕ) → (q ≢ p → P q (get_or seats q no_seat)) → P q (get_or (set seats p x) q no_seat)
each_seat P seats p x low here q others = elim (same_or_other p q) [
  | inl same ↦ subst (λ (k : ℕ). P k (get_or (set seats p x) k no_seat)) (sym same) (subst (λ (y : Seat). P p y) (sym (set_same seats p x low)) here)
  | inr ne ↦ subst (λ (y : Seat). P q y) (sym (set_other seats p q x ne)) (others ne)
]

seats_with : (s : SeatsState) (seats : List Seat) (p : ℕ) (x : Seat) → AreSeats (seated s seats) → p < length seats → Waits x.reader → AreSeats (seated s (set seats p x))
seats_with s seats p x are low waits =
    let count = are.seats in
    record {
      some_stations = are.some_stations;
      some_words = are.some_words;
      few_words = are.few_words;
      within = are.within;
      seats = length-set seats p x ∙ are.seats;
      below = are.below;
      distinct = are.distinct;
      waits = λ q less. each_seat (λ k y. Waits y.reader) seats p x low waits q (λ ne. are.waits q less);
    }

-- what a peer gave, with this much more of one peer
abbrev pub more_of : (ℕ → List ℕ) → ℕ → List ℕ → ℕ → List ℕ
more_of taken p piece q = taken q ++ at_peer p piece q

more_of-same : (greeted taken : ℕ → List ℕ) (p : ℕ) (piece : List ℕ) → greeted p ++ taken p ++ piece ≡ greeted p ++ more_of taken p piece p
more_of-same greeted taken p piece = append_assoc (greeted p) (taken p) piece ∙ ap (λ (x : List ℕ). greeted p ++ (taken p ++ x)) (sym (at_peer-same p piece))

more_of-other : (taken : ℕ → List ℕ) (p q : ℕ) (piece : List ℕ) → q ≢ p → taken q ≡ more_of taken p piece q
more_of-other taken p q piece ne = sym (ap (λ (x : List ℕ). taken q ++ x) (at_peer-other p q piece ne) ∙ append-nil (taken q))

-- the talks with bytes taken of one peer
piece_talks : {s : SeatsState} {seats : List Seat} {c : HubState} {w0 w w1 : WireState} {p : ℕ} {piece : List ℕ} (at : HubAt s seats c w0 w) → p < s.stations → Talks p piece [] w w1
    → TalksWithAll s.stations (more_of at.taken p piece) at.given w0 w1
piece_talks {s} {p = p} {piece = piece} at low talks =
    TalksWithAll-same (more_of at.taken p piece) at.given (λ q lt. refl) (λ q lt. ap (λ (x : List ℕ). at.given q ++ x) (nothing q) ∙ append-nil (at.given q)) (TalksWithAll-then at.talks (Talks-all s.stations low talks))
  where
    nothing : (q : ℕ) → at_peer p [] q ≡ []
    nothing q = elim (same_or_other p q) [ inl same ↦ ap (at_peer p []) same ∙ at_peer-same p [] | inr ne ↦ at_peer-other p q [] ne ]

-- where the frame of a peer is not whole yet
pub turn_quiet : {s : SeatsState} {seats : List Seat} {c : HubState} {w0 w w1 : WireState} (p : ℕ) (r : ReaderState) → (at : HubAt s seats c w0 w) → IsDue (seated s seats) c.round p → c.round < s.words
    → ReceivesFrame p (get_or seats p no_seat).reader r w w1 (Ok None) → HubAt s (set seats p (read_by (get_or seats p no_seat) r)) c w0 w1
turn_quiet {s} {seats} {c} p r at due going f =
    let step = at.step in
    let are = step.are in
    let every = step.all in
    let count = are.seats in
    let low = due.seated in
    let missing = due.missing in
    let heard = step.counted p low in
    let x = read_by (get_or seats p no_seat) r in
    let within : p < length seats = omega arith in
    record {
      taken = more_of at.taken p f.piece;
      given = at.given;
      arrivals = at.arrivals;
      words = at.words;
      talks = piece_talks at low f.talks;
      step = record {
        are = seats_with s seats p x are within f.answer.0;
        all = every;
        core = step.core;
        counted = λ q less. each_seat (λ k y. y.heard ≡ length (at.words k)) seats p x within heard q (λ ne. step.counted q less);
        level = step.level;
        accepted = step.accepted;
        there = λ q less e. each_seat (λ k y. length (at.words k) ≡ c.round + 1 → y.reader.part ≡ []) seats p x within (λ e2. absurd (omega arith)) q (λ ne. step.there q less) e;
        over = λ le q less. absurd (omega arith);
      };
      sent = at.sent;
      read = λ greeted hellos q less. each_seat (λ k y. HasRead y.reader (greeted k ++ more_of at.taken p f.piece k) (hello (told_by s k) s.stations s.words ∷ words_from 0 (at.words k))) seats p x within
          (subst (λ (b : List ℕ). HasRead r b (hello (told_by s p) s.stations s.words ∷ words_from 0 (at.words p))) (more_of-same greeted at.taken p f.piece)
          (f.read (greeted p ++ at.taken p) (hello (told_by s p) s.stations s.words ∷ words_from 0 (at.words p)) (at.read greeted hellos p low)))
          q (λ ne. subst (λ (b : List ℕ). HasRead (get_or seats q no_seat).reader (greeted q ++ b) (hello (told_by s q) s.stations s.words ∷ words_from 0 (at.words q))) (more_of-other at.taken p q f.piece ne)
          (at.read greeted hellos q less));
    }

-- ---- a word for the core

-- the round in progress by the arrivals
now_is : (c : HubState) (n total : ℕ) (xs : List Arrival) → StandsFor c n total xs → complete_rounds n total xs ≡ c.round
now_is c n total xs core = sym (core.round_is ∙ ap (λ (k : ℕ). complete_rounds k c.rounds xs) core.stations_are ∙ ap (λ (t : ℕ). complete_rounds n t xs) core.rounds_are)

-- the core's answer to a word that is due
abbrev Fed : ℕ → List Arrival → HubState → HubState → Option (List ℕ) → Type 0
Fed n arrivals c c2 sum = ((sum ≡ None) × (c2.round ≡ c.round)) ⊎ ((sum ≡ Some (accepted_sum n arrivals c.round)) × (c2.round ≡ c.round + 1))

by_missing : (n : ℕ) (arrivals : List Arrival) (c c2 : HubState) (sum : Option (List ℕ)) (answer : Result HubStep HubFault) (o : Option ℕ) → sum ≡ sum_in answer → answer ≡ answer_of (reply_accepted n arrivals c.round o)
    → Counts c c2 answer → Fed n arrivals c c2 sum
by_missing n arrivals c c2 sum answer None sum_is is counts = inr (sum_is ∙ ap sum_in is, (subst (Counts c c2) is counts).2)
by_missing n arrivals c c2 sum answer (Some m) sum_is is counts = inl (sum_is ∙ ap sum_in is, (subst (Counts c c2) is counts).2)

fed_by : {s : SeatsState} {seats : List Seat} {c c2 : HubState} {w0 w : WireState} {sum : Option (List ℕ)} (p : ℕ) (word : List ℕ) (at : HubAt s seats c w0 w) → IsDue (seated s seats) c.round p → c.round < s.words
    → FeedsCore (told_by s p) word c c2 sum → Fed s.stations (at.arrivals ++ arrival_of (told_by s p) c.round word ∷ []) c c2 sum
fed_by {s} {seats} {c} {c2} {sum = sum} p word at due going feeds =
    let step = at.step in
    let every = step.all in
    let low = due.seated in
    let missing = due.missing in
    let heard = step.counted p low in
    let none : accepted s.stations at.arrivals (told_by s p) c.round ≡ None = step.accepted p c.round low going ∙ slice_get_past (at.words p) c.round (omega arith) in
    let replied = reply_due s.stations s.words at.arrivals (told_by s p) c.round word (step.are.below p (omega arith)) (now_is c s.stations s.words at.arrivals step.core) going none in
    by_missing s.stations (at.arrivals ++ arrival_of (told_by s p) c.round word ∷ []) c c2 sum feeds.answer
    (first_missing s.stations (at.arrivals ++ arrival_of (told_by s p) c.round word ∷ []) c.round) feeds.sum_is
    (feeds.replies s.stations s.words at.arrivals step.core ∙ ap answer_of replied) feeds.counts

-- what was taken after a word
played_word : {s : SeatsState} {seats : List Seat} {c c2 : HubState} {w0 w w1 : WireState} {sum : Option (List ℕ)} (p : ℕ) (r : ReaderState) (found : Frame) (word : List ℕ) (at : HubAt s seats c w0 w)
    → IsDue (seated s seats) c.round p → c.round < s.words → (f : ReceivesFrame p (get_or seats p no_seat).reader r w w1 (Ok (Some found))) → frame_of found ≡ send c.round word
    → FeedsCore (told_by s p) word c c2 sum
    → Played s (set seats p (counted_once (read_by (get_or seats p no_seat) r))) c2 (more_of at.taken p f.piece) (at.arrivals ++ arrival_of (told_by s p) c.round word ∷ []) (grown_by at.words p word)
played_word {s} {seats} {c} {c2} {sum = sum} p r found word at due going f is feeds =
    let step = at.step in
    let are = step.are in
    let every = step.all in
    let count = are.seats in
    let low = due.seated in
    let missing = due.missing in
    let heard = step.counted p low in
    let x = counted_once (read_by (get_or seats p no_seat) r) in
    let within : p < length seats = omega arith in
    let arrivals = at.arrivals ++ arrival_of (told_by s p) c.round word ∷ [] in
    let words = grown_by at.words p word in
    let core = feeds.stands s.stations s.words at.arrivals step.core in
    let longer : length (words p) ≡ length (at.words p) + 1 = ap (λ (ws : List (List ℕ)). length ws) (grown_by-same at.words p word) ∙ length-append (at.words p) (word ∷ []) in
    let same_length : (q : ℕ) → q ≢ p → length (words q) ≡ length (at.words q) = λ q ne. ap (λ (ws : List (List ℕ)). length ws) (grown_by-other at.words p q word ne) in
    let accepted_are = accepted_next s.stations s.words at.arrivals (told_by s) at.words p c.round word
    (λ q less ne. told_apart (seated s seats) are p q (omega arith) (omega arith) ne) (now_is c s.stations s.words at.arrivals step.core) (omega arith) step.accepted in
    let fed = fed_by p word at due going feeds in
    let least : (q : ℕ) → q < s.stations → c2.round ≤ length (words q) = λ q less. elim fed [
      | inl same ↦ (let r = same.1 in let old = (step.level q less).0 in elim (same_or_other p q) [
        | inl e ↦ (let l = ap (λ (k : ℕ). length (words k)) e in omega arith)
        | inr ne ↦ (let l = same_length q ne in omega arith)
      ])
      | inr next ↦ (let r = next.1 in
          let word_there = complete_words s.stations s.words arrivals c.round (told_by s q) (now_is c2 s.stations s.words arrivals core ∙ r) (are.below q (omega arith)) in
          let got = slice_get_within (words q) c.round word_there.0 (sym (accepted_are q c.round less going) ∙ word_there.1) in
          omega arith)
    ] in
    let later : c.round ≤ c2.round = elim fed [ inl same ↦ (let r = same.1 in omega arith) | inr next ↦ (let r = next.1 in omega arith) ] in
    let most : (q : ℕ) → q < s.stations → length (words q) ≤ c.round + 1 = λ q less. elim (same_or_other p q) [
      | inl e ↦ (let l = ap (λ (k : ℕ). length (words k)) e in omega arith)
      | inr ne ↦ (let l = same_length q ne in let old = (step.level q less).1 in omega arith)
    ] in
    let begins = f.answer.1 in
    let whole : (q : ℕ) → q < s.stations → length (words q) ≡ c.round + 1 → (get_or (set seats p x) q no_seat).reader.part ≡ [] = λ q less e.
    each_seat (λ k y. length (words k) ≡ c.round + 1 → y.reader.part ≡ []) seats p x within (λ e2. begins) q (λ ne e2. step.there q less (sym (same_length q ne) ∙ e2)) e in
    record {
      step = record {
        are = seats_with s seats p x are within f.answer.0;
        all = every;
        core = core;
        counted = λ q less. each_seat (λ k y. y.heard ≡ length (words k)) seats p x within (omega arith) q (λ ne. step.counted q less ∙ sym (same_length q ne));
        level = λ q less. (least q less, (let m = most q less in omega arith));
        accepted = accepted_are;
        there = λ q less e. whole q less (let m = most q less in let l = least q less in omega arith);
        over = λ le q less. (let m = most q less in
            elim fed [
              | inl same ↦ absurd (let r = same.1 in omega arith)
              | inr next ↦ (let r = next.1 in (omega arith, whole q less (let l = least q less in omega arith)))
            ]);
      };
      read = λ greeted hellos q less.
          let first = hello (told_by s p) s.stations s.words in
          let place : 0 + length (at.words p) ≡ c.round = omega arith in
          let frames : first ∷ words_from 0 (at.words p) ++ frame_of found ∷ [] ≡ first ∷ words_from 0 (words p) =
          ap (λ (x : frame). first ∷ words_from 0 (at.words p) ++ x ∷ []) (is ∙ ap (λ (t : ℕ). send t word) (sym place))
          ∙ ap (λ (fs : List frame). first ∷ fs) (sym (words_from-push 0 (at.words p) word))
          ∙ ap (λ (ws : List (List ℕ)). first ∷ words_from 0 ws) (sym (grown_by-same at.words p word)) in
          let own = f.read (greeted p ++ at.taken p) (first ∷ words_from 0 (at.words p)) (at.read greeted hellos p low) in
          each_seat (λ k y. HasRead y.reader (greeted k ++ more_of at.taken p f.piece k) (hello (told_by s k) s.stations s.words ∷ words_from 0 (words k))) seats p x within
          (subst (λ (b : List ℕ). HasRead r b (first ∷ words_from 0 (words p))) (more_of-same greeted at.taken p f.piece)
          (subst (λ (fs : List frame). HasRead r (greeted p ++ at.taken p ++ f.piece) fs) frames own))
          q (λ ne. subst (λ (ws : List (List ℕ)). HasRead (get_or seats q no_seat).reader (greeted q ++ more_of at.taken p f.piece q) (hello (told_by s q) s.stations s.words ∷ words_from 0 ws)) (sym (grown_by-other at.words p q word ne))
          (subst (λ (b : List ℕ). HasRead (get_or seats q no_seat).reader (greeted q ++ b) (hello (told_by s q) s.stations s.words ∷ words_from 0 (at.words q))) (more_of-other at.taken p q f.piece ne)
          (at.read greeted hellos q less)));
    }

-- the session after a word, by the talks and what was sent
after_word : {s : SeatsState} {seats : List Seat} {c c2 : HubState} {w0 w w1 w2 : WireState} {sum : Option (List ℕ)} (p : ℕ) (r : ReaderState) (found : Frame) (word : List ℕ) (at : HubAt s seats c w0 w)
    → IsDue (seated s seats) c.round p → c.round < s.words → (f : ReceivesFrame p (get_or seats p no_seat).reader r w w1 (Ok (Some found))) → frame_of found ≡ send c.round word
    → FeedsCore (told_by s p) word c c2 sum → (given : ℕ → List ℕ) → TalksWithAll s.stations (more_of at.taken p f.piece) given w0 w2
    → ((q : ℕ) → q < s.stations → given q ≡ sums_bytes s.stations (at.arrivals ++ arrival_of (told_by s p) c.round word ∷ []) c2.round)
    → HubAt s (set seats p (counted_once (read_by (get_or seats p no_seat) r))) c2 w0 w2
after_word {s} {c = c} p r found word at due going f is feeds given talks sent =
    let played = played_word p r found word at due going f is feeds in
    record {
      taken = more_of at.taken p f.piece;
      given = given;
      arrivals = at.arrivals ++ arrival_of (told_by s p) c.round word ∷ [];
      words = grown_by at.words p word;
      talks = talks;
      step = played.step;
      sent = sent;
      read = played.read;
    }

-- what was given stays right where the core has a word more of the round in progress
sent_same : {s : SeatsState} {seats : List Seat} {c : HubState} {w0 w : WireState} (c2 : HubState) (p : ℕ) (word : List ℕ) (at : HubAt s seats c w0 w) → c2.round ≡ c.round → (q : ℕ) → q < s.stations
    → at.given q ≡ sums_bytes s.stations (at.arrivals ++ arrival_of (told_by s p) c.round word ∷ []) c2.round
sent_same {s} {seats} {c} c2 p word at same q low =
    let now = now_is c s.stations s.words at.arrivals at.step.core in
    at.sent q low ∙ sym (sums_stay s.stations s.words at.arrivals (arrival_of (told_by s p) c.round word ∷ []) c.round (omega arith))
    ∙ ap (sums_bytes s.stations (at.arrivals ++ arrival_of (told_by s p) c.round word ∷ [])) (sym same)

-- and one text more where the round is complete
sent_more : {s : SeatsState} {seats : List Seat} {c : HubState} {w0 w : WireState} (c2 : HubState) (p : ℕ) (word : List ℕ) (at : HubAt s seats c w0 w) → c2.round ≡ c.round + 1 → (q : ℕ) → q < s.stations
    → at.given q ++ frame_bytes (all c.round (accepted_sum s.stations (at.arrivals ++ arrival_of (told_by s p) c.round word ∷ []) c.round))
    ≡ sums_bytes s.stations (at.arrivals ++ arrival_of (told_by s p) c.round word ∷ []) c2.round
sent_more {s} {seats} {c} c2 p word at next q low =
    let arrivals = at.arrivals ++ arrival_of (told_by s p) c.round word ∷ [] in
    let text = frame_bytes (all c.round (accepted_sum s.stations arrivals c.round)) in
    let now = now_is c s.stations s.words at.arrivals at.step.core in
    ap (λ (x : List ℕ). x ++ text) (at.sent q low ∙ sym (sums_stay s.stations s.words at.arrivals (arrival_of (told_by s p) c.round word ∷ []) c.round (omega arith)))
    ∙ sym (sums_more s.stations arrivals c.round) ∙ ap (sums_bytes s.stations arrivals) (sym next)

-- the talks with a broadcast behind the piece of a peer
broadcast_talks : {s : SeatsState} {seats : List Seat} {c : HubState} {w0 w w1 w2 : WireState} {p : ℕ} {piece : List ℕ} (at : HubAt s seats c w0 w) → p < s.stations → Talks p piece [] w w1 → (given : ℕ → List ℕ)
    → TalksWithAll s.stations (λ q. []) given w1 w2 → TalksWithAll s.stations (more_of at.taken p piece) (λ q. at.given q ++ given q) w0 w2
broadcast_talks {s} {p = p} {piece = piece} at low talks given out =
    TalksWithAll-same (more_of at.taken p piece) (λ q. at.given q ++ given q) (λ q lt. append-nil (more_of at.taken p piece q)) (λ q lt. refl) (TalksWithAll-then (piece_talks at low talks) out)

no_sum : {A : Type 0} (x : List ℕ) (o : Option (List ℕ)) → o ≡ None → o ≡ Some x → A
no_sum x o none some = absurd (let e : ◌≡◌ {A = Option (List ℕ)} None (Some x) = sym none ∙ some in cc)

-- a word was taken and nothing failed
pub turn_word : {s : SeatsState} {seats : List Seat} {c c2 : HubState} {w0 w w1 w2 : WireState} {u : Unit} (sum : Option (List ℕ)) (p : ℕ) (r : ReaderState) (found : Frame) (word : List ℕ) (at : HubAt s seats c w0 w)
    → IsDue (seated s seats) c.round p → c.round < s.words → (f : ReceivesFrame p (get_or seats p no_seat).reader r w w1 (Ok (Some found))) → frame_of found ≡ send c.round word
    → FeedsCore (told_by s p) word c c2 sum → GoesOut s.stations c.round w1 w2 (Ok u) sum → HubAt s (set seats p (counted_once (read_by (get_or seats p no_seat) r))) c2 w0 w2
turn_word {s} {seats} {c} {c2} {w0} {w} {w1} {w2} None p r found word at due going f is feeds out = elim (fed_by p word at due going feeds) [
  | inl same ↦ after_word p r found word at due going f is feeds at.given
      (subst (λ (x : WireState). TalksWithAll s.stations (more_of at.taken p f.piece) at.given w0 x) (sym out.0) (piece_talks at due.seated f.talks))
      (λ q low. sent_same c2 p word at same.1 q low)
  | inr next ↦ no_sum _ None refl next.0
]
turn_word {s} {seats} {c} {c2} (Some sum) p r found word at due going f is feeds out = elim (fed_by p word at due going feeds) [
  | inl same ↦ no_sum sum (Some sum) same.0 refl
  | inr next ↦ (let sum_is : sum ≡ accepted_sum s.stations (at.arrivals ++ arrival_of (told_by s p) c.round word ∷ []) c.round = (let e = next.0 in cc) in
      after_word p r found word at due going f is feeds (λ q. at.given q ++ out.given q) (broadcast_talks at due.seated f.talks out.given out.talks)
      (λ q low. ap (λ (x : List ℕ). at.given q ++ x) (out.answer q low ∙ ap (λ (x : List ℕ). frame_bytes (all c.round x)) sum_is) ∙ sent_more c2 p word at next.1 q low))
]

-- ---- the end

-- of each peer the words are heard
abbrev HeardEach : SeatsState → (ℕ → List ℕ) → (ℕ → List (List ℕ)) → Type 0
HeardEach s bytes words = (p : ℕ) → p < s.stations → (words_heard s.words (bytes p)).words ≡ words p

ends_with : {s : SeatsState} {c : HubState} {w0 w : WireState} {result : Result Unit LiveFault} (taken given : ℕ → List ℕ) (arrivals : List Arrival) (words : ℕ → List (List ℕ))
    → TalksWithAll s.stations taken given w0 w → StandsFor c s.stations s.words arrivals → AcceptedAre s.stations s.words arrivals (told_by s) words
    → ((p : ℕ) → p < s.stations → Spoke (sums_bytes s.stations arrivals c.round) (given p) result)
    → ((greeted : ℕ → List ℕ) → GaveHellos s greeted → HeardEach s (λ p. greeted p ++ taken p) words × HubEnds s.stations s.words c.round (λ p. greeted p ++ taken p) w0 w result)
    → RunsHub s c w0 w result
ends_with {s} {c} {w0} {w} {result} taken given arrivals words talks core accepted_are spoke ends =
    let now : complete_rounds s.stations s.words arrivals ≡ c.round = now_is c s.stations s.words arrivals core in
    record {
      taken = taken;
      given = given;
      arrivals = arrivals;
      talks = talks;
      core = core;
      spoke = λ p low. subst (λ (t : ℕ). Spoke (sums_bytes s.stations arrivals t) (given p) result) (sym now) (spoke p low);
      heard = λ greeted hellos.
          let each = ends greeted hellos in
          record {
            words = λ p t low less. accepted_are p t low less ∙ ap (λ (ws : List (List ℕ)). slice_get ws t) (sym (each.0 p low));
            ends = subst (λ (t : ℕ). HubEnds s.stations s.words t (λ p. greeted p ++ taken p) w0 w result) (sym now) each.1;
          };
    }

-- what is heard of a peer whose words were all taken out
heard_now : (s : SeatsState) {r : ReaderState} {bytes : List ℕ} {first : frame} (words : List (List ℕ)) → length words ≤ s.words → HasRead r bytes (first ∷ words_from 0 words)
    → words_heard s.words bytes ≡ record { words = words; fault = None }
heard_now s {r} {bytes} {first} words low h = words_heard-words s.words bytes first words r.part low (HasRead-reading h)

-- bytes that go with a round
in_step : (s : SeatsState) {r : ReaderState} {bytes : List ℕ} {first : frame} (words : List (List ℕ)) (round : ℕ) → length words ≤ s.words → HasRead r bytes (first ∷ words_from 0 words) → round ≤ length words
    → length words ≤ round + 1 → (length words ≡ round + 1 → r.part ≡ []) → IsInStep s.words round bytes
in_step s {r} {bytes} {first} words round low h least most begins =
    let own = heard_now s words low h in
    let same : length (words_heard s.words bytes).words ≡ length words = ap (λ (x : Heard). length x.words) own in
    let reading_is = HasRead-reading h in
    record {
      fault = ap (λ (x : Heard). x.fault) own;
      least = omega arith;
      most = omega arith;
      frames = λ e. ap (λ (x : Reading). length x.frames) reading_is ∙ (let l = length-words_from 0 words in omega arith);
      rest = λ e. ap (λ (x : Reading). x.ends) reading_is ∙ ap (λ (b : List ℕ). Ok b) (begins (sym same ∙ e));
    }

-- no more words than rounds
few_words : {s : SeatsState} {seats : List Seat} {c : HubState} {w0 w : WireState} (at : HubAt s seats c w0 w) (p : ℕ) → p < s.stations → length (at.words p) ≤ s.words
few_words {s} {seats} {c} at p low =
    let now = now_is c s.stations s.words at.arrivals at.step.core in
    let within = rounds_within s.stations s.words at.arrivals in
    elim (cases_lt c.round s.words) [
      | inl going ↦ (let most = (at.step.level p low).1 in omega arith)
      | inr over ↦ (let most = (at.step.over over p low).0 in omega arith)
    ]

-- all rounds were played
pub HubAt-done : {s : SeatsState} {seats : List Seat} {c : HubState} {w0 w : WireState} → HubAt s seats c w0 w → s.words ≤ c.round → RunsHub s c w0 w (Ok tt)
HubAt-done {s} {seats} {c} at over =
    let now = now_is c s.stations s.words at.arrivals at.step.core in
    let within = rounds_within s.stations s.words at.arrivals in
    let full : (p : ℕ) → p < s.stations → length (at.words p) ≡ s.words = λ p low. (let least = (at.step.level p low).0 in let most = (at.step.over over p low).0 in omega arith) in
    ends_with at.taken at.given at.arrivals at.words at.talks at.step.core at.step.accepted at.sent (λ greeted hellos. (
      λ p low. ap (λ (h : Heard). h.words) (heard_now s (at.words p) (few_words at p low) (at.read greeted hellos p low)),
      (
        omega arith,
        λ p low.
            let read = at.read greeted hellos p low in
            let reading_is = HasRead-reading read in
            let all_of = full p low in
            record {
              words = ap (λ (h : Heard). length h.words) (heard_now s (at.words p) (few_words at p low) read) ∙ full p low;
              frames = ap (λ (x : Reading). length x.frames) reading_is ∙ (let l = length-words_from 0 (at.words p) in omega arith);
              rest = ap (λ (x : Reading). x.ends) reading_is ∙ ap (λ (b : List ℕ). Ok b) (at.step.over over p low).1;
            },
      ),
    ))

-- a peer from which nothing more was taken
read_other : {s : SeatsState} {seats : List Seat} {c : HubState} {w0 w : WireState} (at : HubAt s seats c w0 w) (p : ℕ) (piece : List ℕ) (greeted : ℕ → List ℕ) → GaveHellos s greeted → (q : ℕ) → q < s.stations → q ≢ p
    → words_heard s.words (greeted q ++ more_of at.taken p piece q) ≡ record { words = at.words q; fault = None }
read_other {s} {seats} at p piece greeted hellos q low ne =
    heard_now s {r = (get_or seats q no_seat).reader} (at.words q) (few_words at q low)
    (subst (λ (b : List ℕ). HasRead (get_or seats q no_seat).reader (greeted q ++ b) (hello (told_by s q) s.stations s.words ∷ words_from 0 (at.words q))) (more_of-other at.taken p q piece ne) (at.read greeted hellos q low))

other_in_step : {s : SeatsState} {seats : List Seat} {c : HubState} {w0 w : WireState} (at : HubAt s seats c w0 w) (p : ℕ) (piece : List ℕ) (greeted : ℕ → List ℕ) → GaveHellos s greeted → (q : ℕ) → q < s.stations → q ≢ p
    → IsInStep s.words c.round (greeted q ++ more_of at.taken p piece q)
other_in_step {s} {seats} {c} at p piece greeted hellos q low ne =
    in_step s {r = (get_or seats q no_seat).reader} (at.words q) c.round (few_words at q low)
    (subst (λ (b : List ℕ). HasRead (get_or seats q no_seat).reader (greeted q ++ b) (hello (told_by s q) s.stations s.words ∷ words_from 0 (at.words q))) (more_of-other at.taken p q piece ne) (at.read greeted hellos q low))
    (at.step.level q low).0 (at.step.level q low).1 (at.step.there q low)

-- a fault of the peer whose word is missing
in_round : {s : SeatsState} {seats : List Seat} {c : HubState} {w0 w : WireState} (at : HubAt s seats c w0 w) (p : ℕ) (piece : List ℕ) (greeted : ℕ → List ℕ) → GaveHellos s greeted → p < s.stations → (shown : Option PeerFault)
    → length (at.words p) ≡ c.round → words_heard s.words (greeted p ++ more_of at.taken p piece p) ≡ record { words = at.words p; fault = shown }
    → IsFaultInRound s.stations s.words c.round (λ q. greeted q ++ more_of at.taken p piece q) p
in_round at p piece greeted hellos low shown count own = record {
  peer = low;
  now = ap (λ (x : Heard). length x.words) own ∙ count;
  others = λ q less ne. other_in_step at p piece greeted hellos q less ne;
}

-- by peer, where the one that gave a piece shows this
heard_each : {s : SeatsState} {seats : List Seat} {c : HubState} {w0 w : WireState} (at : HubAt s seats c w0 w) (p : ℕ) (piece : List ℕ) (greeted : ℕ → List ℕ) → GaveHellos s greeted → (shown : Option PeerFault)
    → words_heard s.words (greeted p ++ more_of at.taken p piece p) ≡ record { words = at.words p; fault = shown } → HeardEach s (λ q. greeted q ++ more_of at.taken p piece q) at.words
heard_each {s} at p piece greeted hellos shown own q low = elim (same_or_other p q) [
  | inl same ↦ subst (λ (k : ℕ). (words_heard s.words (greeted k ++ more_of at.taken p piece k)).words ≡ at.words k) (sym same) (ap (λ (h : Heard). h.words) own)
  | inr ne ↦ ap (λ (h : Heard). h.words) (read_other at p piece greeted hellos q low ne)
]

spoke_same : {text given : List ℕ} (fault : LiveFault) → given ≡ text → Spoke text given (Err fault)
spoke_same {text} {given} Wire same = ([], sym same ∙ sym (append-nil given))
spoke_same (Peer who fault) same = same

-- the session ends in a turn that changed neither the core nor what was sent
stops : {s : SeatsState} {seats : List Seat} {c : HubState} {w0 w w1 : WireState} (fault : LiveFault) (p : ℕ) (piece : List ℕ) (at : HubAt s seats c w0 w) → p < s.stations → Talks p piece [] w w1
    → ((greeted : ℕ → List ℕ) → GaveHellos s greeted → (shown : Option PeerFault) × (words_heard s.words (greeted p ++ more_of at.taken p piece p) ≡ record { words = at.words p; fault = shown })
    × HubEnds s.stations s.words c.round (λ q. greeted q ++ more_of at.taken p piece q) w0 w1 (Err fault))
    → RunsHub s c w0 w1 (Err fault)
stops {s} fault p piece at low talks ends =
    ends_with (more_of at.taken p piece) at.given at.arrivals at.words (piece_talks at low talks) at.step.core at.step.accepted (λ q less. spoke_same fault (at.sent q less))
    (λ greeted hellos. let e = ends greeted hellos in (heard_each at p piece greeted hellos e.0 e.1, e.2))

-- what was read of the peer that gave a piece
own_read : {s : SeatsState} {seats : List Seat} {c : HubState} {w0 w w1 : WireState} {result : Result (Option Frame) LiveFault} {frames : List frame} (at : HubAt s seats c w0 w) (p : ℕ) (r : ReaderState)
    (f : ReceivesFrame p (get_or seats p no_seat).reader r w w1 result) (greeted : ℕ → List ℕ) → GaveHellos s greeted → p < s.stations
    → HasRead r (greeted p ++ at.taken p ++ f.piece) frames → HasRead r (greeted p ++ more_of at.taken p f.piece p) frames
own_read {frames = frames} at p r f greeted hellos low h = subst (λ (b : List ℕ). HasRead r b frames) (more_of-same greeted at.taken p f.piece) h

-- how a session ends with a fault that the bytes of a peer show
shown_by : (n total rounds : ℕ) (before after : WireState) (p who : ℕ) (fault : PeerFault) → ((place : ℕ) → fault ≡ faults.Ended place → ⊥) → who ≡ p → (greeted taken : ℕ → List ℕ)
    → IsFaultInRound n total rounds (λ q. greeted q ++ taken q) p → (words_heard total (greeted p ++ taken p)).fault ≡ Some fault → HubEnds n total rounds (λ q. greeted q ++ taken q) before after (Err (Peer who fault))
shown_by n total rounds before after p who (faults.Ended place) not is greeted taken now shown = absurd (not place refl)
shown_by n total rounds before after p who (faults.Frame f) not is greeted taken now shown =
    subst (λ (k : ℕ). IsFaultInRound n total rounds (λ q. greeted q ++ taken q) k × ((words_heard total (greeted k ++ taken k)).fault ≡ Some (faults.Frame f))) (sym is) (now, shown)
shown_by n total rounds before after p who (faults.Unexpected tag) not is greeted taken now shown =
    subst (λ (k : ℕ). IsFaultInRound n total rounds (λ q. greeted q ++ taken q) k × ((words_heard total (greeted k ++ taken k)).fault ≡ Some (faults.Unexpected tag))) (sym is) (now, shown)
shown_by n total rounds before after p who (faults.Hello i m t) not is greeted taken now shown =
    subst (λ (k : ℕ). IsFaultInRound n total rounds (λ q. greeted q ++ taken q) k × ((words_heard total (greeted k ++ taken k)).fault ≡ Some (faults.Hello i m t))) (sym is) (now, shown)
shown_by n total rounds before after p who (faults.Round told other) not is greeted taken now shown =
    subst (λ (k : ℕ). IsFaultInRound n total rounds (λ q. greeted q ++ taken q) k × ((words_heard total (greeted k ++ taken k)).fault ≡ Some (faults.Round told other))) (sym is) (now, shown)

-- no frame came
pub HubAt-unheard : {s : SeatsState} {seats : List Seat} {c : HubState} {w0 w w1 : WireState} (fault : LiveFault) (p : ℕ) (r : ReaderState) (at : HubAt s seats c w0 w) → IsDue (seated s seats) c.round p → c.round < s.words
    → ReceivesFrame p (get_or seats p no_seat).reader r w w1 (Err fault) → RunsHub s c w0 w1 (Err fault)
HubAt-unheard {s} {seats} {c} Wire p r at due going f =
    let low = due.seated in
    let earlier = at.talks.counted in
    let rose = f.answer in
    let heard = at.step.counted p low in
    let missing = due.missing in
    stops Wire p f.piece at low f.talks (λ greeted hellos.
    let read = own_read at p r f greeted hellos low (f.read _ _ (at.read greeted hellos p low)) in
    let mine : IsInStep s.words c.round (greeted p ++ more_of at.taken p f.piece p) = in_step s (at.words p) c.round (few_words at p low) read (omega arith) (omega arith) (λ e. absurd (omega arith)) in (
      None,
      heard_now s (at.words p) (few_words at p low) read,
      (
        (λ q less. elim (same_or_other p q) [
          | inl same ↦ subst (λ (k : ℕ). IsInStep s.words c.round (greeted k ++ more_of at.taken p f.piece k)) (sym same) mine
          | inr ne ↦ other_in_step at p f.piece greeted hellos q less ne
        ]),
        omega arith,
      ),
    ))
HubAt-unheard {s} {seats} {c} {w1 = w1} (Peer who (faults.Ended place)) p r at due going f =
    let low = due.seated in
    let heard = at.step.counted p low in
    let missing = due.missing in
    stops (Peer who (faults.Ended place)) p f.piece at low f.talks (λ greeted hellos.
    let read = f.read _ _ (at.read greeted hellos p low) in
    let own = heard_now s (at.words p) (few_words at p low) (own_read at p r f greeted hellos low read.0) in
    let bytes = greeted p ++ more_of at.taken p f.piece p in
    let is_p : who ≡ p = f.answer.0 in
    let few : length (words_heard s.words bytes).words < s.words = (let l = ap (λ (h : Heard). length h.words) own in omega arith) in (
      None,
      own,
      subst (λ (k : ℕ). IsFaultInRound s.stations s.words c.round (λ q. greeted q ++ more_of at.taken p f.piece q) k × (place ≡ capped (length (greeted k ++ more_of at.taken p f.piece k))) × IsUnfinishedPeer s.words (greeted k ++ more_of at.taken p f.piece k) × IsEmptyIfKnown (w1.left k)) (sym is_p)
          (in_round at p f.piece greeted hellos low None (omega arith) own, read.1 ∙ ap (λ (b : List ℕ). capped (length b)) (more_of-same greeted at.taken p f.piece), record { words = few; fault = ap (λ (h : Heard). h.fault) own }, f.answer.1),
    ))
HubAt-unheard {s} {seats} {c} {w0} {w1 = w1} (Peer who (faults.Frame fault)) p r at due going f =
    let low = due.seated in
    let heard = at.step.counted p low in
    let missing = due.missing in
    stops (Peer who (faults.Frame fault)) p f.piece at low f.talks (λ greeted hellos.
    let read = f.read _ _ (at.read greeted hellos p low) in
    let bytes = greeted p ++ more_of at.taken p f.piece p in
    let first = hello (told_by s p) s.stations s.words in
    let reads : reading bytes ≡ record { frames = first ∷ words_from 0 (at.words p); ends = Err fault } =
    sym (ap (λ (b : List ℕ). reading b) (more_of-same greeted at.taken p f.piece)) ∙ read in
    let shown : frame_fault bytes ≡ Some (faults.Frame fault) = ap (λ (x : Reading). option_map faults.Frame (result_err x.ends)) reads in
    let test : nat_lt (length (at.words p)) s.words ≡ true = lt-ltb (length (at.words p)) s.words (omega arith) in
    let own = words_heard-fault s.words bytes first (at.words p) [] (faults.Frame fault) (few_words at p low)
    (ap (λ (x : Reading). x.frames) reads ∙ ap (λ (fs : List frame). first ∷ fs) (sym (append-nil (words_from 0 (at.words p)))))
    (rw test (ap (λ (x : Option PeerFault). record { words = []; fault = x }) shown)) in (
      Some (faults.Frame fault),
      own,
      shown_by s.stations s.words c.round w0 w1 p who (faults.Frame fault) (λ at e. absurd (cc)) f.answer greeted (more_of at.taken p f.piece)
          (in_round at p f.piece greeted hellos low (Some (faults.Frame fault)) (omega arith) own) (ap (λ (h : Heard). h.fault) own),
    ))
HubAt-unheard (Peer who (faults.Unexpected tag)) p r at due going f = stops (Peer who (faults.Unexpected tag)) p f.piece at due.seated f.talks (λ greeted hellos. absurd (f.read _ _ (at.read greeted hellos p due.seated)))
HubAt-unheard (Peer who (faults.Hello i n t)) p r at due going f = stops (Peer who (faults.Hello i n t)) p f.piece at due.seated f.talks (λ greeted hellos. absurd (f.read _ _ (at.read greeted hellos p due.seated)))
HubAt-unheard (Peer who (faults.Round told now)) p r at due going f = stops (Peer who (faults.Round told now)) p f.piece at due.seated f.talks (λ greeted hellos. absurd (f.read _ _ (at.read greeted hellos p due.seated)))

-- ---- a frame for the core

set_twice : (seats : List Seat) (p : ℕ) (x y : Seat) → set (set seats p x) p y ≡ set seats p y
set_twice [] p x y = refl
set_twice (z ∷ seats) zero x y = refl
set_twice (z ∷ seats) (suc p) x y = ap (λ (l : List Seat). z ∷ l) (set_twice seats p x y)

-- a frame that has the word of the round
send_by : (b : Bool) (told now : ℕ) (word w : List ℕ) → (told == now) ≡ b → ◌≡◌ {A = Result (List ℕ) PeerFault} (if b then Ok word else Err (faults.Round told now)) (Ok w) → send told word ≡ send now w
send_by true told now word w same e = let t = eqb-true told now same in let x : word ≡ w = cc in rw (t, x) refl
send_by false told now word w same e = absurd (cc)

word_is : (now : ℕ) (f : frame) (w : List ℕ) → word_of now f ≡ Ok w → f ≡ send now w
word_is now (send told word) w e = send_by (told == now) told now word w refl e
word_is now (hello i n t) w e = absurd (cc)
word_is now (all t word) w e = absurd (cc)

-- a fault of a frame is no end
unfit_by : (b : Bool) (told now place : ℕ) (word : List ℕ) → ◌≡◌ {A = Result (List ℕ) PeerFault} (if b then Ok word else Err (faults.Round told now)) (Err (faults.Ended place)) → ⊥
unfit_by true told now place word e = absurd (cc)
unfit_by false told now place word e = absurd (cc)

unfit_ends : (now : ℕ) (f : frame) (place : ℕ) → word_of now f ≡ Err (faults.Ended place) → ⊥
unfit_ends now (send told word) place e = unfit_by (told == now) told now place word e
unfit_ends now (hello i n t) place e = absurd (cc)
unfit_ends now (all t word) place e = absurd (cc)

-- the seats after a word
seats_after : (s s2 : SeatsState) (seats : List Seat) (p : ℕ) (x : Seat) → p < length seats → s2 ≡ with_seat (seated s (set seats p x)) p (counted_once (seat_at (seated s (set seats p x)) p))
    → s2 ≡ seated s (set seats p (counted_once x))
seats_after s s2 seats p x low is =
    is ∙ ap (λ (y : Seat). seated s (set (set seats p x) p (counted_once y))) (set_same seats p x low) ∙ ap (seated s) (set_twice seats p x (counted_once x))

told_same : (s : SeatsState) (seats : List Seat) (p : ℕ) → told_by (seated s seats) p ≡ told_by s p
told_same s seats p = refl

within_seats : {s : SeatsState} {seats : List Seat} {c : HubState} {w0 w : WireState} (at : HubAt s seats c w0 w) (p : ℕ) → p < s.stations → p < length seats
within_seats at p low = let count = at.step.are.seats in let every = at.step.all in omega arith

-- a frame was taken and nothing failed
pub turn_frame : {s s2 : SeatsState} {seats : List Seat} {c c2 : HubState} {w0 w w1 w2 : WireState} {u : Unit} (p : ℕ) (r : ReaderState) (found : Frame) (x : Result (List ℕ) PeerFault) → word_of c.round (frame_of found) ≡ x
    → (at : HubAt s seats c w0 w) → IsDue (seated s seats) c.round p → c.round < s.words → ReceivesFrame p (get_or seats p no_seat).reader r w w1 (Ok (Some found))
    → TakesFrame p (frame_of found) (seated s (set seats p (read_by (get_or seats p no_seat) r))) s2 c c2 w1 w2 (Ok u) → HubSoFar s s2 c2 w0 w2
turn_frame p r found (Err fault) e at due going f takes = absurd (let is = (takes.unfit fault e).is in cc)
turn_frame {s} {s2} {seats} {c} p r found (Ok word) e at due going f takes =
    let word_taken = takes.fit word e in
    record {
      seats = set seats p (counted_once (read_by (get_or seats p no_seat) r));
      same = seats_after s s2 seats p (read_by (get_or seats p no_seat) r) (within_seats at p due.seated) word_taken.seats;
      at = turn_word word_taken.sum p r found word at due going f (word_is c.round (frame_of found) word e) word_taken.core word_taken.out;
    }

-- a frame that was not due
shows_unfit : {s : SeatsState} {seats : List Seat} {c : HubState} {w0 w w1 : WireState} (fault : PeerFault) (p : ℕ) (r : ReaderState) (found : Frame) → word_of c.round (frame_of found) ≡ Err fault
    → (at : HubAt s seats c w0 w) → IsDue (seated s seats) c.round p → c.round < s.words → ReceivesFrame p (get_or seats p no_seat).reader r w w1 (Ok (Some found)) → RunsHub s c w0 w1 (Err (Peer p fault))
shows_unfit {s} {seats} {c} {w0} {w1 = w1} fault p r found e at due going f =
    let low = due.seated in
    let heard = at.step.counted p low in
    let missing = due.missing in
    let count : length (at.words p) ≡ c.round = omega arith in
    stops (Peer p fault) p f.piece at low f.talks (λ greeted hellos.
    let read = own_read at p r f greeted hellos low (f.read _ _ (at.read greeted hellos p low)) in
    let bytes = greeted p ++ more_of at.taken p f.piece p in
    let first = hello (told_by s p) s.stations s.words in
    let test : nat_lt (length (at.words p)) s.words ≡ true = lt-ltb (length (at.words p)) s.words (omega arith) in
    let due_frame : word_of (length (at.words p)) (frame_of found) ≡ Err fault = ap (λ (t : ℕ). word_of t (frame_of found)) count ∙ e in
    let own = words_heard-fault s.words bytes first (at.words p) (frame_of found ∷ []) fault (few_words at p low)
    (ap (λ (x : Reading). x.frames) (HasRead-reading read)) (rw (test, due_frame) refl) in
    (Some fault, own, shown_by s.stations s.words c.round w0 w1 p p fault (λ place is. unfit_ends c.round (frame_of found) place (e ∙ ap (λ (x : PeerFault). Err x) is)) refl greeted (more_of at.taken p f.piece) (in_round at p f.piece greeted hellos low (Some fault) count own) (ap (λ (h : Heard). h.fault) own)))

front_after : (before text front : List ℕ) → IsFront front text → IsFront (before ++ front) (before ++ text)
front_after before text front f = (f.0, ap (λ (x : List ℕ). before ++ x) f.1 ∙ sym (append_assoc before front f.0))

-- of each peer the words are heard, and no fault
heard_played : {s : SeatsState} {seats : List Seat} {c : HubState} {taken : ℕ → List ℕ} {arrivals : List Arrival} {words : ℕ → List (List ℕ)} → Played s seats c taken arrivals words
    → (greeted : ℕ → List ℕ) → GaveHellos s greeted → (p : ℕ) → p < s.stations → words_heard s.words (greeted p ++ taken p) ≡ record { words = words p; fault = None }
heard_played {s} {seats} {c} {taken} {arrivals} {words} played greeted hellos p low =
    let now = now_is c s.stations s.words arrivals played.step.core in
    let within = rounds_within s.stations s.words arrivals in
    let few : length (words p) ≤ s.words = elim (cases_lt c.round s.words) [
      | inl going ↦ (let most = (played.step.level p low).1 in omega arith)
      | inr over ↦ (let most = (played.step.over over p low).0 in omega arith)
    ] in
    heard_now s (words p) few (played.read greeted hellos p low)

played_in_step : {s : SeatsState} {seats : List Seat} {c : HubState} {taken : ℕ → List ℕ} {arrivals : List Arrival} {words : ℕ → List (List ℕ)} → Played s seats c taken arrivals words
    → (greeted : ℕ → List ℕ) → GaveHellos s greeted → (p : ℕ) → p < s.stations → IsInStep s.words c.round (greeted p ++ taken p)
played_in_step {s} {seats} {c} {taken} {arrivals} {words} played greeted hellos p low =
    let now = now_is c s.stations s.words arrivals played.step.core in
    let within = rounds_within s.stations s.words arrivals in
    let few : length (words p) ≤ s.words = elim (cases_lt c.round s.words) [
      | inl going ↦ (let most = (played.step.level p low).1 in omega arith)
      | inr over ↦ (let most = (played.step.over over p low).0 in omega arith)
    ] in
    in_step s (words p) c.round few (played.read greeted hellos p low) (played.step.level p low).0 (played.step.level p low).1 (played.step.there p low)

-- the sum did not go out to all
unsent : {s : SeatsState} {seats : List Seat} {c c2 : HubState} {w0 w w1 w2 : WireState} (sum : Option (List ℕ)) (fault : LiveFault) (p : ℕ) (r : ReaderState) (found : Frame) (word : List ℕ) (at : HubAt s seats c w0 w)
    → IsDue (seated s seats) c.round p → c.round < s.words → (f : ReceivesFrame p (get_or seats p no_seat).reader r w w1 (Ok (Some found))) → frame_of found ≡ send c.round word
    → FeedsCore (told_by s p) word c c2 sum → GoesOut s.stations c.round w1 w2 (Err fault) sum → RunsHub s c2 w0 w2 (Err fault)
unsent None fault p r found word at due going f is feeds out = absurd (let e = out.1 in cc)
unsent (Some sum) (Peer who fault) p r found word at due going f is feeds out = absurd out.answer
unsent {s} {seats} {c} {c2} {w0} {w} {w1} {w2} (Some sum) Wire p r found word at due going f is feeds out = elim (fed_by p word at due going feeds) [
  | inl same ↦ no_sum sum (Some sum) same.0 refl
  | inr next ↦ (
      let arrivals = at.arrivals ++ arrival_of (told_by s p) c.round word ∷ [] in
      let sum_is : sum ≡ accepted_sum s.stations arrivals c.round = (let e = next.0 in cc) in
      let text = frame_bytes (all c.round (accepted_sum s.stations arrivals c.round)) in
      let played = played_word p r found word at due going f is feeds in
      let earlier = at.talks.counted in
      let before = f.talks.counted in
      let rose = out.answer.1 in
      ends_with {s = s} {w0 = w0} {w = w2} {result = Err Wire} (more_of at.taken p f.piece) (λ q. at.given q ++ out.given q) arrivals (grown_by at.words p word) (broadcast_talks at due.seated f.talks out.given out.talks)
      played.step.core played.step.accepted
      (λ q low. subst (λ (t : List ℕ). IsFront (at.given q ++ out.given q) t) (sent_more c2 p word at next.1 q low)
      (front_after (at.given q) text (out.given q) (subst (λ (x : List ℕ). IsFront (out.given q) (frame_bytes (all c.round x))) sum_is (out.answer.0 q low))))
      (λ greeted hellos. (
        (λ q low. ap (λ (h : Heard). h.words) (heard_played played greeted hellos q low)),
        ((λ q low. played_in_step played greeted hellos q low), omega arith),
      )))
]

same_ends : (s : SeatsState) (c c' : HubState) (w0 w w' : WireState) (r r' : Result Unit LiveFault) → c' ≡ c → w' ≡ w → r' ≡ r → RunsHub s c w0 w r → RunsHub s c' w0 w' r'
same_ends s c c' w0 w w' r r' ec ew er runs =
    subst (λ (x : HubState). RunsHub s x w0 w' r') (sym ec) (subst (λ (x : WireState). RunsHub s c w0 x r') (sym ew) (subst (λ (x : Result Unit LiveFault). RunsHub s c w0 w x) (sym er) runs))

-- a frame ended the session
pub frame_ends : {s s2 : SeatsState} {seats : List Seat} {c c2 : HubState} {w0 w w1 w2 : WireState} (fault : LiveFault) (p : ℕ) (r : ReaderState) (found : Frame) (x : Result (List ℕ) PeerFault) → word_of c.round (frame_of found) ≡ x
    → (at : HubAt s seats c w0 w) → IsDue (seated s seats) c.round p → c.round < s.words → ReceivesFrame p (get_or seats p no_seat).reader r w w1 (Ok (Some found))
    → TakesFrame p (frame_of found) (seated s (set seats p (read_by (get_or seats p no_seat) r))) s2 c c2 w1 w2 (Err fault) → RunsHub s c2 w0 w2 (Err fault)
frame_ends {s} {s2} {seats} {c} {c2} {w0} {w} {w1} {w2} fault p r found (Err why) e at due going f takes =
    let refused = takes.unfit why e in
    same_ends s c c2 w0 w1 w2 (Err (Peer p why)) (Err fault) refused.core refused.wire refused.is (shows_unfit why p r found e at due going f)
frame_ends {s} {c = c} fault p r found (Ok word) e at due going f takes =
    let word_taken = takes.fit word e in
    unsent word_taken.sum fault p r found word at due going f (word_is c.round (frame_of found) word e) word_taken.core word_taken.out

-- ---- with the seats as they are

pub so_far_step : {s now : SeatsState} {c : HubState} {w0 w : WireState} (h : HubSoFar s now c w0 w) → AreInStep now c
so_far_step {s} {now} {c} h = subst (λ (x : SeatsState). AreInStep x c) (sym h.same) (record { arrivals = h.at.arrivals; words = h.at.words; step = h.at.step })

-- how many bytes are missing at most
pub bytes_left : ℕ → List Seat → ℕ
bytes_left words seats = sum_by (λ seat. 69 * (words - seat.heard) + (69 - length seat.reader.part)) seats

fewer_bytes : (words : ℕ) (seats : List Seat) (p : ℕ) (x : Seat) → p < length seats
    → 69 * (words - x.heard) + (69 - length x.reader.part) < 69 * (words - (get_or seats p no_seat).heard) + (69 - length (get_or seats p no_seat).reader.part)
    → bytes_left words (set seats p x) < bytes_left words seats
unfolding bytes_left
fewer_bytes words seats p x low less =
    let sums = sum_by-set (λ (seat : Seat). 69 * (words - seat.heard) + (69 - length seat.reader.part)) seats p x no_seat low in
    omega (arith, sums)

-- what is known of the turn of a peer, with the seats by their list
moved : {s now new : SeatsState} {c : HubState} {w0 w wn w1 : WireState} {result : Result (Option Frame) LiveFault} (p : ℕ) (h : HubSoFar s now c w0 w) → wn ≡ w → ReceivesAt p now new wn w1 result
    → ReceivesAt p (seated s h.seats) new w w1 result
moved {s} {now} {new} {w = w} {w1 = w1} {result = result} p h e at =
    subst (λ (x : SeatsState). ReceivesAt p x new w w1 result) h.same (subst (λ (x : WireState). ReceivesAt p now new x w1 result) e at)

moved_due : {s now : SeatsState} {c : HubState} {w0 w : WireState} (p : ℕ) (h : HubSoFar s now c w0 w) → IsDue now c.round p → IsDue (seated s h.seats) c.round p
moved_due {c = c} p h due = subst (λ (x : SeatsState). IsDue x c.round p) h.same due

pub not_over : (b : Bool) (rounds round : ℕ) → (IsTrue b ↔ (rounds ≤ round)) → b ≡ false → round < rounds
not_over b rounds round iff off = elim (cases_lt round rounds) [
  | inl lt ↦ lt
  | inr le ↦ absurd (let both : true ≡ false = sym (iff.1 le) ∙ off in cc)
]

pub so_far_going : {s now : SeatsState} {c : HubState} {w0 w : WireState} (h : HubSoFar s now c w0 w) → c.round < c.rounds → c.round < s.words
so_far_going h going = let rounds = h.at.step.core.rounds_are in omega arith

pub so_far_over : {s now : SeatsState} {c : HubState} {w0 w : WireState} (h : HubSoFar s now c w0 w) → c.rounds ≤ c.round → RunsHub s c w0 w (Ok tt)
so_far_over h over = let rounds = h.at.step.core.rounds_are in HubAt-done h.at (omega arith)

pub so_far_quiet : {s now new : SeatsState} {c : HubState} {w0 w wn w1 : WireState} (p : ℕ) (o : Option Frame) → o ≡ None → (h : HubSoFar s now c w0 w) → wn ≡ w → IsDue now c.round p → c.round < s.words
    → ReceivesAt p now new wn w1 (Ok o) → HubSoFar s new c w0 w1
so_far_quiet p (Some found) none h e due going at = absurd (cc)
so_far_quiet {s} p None none h e due going at =
    let here = moved p h e at in
    record {
      seats = set h.seats p (read_by (get_or h.seats p no_seat) here.reader);
      same = here.seats;
      at = turn_quiet p here.reader h.at (moved_due p h due) going here.receives;
    }

pub so_far_unheard : {s now new : SeatsState} {c : HubState} {w0 w wn w1 : WireState} (p : ℕ) (fault : LiveFault) → (h : HubSoFar s now c w0 w) → wn ≡ w → IsDue now c.round p → c.round < s.words
    → ReceivesAt p now new wn w1 (Err fault) → RunsHub s c w0 w1 (Err fault)
so_far_unheard p fault h e due going at =
    let here = moved p h e at in
    HubAt-unheard fault p here.reader h.at (moved_due p h due) going here.receives

-- the frame goes to the core by these seats
moved_frame : (s : SeatsState) (seats : List Seat) {new s2 : SeatsState} {c c2 : HubState} {w1 w2 : WireState} {result : Result Unit LiveFault} (p : ℕ) (f : frame) → new ≡ seated s seats → TakesFrame p f new s2 c c2 w1 w2 result
    → TakesFrame p f (seated s seats) s2 c c2 w1 w2 result
moved_frame s seats {s2 = s2} {c = c} {c2 = c2} {w1 = w1} {w2 = w2} {result = result} p f same takes = subst (λ (x : SeatsState). TakesFrame p f x s2 c c2 w1 w2 result) same takes

pub so_far_frame : {s now new s2 : SeatsState} {c c2 : HubState} {w0 w wn w1 w2 : WireState} {u : Unit} (p : ℕ) (found : Frame) → (h : HubSoFar s now c w0 w) → wn ≡ w → IsDue now c.round p → c.round < s.words
    → ReceivesAt p now new wn w1 (Ok (Some found)) → TakesFrame p (frame_of found) new s2 c c2 w1 w2 (Ok u) → HubSoFar s s2 c2 w0 w2
so_far_frame {s} {c = c} p found h e due going at takes =
    let here = moved p h e at in
    turn_frame p here.reader found (word_of c.round (frame_of found)) refl h.at (moved_due p h due) going here.receives (moved_frame s (set h.seats p (read_by (get_or h.seats p no_seat) here.reader)) p (frame_of found) here.seats takes)

pub so_far_ends : {s now new s2 : SeatsState} {c c2 : HubState} {w0 w wn w1 w2 : WireState} (p : ℕ) (found : Frame) (fault : LiveFault) → (h : HubSoFar s now c w0 w) → wn ≡ w → IsDue now c.round p → c.round < s.words
    → ReceivesAt p now new wn w1 (Ok (Some found)) → TakesFrame p (frame_of found) new s2 c c2 w1 w2 (Err fault) → RunsHub s c2 w0 w2 (Err fault)
so_far_ends {s} {c = c} p found fault h e due going at takes =
    let here = moved p h e at in
    frame_ends fault p here.reader found (word_of c.round (frame_of found)) refl h.at (moved_due p h due) going here.receives (moved_frame s (set h.seats p (read_by (get_or h.seats p no_seat) here.reader)) p (frame_of found) here.seats takes)

-- ---- the session ends

pub quiet_less : {s now new : SeatsState} {c : HubState} {w0 w wn w1 : WireState} (p : ℕ) (o : Option Frame) → o ≡ None → (h : HubSoFar s now c w0 w) → wn ≡ w → IsDue now c.round p → c.round < s.words
    → ReceivesAt p now new wn w1 (Ok o) → bytes_left new.words new.seats < bytes_left now.words now.seats
quiet_less p (Some found) none h e due going at = absurd (cc)
quiet_less {s} {now} {new} p None none h e due going at =
    let here = moved p h e at in
    let f = here.receives in
    let low = within_seats h.at p (moved_due p h due).seated in
    let longer = f.answer.1 in
    let short = waits_short here.reader f.answer.0 in
    let less = fewer_bytes s.words h.seats p (read_by (get_or h.seats p no_seat) here.reader) low (omega arith) in
    subst (λ (x : SeatsState). bytes_left x.words x.seats < bytes_left now.words now.seats) (sym here.seats)
    (subst (λ (x : SeatsState). bytes_left s.words (set h.seats p (read_by (get_or h.seats p no_seat) here.reader)) < bytes_left x.words x.seats) (sym h.same) less)

pub frame_less : {s now new s2 : SeatsState} {c c2 : HubState} {w0 w wn w1 w2 : WireState} {u : Unit} (p : ℕ) (found : Frame) (x : Result (List ℕ) PeerFault) → word_of c.round (frame_of found) ≡ x → (h : HubSoFar s now c w0 w) → wn ≡ w
    → IsDue now c.round p → c.round < s.words → ReceivesAt p now new wn w1 (Ok (Some found)) → TakesFrame p (frame_of found) new s2 c c2 w1 w2 (Ok u) → bytes_left s2.words s2.seats < bytes_left now.words now.seats
frame_less p found (Err why) same h e due going at takes = absurd (let is = (takes.unfit why same).is in cc)
frame_less {s} {now} {new} {s2} p found (Ok word) same h e due going at takes =
    let here = moved p h e at in
    let f = here.receives in
    let there = moved_due p h due in
    let low = within_seats h.at p there.seated in
    let missing = there.missing in
    let every = h.at.step.all in
    let in_all = there.seated in
    let x = counted_once (read_by (get_or h.seats p no_seat) here.reader) in
    let none : length here.reader.part ≡ 0 = ap (λ (b : List ℕ). length b) f.answer.1 in
    let short = waits_short (get_or h.seats p no_seat).reader (h.at.step.are.waits p (omega arith)) in
    let less = fewer_bytes s.words h.seats p x low (omega arith) in
    let is = seats_after s s2 h.seats p (read_by (get_or h.seats p no_seat) here.reader) low ((moved_frame s (set h.seats p (read_by (get_or h.seats p no_seat) here.reader)) p (frame_of found) here.seats takes).fit word same).seats in
    subst (λ (y : SeatsState). bytes_left y.words y.seats < bytes_left now.words now.seats) (sym is)
    (subst (λ (y : SeatsState). bytes_left s.words (set h.seats p x) < bytes_left y.words y.seats) (sym h.same) less)
