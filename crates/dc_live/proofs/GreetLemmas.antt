-- Greeting, by the frame that was received.
use Rattle.std.proofs.Common.{◌≡◌, ℕ, ◌<◌, ◌==◌, ◌&&◌, not, nat_lt, Bool, true, false, if◌then◌else◌, IsTrue, List, [], ◌∷◌, length, Some, None, option_map, Result, Ok, Err, refl, sym, ap, subst, ◌∙◌, eqb-true}
use Rattle.std.specs.Result.{result_err}
use Rattle.dc_spec.specs.Outside.{WireState}
use Rattle.dc_spec.specs.Lists.{is_among}
use Rattle.dc_spec.specs.Frames.{Frame as frame, hello, send, all}
use Rattle.dc_frame.specs.Frames.{frame_of}
use Rattle.dc_frame.specs.Reading.{Reading}
use Rattle.dc_frame.specs.Reader.{ReaderState, StandsFor}
use Rattle.dc_frame.specs.declared.frame.Frame.{Frame}
use Rattle.dc_live.specs.Receiving.{HasRead, ReceivesFrame}
use Rattle.dc_live.specs.Seats.{SeatsState, with_peer, AreNew, GaveHellos}
use Rattle.dc_live.specs.Greeting.{fits, greeting_in, first_fault, greeting_fault, GreetAnswer, Greets}
use Rattle.dc_live.specs.declared.fault.LiveFault.{LiveFault}
use Rattle.dc_live.specs.declared.fault.LiveFault.TheVariants.{Wire, Peer}
use Rattle.dc_live.specs.declared.fault.PeerFault.{PeerFault}
use Rattle.dc_live.specs.declared.fault.PeerFault.TheVariants as faults
use Rattle.dc_live.proofs.ReadLemmas.{HasRead-reading, HasRead-new}
use Rattle.dc_live.proofs.SeatLemmas.{AreNew-more, GaveHellos-more}

-- bytes without a whole frame and without a fault
no_fault : (s : SeatsState) (r : ReaderState) (bytes : List ℕ) → HasRead r bytes [] → greeting_fault s bytes ≡ None
no_fault s r bytes h = ap (λ (x : Reading). first_fault s x.frames (option_map faults.Frame (result_err x.ends))) (HasRead-reading h)

-- no frame came
pub greet-stops : {peer : ℕ} (s new : SeatsState) {r r' : ReaderState} {before after : WireState} (fault : LiveFault) → new ≡ s → StandsFor r [] 0 → ReceivesFrame peer r r' before after (Err fault) → Greets peer s new before after (Err fault)
greet-stops s new {r} {r'} Wire same fresh f =
    let read = f.read [] [] (HasRead-new r fresh).0 in
    record { taken = f.piece; talks = f.talks; answer = (same, no_fault s r' f.piece read, ap (λ (x : Reading). x.frames) (HasRead-reading read), f.answer) }
greet-stops s new {r} {r'} (Peer who (faults.Ended at)) same fresh f =
    let read = f.read [] [] (HasRead-new r fresh).0 in
    record { taken = f.piece; talks = f.talks; answer = (same, f.answer.0, read.1, ap (λ (x : Reading). x.frames) (HasRead-reading read.0), no_fault s r' f.piece read.0, f.answer.1) }
greet-stops s new {r} (Peer who (faults.Frame fault)) same fresh f =
    let read = f.read [] [] (HasRead-new r fresh).0 in
    record {
      taken = f.piece;
      talks = f.talks;
      answer = (same, f.answer, ap (λ (x : Reading). first_fault s x.frames (option_map faults.Frame (result_err x.ends))) read);
    }
greet-stops s new {r} (Peer who (faults.Unexpected tag)) same fresh f = absurd (f.read [] [] (HasRead-new r fresh).0)
greet-stops s new {r} (Peer who (faults.Hello i n w)) same fresh f = absurd (f.read [] [] (HasRead-new r fresh).0)
greet-stops s new {r} (Peer who (faults.Round told now)) same fresh f = absurd (f.read [] [] (HasRead-new r fresh).0)

and_first : (a b : Bool) → a && b ≡ true → (a ≡ true) × (b ≡ true)
and_first true b e = (refl, e)
and_first false b e = absurd (cc)

-- a hello that fits
fits_by : (b : Bool) (i n w i' : ℕ) → ◌≡◌ {A = Result ℕ PeerFault} (Ok i') (if b then Ok i else Err (faults.Hello i n w)) → (b ≡ true) × (i' ≡ i)
fits_by true i n w i' e = (refl, (let same : i' ≡ i = cc in same))
fits_by false i n w i' e = absurd (cc)

fits_same : (s : SeatsState) (i n w i' : ℕ) → n ≡ s.stations → w ≡ s.words → i' ≡ i → fits s i n w ≡ fits s i' s.stations s.words
fits_same s i n w i' n_is w_is same = ap (λ (x : ℕ). fits s i x w) n_is ∙ ap (λ (x : ℕ). fits s i s.stations x) w_is ∙ ap (λ (x : ℕ). fits s x s.stations s.words) (sym same)

fitting : (s : SeatsState) (f : frame) (i : ℕ) → Ok i ≡ greeting_in s f → (f ≡ hello i s.stations s.words) × IsTrue (fits s i s.stations s.words)
fitting s (hello i n w) i' e =
    let ok = fits_by (fits s i n w) i n w i' e in
    let p1 = and_first ((n == s.stations) && (w == s.words) && nat_lt i s.stations) (not (is_among s.told i)) ok.0 in
    let p2 = and_first ((n == s.stations) && (w == s.words)) (nat_lt i s.stations) p1.0 in
    let p3 = and_first (n == s.stations) (w == s.words) p2.0 in
    let n_is = eqb-true n s.stations p3.0 in
    let w_is = eqb-true w s.words p3.1 in
    let same : hello i n w ≡ hello i' s.stations s.words = rw (n_is, w_is, ok.1) refl in
    (same, subst (λ (b : Bool). IsTrue b) (fits_same s i n w i' n_is w_is ok.1) ok.0)
fitting s (send t w) i e = absurd (cc)
fitting s (all t w) i e = absurd (cc)

-- the hello fits
pub greet-fits : {peer : ℕ} (s new : SeatsState) {r r' : ReaderState} {before after : WireState} (u : Unit) (found : Frame) (station : ℕ) → StandsFor r [] 0 → ReceivesFrame peer r r' before after (Ok (Some found))
    → Ok station ≡ greeting_in s (frame_of found) → new ≡ with_peer s station r' → length s.told < s.stations → AreNew s → Greets peer s new before after (Ok u)
greet-fits s new {r} {r'} u found station fresh f e is free are =
    let read = f.read [] [] (HasRead-new r fresh).0 in
    let ok = fitting s (frame_of found) station e in
    record {
      taken = f.piece;
      talks = f.talks;
      answer = record {
        station = station;
        fits = ok.1;
        reader = r';
        seat = is;
        read = subst (λ (x : frame). HasRead r' f.piece (x ∷ [])) ok.0 read;
        begins = f.answer.1;
        seats = subst AreNew (sym is) (AreNew-more s station r' are read.waits ok.1 free);
        hellos = λ gave before_gave. subst (λ (x : SeatsState). GaveHellos x (λ p. if p == length s.told then f.piece else gave p)) (sym is)
            (GaveHellos-more s station r' f.piece gave are.are.seats (subst (λ (x : frame). HasRead r' f.piece (x ∷ [])) ok.0 read) before_gave);
      };
    }

-- it does not
unfit_by : (b : Bool) (i n w : ℕ) (fault : PeerFault) → ◌≡◌ {A = Result ℕ PeerFault} (Err fault) (if b then Ok i else Err (faults.Hello i n w)) → fault ≡ faults.Hello i n w
unfit_by true i n w fault e = absurd (cc)
unfit_by false i n w fault e = cc

unfit_ends : (s : SeatsState) (f : frame) (at : ℕ) → Err (faults.Ended at) ≡ greeting_in s f → ⊥
unfit_ends s (hello i n w) at e = let same = unfit_by (fits s i n w) i n w (faults.Ended at) e in cc
unfit_ends s (send t w) at e = cc
unfit_ends s (all t w) at e = cc

unfit_answer : (peer : ℕ) (s new : SeatsState) (bytes : List ℕ) (before after : WireState) (f : frame) (fault : PeerFault) → new ≡ s → Err fault ≡ greeting_in s f → greeting_fault s bytes ≡ Some fault
    → GreetAnswer peer s new bytes before after (Err (Peer peer fault))
unfit_answer peer s new bytes before after f (faults.Ended at) same e shown = absurd (unfit_ends s f at e)
unfit_answer peer s new bytes before after f (faults.Frame x) same e shown = (same, refl, shown)
unfit_answer peer s new bytes before after f (faults.Unexpected tag) same e shown = (same, refl, shown)
unfit_answer peer s new bytes before after f (faults.Hello i n w) same e shown = (same, refl, shown)
unfit_answer peer s new bytes before after f (faults.Round told now) same e shown = (same, refl, shown)

pub greet-unfit : {peer : ℕ} (s new : SeatsState) {r r' : ReaderState} {before after : WireState} (found : Frame) (fault : PeerFault) → new ≡ s → StandsFor r [] 0 → ReceivesFrame peer r r' before after (Ok (Some found))
    → Err fault ≡ greeting_in s (frame_of found) → Greets peer s new before after (Err (Peer peer fault))
greet-unfit {peer} s new {r} {r'} {before} {after} found fault same fresh f e =
    let read = f.read [] [] (HasRead-new r fresh).0 in
    let shown : greeting_fault s f.piece ≡ Some fault =
    ap (λ (x : Reading). first_fault s x.frames (option_map faults.Frame (result_err x.ends))) (HasRead-reading read) ∙ ap (λ (x : Result ℕ PeerFault). result_err x) (sym e) in
    record { taken = f.piece; talks = f.talks; answer = unfit_answer peer s new f.piece before after (frame_of found) fault same e shown }
