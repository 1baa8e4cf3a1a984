-- The sum of a round, by the frame that was received.
use Rattle.std.proofs.Common.{◌≡◌, ℕ, ◌==◌, Bool, true, false, if◌then◌else◌, ◌⊎◌, inl, inr, List, [], ◌∷◌, ◌++◌, Option, Some, option_map, Result, Ok, Err, refl, sym, ap, subst, ◌∙◌, append-nil, eqb-true}
use Rattle.std.specs.Result.{result_err}
use Rattle.std.proofs.lemmas.Bool.{lt-ltb}
use Rattle.dc_spec.specs.Outside.{WireState}
use Rattle.dc_spec.specs.Frames.{Frame as frame, hello, send, all}
use Rattle.dc_frame.specs.Frames.{frame_of}
use Rattle.dc_frame.specs.Reading.{Reading}
use Rattle.dc_frame.specs.Reader.{ReaderState}
use Rattle.dc_frame.specs.declared.frame.Frame.{Frame}
use Rattle.dc_live.specs.Hearing.{sum_of, frame_fault}
use Rattle.dc_live.specs.Receiving.{HasRead, ReceivesFrame}
use Rattle.dc_live.specs.StationSteps.{HearsSum, ShowsInRound}
use Rattle.dc_live.specs.declared.fault.LiveFault.{LiveFault}
use Rattle.dc_live.specs.declared.fault.LiveFault.TheVariants.{Wire, Peer}
use Rattle.dc_live.specs.declared.fault.PeerFault.{PeerFault}
use Rattle.dc_live.specs.declared.fault.PeerFault.TheVariants as faults
use Rattle.dc_live.proofs.ReadLemmas.{HasRead-reading}

-- a frame that has the sum of the round
all_by : (b : Bool) (told now : ℕ) (word w : List ℕ) → (told == now) ≡ b → ◌≡◌ {A = Result (List ℕ) PeerFault} (Ok w) (if b then Ok word else Err (faults.Round told now)) → all told word ≡ all now w
all_by true told now word w same e = let t = eqb-true told now same in let x : w ≡ word = cc in rw (t, x) refl
all_by false told now word w same e = absurd (cc)

sum_is : (now : ℕ) (f : frame) (w : List ℕ) → Ok w ≡ sum_of now f → f ≡ all now w
sum_is now (all told word) w e = all_by (told == now) told now word w refl e
sum_is now (hello i n t) w e = absurd (cc)
sum_is now (send t word) w e = absurd (cc)

-- a frame that has none is of another kind or of another round
unfit_by : (b : Bool) (told now : ℕ) (word : List ℕ) (fault : PeerFault) → ◌≡◌ {A = Result (List ℕ) PeerFault} (Err fault) (if b then Ok word else Err (faults.Round told now))
    → ((tag : ℕ) × (fault ≡ faults.Unexpected tag)) ⊎ ((t : ℕ) × (n : ℕ) × (fault ≡ faults.Round t n))
unfit_by true told now word fault e = absurd (cc)
unfit_by false told now word fault e = let same : fault ≡ faults.Round told now = cc in inr (told, now, same)

unfit_is : (now : ℕ) (f : frame) (fault : PeerFault) → Err fault ≡ sum_of now f → ((tag : ℕ) × (fault ≡ faults.Unexpected tag)) ⊎ ((t : ℕ) × (n : ℕ) × (fault ≡ faults.Round t n))
unfit_is now (all told word) fault e = unfit_by (told == now) told now word fault e
unfit_is now (hello i n t) fault e = let same : fault ≡ faults.Unexpected 1 = cc in inl (1, same)
unfit_is now (send t word) fault e = let same : fault ≡ faults.Unexpected 2 = cc in inl (2, same)

-- the sum came
pub sum_heard : {peer : ℕ} (round : ℕ) {r new : ReaderState} {before after : WireState} (found : Frame) (word : List ℕ) → ReceivesFrame peer r new before after (Ok (Some found)) → Ok word ≡ sum_of round (frame_of found)
    → HearsSum peer round r new before after (Ok word)
sum_heard round {r} {new} found word f e = record {
  piece = f.piece;
  talks = f.talks;
  read = λ bytes frames h. subst (λ (x : frame). HasRead new (bytes ++ f.piece) (frames ++ x ∷ [])) (sum_is round (frame_of found) word e) (f.read bytes frames h);
  answer = f.answer;
}

-- a frame that was not due is a fault
shows_unfit : (round : ℕ) (new : ReaderState) (bytes : List ℕ) (frames : List frame) (found : frame) (fault : PeerFault) → Err fault ≡ sum_of round found → HasRead new bytes (frames ++ found ∷ [])
    → ShowsInRound round bytes frames fault
shows_unfit round new bytes frames found fault e h = record {
  tail = found ∷ [];
  read = ap (λ (r : Reading). r.frames) (HasRead-reading h);
  shown = λ total low. rw (lt-ltb round total low, ← e) refl;
}

unfit_by_fault : {peer : ℕ} (round : ℕ) {r new : ReaderState} {before after : WireState} (found : Frame) (fault : PeerFault) → ReceivesFrame peer r new before after (Ok (Some found))
    → Err fault ≡ sum_of round (frame_of found) → ((tag : ℕ) × (fault ≡ faults.Unexpected tag)) ⊎ ((t : ℕ) × (n : ℕ) × (fault ≡ faults.Round t n))
    → HearsSum peer round r new before after (Err (Peer peer fault))
unfit_by_fault {peer} round {r} {new} {before} {after} found fault f e (inl tag) =
    subst (λ (x : PeerFault). HearsSum peer round r new before after (Err (Peer peer x))) (sym tag.1) (record {
      piece = f.piece;
      talks = f.talks;
      read = λ bytes frames h. shows_unfit round new (bytes ++ f.piece) frames (frame_of found) (faults.Unexpected tag.0) (ap (λ (x : PeerFault). Err x) (sym tag.1) ∙ e) (f.read bytes frames h);
      answer = refl;
    })
unfit_by_fault {peer} round {r} {new} {before} {after} found fault f e (inr told) =
    subst (λ (x : PeerFault). HearsSum peer round r new before after (Err (Peer peer x))) (sym told.2) (record {
      piece = f.piece;
      talks = f.talks;
      read = λ bytes frames h. shows_unfit round new (bytes ++ f.piece) frames (frame_of found) (faults.Round told.0 told.1) (ap (λ (x : PeerFault). Err x) (sym told.2) ∙ e) (f.read bytes frames h);
      answer = refl;
    })

pub sum_unfit : {peer : ℕ} (round : ℕ) {r new : ReaderState} {before after : WireState} (found : Frame) (fault : PeerFault) → ReceivesFrame peer r new before after (Ok (Some found))
    → Err fault ≡ sum_of round (frame_of found) → HearsSum peer round r new before after (Err (Peer peer fault))
sum_unfit round found fault f e = unfit_by_fault round found fault f e (unfit_is round (frame_of found) fault e)

-- no frame came
pub sum_stops : {peer : ℕ} (round : ℕ) {r new : ReaderState} {before after : WireState} (fault : LiveFault) → ReceivesFrame peer r new before after (Err fault) → HearsSum peer round r new before after (Err fault)
sum_stops round Wire f = record { piece = f.piece; talks = f.talks; read = f.read; answer = f.answer }
sum_stops round (Peer who (faults.Ended at)) f = record { piece = f.piece; talks = f.talks; read = f.read; answer = f.answer }
sum_stops round (Peer who (faults.Frame fault)) f = record {
  piece = f.piece;
  talks = f.talks;
  read = λ bytes frames h.
      let read = f.read bytes frames h in
      record {
        tail = [];
        read = ap (λ (r : Reading). r.frames) read ∙ sym (append-nil frames);
        shown = λ total low.
            let shown : frame_fault (bytes ++ f.piece) ≡ Some (faults.Frame fault) = ap (λ (r : Reading). option_map faults.Frame (result_err r.ends)) read in
            rw (lt-ltb round total low) (ap (λ (x : Option PeerFault). record { words = []; fault = x }) shown);
      };
  answer = f.answer;
}
sum_stops round (Peer who (faults.Unexpected tag)) f = record { piece = f.piece; talks = f.talks; read = λ bytes frames h. absurd (f.read bytes frames h); answer = f.answer }
sum_stops round (Peer who (faults.Hello i n w)) f = record { piece = f.piece; talks = f.talks; read = λ bytes frames h. absurd (f.read bytes frames h); answer = f.answer }
sum_stops round (Peer who (faults.Round told now)) f = record { piece = f.piece; talks = f.talks; read = λ bytes frames h. absurd (f.read bytes frames h); answer = f.answer }
