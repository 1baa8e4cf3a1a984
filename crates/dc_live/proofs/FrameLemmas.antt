-- Receiving a frame, by what one receive gave and by what was taken out of the reader.
use Rattle.std.proofs.Common.{◌≡◌, ℕ, ◌+◌, ◌-◌, ◌<◌, ◌≤◌, List, [], ◌++◌, length, Option, Some, None, option_map, Result, Ok, Err, refl, sym, ap, subst, ◌∙◌, arith, append-nil, append_assoc}
use Rattle.std.specs.Prelude.{OnSome, IfNone}
use Rattle.std.proofs.lemmas.List.{length-append}
use Rattle.std.proofs.lemmas.Bool.{cases_lt}
use Rattle.std.proofs.Common.{inl, inr}
use Rattle.dc_spec.specs.Outside.{WireState}
use Rattle.dc_spec.specs.Frames.{Frame as frame}
use Rattle.dc_frame.specs.Frames.{frame_of}
use Rattle.dc_frame.specs.Reading.{first, capped}
use Rattle.dc_frame.specs.Reader.{ReaderState, StandsFor}
use Rattle.dc_frame.specs.declared.frame.Frame.{Frame}
use Rattle.dc_frame.proofs.Firsts.{unfinished_body, size_by_tag}
use Rattle.dc_frame.proofs.Readers.{more, one_after}
use Rattle.dc_live.specs.Receiving.{HasRead, Waits, ReceivesPiece, ReceivesFrame, AfterRead, FrameAnswer}
use Rattle.dc_live.specs.Talking.{Talks}
use Rattle.dc_live.specs.declared.fault.LiveFault.{LiveFault}
use Rattle.dc_live.specs.declared.fault.LiveFault.TheVariants.{Wire, Peer}
use Rattle.dc_live.specs.declared.fault.PeerFault.TheVariants as faults
use Rattle.dc_live.proofs.TalkLemmas.{Talks-none, Talks-then}
use Rattle.dc_live.proofs.ReadLemmas.{fed, HasRead-stands, HasRead-more, HasRead-whole, HasRead-faulty, HasRead-fed}

-- nothing came in
same_read : (r new : ReaderState) (bytes piece : List ℕ) (frames : List frame) → piece ≡ [] → new ≡ r → HasRead r bytes frames → HasRead new (bytes ++ piece) frames
same_read r new bytes piece frames none same h =
    subst (λ (n : ReaderState). HasRead n (bytes ++ piece) frames) (sym same)
    (subst (λ (b : List ℕ). HasRead r b frames) (sym (ap (λ (p : List ℕ). bytes ++ p) none ∙ append-nil bytes)) h)

-- a receive that did not give a piece to the reader
pub frame_stops : (peer : ℕ) (r new : ReaderState) (before after : WireState) (fault : LiveFault) → ReceivesPiece peer r new before after (Err fault) → ReceivesFrame peer r new before after (Err fault)
frame_stops peer r new before after Wire p = record {
  piece = p.piece;
  talks = p.talks;
  read = λ bytes frames h. same_read r new bytes p.piece frames p.answer.0 p.answer.1 h;
  answer = p.answer.2;
}
frame_stops peer r new before after (Peer who (faults.Ended at)) p = record {
  piece = p.piece;
  talks = p.talks;
  read = λ bytes frames h. (
    same_read r new bytes p.piece frames p.answer.1 p.answer.2 h,
    p.answer.3 ∙ HasRead-fed h ∙ ap (λ (b : List ℕ). capped (length b)) (sym (ap (λ (q : List ℕ). bytes ++ q) p.answer.1 ∙ append-nil bytes)),
  );
  answer = (p.answer.0, p.answer.4);
}
frame_stops peer r new before after (Peer who (faults.Frame f)) p = record {
  piece = p.piece;
  talks = p.talks;
  read = λ bytes frames h. HasRead-faulty p.piece f h p.answer.1 p.answer.2 (p.answer.3 bytes (length frames) (HasRead-stands h));
  answer = p.answer.0;
}
frame_stops peer r new before after (Peer who (faults.Unexpected tag)) p = absurd p.answer.3
frame_stops peer r new before after (Peer who (faults.Hello i n w)) p = absurd p.answer.3
frame_stops peer r new before after (Peer who (faults.Round told now)) p = absurd p.answer.3

-- a reader with no byte of the next frame waits
pub begun : (r : ReaderState) → r.part ≡ [] → Waits r
unfolding first
begun r e = rw e refl

-- a reader with a piece more, as dc_frame sees it
fed_stands : {r : ReaderState} {bytes : List ℕ} {frames : List frame} (piece : List ℕ) → HasRead r bytes frames → StandsFor (fed r piece) (bytes ++ piece) (length frames)
fed_stands {r} {bytes} {frames} piece h = more r bytes piece (length frames) (HasRead-stands h)

-- the reader has no whole frame yet, or one was taken out
pub frame_taken : (peer : ℕ) (r mid new : ReaderState) (before after : WireState) (u : Unit) (found : Option Frame) → ReceivesPiece peer r mid before after (Ok u)
    → Ok (option_map frame_of found) ≡ first mid.part → OnSome found ((bytes : List ℕ) (taken : ℕ) → StandsFor mid bytes taken → StandsFor new bytes (taken + 1)) → OnSome found (new.part ≡ [])
    → IfNone found (new ≡ mid) → ReceivesFrame peer r new before after (Ok found)
frame_taken peer r mid new before after u None p value stands begins kept =
    let mid_is : mid ≡ fed r p.piece = p.answer.2 in
    let new_is : new ≡ fed r p.piece = kept ∙ mid_is in
    let waits : Waits (fed r p.piece) = ap (λ (x : ReaderState). first x.part) (sym mid_is) ∙ sym value in
    let some = p.answer.0 in
    let long = length-append r.part p.piece in
    record {
      piece = p.piece;
      talks = p.talks;
      read = λ bytes frames h. subst (λ (x : ReaderState). HasRead x (bytes ++ p.piece) frames) (sym new_is) (HasRead-more p.piece h waits);
      answer = subst (λ (x : ReaderState). Waits x × (length r.part < length x.part)) (sym new_is) (waits, omega arith);
    }
frame_taken peer r mid new before after u (Some f) p value stands begins kept =
    let mid_is : mid ≡ fed r p.piece = p.answer.2 in
    let whole : first (r.part ++ p.piece) ≡ Ok (Some (frame_of f)) = ap (λ (x : ReaderState). first x.part) (sym mid_is) ∙ sym value in
    record {
      piece = p.piece;
      talks = p.talks;
      read = λ bytes frames h.
          let all : StandsFor mid (bytes ++ p.piece) (length frames) = subst (λ (x : ReaderState). StandsFor x (bytes ++ p.piece) (length frames)) (sym mid_is) (fed_stands p.piece h) in
          HasRead-whole p.piece (frame_of f) new h (record { one = one_after r.part p.piece (Some (frame_of f)) whole p.answer.0 p.answer.1 }) whole (stands (bytes ++ p.piece) (length frames) all) begins;
      answer = (begun new begins, begins);
    }

later_answer : (peer : ℕ) (r mid new : ReaderState) (s0 s1 s2 : WireState) (result : Result (Option Frame) LiveFault) → s0.faults ≤ s1.faults → length r.part ≤ length mid.part
    → FrameAnswer peer mid new s1 s2 result → FrameAnswer peer r new s0 s2 result
later_answer peer r mid new s0 s1 s2 (Ok None) counted grown a = let longer = a.1 in (a.0, omega arith)
later_answer peer r mid new s0 s1 s2 (Ok (Some f)) counted grown a = a
later_answer peer r mid new s0 s1 s2 (Err Wire) counted grown a = omega arith
later_answer peer r mid new s0 s1 s2 (Err (Peer who (faults.Ended at))) counted grown a = a
later_answer peer r mid new s0 s1 s2 (Err (Peer who (faults.Frame f))) counted grown a = a
later_answer peer r mid new s0 s1 s2 (Err (Peer who (faults.Unexpected tag))) counted grown a = a
later_answer peer r mid new s0 s1 s2 (Err (Peer who (faults.Hello i n w))) counted grown a = a
later_answer peer r mid new s0 s1 s2 (Err (Peer who (faults.Round told now))) counted grown a = a

-- the peer gave a piece, which holds no whole frame yet
pub record PieceSoFar (peer : ℕ) (r0 r : ReaderState) (s0 s : WireState) : Type 0 where
  pub piece : List ℕ
  pub talks : Talks peer piece [] s0 s
  pub read : (bytes : List ℕ) (frames : List frame) → HasRead r0 bytes frames → HasRead r (bytes ++ piece) frames
  pub grown : length r0.part ≤ length r.part
  pub waits : Waits r

pub PieceSoFar-none : (peer : ℕ) (r : ReaderState) (s : WireState) → Waits r → PieceSoFar peer r r s s
PieceSoFar-none peer r s waits = record {
  piece = [];
  talks = Talks-none peer s;
  read = λ bytes frames h. subst (λ (b : List ℕ). HasRead r b frames) (sym (append-nil bytes)) h;
  grown = omega arith;
  waits = waits;
}

-- no frame yet, and then an answer by more bytes
pub frame_later : {peer : ℕ} {r0 r new : ReaderState} {s0 s1 s2 : WireState} {result : Result (Option Frame) LiveFault} → PieceSoFar peer r0 r s0 s1 → ReceivesFrame peer r new s1 s2 result
    → ReceivesFrame peer r0 new s0 s2 result
frame_later {peer} {r0} {r} {new} {s0} {s1} {s2} {result} p f = record {
  piece = p.piece ++ f.piece;
  talks = Talks-then p.talks f.talks;
  read = λ bytes frames h. subst (λ (b : List ℕ). AfterRead b frames new result) (append_assoc bytes p.piece f.piece) (f.read (bytes ++ p.piece) frames (p.read bytes frames h));
  answer = later_answer peer r0 r new s0 s1 s2 result p.talks.counted p.grown f.answer;
}

pub PieceSoFar-more : {peer : ℕ} {r0 r new : ReaderState} {s0 s1 s2 : WireState} (o : Option Frame) → o ≡ None → PieceSoFar peer r0 r s0 s1 → ReceivesFrame peer r new s1 s2 (Ok o) → PieceSoFar peer r0 new s0 s2
PieceSoFar-more (Some found) none p f = absurd (cc)
PieceSoFar-more None none p f =
    let all = frame_later p f in
    let before = p.grown in
    let longer = f.answer.1 in
    record { piece = all.piece; talks = all.talks; read = all.read; grown = omega arith; waits = all.answer.0 }

-- a frame that is not finished has fewer bytes than the longest one
pub waits_short : (r : ReaderState) → Waits r → length r.part < 69
waits_short r waits = elim (cases_lt (length r.part) 3) [
  | inl low ↦ omega arith
  | inr long ↦ (let body = unfinished_body r.part waits long in
      let short = body.2 in
      elim (size_by_tag r.part body.0 body.1) [
        | inl hello ↦ (let size = hello.1 in omega arith)
        | inr word ↦ (let size = word.1 in omega arith)
      ])
]

-- each receive that leaves the frame unfinished brings it nearer to its end
pub piece_longer : {peer : ℕ} {r0 r new : ReaderState} {s0 s1 s2 : WireState} (o : Option Frame) → o ≡ None → PieceSoFar peer r0 r s0 s1 → ReceivesFrame peer r new s1 s2 (Ok o)
    → 69 - length new.part < 69 - length r.part
piece_longer (Some found) none p f = absurd (cc)
piece_longer {r = r} None none p f =
    let short = waits_short r p.waits in
    let longer = f.answer.1 in
    omega arith
