-- Talks with a peer: one call of the wire, and talks one after the other.
use Rattle.std.proofs.Common.{◌≡◌, ℕ, List, [], ◌++◌, take, Option, Some, None, Result, Ok, Err, refl, sym, ap, ◌∙◌, arith, append_assoc, append-nil}
use Rattle.dc_spec.specs.Outside.{WireState, grown, preceded}
use Rattle.dc_edge.specs.Wire.{Receives, Sends}
use Rattle.dc_edge.specs.declared.fault.Failed.{Failed}
use Rattle.dc_live.specs.Talking.{Talks}

pub preceded-nothing : (known : Option (List ℕ)) → known ≡ preceded [] known
preceded-nothing None = refl
preceded-nothing (Some xs) = refl

pub preceded-twice : (xs ys : List ℕ) (known : Option (List ℕ)) → preceded xs (preceded ys known) ≡ preceded (xs ++ ys) known
preceded-twice xs ys None = refl
preceded-twice xs ys (Some zs) = ap Some (sym (append_assoc xs ys zs))

pub grown-nothing : (known : Option (List ℕ)) → known ≡ grown known []
grown-nothing None = refl
grown-nothing (Some xs) = ap Some (sym (append-nil xs))

pub grown-twice : (known : Option (List ℕ)) (xs ys : List ℕ) → grown (grown known xs) ys ≡ grown known (xs ++ ys)
grown-twice None xs ys = refl
grown-twice (Some zs) xs ys = ap Some (append_assoc zs xs ys)

-- no call
pub Talks-none : (peer : ℕ) (s : WireState) → Talks peer [] [] s s
Talks-none peer s = record {
  peers = refl;
  left = preceded-nothing (s.left peer);
  others_left = λ other ne. refl;
  sent = grown-nothing (s.sent peer);
  others_sent = λ other ne. refl;
  asked = refl;
  counted = omega arith;
}

-- one after the other
pub Talks-then : {peer : ℕ} {t1 t2 g1 g2 : List ℕ} {s0 s1 s2 : WireState} → Talks peer t1 g1 s0 s1 → Talks peer t2 g2 s1 s2 → Talks peer (t1 ++ t2) (g1 ++ g2) s0 s2
Talks-then {peer} {t1} {t2} {g1} {g2} {s0} {s1} {s2} a b = record {
  peers = b.peers ∙ a.peers;
  left = a.left ∙ ap (preceded t1) b.left ∙ preceded-twice t1 t2 (s2.left peer);
  others_left = λ other ne. b.others_left other ne ∙ a.others_left other ne;
  sent = b.sent ∙ ap (λ (k : Option (List ℕ)). grown k g2) a.sent ∙ grown-twice (s0.sent peer) g1 g2;
  others_sent = λ other ne. b.others_sent other ne ∙ a.others_sent other ne;
  asked = b.asked ∙ a.asked;
  counted = let p = a.counted in let q = b.counted in omega arith;
}

-- a receive
pub Talks-received : (peer count : ℕ) (buffer : List ℕ) (before after : WireState) → Receives peer buffer before after (Ok count) → Talks peer (take count buffer) [] before after
Talks-received peer count buffer before after r = record {
  peers = r.peers;
  left = r.answer.1;
  others_left = r.others;
  sent = ap (λ (f : ℕ → Option (List ℕ)). f peer) r.sent ∙ grown-nothing (before.sent peer);
  others_sent = λ other ne. ap (λ (f : ℕ → Option (List ℕ)). f other) r.sent;
  asked = r.asked;
  counted = r.counted;
}

-- a receive that failed
pub Talks-not_received : (peer : ℕ) (buffer : List ℕ) (before after : WireState) (f : Failed) → Receives peer buffer before after (Err f) → Talks peer [] [] before after
Talks-not_received peer buffer before after f r = record {
  peers = r.peers;
  left = ap (λ (f : ℕ → Option (List ℕ)). f peer) (sym r.answer.0) ∙ preceded-nothing (after.left peer);
  others_left = r.others;
  sent = ap (λ (f : ℕ → Option (List ℕ)). f peer) r.sent ∙ grown-nothing (before.sent peer);
  others_sent = λ other ne. ap (λ (f : ℕ → Option (List ℕ)). f other) r.sent;
  asked = r.asked;
  counted = r.counted;
}

-- a send of which this much went out
pub Talks-sent : (peer : ℕ) (bytes given : List ℕ) (before after : WireState) (result : Result Unit Failed) → Sends peer bytes before after result → after.sent peer ≡ grown (before.sent peer) given
    → Talks peer [] given before after
Talks-sent peer bytes given before after result s is = record {
  peers = s.peers;
  left = ap (λ (f : ℕ → Option (List ℕ)). f peer) (sym s.left) ∙ preceded-nothing (after.left peer);
  others_left = λ other ne. ap (λ (f : ℕ → Option (List ℕ)). f other) s.left;
  sent = is;
  others_sent = s.others;
  asked = s.asked;
  counted = s.counted;
}
