-- Putting a text in two parts is putting the whole, or a front of it where a part fails.
use Rattle.std.proofs.Common.{◌≡◌, ℕ, ◌≤◌, List, [], ◌∷◌, ◌++◌, Option, Some, None, Result, Ok, Err, refl, sym, ap, ◌∙◌, append_assoc, arith}
use Rattle.std.specs.Prelude.{IsErr}
use Rattle.std.proofs.lemmas.List.{append-nil}
use Rattle.dc_spec.specs.Outside.{SinkState, Rose, grown}
use Rattle.dc_edge.specs.Sink.{Puts, PutAnswer, Appended}
use Rattle.dc_edge.specs.declared.fault.Failed.{Failed}

-- a list grown twice
pub grown-grown : {A : Type 0} (told : Option (List A)) (a b : List A) → grown (grown told a) b ≡ grown told (a ++ b)
grown-grown None a b = refl
grown-grown (Some xs) a b = ap Some (append_assoc xs a b)

Appended-then : (a b : List ℕ) (s0 s1 s2 : SinkState) → Appended a s0 s1 → Appended b s1 s2 → Appended (a ++ b) s0 s2
Appended-then a b s0 s1 s2 p q = q ∙ ap (λ (told : Option (List ℕ)). grown told b) p ∙ grown-grown s0.written a b

pub grown-nothing : {A : Type 0} (told : Option (List A)) → told ≡ grown told []
grown-nothing None = refl
grown-nothing (Some xs) = ap Some (sym (append-nil xs))

-- nothing is put by no call
pub Puts-nothing : (s : SinkState) → Puts [] s s (Ok tt)
Puts-nothing s = record { counted = omega arith; answer = grown-nothing s.written; empty = λ e. (refl, refl) }

both_empty : (a b : List ℕ) → a ++ b ≡ [] → (a ≡ []) × (b ≡ [])
both_empty [] b e = (refl, e)
both_empty (x ∷ a) b e = absurd cc

pub Rose-earlier : (n0 n1 n2 : ℕ) → n0 ≤ n1 → Rose n1 n2 → Rose n0 n2
Rose-earlier n0 n1 n2 le rose = omega arith

answer-then : (a b : List ℕ) (s0 s1 s2 : SinkState) (r : Result Unit Failed) → s0.faults ≤ s1.faults → Appended a s0 s1 → PutAnswer b s1 s2 r → PutAnswer (a ++ b) s0 s2 r
answer-then a b s0 s1 s2 (Ok u) le p q = Appended-then a b s0 s1 s2 p q
answer-then a b s0 s1 s2 (Err f) le p q =
    ((a ++ q.0.0, (q.0.1.0, ap (λ (t : List ℕ). a ++ t) q.0.1.1 ∙ sym (append_assoc a q.0.0 q.0.1.0)), Appended-then a q.0.0 s0 s1 s2 p q.0.2), Rose-earlier s0.faults s1.faults s2.faults le q.1)

-- a part that was taken, and the rest as it was put
pub Puts-then : (a b : List ℕ) (s0 s1 s2 : SinkState) (u : Unit) (r : Result Unit Failed) → Puts a s0 s1 (Ok u) → Puts b s1 s2 r → Puts (a ++ b) s0 s2 r
Puts-then a b s0 s1 s2 u r p q = record {
  counted = omega (arith, p.counted, q.counted);
  answer = answer-then a b s0 s1 s2 r p.counted p.answer q.answer;
  empty = λ e. let both = both_empty a b e in ((q.empty both.1).0, (q.empty both.1).1 ∙ (p.empty both.0).1);
}

answer-stops : (a b : List ℕ) (s0 s1 : SinkState) (f : Failed) (r : Result Unit Failed) → PutAnswer a s0 s1 (Err f) → IsErr r → PutAnswer (a ++ b) s0 s1 r
answer-stops a b s0 s1 f (Ok u) p is = absurd cc
answer-stops a b s0 s1 f (Err g) p is =
    ((p.0.0, (p.0.1.0 ++ b, ap (λ (t : List ℕ). t ++ b) p.0.1.1 ∙ append_assoc p.0.0 p.0.1.0 b), p.0.2), p.1)

-- a part that failed, and no more was put
pub Puts-stops : (a b : List ℕ) (s0 s1 : SinkState) (f : Failed) (r : Result Unit Failed) → Puts a s0 s1 (Err f) → IsErr r → Puts (a ++ b) s0 s1 r
Puts-stops a b s0 s1 f r p is = record {
  counted = p.counted;
  answer = answer-stops a b s0 s1 f r p.answer is;
  empty = λ e. let taken = (p.empty (both_empty a b e).0).0 in absurd cc;
}
