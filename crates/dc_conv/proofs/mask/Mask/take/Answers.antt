use Rattle.std.proofs.Common.{◌≡◌, ℕ, Bool, false, inl, inr, true≢false, ◌↔◌, IsTrue, ◌<◌, ◌≤◌, length, sym, subst, ◌∙◌, arith}
use Rattle.std.proofs.lemmas.Bool.{cases_lt}
use Rattle.dc_conv.specs.Mask.{MaskState, StandsFor, session_words}
use Rattle.dc_conv.proofs.Blocks.{StandsFor-more, StandsFor-block, IsMask-block}
use Rattle.dc_conv.proofs.mask.Mask.take.Goals as goal

-- a block that is not full
not_full : (b : Bool) (n : ℕ) → IsTrue b ↔ (32 ≤ n) → b ≡ false → n < 32
not_full b n is off = elim (cases_lt n 32) [
  | inl lt ↦ lt
  | inr le ↦ absurd (true≢false (sym (is.1 le) ∙ off))
]

pub returns-then-not-is_full-clause-stands : goal.returns-then-not-is_full-clause-stands
returns-then-not-is_full-clause-stands c = λ pads history stands.
    StandsFor-more (record { second = c.self.inside.second; sums = c.self.inside.sums; block = c.self.inside.block; taken = c.self.inside.taken })
    pads history c.args.w.now c.push.new.self c.self.invariant c.push.ensures.word
    (subst (λ (m : MaskState). StandsFor m pads history) (sym c.self.view_is) stands) c.push.ensures.value (not_full c.is_full.result (length c.push.new.self) c.is_full.ensures c.if-not-is_full.true)

pub invariant_of-self-2 : goal.invariant_of-self-2
invariant_of-self-2 c =
    IsMask-block (record { second = c.self.inside.second; sums = c.self.inside.sums; block = c.self.inside.block; taken = c.self.inside.taken })
    c.args.w.now c.as_slice-2.result.now c.clear.new.self c.add_from.new.self _ c.self.invariant
    (subst (λ (m : MaskState). m.taken < session_words m) (sym c.self.view_is) c.requires) (c.as_slice-2.ensures ∙ c.push.ensures.value)
    (rw c.as_slice-2.ensures (c.is_full.ensures.0 c.if-not-is_full.false)) c.clear.ensures (omega (arith, c.from-later.ensures)) c.add_from.ensures.as_many
    c.add_from.ensures.before c.add_from.ensures.grown

pub returns-clause-stands : goal.returns-clause-stands
returns-clause-stands c = λ pads history stands.
    StandsFor-block (record { second = c.self.inside.second; sums = c.self.inside.sums; block = c.self.inside.block; taken = c.self.inside.taken })
    pads history c.args.w.now c.as_slice-2.result.now c.clear.new.self c.add_from.new.self _ c.self.invariant c.push.ensures.word
    (subst (λ (m : MaskState). StandsFor m pads history) (sym c.self.view_is) stands) (c.as_slice-2.ensures ∙ c.push.ensures.value)
    (rw c.as_slice-2.ensures (c.is_full.ensures.0 c.if-not-is_full.false)) c.clear.ensures (omega (arith, c.from-later.ensures)) c.add_from.ensures.as_many
    c.add_from.ensures.before (λ i lt. rw (← c.as_slice.ensures.value) (c.add_from.ensures.added i lt))
