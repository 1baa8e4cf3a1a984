use Rattle.std.proofs.Common.{◌≡◌, ℕ, ◌+◌, ◌<◌, List, [], length, get_or, take, Ok, Err, sym, ap, subst, ◌∙◌, arith, rules}
use Rattle.std.specs.List.{enumerate_from}
use Rattle.std.proofs.lemmas.List.{take_all, get_or_default}
use Rattle.std.proofs.lemmas.List.FromFn.{length-enumerate_from, get_or-enumerate_from}
use Rattle.dc_print.specs.Gathering.{Gathers}
use Rattle.dc_print.proofs.GatherLemmas.{Gathers-more, Gathers-more-stops}
use Rattle.dc_twin_rules.specs.Twins.{Shift}
use Rattle.dc_twin_rules.specs.Shifts.{shift_line}
use Rattle.dc_twin.proofs.printing.gather_edge.Goals as goal

-- the line of a round
abbrev line_of : Shift → ℕ × List ℕ → List ℕ
line_of s w = shift_line s.u s.v w.0 w.1

-- the text of a round
text-at : (s t : Shift) (words : List (List ℕ)) (r : ℕ) (w : List ℕ) → t ≡ s → words ≡ t.words → r < length words → w ≡ get_or words r w
    → shift_line t.u t.v r w ≡ line_of s (get_or (enumerate_from 0 s.words) r (0, []))
text-at s t words r w same read low at =
    let all : words ≡ s.words = read ∙ ap (λ (z : Shift). z.words) same in
    let within : r < length s.words = subst (λ (ws : List (List ℕ)). r < length ws) all low in
    let here : w ≡ get_or s.words r [] = at ∙ ap (λ (ws : List (List ℕ)). get_or ws r w) all ∙ get_or_default s.words r w [] within in
    let number : 0 + r ≡ r = omega arith in
    ap (λ (z : Shift). shift_line z.u z.v r w) same ∙ ap (λ (x : List ℕ). shift_line s.u s.v r x) here
    ∙ sym (ap (line_of s) (get_or-enumerate_from 0 s.words r (0, []) within) ∙ ap (λ (n : ℕ). shift_line s.u s.v n (get_or s.words r [])) number)

-- the words of a shift are as many as their numbers
numbered : (s : Shift) (words : List (List ℕ)) (r : ℕ) → words ≡ s.words → r < length words → r < length (enumerate_from 0 s.words)
numbered s words r same low =
    let within : r < length s.words = subst (λ (ws : List (List ℕ)). r < length ws) same low in
    let size = length-enumerate_from 0 s.words in omega arith

pub returns-in_err-end : goal.returns-in_err-end
returns-in_err-end g c =
    let words = c.as_slice-w-items.ensures ∙ ap (λ (s : Shift). s.words) c.shift.view_is in
    Gathers-more-stops (line_of c.args.shift.now) (enumerate_from 0 c.args.shift.now.words) c.loop-r.r (0, []) (take c.args.end c.args.buffer.now) c.loop-r.buffer c.gather_round.new.buffer _ _ _
    c.loop-r.end c.in_err-end.field-0.0 _ (numbered c.args.shift.now c.as_slice-w-items.result.now c.loop-r.r words c.loop-r-test.true) c.loop-r.invariant
    (subst (λ (t : List ℕ). Gathers t (take c.loop-r.end c.loop-r.buffer) c.gather_round.new.buffer (g.K.Sink.state c.loop-r.out) (g.K.Sink.state c.gather_round.new.out) (Err c.in_err-end.field-0.0))
    (text-at c.args.shift.now _ c.as_slice-w-items.result.now c.loop-r.r c.w-item.result c.shift.view_is c.as_slice-w-items.ensures c.loop-r-test.true c.w-item.is) c.in_err-end.ensures) (search rules)

pub loop-r-preserved : goal.loop-r-preserved
loop-r-preserved g c =
    let words = c.as_slice-w-items.ensures ∙ ap (λ (s : Shift). s.words) c.shift.view_is in
    Gathers-more (line_of c.args.shift.now) (enumerate_from 0 c.args.shift.now.words) c.loop-r.r (0, []) (take c.args.end c.args.buffer.now) c.loop-r.buffer c.gather_round.new.buffer _ _ _
    c.loop-r.end (Ok c.in_ok-end.end) (numbered c.args.shift.now c.as_slice-w-items.result.now c.loop-r.r words c.loop-r-test.true) c.loop-r.invariant
    (subst (λ (t : List ℕ). Gathers t (take c.loop-r.end c.loop-r.buffer) c.gather_round.new.buffer (g.K.Sink.state c.loop-r.out) (g.K.Sink.state c.gather_round.new.out) (Ok c.in_ok-end.end))
    (text-at c.args.shift.now _ c.as_slice-w-items.result.now c.loop-r.r c.w-item.result c.shift.view_is c.as_slice-w-items.ensures c.loop-r-test.true c.w-item.is) c.in_ok-end.ensures)

pub returns : goal.returns
returns g c =
    let words = c.as_slice-w-items.ensures ∙ ap (λ (s : Shift). s.words) c.shift.view_is in
    let size = length-enumerate_from 0 c.args.shift.now.words in
    let count = ap (λ (ws : List (List ℕ)). length ws) words in
    let done = c.loop-r-test.false in
    rw (take_all c.loop-r.r (enumerate_from 0 c.args.shift.now.words) (omega arith)) at c.loop-r.invariant
