use Rattle.std.proofs.Common.{◌≡◌, ℕ, ◌+◌, ◌-◌, ◌<◌, List, length, map, get_or, rules, refl, sym, ap, ◌∙◌, arith}
use Rattle.std.proofs.lemmas.List.{get_or_read_under}
use Rattle.dc_spec.specs.Pads.{Pair}
use Rattle.dc_formats.specs.KeyFile.{AreEndsBefore, AreEndsRising}
use Rattle.dc_formats.proofs.Ends.{ends_rise, ends_rise_at}
use Rattle.dc_keys.proofs.key_file.are_keys.Goals as goal

abbrev ends : Pair → ℕ × ℕ
ends p = (p.u, p.v)

-- two pairs that stand one after the other
rising_there : (ps : List Pair) (i j : ℕ) (p q : Pair) → AreEndsRising (map ends ps) → j ≡ i + 1 → j < length ps → p ≡ get_or ps i p → q ≡ get_or ps j q → AreEndsBefore (ends p) (ends q)
rising_there ps i j p q rising next lt here there =
    let there' : q ≡ get_or ps (i + 1) p = get_or_read_under ps j (length ps) q p there lt refl ∙ ap (λ (n : ℕ). get_or ps n p) next in
    let before : AreEndsBefore (ends (get_or ps i p)) (ends (get_or ps (i + 1) p)) = ends_rise_at ends ps rising i p (omega arith) in
    record {
      lesser = omega (arith, before.lesser, ap (λ (r : Pair). r.u) here, ap (λ (r : Pair). r.u) there');
      greater = λ e. let less = before.greater (ap (λ (r : Pair). r.u) (sym here) ∙ e
          ∙ ap (λ (r : Pair). r.u) there') in omega (arith, less, ap (λ (r : Pair). r.v) here, ap (λ (r : Pair). r.v) there');
    }

pub returns-then-not-is_before : goal.returns-then-not-is_before
returns-then-not-is_before c = (
  λ f. absurd cc,
  λ keys. sym c.if-not-is_before.true ∙ c.is_before.ensures.1 (rising_there c.args.pairs.now (c.loop-i.i - 1) c.loop-i.i _ _ keys.rising (omega arith)
      (omega arith) c.index-pairs-i-then-i-gt0.is c.index-pairs-i-then-i-gt0-2.is),
)

pub returns : goal.returns
returns c =
    let rising = ends_rise ends c.args.pairs.now (λ i d lt. c.loop-i.invariant.rising i d (omega arith)) in (
      λ yes. record {
        some_stations = omega arith;
        most_stations = omega arith;
        some_words = omega arith;
        most_words = omega arith;
        most_symbols = search rules;
        are_pairs = λ i d lt. c.loop-i.invariant.pairs i d (omega arith);
        rising = rising;
      },
      λ keys. refl,
    )
