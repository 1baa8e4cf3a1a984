use Rattle.std.proofs.Common.{◌≡◌, ◌++◌, ◌*◌, ◌-◌, ◌/◌, ℕ, length, replicate, take, subst, sym, ap, ◌∙◌, arith}
use Rattle.dc_spec.specs.Symbols.{AreSymbols}
use Rattle.dc_transform_rules.specs.Polynomials.{rows_scaled}
use Rattle.dc_transform_rules.specs.Transforms.{size}
use Rattle.dc_transform_rules.proofs.ColumnLemmas.{size-times}
use Rattle.dc_fast_keys.proofs.CarryLemmas.{half-rows, alike_products}
use Rattle.dc_fast_keys.proofs.alike.multiply_alike.Goals as goal

pub fill_front-requires-clause-block_long : goal.fill_front-requires-clause-block_long
fill_front-requires-clause-block_long c =
    c.requires.block_long ∙ size-times c.args.width (c.args.depth - 1) ∙ ap (λ n. c.args.width * n) (sym (half-rows c.args.depth (length c.args.one.now) c.requires.some c.requires.one_long))

pub forward_from_front-requires-clause-symbols : goal.forward_from_front-requires-clause-symbols
forward_from_front-requires-clause-symbols c =
    subst (λ (n : ℕ). AreSymbols (take n c.fill_front.new.one)) (half-rows c.args.depth (length c.args.one.now) c.requires.some c.requires.one_long) c.fill_front.ensures.symbols

pub multiply_rows-requires-clause-long : goal.multiply_rows-requires-clause-long
multiply_rows-requires-clause-long c =
    let one : length c.forward_from_front.new.rows ≡ size 1 c.args.depth = omega (arith, c.forward_from_front.auto.rows, c.fill_front.auto.one, c.requires.one_long) in
    ap (λ l. length l) c.copy_from_slice.ensures.after ∙ c.requires.spectrum_long ∙ size-times c.args.width c.args.depth ∙ ap (λ n. c.args.width * n) (sym one)

pub returns-clause-value : goal.returns-clause-value
returns-clause-value c =
    let half = half-rows c.args.depth (length c.args.one.now) c.requires.some c.requires.one_long in
    let made = c.multiply_rows.ensures.value ∙ ap (λ l. rows_scaled c.args.width l c.forward_from_front.new.rows) c.copy_from_slice.ensures.after
    ∙ ap (λ l. rows_scaled c.args.width c.args.spectrum.now l) c.forward_from_front.ensures.value in
    let long = sym (ap (λ l. length l) made) ∙ c.multiply_rows.auto.rows ∙ ap (λ l. length l) c.copy_from_slice.ensures.after ∙ c.requires.spectrum_long in
    made
    ∙ alike_products c.args.width c.args.depth _ c.args.spectrum.now c.args.block.now _ c.requires.width c.requires.some c.requires.block_long c.requires.spectrum_long
    half c.requires.alike
    (ap (λ (n : ℕ). take n c.fill_front.new.one ++ replicate n 0) (sym half) ∙ ap (λ l. l ++ replicate (length c.args.one.now / 2) 0) c.fill_front.ensures.value) long
