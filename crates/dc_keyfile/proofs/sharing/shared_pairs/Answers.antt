use Rattle.std.proofs.Common.{ℕ, ◌*◌, ◌≤◌, length, map, sym, subst, ◌∙◌, rules}
use Rattle.std.proofs.lemmas.List.{length-map}
use Rattle.std.proofs.lemmas.Grind.{div_ceil_times}
use Rattle.dc_keyfile.specs.Generator.{generated_pair}
use Rattle.dc_keyfile.proofs.sharing.shared_pairs.Goals as goal

pub returns : goal.returns
returns g c =
    let f = generated_pair c.args.base.now (16 * c.args.words) in
    let size = c.div_ceil-size.result in
    let whole = (div_ceil_times (length c.args.edges.now) size (search rules)).0 in
    c.joined.ensures (map f c.args.edges.now) size c.in_ok-parts.ensures.each
    (subst (λ (n : ℕ). length (map f c.args.edges.now) ≤ n * size) (sym c.in_ok-parts.ensures.len ∙ c.in_ok-parts.parts.ok.0) (rw (length-map c.args.edges.now f) whole))
