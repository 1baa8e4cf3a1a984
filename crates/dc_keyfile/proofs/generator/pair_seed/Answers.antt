use Rattle.std.proofs.Common.{◌≡◌, ℕ, List, [], ◌++◌, length, take, drop, ap, ◌∙◌, arith}
use Rattle.std.specs.Int.{w16, to_be_bytes}
use Rattle.std.proofs.lemmas.List.{take_at, drop_all, length-append, length-take, length-drop, append-nil}
use Rattle.dc_keyfile.specs.Generator.{pair_seed}
use Rattle.dc_keyfile.proofs.generator.pair_seed.Goals as goal

-- two bytes put at place 28, then two at place 30
both_put : (base once twice : List ℕ) (u v : ℕ) → length base ≡ 32 → once ≡ take 28 base ++ to_be_bytes w16 u ++ drop 30 base
    → twice ≡ take 30 once ++ to_be_bytes w16 v ++ drop 32 once → twice ≡ pair_seed base u v
both_put base once twice u v long first second =
    let front : length (take 28 base ++ to_be_bytes w16 u) ≡ 30 = omega (arith, length-append (take 28 base) (to_be_bytes w16 u), length-take 28 base) in
    let kept : take 30 once ≡ take 28 base ++ to_be_bytes w16 u = ap (take 30) first ∙ take_at (take 28 base ++ to_be_bytes w16 u) (drop 30 base) 30 front in
    let whole : length once ≡ 32 = ap length first ∙ length-append (take 28 base ++ to_be_bytes w16 u) (drop 30 base) ∙ omega (arith, length-drop 30 base) in
    let none : drop 32 once ≡ [] = drop_all 32 once (omega arith) in
    second ∙ rw (kept, none) (append-nil (pair_seed base u v))

pub returns : goal.returns
returns c = both_put c.args.base.now _ _ c.args.u c.args.v (omega arith) c.put_short.ensures c.put_short-2.ensures
