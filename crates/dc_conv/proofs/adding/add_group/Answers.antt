use Rattle.std.proofs.Common.{ℕ, ◌+◌, ◌∙◌, ap, get_or, arith}
use Rattle.dc_conv.proofs.Groups.{turned_sum}
use Rattle.dc_conv.proofs.adding.add_group.Goals as goal

pub returns-clause-added : goal.returns-clause-added
returns-clause-added c = λ i lt.
    c.add_products.ensures.added i lt
    ∙ ap (λ (x : ℕ). get_or c.args.sums.now i 0 + x) (turned_sum c.args.second.now c.turned-factors.result c.args.words.now i _ (omega arith) (omega arith) c.turned-factors.ensures.value)
