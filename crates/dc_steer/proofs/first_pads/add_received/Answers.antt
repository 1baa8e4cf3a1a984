use Rattle.std.proofs.Common.{◌≡◌, ℕ, ◌+◌, ◌-◌, ◌*◌, ◌/◌, ◌<◌, ◌≤◌, List, length, get_or, take, drop, sym, ap, ◌∙◌, arith}
use Rattle.dc_steer.proofs.RangeSums.{item_of_piece}
use Rattle.dc_steer.proofs.first_pads.add_received.Goals as goal

-- a sum with the product of a change of a piece of the changes
piece : (now was second : List ℕ) (n later k m received : ℕ) → later ≤ n → k ≤ later → n - later < m
    → get_or now (later + (n - later)) 0 ≡ get_or was (later + (n - later)) 0 + get_or (take m (drop (later - k) second)) (n - later) 0 * received
    → get_or now n 0 ≡ get_or was n 0 + get_or second (n - k) 0 * received
piece now was second n later k m received le before lt added =
    let at : later + (n - later) ≡ n = omega arith in
    let from : later - k + (n - later) ≡ n - k = omega arith in
    let change = item_of_piece second m (later - k) (n - later) lt ∙ ap (λ (i : ℕ). get_or second i 0) from in
    ap (λ (i : ℕ). get_or now i 0) (sym at) ∙ added ∙ ap (λ (i : ℕ). get_or was i 0 + get_or (take m (drop (later - k) second)) (n - later) 0 * received) at
    ∙ ap (λ (x : ℕ). get_or was n 0 + x * received) change

pub returns-clause-added : goal.returns-clause-added
returns-clause-added c = λ n le lt.
    piece c.add_from.new.sums c.args.sums.now c.args.second.now n (16 * (c.args.k / 16 + 1)) c.args.k (length c.args.sums.now - c.args.k - (16 * (c.args.k / 16 + 1) - c.args.k)) c.args.received
    le (omega arith) (omega arith) (c.add_from.ensures.added (n - 16 * (c.args.k / 16 + 1)) (omega arith))
