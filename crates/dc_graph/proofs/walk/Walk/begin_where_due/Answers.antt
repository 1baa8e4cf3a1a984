use Rattle.std.proofs.Common.{◌≡◌, ◌∙◌, ◌≤◌, not, find, Some, None, length, sym, ap, arith}
use Rattle.std.specs.List.{range_with_len}
use Rattle.dc_graph.specs.Walk.{edge_at, is_found}
use Rattle.dc_graph.proofs.WalkSteps.{IsOneMore, root_can, none_missing, one_more, on_ok}
use Rattle.dc_graph.proofs.walk.Walk.begin_where_due.Goals as goal

pub put-requires : goal.put-requires
put-requires c =
    let is : find (λ v. not (is_found c.args.self.now.found.items v)) (range_with_len 0 c.args.n) ≡ Some c.in-Some.root =
    ap (λ xs. find (λ v. not (is_found xs v)) (range_with_len 0 c.args.n)) (sym c.deref.ensures.value) ∙ sym c.first_missing.ensures ∙ c.in-Some.is in
    let past : length c.args.self.now.order.items ≤ c.args.head = omega (arith, c.len.ensures, c.from.ensures, c.if-from-len.false) in
    let can = root_can (edge_at c.args.n c.args.table.now) c.args.n c.args.head c.args.self.now.order.items c.args.self.now.found.items c.requires.walk past c.in-Some.root is in
    let low = can.1 in
    let wide = c.requires.walk.wide in
    omega arith

pub returns-in-Some-clause-walk : goal.returns-in-Some-clause-walk
returns-in-Some-clause-walk c =
    let is : find (λ v. not (is_found c.args.self.now.found.items v)) (range_with_len 0 c.args.n) ≡ Some c.in-Some.root =
    ap (λ xs. find (λ v. not (is_found xs v)) (range_with_len 0 c.args.n)) (sym c.deref.ensures.value) ∙ sym c.first_missing.ensures ∙ c.in-Some.is in
    let past : length c.args.self.now.order.items ≤ c.args.head = omega (arith, c.len.ensures, c.from.ensures, c.if-from-len.false) in
    let can = root_can (edge_at c.args.n c.args.table.now) c.args.n c.args.head c.args.self.now.order.items c.args.self.now.found.items c.requires.walk past c.in-Some.root is in
    on_ok c.put.result (λ set put.
    let one : IsOneMore c.args.self.now.order.items c.put.new.self.order.items c.args.self.now.found.items c.put.new.self.found.items c.in-Some.root c.in-Some.root 0 =
    record { missing = can.0; within = (let low = can.1 in let wide = c.requires.walk.wide in omega arith); order_is = put; found_is = set } in
    one_more (edge_at c.args.n c.args.table.now) c.args.n c.args.head one c.requires.head can.2 c.requires.walk) c.put.ensures.found c.put.ensures.order

pub returns-in-None-clause-head : goal.returns-in-None-clause-head
returns-in-None-clause-head c =
    let is : find (λ v. not (is_found c.args.self.now.found.items v)) (range_with_len 0 c.args.n) ≡ None =
    ap (λ xs. find (λ v. not (is_found xs v)) (range_with_len 0 c.args.n)) (sym c.deref.ensures.value) ∙ sym c.first_missing.ensures ∙ c.in-None.is in
    let whole = none_missing (edge_at c.args.n c.args.table.now) c.args.n c.args.head c.args.self.now.order.items c.args.self.now.found.items c.requires.walk is in
    let low = c.requires.within in
    omega arith
