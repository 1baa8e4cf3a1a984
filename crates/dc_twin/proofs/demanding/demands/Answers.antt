use Rattle.std.proofs.Common.{◌≡◌, ℕ, List, map, ◌∙◌, ap, subst}
use Rattle.std.specs.List.{flat_map, range_with_len}
use Rattle.std.specs.Result.{IfOk}
use Rattle.dc_spec.specs.Net.{Net}
use Rattle.dc_twin.specs.Demands.{station_demands, row_of}
use Rattle.dc_twin.proofs.DemandRows.{rows-are_demands}
use Rattle.dc_twin.proofs.demanding.demands.Goals as goal

-- the rows of these columns, for so many words
rows_made : (net own : Net) (p q : List ℕ) (columns made : List (List (List ℕ))) (words : ℕ) → own ≡ net → q ≡ p → columns ≡ made → words ≡ net.words
    → made ≡ map (station_demands own q) (range_with_len 0 own.stations)
    → flat_map (row_of columns) (range_with_len 0 words) ≡ flat_map (row_of (map (station_demands net p) (range_with_len 0 net.stations))) (range_with_len 0 net.words)
rows_made net own p q columns made words same permuted read many is =
    ap (λ (cs : List (List (List ℕ))). flat_map (row_of cs) (range_with_len 0 words)) (read ∙ is
    ∙ ap (λ (r : List ℕ). map (station_demands own r) (range_with_len 0 own.stations)) permuted
    ∙ ap (λ (n : Net). map (station_demands n p) (range_with_len 0 n.stations)) same)
    ∙ ap (λ (m : ℕ). flat_map (row_of (map (station_demands net p) (range_with_len 0 net.stations))) (range_with_len 0 m)) many

pub returns : goal.returns
returns c =
    let e = rows_made c.args.net.now c.net-net.result.now c.args.perm.now c.as_slice.result.now c.deref.result.now c.in_ok-columns.columns.items c.net.inside.words c.net-net.ensures.value
    c.as_slice.ensures c.deref.ensures.value (ap (λ (n : Net). n.words) (c.net.view_is ∙ c.net-net.ensures.value)) c.in_ok-columns.ensures
    ∙ rows-are_demands c.args.net.now c.args.perm.now c.net-net.ensures.checked c.requires.permutation in
    subst (λ (ws : List (List ℕ)). IfOk c.rows_of.result (λ words. words ≡ ws)) e c.rows_of.ensures
