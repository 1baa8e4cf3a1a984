use Rattle.std.proofs.Common.{◌≡◌, ℕ, ◌+◌, ◌*◌, ◌-◌, ◌<◌, not, Bool, true, false, List, length, drop, get_or, slice_index, sym, ◌∙◌, ap, subst, arith}
use Rattle.std.specs.List.{filter, range_with_len}
use Rattle.std.proofs.lemmas.List.{get_or_default}
use Rattle.dc_spec.specs.Lists.{is_among}
use Rattle.dc_spec.specs.Net.{Net, Run}
use Rattle.dc_net_rules.specs.Runs.{honest_stations}
use Rattle.dc_net.proofs.RowWalk.{passing, passed_over}
use Rattle.dc_twin.specs.Demands.{station_demands, words_at}
use Rattle.dc_twin.proofs.Rows.{items_more}
use Rattle.dc_twin.proofs.Received.{delivered-size}
use Rattle.dc_twin.proofs.Origins.{origin-below, origin-honest, column-is, member-column, length-words_at}
use Rattle.dc_twin.proofs.demanding.demand_columns.Goals.{then-holds+in_ok-push, else-holds+in_ok-received+in_ok-column+in_ok-push-2}
use Rattle.dc_twin.proofs.demanding.demand_columns.Goals as goal

-- what the test of a member found
tested : (net : Net) (members : List ℕ) (i : ℕ) (b c : Bool) → members ≡ net.coalition → b ≡ is_among members i → b ≡ c → is_among net.coalition i ≡ c
tested net members i b c same is was = sym (ap (λ (ms : List ℕ). is_among ms i) same) ∙ sym is ∙ was

-- an item that was read
item : (os : List ℕ) (at i o : ℕ) → at ≡ i → o ≡ get_or os at o → i < length os → o ≡ slice_index os i
item os at i o place is low = is ∙ ap (λ (k : ℕ). get_or os k o) place ∙ get_or_default os i o 0 low

-- the place of an honest station
placed : (net : Net) (i j : ℕ) → i < net.stations → drop j (honest_stations net) ≡ filter (λ k. not (is_among net.coalition k)) (range_with_len i (net.stations - i))
    → is_among net.coalition i ≡ false
    → (j < length (honest_stations net)) × ((get_or (honest_stations net) j 0 ≡ i) × (drop (j + 1) (honest_stations net)
    ≡ filter (λ k. not (is_among net.coalition k)) (range_with_len (i + 1) (net.stations - (i + 1)))))
placed net i j low left honest = passing (λ k. not (is_among net.coalition k)) (honest_stations net) net.stations i j low left (ap not honest)

-- the words of a place, by what is known of each argument
heard : (rows own count all j : ℕ) (words delivered received : List (List ℕ)) → rows ≡ own → count ≡ all → words ≡ delivered → received ≡ words_at rows count j words
    → received ≡ words_at own all j delivered
heard rows own count all j words delivered received many counted same is =
    is ∙ ap (λ (r : ℕ). words_at r count j words) many ∙ ap (λ (m : ℕ). words_at own m j words) counted ∙ ap (λ (ws : List (List ℕ)). words_at own all j ws) same

pub words_at-requires-clause-place : goal.words_at-requires-clause-place
words_at-requires-clause-place c =
    let stations = c.stations-stations.ensures.value ∙ ap (λ (n : Net). n.stations) c.net.view_is in
    let low : c.loop-i.i < c.args.net.now.stations = let less = c.loop-i-test.true in omega arith in
    let honest = tested c.args.net.now _ c.loop-i.i _ false (ap (λ (n : Net). n.coalition) c.net.view_is) c.holds.ensures.value c.if-holds.false in
    let place = (placed c.args.net.now c.loop-i.i c.loop-i.place low c.loop-i.invariant.left honest).0 in
    let count = c.honest_count-count.ensures in omega arith

pub words_at-requires-clause-rows : goal.words_at-requires-clause-rows
words_at-requires-clause-rows c =
    let size = delivered-size c.args.net.now in
    let same = c.as_slice-delivered.ensures ∙ ap (λ (r : Run). r.delivered) (c.run.view_is ∙ c.requires.run) in
    let long : length c.as_slice-delivered.result.now ≡ c.session_words-words.result * c.honest_count-count.result =
    ap (λ (ws : List (List ℕ)). length ws) same ∙ size ∙ sym (ap (λ (m : ℕ). m * length (honest_stations c.args.net.now)) c.session_words-words.ensures.value)
    ∙ sym (ap (λ (m : ℕ). c.session_words-words.result * m) c.honest_count-count.ensures) in omega arith

pub column-requires-clause-origin : goal.column-requires-clause-origin
column-requires-clause-origin c =
    let stations = c.stations-stations.ensures.value ∙ ap (λ (n : Net). n.stations) c.net.view_is in
    let low : c.loop-i.i < c.args.net.now.stations = let less = c.loop-i-test.true in omega arith in
    let honest = tested c.args.net.now _ c.loop-i.i _ false (ap (λ (n : Net). n.coalition) c.net.view_is) c.holds.ensures.value c.if-holds.false in
    let os = c.in_ok-origins.origins.items in
    let table = c.in_ok-origins.ensures.origins in
    let is = item c.in_ok-origins.origins.items c.from-else-holds.result c.loop-i.i c.index-origin.result.now c.from-else-holds.ensures c.index-origin.ensures
    (let count = c.in_ok-origins.ensures.count in let all = c.requires.permutation.count in omega arith) in (
      subst (λ (z : ℕ). z < c.args.net.now.stations) (sym is) (origin-below c.args.net.now c.args.perm.now os c.requires.permutation table c.loop-i.i low),
      ap (is_among c.args.net.now.coalition) is ∙ origin-honest c.args.net.now c.args.perm.now os c.requires.permutation table c.loop-i.i low honest,
    )

pub column-requires-clause-received : goal.column-requires-clause-received
column-requires-clause-received c =
    let long = ap (λ (ws : List (List ℕ)). length ws) (c.deref.ensures.value ∙ c.in_ok-received.ensures)
    ∙ length-words_at c.session_words-words.result c.honest_count-count.result c.loop-i.place c.as_slice-delivered.result.now in
    let some = c.session_words-words.ensures.some in
    let most = c.session_words-words.ensures.most in (omega arith, omega arith)

pub loop-i-preserved : goal.loop-i-preserved
loop-i-preserved c =
    let net = c.args.net.now in
    let p = c.args.perm.now in
    let stations = c.stations-stations.ensures.value ∙ ap (λ (n : Net). n.stations) c.net.view_is in
    let low : c.loop-i.i < c.args.net.now.stations = let less = c.loop-i-test.true in omega arith in
    let coalition = ap (λ (n : Net). n.coalition) c.net.view_is in
    let inv = c.loop-i.invariant in
    elim c.if-holds.branch [
      | then-holds+in_ok-push w ↦ (let member = tested c.args.net.now _ c.loop-i.i _ true coalition c.holds.ensures.value w.if-holds.true in record {
        left = ap (λ (k : ℕ). drop k (honest_stations c.args.net.now)) w.place-is
            ∙ passed_over (λ k. not (is_among c.args.net.now.coalition k)) (honest_stations c.args.net.now) c.args.net.now.stations c.loop-i.i c.loop-i.place low inv.left (ap not member);
        few = let e = w.place-is in let f = inv.few in omega arith;
        columns = ap (λ v. v.items) w.columns-is ∙ items_more (station_demands net p) c.loop-i.i _ _ _ inv.columns
            (w.from_vec.ensures ∙ w.new.ensures.items ∙ member-column net p c.loop-i.i member) w.in_ok-push.ensures.items;
      })
      | else-holds+in_ok-received+in_ok-column+in_ok-push-2 w ↦ (let honest = tested c.args.net.now _ c.loop-i.i _ false coalition c.holds.ensures.value w.if-holds.false in
          let at = placed c.args.net.now c.loop-i.i c.loop-i.place low inv.left honest in
          let origin = item c.in_ok-origins.origins.items w.from-else-holds.result c.loop-i.i w.index-origin.result.now w.from-else-holds.ensures w.index-origin.ensures
          (let count = c.in_ok-origins.ensures.count in let all = c.requires.permutation.count in omega arith) in
          let words = heard _ _ _ _ c.loop-i.place _ _ _ c.session_words-words.ensures.value c.honest_count-count.ensures
          (w.as_slice-delivered.ensures ∙ ap (λ (r : Run). r.delivered) (c.run.view_is ∙ c.requires.run)) (w.deref.ensures.value ∙ w.in_ok-received.ensures) in
          record {
            left = ap (λ (k : ℕ). drop k (honest_stations c.args.net.now)) w.place-is ∙ at.1.1;
            few = let e = w.place-is in let f = inv.few in omega arith;
            columns = ap (λ v. v.items) w.columns-is ∙ items_more (station_demands net p) c.loop-i.i _ _ _ inv.columns
                (column-is net p c.in_ok-origins.origins.items c.loop-i.i c.loop-i.place w.index-origin.result.now w.deref.result.now _ c.requires.permutation
                c.in_ok-origins.ensures.origins low honest at.0 at.1.0 origin words w.in_ok-column.ensures) w.in_ok-push-2.ensures.items;
          })
    ]
