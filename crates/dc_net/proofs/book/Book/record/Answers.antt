use Rattle.std.proofs.Common.{◌≡◌, ℕ, ◌+◌, ◌*◌, List, ◌++◌, length, drop, subst, sym, ap, ◌∙◌, arith, All}
use Rattle.std.proofs.lemmas.List.{take_rest}
use Rattle.dc_spec.specs.Words.{word_sum}
use Rattle.dc_spec.specs.Net.{Net}
use Rattle.dc_spec.specs.Scripts.{Said, Turn, delivered_words}
use Rattle.dc_script.specs.Delivered.{delivered}
use Rattle.dc_net_rules.specs.Runs.{script_turn, rounds_of, honest_stations}
use Rattle.dc_net_rules.proofs.RoundLemmas.{length-rounds_of}
use Rattle.dc_net.specs.Rows.{IsWithin, AreWordsOf, others_of, row_heard}
use Rattle.dc_net.specs.Run.{honest_word, said_row}
use Rattle.dc_net.proofs.Recording.{words_before, room_for_words, room_for_sums, room_for_delivered, room_for_dealt, IsRecorded-more, IsRecorded-next}
use Rattle.dc_net.proofs.book.Book.record.Goals as goal

-- rules within so many words, those of a round and of so many rounds before it
at_place : (n k before all : ℕ) (listed rules : List Said) → k ≡ n → all ≡ before + n → listed ≡ rules → All (IsWithin (before + n) n) rules
    → All (IsWithin all k) listed
at_place n k before all listed rules stations count same within =
    subst (λ (m : ℕ). All (IsWithin all m) listed) (sym stations)
    (subst (λ (m : ℕ). All (IsWithin m n) listed) (sym count)
    (subst (λ (xs : List Said). All (IsWithin (before + n) n) xs) (sym same) within))

-- the row that was published, in the words of the net
row_is : (net : Net) (before after : List (List ℕ)) (coalition : List ℕ) (n : ℕ) (says turn_says : List Said) → coalition ≡ net.coalition → n ≡ net.stations
    → says ≡ turn_says → (honest : List (List ℕ)) (f : ℕ → List ℕ)
    → ((g : ℕ → List ℕ) → AreWordsOf g (others_of coalition n) honest → after ≡ before ++ said_row coalition n says before g)
    → AreWordsOf f (honest_stations net) honest → after ≡ before ++ said_row net.coalition net.stations turn_says before f
row_is net before after coalition n says turn_says same_coalition same_stations same_says honest f row are =
    let there : AreWordsOf f (others_of coalition n) honest = subst (λ (m : ℕ). AreWordsOf f (others_of coalition m) honest) (sym same_stations)
    (subst (λ (c : List ℕ). AreWordsOf f (others_of c net.stations) honest) (sym same_coalition) are) in
    row f there ∙ ap (λ (c : List ℕ). before ++ said_row c n says before f) same_coalition
    ∙ ap (λ (m : ℕ). before ++ said_row net.coalition m says before f) same_stations
    ∙ ap (λ (s : List Said). before ++ said_row net.coalition net.stations s before f) same_says

pub publish-requires-clause-room : goal.publish-requires-clause-room
publish-requires-clause-room c =
    let stations = c.stations-stations.ensures.value ∙ ap (λ (n : Net). n.stations) c.net.view_is in
    let room = room_for_words c.args.net.now c.args.round c.args.self.now c.requires.words c.requires.recorded in
    omega arith

pub publish-requires-clause-within : goal.publish-requires-clause-within
publish-requires-clause-within c =
    let stations = c.stations-stations.ensures.value ∙ ap (λ (n : Net). n.stations) c.net.view_is in
    let long = words_before c.args.net.now c.args.round c.args.self.now c.requires.recorded in
    let says = c.as_slice.ensures ∙ ap (λ (t : Turn). t.says) (c.turn.view_is ∙ c.turn_of-turn.ensures) in
    at_place c.args.net.now.stations c.stations-stations.result (c.args.round * c.args.net.now.stations) _ _ _ stations
    (omega arith) says c.requires.playable.says

pub push_heard-requires-clause-same : goal.push_heard-requires-clause-same
push_heard-requires-clause-same c =
    let room = room_for_delivered c.args.net.now c.args.round c.args.self.now c.requires.words c.requires.recorded in
    let count = c.requires.count in
    omega arith

pub push_heard-requires-clause-dealt : goal.push_heard-requires-clause-dealt
push_heard-requires-clause-dealt c =
    let room = room_for_dealt c.args.net.now c.args.round c.args.self.now c.requires.words c.requires.recorded c.requires.playable in
    let same = ap (λ (t : Turn). length (delivered_words t.delivery)) (c.turn.view_is ∙ c.turn_of-turn.ensures) in
    omega arith

pub push_heard-requires-clause-within : goal.push_heard-requires-clause-within
push_heard-requires-clause-within c =
    let stations = c.stations-stations.ensures.value ∙ ap (λ (n : Net). n.stations) c.net.view_is in
    let long = words_before c.args.net.now c.args.round c.args.self.now c.requires.recorded in
    let all = ap (λ (ws : List (List ℕ)). length ws) c.as_slice-words.ensures ∙ c.publish.ensures.count in
    at_place c.args.net.now.stations c.stations-stations.result (c.args.round * c.args.net.now.stations) _ _ _ stations (omega arith)
    (ap (λ (t : Turn). delivered_words t.delivery) (c.turn.view_is ∙ c.turn_of-turn.ensures)) c.requires.playable.dealt

pub push-requires : goal.push-requires
push-requires c = room_for_sums c.args.net.now c.args.round c.args.self.now c.requires.words c.requires.recorded

pub returns : goal.returns
returns c =
    let turn : Turn = record { says = c.turn.inside.says; delivery = delivered c.turn.inside.delivery } in
    let turn_is : turn ≡ script_turn c.args.net.now c.args.round = c.turn.view_is ∙ c.turn_of-turn.ensures in
    let stations : c.stations-stations.result ≡ c.args.net.now.stations = c.stations-stations.ensures.value ∙ ap (λ (n : Net). n.stations) c.net.view_is in
    let coalition : c.net.inside.coalition ≡ c.args.net.now.coalition = ap (λ (n : Net). n.coalition) c.net.view_is in
    let says = c.as_slice.ensures in
    let row = row_is c.args.net.now c.args.self.now.words.words c.publish.new.words.words _ _ _ _ coalition stations says c.args.honest.now
    (honest_word c.args.net.now (rounds_of c.args.net.now c.args.round)) c.publish.ensures.row c.requires.honest in
    let sum : c.sum-sum.result ≡ word_sum (drop (length c.args.self.now.words.words) c.as_slice-words.result.now) =
    c.sum-sum.ensures ∙ ap (λ (ws : List (List ℕ)). word_sum ws) (take_rest c.as_slice-words.result.now (length c.as_slice-before.result.now))
    ∙ ap (λ (ws : List (List ℕ)). word_sum (drop (length ws) c.as_slice-words.result.now)) c.as_slice-before.ensures in
    let heard = c.push_heard.ensures
    ∙ ap (λ (n : ℕ). record {
      words = c.args.self.now.delivered.words ++ row_heard
          (delivered c.turn.inside.delivery) c.as_slice-words.result.now n c.sum-sum.result c.args.count;
      room = c.args.self.now.delivered.room;
    }) stations in
    IsRecorded-next c.args.net.now c.args.round
    (record { words = c.publish.new.words; sums = c.push.new.self; delivered = c.push_heard.new.list; said = c.publish.new.said })
    (IsRecorded-more c.args.net.now (rounds_of c.args.net.now c.args.round) c.args.self.now
    (record { words = c.publish.new.words; sums = c.push.new.self; delivered = c.push_heard.new.list; said = c.publish.new.said })
    (record { says = c.turn.inside.says; delivery = delivered c.turn.inside.delivery }) c.as_slice-words.result.now c.sum-sum.result c.args.count c.requires.recorded
    (turn_is ∙ ap (λ (t : ℕ). script_turn c.args.net.now t) (sym (length-rounds_of c.args.net.now c.args.round)))
    (λ dealt is. c.requires.playable.honest dealt (sym (ap (λ (t : Turn). t.delivery) turn_is)
    ∙ is)) c.requires.count row c.publish.ensures.room c.as_slice-words.ensures
    sum heard c.push.ensures c.publish.ensures.said_room)
