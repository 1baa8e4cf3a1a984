use Rattle.std.proofs.Common.{◌≡◌, ℕ, ◌+◌, ◌*◌, ◌<◌, Bool, List, [], ◌∷◌, ◌++◌, length, get_or, ap, ◌∙◌, arith}
use Rattle.std.proofs.lemmas.List.{get_or_default}
use Rattle.dc_spec.specs.Words.{zero_word}
use Rattle.dc_spec.specs.Net.{Net}
use Rattle.dc_twin.specs.Edges.{signed, edge_words}
use Rattle.dc_twin.proofs.Rows.{items_more, row_within}
use Rattle.dc_twin.proofs.shifting.edge_words.Goals as goal

-- one word more
word-more : (rows n child t m c : ℕ) (adds : Bool) (sums old new : List (List ℕ)) (w x : List ℕ) → t < rows → child < n → length sums ≡ rows * n → m ≡ n → c ≡ child
    → w ≡ get_or sums (t * m + c) w → x ≡ signed adds w → old ≡ edge_words t n child adds sums → new ≡ old ++ x ∷ [] → new ≡ edge_words (t + 1) n child adds sums
word-more rows n child t m c adds sums old new w x low within size wide place at is before more =
    let here : w ≡ get_or sums (t * n + child) zero_word =
    at ∙ ap (λ (k : ℕ). get_or sums (t * k + c) w) wide ∙ ap (λ (k : ℕ). get_or sums (t * n + k) w) place
    ∙ get_or_default sums (t * n + child) w zero_word (row_within rows n t child (length sums) low within (omega arith)) in
    items_more (λ k. signed adds (get_or sums (k * n + child) zero_word)) t old new x before (is ∙ ap (signed adds) here) more

pub loop-t-preserved : goal.loop-t-preserved
loop-t-preserved c =
    let rounds = c.from-rounds.ensures ∙ ap (λ (n : Net). n.words) c.net.view_is in
    let wide = c.from-n.ensures ∙ c.stations.ensures.value ∙ ap (λ (n : Net). n.stations) c.net.view_is in
    word-more c.args.net.now.words c.args.net.now.stations c.args.child c.loop-t.t c.from-n.result c.from.result c.args.adds c.args.sums.now _ _ _ _
    (let low = c.loop-t-test.true in omega arith) c.requires.child c.requires.sums wide c.from.ensures c.index-sums-t.is c.signed.ensures c.loop-t.invariant c.in_ok-push.ensures.items
