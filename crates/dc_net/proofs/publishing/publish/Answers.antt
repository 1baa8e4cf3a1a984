use Rattle.std.proofs.Common.{ℕ, List, ◌++◌, length, take, subst, sym, ap, ◌∙◌, All}
use Rattle.dc_net.specs.WordList.{Kept}
use Rattle.dc_net.specs.Rows.{IsWithin, rule_words}
use Rattle.dc_net.proofs.RoundWords.{row_published}
use Rattle.dc_net.proofs.publishing.publish.Goals as goal

pub push_rules-requires-clause-within : goal.push_rules-requires-clause-within
push_rules-requires-clause-within c =
    let long = sym c.push_row.ensures.count ∙ sym (ap (λ (ws : List (List ℕ)). length ws) c.as_slice.ensures) in
    subst (λ (count : ℕ). All (IsWithin count c.args.stations) c.args.says.now) long c.requires.within

pub returns-clause-row : goal.returns-clause-row
returns-clause-row c = λ f are.
    row_published c.args.coalition.now c.args.stations c.args.says.now c.args.words.now.words c.args.honest.now c.push_row.new.words.words c.truncate-2.new.self.words
    c.as_slice-2.result.now c.push_row-2.new.words.words f are
    c.requires.members c.push_row.ensures.row
    (c.as_slice-2.ensures ∙ ap (λ (l : Kept). l.words) c.push_rules.ensures
    ∙ ap (λ (l : Kept). l.words ++ rule_words c.args.says.now c.as_slice.result.now c.args.stations) c.truncate.ensures
    ∙ ap (λ (ws : List (List ℕ)). rule_words c.args.says.now ws c.args.stations) c.as_slice.ensures)
    (ap (λ (l : Kept). l.words) c.truncate-2.ensures ∙ ap (λ (ws : List (List ℕ)). take (length ws) c.push_row.new.words.words) c.as_slice-before.ensures)
    c.push_row-2.ensures.row
