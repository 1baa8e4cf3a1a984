use Rattle.std.proofs.Common.{◌≡◌, ◌+◌, ◌<◌, ◌≤◌, List, [], ◌∷◌, ◌++◌, length, sym, ◌∙◌, ap, subst}
use Rattle.dc_spec.specs.Limits.{most_words, most_terms}
use Rattle.dc_spec.specs.Scripts.{Turn, Script}
use Rattle.dc_formats.specs.ScriptFile.{IsTurn, IsScript, turn_terms, script_terms}
use Rattle.dc_script.proofs.OneMoreRound.{script_and_one}
use Rattle.dc_script.proofs.script.Script.with_round.Goals as goal

pub invariant_of-result : goal.invariant_of-result
invariant_of-result c =
    let v = c.self.inside.version in
    let before = c.self.inside.rounds in
    let round = c.args.round in
    let rounds : c.from_vec.result ≡ before ++ round ∷ [] = c.from_vec.ensures ∙ c.in_ok-push.ensures.items ∙ ap (λ (ts : List Turn). ts ++ round ∷ []) c.into_vec-items.ensures in
    let room : length before < most_words = subst (λ (s : Script). length s.rounds < most_words) (sym c.self.view_is) c.requires.room in
    let turn : IsTurn (length before) round = subst (λ (s : Script). IsTurn (length s.rounds) round) (sym c.self.view_is) c.requires.turn in
    let terms : script_terms before + turn_terms round ≤ most_terms = subst (λ (s : Script). script_terms s.rounds + turn_terms round ≤ most_terms) (sym c.self.view_is) c.requires.terms in
    let first : v ≡ 1 → turn_terms round ≡ 0 = subst (λ (s : Script). s.version ≡ 1 → turn_terms round ≡ 0) (sym c.self.view_is) c.requires.first_version in
    subst (λ (turns : List Turn). IsScript (record { version = v; rounds = turns })) (sym rounds) (script_and_one v before round c.self.invariant room turn terms first)
