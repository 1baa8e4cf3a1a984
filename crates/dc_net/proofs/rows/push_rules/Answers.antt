use Rattle.std.proofs.Common.{length, subst, sym}
use Rattle.dc_spec.specs.Scripts.{Said}
use Rattle.dc_net.specs.Rows.{IsWithin}
use Rattle.dc_net.proofs.rows.push_rules.Goals as goal

pub rule_word_over-requires-clause-named : goal.rule_word_over-requires-clause-named
rule_word_over-requires-clause-named c =
    (subst (λ (s : Said). IsWithin (length c.args.words.now) c.args.n s) (sym c.rule-item.is)
    (c.requires.within c.loop-rule.rule-index c.rule-item.result c.loop-rule-test.true)).named

pub rule_word_over-requires-clause-places : goal.rule_word_over-requires-clause-places
rule_word_over-requires-clause-places c =
    (subst (λ (s : Said). IsWithin (length c.args.words.now) c.args.n s) (sym c.rule-item.is)
    (c.requires.within c.loop-rule.rule-index c.rule-item.result c.loop-rule-test.true)).places
