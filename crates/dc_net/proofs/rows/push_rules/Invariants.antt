use Rattle.std.proofs.Common.{◌≡◌, ◌+◌, ◌++◌, length, take}
use Rattle.dc_net.specs.Rows.{rule_words}
use Rattle.dc_net.proofs.rows.push_rules.Given as goal

-- the words of the rules so far
abbrev pub invariant-loop-rule : goal.invariant-loop-rule
invariant-loop-rule l = record {
  value : l.list ≡ record { words = l.initial.list.words ++ rule_words (take l.rule-index l.rules) l.words l.n; room = l.initial.list.room };
  count : length l.list.words ≡ length l.initial.list.words + l.rule-index;
}
