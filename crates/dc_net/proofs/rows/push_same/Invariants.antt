use Rattle.std.proofs.Common.{◌≡◌, ◌+◌, ◌++◌, length, replicate}
use Rattle.dc_net.proofs.rows.push_same.Given as goal

-- the word, so many times so far
abbrev pub invariant-loop : goal.invariant-loop
invariant-loop l = record {
  value : l.list ≡ record { words = l.initial.list.words ++ replicate l.counter l.w; room = l.initial.list.room };
  count : length l.list.words ≡ length l.initial.list.words + l.counter;
}
