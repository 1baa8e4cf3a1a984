use Rattle.std.proofs.Common.{refl, sym}
use Rattle.dc_cli.proofs.CommandLemmas.{texts-front}
use Rattle.dc_cli.proofs.command.trial_among.Goals as goal

pub returns-in-Ok : goal.returns-in-Ok
returns-in-Ok c = (
  refl,
  refl,
  record {
    of_count = c.as_str.result.now;
    rest = _;
    words_are = rw (texts-front c.args.rest.now c.digits-item.result c.in-len1-up.len_at_least) (rw (← c.digits-item.is, ← c.as_str.ensures.value) refl);
    count_is = rw (← c.most_words_of.ensures) (sym c.in-Some.ensures);
    workers_are = c.in-Ok.ensures;
  },
)
