use Rattle.std.proofs.Common.{refl, sym, ◌∙◌}
use Rattle.dc_cli.proofs.CommandLemmas.{texts-front}
use Rattle.dc_cli.proofs.command.replay_of.Goals as goal

pub returns-in-Ok : goal.returns-in-Ok
returns-in-Ok c =
    let same = c.as_str-in-Ok.ensures.value ∙ sym c.as_str.ensures.value in
    record {
      rest = _;
      words_are = rw (texts-front c.args.rest.now c.net-item.result c.in-len1-up.len_at_least) (rw (← c.net-item.is, ← c.as_str-in-Ok.ensures.value) refl);
      net_is = rw same (sym c.if-is_name.ensures);
      workers_are = c.in-Ok.ensures;
    }
