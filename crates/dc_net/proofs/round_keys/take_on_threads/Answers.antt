use Rattle.dc_net.proofs.KeyStrips.{strip_left}
use Rattle.dc_net.proofs.round_keys.take_on_threads.Goals as goal

pub returns : goal.returns
returns g c = record {
  as_many = c.for_each_mut.auto.s;
  each = λ q d within. let k = (c.for_each_mut.ensures q d within).1 in strip_left c.args.row.now _ _ _ _ k.left k.call k.argument_is;
}
