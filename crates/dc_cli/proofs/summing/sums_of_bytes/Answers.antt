use Rattle.dc_cli.proofs.summing.sums_of_bytes.Goals as goal

pub returns-in-Ok : goal.returns-in-Ok
returns-in-Ok c = record {
  session = c.in-Ok.ensures.sums.0;
  recorded = c.in-Ok.ensures.sums.1;
  spelled = c.in-Ok.ensures.sums.2;
  decoded = c.in-Ok.ensures.sums.3;
  sums = c.in-Ok.ensures.sums.4;
}
