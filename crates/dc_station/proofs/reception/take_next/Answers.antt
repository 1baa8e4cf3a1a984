use Rattle.dc_station.proofs.reception.take_next.Goals as goal

pub returns : goal.returns
returns c = record {
  phase = c.take.ensures.phase;
  stands = λ words counted begun. c.take.ensures.stands words (c.begin.ensures.stands words counted begun);
  shows = λ words counted begun. c.take.ensures.step words (c.begin.ensures.stands words counted begun);
}
