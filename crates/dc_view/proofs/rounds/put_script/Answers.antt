use Rattle.dc_view.proofs.rounds.put_script.Goals as goal

pub returns : goal.returns
returns g c = rw (← c.script.view_is, ← c.as_slice.ensures) c.put_rounds.ensures
