use Rattle.dc_cli.proofs.refusal_line.put_steer_fault.Goals as goal

pub returns-in-WantedWords : goal.returns-in-WantedWords
returns-in-WantedWords g c = rw (c.in-WantedWords.is, ← c.from.ensures, ← c.from-in-WantedWords.ensures) c.put_two_numbers.ensures
