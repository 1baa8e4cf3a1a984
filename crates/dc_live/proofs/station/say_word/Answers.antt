use Rattle.std.proofs.Common.{ap, ◌∙◌, ℕ, List}
use Rattle.dc_spec.specs.Words.{word_add}
use Rattle.dc_station_rules.specs.Stations.{plain_word}
use Rattle.dc_live.proofs.station.say_word.Goals as goal

pub returns : goal.returns
returns g c = record {
  word = c.add-word.result;
  sends = c.send_frame.ensures;
  is = λ stream total keys me words are a b.
      let plain = c.plain.ensures stream total words a in
      let key = c.word.ensures.pairs keys me words are b in
      c.add-word.ensures ∙ ap (λ (x : List ℕ). word_add x c.word.result) plain ∙ ap (λ (x : List ℕ). word_add (plain_word stream words) x) key;
}
