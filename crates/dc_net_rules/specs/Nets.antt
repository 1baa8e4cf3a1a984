-- What a checked net of the files keeps.
use Rattle.std.specs.Prelude.{◌<◌, ◌≡◌, length, Some, All}
use Rattle.dc_spec.specs.Entries.{Stream}
use Rattle.dc_spec.specs.Net.{Net}
use Rattle.dc_formats.specs.KeyFile.{IsKeys, AreEndsRising}
use Rattle.dc_formats.specs.ScriptFile.{IsScript}
use Rattle.dc_formats.specs.StreamFile.{IsStream}
use Rattle.dc_graph_rules.specs.Graphs.{IsKeyGraph, key_graph}
use Rattle.dc_net_rules.specs.Agreement.{Agrees}

-- a key graph with its edges in order, keys, a script, a place for the stream of each station,
-- members that are stations, and parts that agree
pub record IsNet (net : Net) : Type 0 where
  pub graph : IsKeyGraph (key_graph net)
  pub edges_rise : AreEndsRising net.edges
  pub keys : IsKeys net.keys
  pub script : IsScript net.script
  pub streams : length net.streams ≡ net.stations
  pub are_streams : All (λ place. (s : Stream) → place ≡ Some s → IsStream s) net.streams
  pub members : All (λ m. m < net.stations) net.coalition
  pub agrees : Agrees net
