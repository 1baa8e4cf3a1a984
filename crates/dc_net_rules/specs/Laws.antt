-- Laws of runs.
use Rattle.std.specs.Prelude.{◌↔◌, IsTrue}
use Rattle.dc_spec.specs.Net.{Net}
use Rattle.dc_net_rules.specs.Runs.{DeliversSums, IsAlike, is_alike}

-- where the script delivers the sum in every round, all honest stations receive alike
abbrev pub SumsAreAlike : Type 0
SumsAreAlike = (net : Net) → DeliversSums net → IsAlike net

-- the test whether all honest stations of a net receive alike is right
abbrev pub AlikeAsComputed : Type 0
AlikeAsComputed = (net : Net) → IsTrue (is_alike net) ↔ IsAlike net
