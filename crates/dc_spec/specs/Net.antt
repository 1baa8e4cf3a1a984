-- What a net is made of, and what a run of it records.
use Rattle.std.specs.Prelude.{ℕ, List, Option}
use Rattle.dc_spec.specs.Entries.{Entry, Stream}
use Rattle.dc_spec.specs.Scripts.{Script}
use Rattle.dc_spec.specs.Pads.{Keys}

-- a net: the number of stations, the edges of the key graph, the coalition's stations, the pads, a
-- stream for each station that has one, the coalition's script, the number of words of a session
pub record Net : Type 0 where
  pub stations : ℕ
  pub edges : List (ℕ × ℕ)
  pub coalition : List ℕ
  pub keys : Keys
  pub streams : List (Option Stream)
  pub script : Script
  pub words : ℕ

-- a run: all words, those of a round by station; the sum of each round; all received words, those
-- of a round by honest station; and for each honest station its log, its sent entries, and how many
-- values and messages are pending
pub record Run : Type 0 where
  pub words : List (List ℕ)
  pub sums : List (List ℕ)
  pub delivered : List (List ℕ)
  pub logs : List (List Entry)
  pub sents : List (List Entry)
  pub pending : List (ℕ × ℕ)
