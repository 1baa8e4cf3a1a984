-- The text of logs: for each honest station the entries of its log, its sent entries, and how many
-- entries are pending.
use Rattle.std.specs.Prelude.{ℕ, List, [], ◌++◌, slice_index_or, codes}
use Rattle.std.specs.List.{flat_map, enumerate_from}
use Rattle.std.specs.Fmt.{decimal}
use Rattle.dc_spec.specs.Text.{line}
use Rattle.dc_spec.specs.Entries.{Entry, short, long}
use Rattle.dc_spec.specs.Net.{Net, Run}
use Rattle.dc_net_rules.specs.Runs.{honest_stations}
use Rattle.dc_formats.specs.TextFile.{hex_text}

-- an entry of the log: a value with how many stations sent it, or a message
abbrev pub log_line : Entry → List ℕ
log_line (short value times) =
    line (codes "log short " ++ decimal times ++ codes " " ++ hex_text value)
log_line (long message) = line (codes "log long " ++ hex_text message)

-- an entry that counts as sent
abbrev pub sent_line : Entry → List ℕ
sent_line (short value times) = line (codes "sent short " ++ hex_text value)
sent_line (long message) = line (codes "sent long " ++ hex_text message)

-- how many shorts and how many longs
abbrev pub pending_line : ℕ → ℕ → List ℕ
pending_line shorts longs = line (codes "pending " ++ decimal shorts ++ codes " " ++ decimal longs)

-- the log text of a station: its number, its log, its sent entries, the numbers of pending shorts
-- and longs
abbrev pub station_text : ℕ → List Entry → List Entry → ℕ × ℕ → List ℕ
station_text i log sent pending =
    line (codes "station " ++ decimal i) ++ flat_map log_line log ++ flat_map sent_line sent
    ++ pending_line pending.0 pending.1

-- the log text of honest station i, before which there are j honest stations
abbrev pub honest_text : Run → ℕ → ℕ → List ℕ
honest_text run j i = station_text i
    (slice_index_or run.logs j []) (slice_index_or run.sents j [])
    (slice_index_or run.pending j (0, 0))

-- the log texts of all honest stations, in rising order
unfoldable pub logs_text : Net → Run → List ℕ
logs_text net run = flat_map (λ h. honest_text run h.0 h.1) (enumerate_from 0 (honest_stations net))
