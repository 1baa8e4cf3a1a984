-- The files of one station, one after the other.
use Rattle.std.proofs.Common.{ℕ, List, Ok, Err, refl}
use Rattle.dc_spec.specs.Outside.{ShelfState}
use Rattle.dc_spec.specs.Limits.{key_file_limit, stream_limit}
use Rattle.dc_spec.specs.Entries.{Stream}
use Rattle.dc_spec.specs.Pads.{Keys}
use Rattle.dc_net_files.specs.Steps.{makes, Reader, ◌>>=◌, file_step}
use Rattle.dc_net_files.specs.Parts.{keys_in, stream_in}
use Rattle.dc_net_files.specs.Station.{station_step}
use Rattle.dc_net_files.specs.Reading.{Ended}
use Rattle.dc_net_files.specs.declared.fault.NotRead.{NotRead}
use Rattle.dc_net_files.specs.declared.station.StationParts.{StationParts}
use Rattle.dc_net_files.proofs.EndedLemmas.{Reaches-same, Ended-first, Ended-both}

-- what is left to do after each file
abbrev after_stream : Keys → Stream → Reader StationParts
after_stream k s left = makes (record { keys = k; stream = s }) left

abbrev after_keys : List ℕ → Keys → Reader StationParts
after_keys stream_name k given = file_step stream_name stream_limit stream_in given >>= after_stream k

-- no keys were read
pub no_keys : (keys_name stream_name : List ℕ) (s0 s1 : ShelfState) (e : NotRead)
    → Ended (file_step keys_name key_file_limit keys_in) s0 s1 (Err e) → Ended (station_step keys_name stream_name) s0 s1 (Err e)
no_keys keys_name stream_name s0 s1 e p = Ended-first (file_step keys_name key_file_limit keys_in) (after_keys stream_name) s0 s1 e p

-- the keys were read, and no stream
pub no_stream : (keys_name stream_name : List ℕ) (k : Keys) (s0 s1 s2 : ShelfState) (e : NotRead)
    → Ended (file_step keys_name key_file_limit keys_in) s0 s1 (Ok k) → Ended (file_step stream_name stream_limit stream_in) s1 s2 (Err e)
    → Ended (station_step keys_name stream_name) s0 s2 (Err e)
no_stream keys_name stream_name k s0 s1 s2 e p q =
    Ended-both (file_step keys_name key_file_limit keys_in) (after_keys stream_name) s0 s1 s2 k (Err e) p
    (Ended-first (file_step stream_name stream_limit stream_in) (after_stream k) s1 s2 e q)

-- both were read
pub both_read : (keys_name stream_name : List ℕ) (k : Keys) (s : Stream) (s0 s1 s2 : ShelfState)
    → Ended (file_step keys_name key_file_limit keys_in) s0 s1 (Ok k) → Ended (file_step stream_name stream_limit stream_in) s1 s2 (Ok s)
    → Ended (station_step keys_name stream_name) s0 s2 (Ok (record { keys = k; stream = s }))
both_read keys_name stream_name k s s0 s1 s2 p q =
    Ended-both (file_step keys_name key_file_limit keys_in) (after_keys stream_name) s0 s1 s2 k (Ok (record { keys = k; stream = s })) p
    (Ended-both (file_step stream_name stream_limit stream_in) (after_stream k) s1 s2 s2 s (Ok (record { keys = k; stream = s })) q
    (Reaches-same (after_stream k s) (makes (record { keys = k; stream = s })) s2 (λ more. refl)))
