-- The files of one station: the key file, then the stream.
use Rattle.std.specs.Prelude.{ℕ, List}
use Rattle.dc_spec.specs.Limits.{key_file_limit, stream_limit}
use Rattle.dc_net_files.specs.Steps.{makes, Reader, ◌>>=◌, file_step}
use Rattle.dc_net_files.specs.Parts.{keys_in, stream_in}
use Rattle.dc_net_files.specs.declared.station.StationParts.{StationParts}

-- the keys and the stream of the files of these names
abbrev pub station_step : List ℕ → List ℕ → Reader StationParts
station_step keys_name stream_name given =
    file_step keys_name key_file_limit keys_in given >>= λ k left.
    file_step stream_name stream_limit stream_in left >>= λ s left.
    makes (record { keys = k; stream = s }) left
