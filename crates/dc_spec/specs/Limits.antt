-- The limits of a session and of its files. Each is written here and nowhere else in the
-- definitions.
use Rattle.std.specs.Prelude.{ℕ, ◌^◌}

-- how many stations a net has at most
abbrev pub most_stations : ℕ
most_stations = 256

-- how many words, one a round, a session has at most
abbrev pub most_words : ℕ
most_words = 4096

-- how many first and second pads a key file has at most, all pairs together
abbrev pub most_pads : ℕ
most_pads = 2 ^ 26

-- how many bytes a message has at most
abbrev pub most_message : ℕ
most_message = 3838

-- how many values a stream has at most
abbrev pub most_shorts : ℕ
most_shorts = 4096

-- how many messages a stream has at most
abbrev pub most_longs : ℕ
most_longs = 256

-- how many coins a stream has at most
abbrev pub most_coins : ℕ
most_coins = 4096

-- how many terms the rules of a script have at most, all words together
abbrev pub most_terms : ℕ
most_terms = 524288

-- how many bytes of a transcript are read at most
abbrev pub transcript_limit : ℕ
transcript_limit = 134217728

-- how many bytes of a manifest are read at most
abbrev pub manifest_limit : ℕ
manifest_limit = 1048576

-- how many bytes of a key file are read at most
abbrev pub key_file_limit : ℕ
key_file_limit = 269484032

-- how many bytes of a stream are read at most
abbrev pub stream_limit : ℕ
stream_limit = 4194304

-- how many bytes of a script are read at most
abbrev pub script_limit : ℕ
script_limit = 134217728

-- how many bytes of a permutation are read at most
abbrev pub permutation_limit : ℕ
permutation_limit = 4096

-- how many bytes of wanted words are read at most
abbrev pub wanted_words_limit : ℕ
wanted_words_limit = 1048576
