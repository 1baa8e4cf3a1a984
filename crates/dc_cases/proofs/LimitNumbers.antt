-- Each limit is the number that the protocol or the program fixes.
use Rattle.std.specs.Prelude.{◌≡◌, [], ◌∷◌, refl}
use Rattle.dc_spec.specs.Limits as limit

-- stations, words, pads
limits_of_nets : limit.most_stations ∷ limit.most_words ∷ limit.most_pads ∷ [] ≡ 256 ∷ 4096 ∷ 67108864 ∷ []
limits_of_nets = refl

-- bytes of a message; values, messages and coins of a stream
limits_of_streams : limit.most_message ∷ limit.most_shorts ∷ limit.most_longs ∷ limit.most_coins ∷ [] ≡ 3838 ∷ 4096 ∷ 256 ∷ 4096 ∷ []
limits_of_streams = refl

-- terms of a script
limit_of_terms : limit.most_terms ≡ 524288
limit_of_terms = refl

-- bytes of a transcript, of a manifest and of a key file
read_limits : limit.transcript_limit ∷ limit.manifest_limit ∷ limit.key_file_limit ∷ [] ≡ 134217728 ∷ 1048576 ∷ 269484032 ∷ []
read_limits = refl

-- bytes of a stream, of a script, of a permutation and of wanted words
read_limits_of_texts : limit.stream_limit ∷ limit.script_limit ∷ limit.permutation_limit ∷ limit.wanted_words_limit ∷ [] ≡ 4194304 ∷ 134217728 ∷ 4096 ∷ 1048576 ∷ []
read_limits_of_texts = refl
