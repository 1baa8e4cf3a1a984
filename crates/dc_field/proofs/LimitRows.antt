-- Each limit with its number, as the specification and as the code writes it, by computation.
use Rattle.std.proofs.Common.{◌≡◌, refl}
use Rattle.dc_spec.specs.Limits.{most_stations, most_words, most_pads, most_message, most_shorts, most_longs, most_coins, most_terms, transcript_limit, manifest_limit, key_file_limit, stream_limit, script_limit, permutation_limit, wanted_words_limit}
use Rattle.dc_field.specs.declared.limits.TheConstants.{MOST_STATIONS, MOST_WORDS, MOST_PADS, MOST_MESSAGE, MOST_SHORTS, MOST_LONGS, MOST_COINS, MOST_TERMS, TRANSCRIPT_LIMIT, MANIFEST_LIMIT, KEY_FILE_LIMIT, STREAM_LIMIT, SCRIPT_LIMIT, PERMUTATION_LIMIT, WANTED_WORDS_LIMIT}

most_stations-number : most_stations ≡ 256
most_stations-number = refl

MOST_STATIONS-number : MOST_STATIONS ≡ 256
MOST_STATIONS-number = refl

most_words-number : most_words ≡ 4096
most_words-number = refl

MOST_WORDS-number : MOST_WORDS ≡ 4096
MOST_WORDS-number = refl

most_pads-number : most_pads ≡ 67108864
most_pads-number = refl

MOST_PADS-number : MOST_PADS ≡ 67108864
MOST_PADS-number = refl

most_message-number : most_message ≡ 3838
most_message-number = refl

MOST_MESSAGE-number : MOST_MESSAGE ≡ 3838
MOST_MESSAGE-number = refl

most_shorts-number : most_shorts ≡ 4096
most_shorts-number = refl

MOST_SHORTS-number : MOST_SHORTS ≡ 4096
MOST_SHORTS-number = refl

most_longs-number : most_longs ≡ 256
most_longs-number = refl

MOST_LONGS-number : MOST_LONGS ≡ 256
MOST_LONGS-number = refl

most_coins-number : most_coins ≡ 4096
most_coins-number = refl

MOST_COINS-number : MOST_COINS ≡ 4096
MOST_COINS-number = refl

most_terms-number : most_terms ≡ 524288
most_terms-number = refl

MOST_TERMS-number : MOST_TERMS ≡ 524288
MOST_TERMS-number = refl

transcript_limit-number : transcript_limit ≡ 134217728
transcript_limit-number = refl

TRANSCRIPT_LIMIT-number : TRANSCRIPT_LIMIT ≡ 134217728
TRANSCRIPT_LIMIT-number = refl

manifest_limit-number : manifest_limit ≡ 1048576
manifest_limit-number = refl

MANIFEST_LIMIT-number : MANIFEST_LIMIT ≡ 1048576
MANIFEST_LIMIT-number = refl

key_file_limit-number : key_file_limit ≡ 269484032
key_file_limit-number = refl

KEY_FILE_LIMIT-number : KEY_FILE_LIMIT ≡ 269484032
KEY_FILE_LIMIT-number = refl

stream_limit-number : stream_limit ≡ 4194304
stream_limit-number = refl

STREAM_LIMIT-number : STREAM_LIMIT ≡ 4194304
STREAM_LIMIT-number = refl

script_limit-number : script_limit ≡ 134217728
script_limit-number = refl

SCRIPT_LIMIT-number : SCRIPT_LIMIT ≡ 134217728
SCRIPT_LIMIT-number = refl

permutation_limit-number : permutation_limit ≡ 4096
permutation_limit-number = refl

PERMUTATION_LIMIT-number : PERMUTATION_LIMIT ≡ 4096
PERMUTATION_LIMIT-number = refl

wanted_words_limit-number : wanted_words_limit ≡ 1048576
wanted_words_limit-number = refl

WANTED_WORDS_LIMIT-number : WANTED_WORDS_LIMIT ≡ 1048576
WANTED_WORDS_LIMIT-number = refl
