-- Formats computed on whole examples: the expected lines and bytes are written out, and each lemma holds by computation.
use Rattle.std.specs.Prelude.{◌≡◌, true, false, List, [], ◌∷◌, ◌++◌, length, replicate, slice_set, codes, refl}
use Rattle.std.specs.List.{range_with_len}
use Rattle.std.specs.Fmt.{digits}
use Rattle.dc_spec.specs.Words.{word_of, zero_word}
use Rattle.dc_spec.specs.Text.{words_text}
use Rattle.dc_spec.specs.Recorded.{Recorded, superposed, transcript_bytes}
use Rattle.dc_spec.specs.Entries.{Entry, short, long}
use Rattle.dc_spec.specs.Scripts.{all_sum, each, Script}
use Rattle.dc_spec.specs.Pads.{Keys}
use Rattle.dc_spec.specs.Net.{Net, Run}
use Rattle.dc_formats.specs.TextFile.{text_file, hex_text, ended, cut_off, file_lines}
use Rattle.dc_formats.specs.KeyFile.{keys_bytes}
use Rattle.dc_formats.specs.SeedFile.{seeds_bytes}
use Rattle.dc_formats.specs.StreamFile.{stream_text}
use Rattle.dc_formats.specs.ScriptFile.{is_before, term_order, script_text}
use Rattle.dc_formats.specs.ListFiles.{images_text, wanted_text}
use Rattle.dc_spec.specs.Frames.{hello, send, all}
use Rattle.dc_formats.specs.Frames.{frame_bytes}
use Rattle.dc_run_texts.specs.View.{view_text}
use Rattle.dc_run_texts.specs.Logs.{logs_text}
use Rattle.dc_twin_rules.specs.Shifts.{shifts_text}
use Rattle.dc_steering_rules.specs.Steerings.{Steering}
use Rattle.dc_steering_rules.specs.SteeringText.{steering_text}
use Rattle.dc_run_texts.specs.Trial.{trial_text}
use Rattle.dc_cases.proofs.SharedValues.{two_ends, small_value, first_version, constant, term_of, dealing, exchange, zero_pair, nothing}

-- a text file is its lines, each with a line feed
lines_and_ends : text_file (codes "ab" ∷ [] ∷ codes "~" ∷ []) ≡ 97 ∷ 98 ∷ 10 ∷ 10 ∷ 126 ∷ 10 ∷ []
lines_and_ends = refl

-- the lines of any file: the last one may have no end
lines_of_bytes : file_lines (97 ∷ 98 ∷ 10 ∷ 10 ∷ 99 ∷ []) ≡ ended (codes "ab") ∷ ended [] ∷ cut_off (codes "c") ∷ []
lines_of_bytes = refl

-- two digits a byte
payload_digits : hex_text (0 ∷ 10 ∷ 171 ∷ 255 ∷ []) ≡ codes "000aabff"
payload_digits = refl

-- a session of one round: one station says sixteen times 65536, the other sixteen times 1
abbrev pub opposite_words : Recorded
opposite_words = record { stations = 2; rounds = 1; words = replicate 16 65536 ∷ replicate 16 1 ∷ [] }

-- their sum is zero, printed as eighty zeros
printed_sum_of_opposite_words : words_text (superposed opposite_words) ≡ text_file (codes "00000000000000000000000000000000000000000000000000000000000000000000000000000000" ∷ [])
unfolding word_of
printed_sum_of_opposite_words = refl

-- the file of that session
transcript_of_opposite_words : transcript_bytes opposite_words ≡ codes "DCT1" ++ 0 ∷ 2 ∷ 0 ∷ 1 ∷ [] ++ (0 ∷ 1 ∷ 0 ∷ 0 ∷ 0 ∷ 1 ∷ 0 ∷ 0 ∷ 0 ∷ 1 ∷ 0 ∷ 0 ∷ 0 ∷ 1 ∷ 0 ∷ 0 ∷ 0 ∷ 1 ∷ 0 ∷ 0 ∷ 0 ∷ 1 ∷ 0 ∷ 0
    ∷ 0 ∷ 1 ∷ 0 ∷ 0 ∷ 0 ∷ 1 ∷ 0 ∷ 0 ∷ 0 ∷ 1 ∷ 0 ∷ 0 ∷ 0 ∷ 1 ∷ 0 ∷ 0 ∷ 0 ∷ 1 ∷ 0 ∷ 0 ∷ 0 ∷ 1 ∷ 0 ∷ 0 ∷ 0 ∷ 1 ∷ 0 ∷ 0 ∷ 0 ∷ 1 ∷ 0 ∷ 0 ∷ 0 ∷ 1 ∷ 0 ∷ 0 ∷ 0 ∷ 1 ∷ 0 ∷ 0 ∷ [])
    ++ (0 ∷ 0 ∷ 0 ∷ 1 ∷ 0 ∷ 0 ∷ 0 ∷ 1 ∷ 0 ∷ 0 ∷ 0 ∷ 1 ∷ 0 ∷ 0 ∷ 0 ∷ 1 ∷ 0 ∷ 0 ∷ 0 ∷ 1 ∷ 0 ∷ 0 ∷ 0 ∷ 1 ∷ 0 ∷ 0 ∷ 0 ∷ 1 ∷ 0 ∷ 0 ∷ 0 ∷ 1 ∷ 0 ∷ 0 ∷ 0 ∷ 1 ∷ 0 ∷ 0 ∷ 0 ∷ 1 ∷ 0 ∷ 0 ∷ 0 ∷ 1 ∷ 0 ∷ 0 ∷ 0 ∷ 1
    ∷ 0 ∷ 0 ∷ 0 ∷ 1 ∷ 0 ∷ 0 ∷ 0 ∷ 1 ∷ 0 ∷ 0 ∷ 0 ∷ 1 ∷ 0 ∷ 0 ∷ 0 ∷ 1 ∷ [])
transcript_of_opposite_words = refl

-- a session of one station and one round
abbrev pub lone_word : Recorded
lone_word = record { stations = 1; rounds = 1; words = two_ends 1 2 ∷ [] }

-- the file that a hub writes of it
transcript_of_lone_word : transcript_bytes lone_word ≡ (68 ∷ 67 ∷ 84 ∷ 49 ∷ 0 ∷ 1 ∷ 0 ∷ 1 ∷ []) ++ (0 ∷ 0 ∷ 0 ∷ 1 ∷ 0 ∷ 0 ∷ 0 ∷ 0 ∷ 0 ∷ 0 ∷ 0 ∷ 0 ∷ 0 ∷ 0 ∷ 0 ∷ 0 ∷ 0 ∷ 0 ∷ 0 ∷ 0 ∷ 0 ∷ 0 ∷ 0 ∷ 0 ∷ 0
    ∷ 0 ∷ 0 ∷ 0 ∷ 0 ∷ 0 ∷ 0 ∷ 0 ∷ 0 ∷ 0 ∷ 0 ∷ 0 ∷ 0 ∷ 0 ∷ 0 ∷ 0 ∷ 0 ∷ 0 ∷ 0 ∷ 0 ∷ 0 ∷ 0 ∷ 0 ∷ 0 ∷ 0 ∷ 0 ∷ 0 ∷ 0 ∷ 0 ∷ 0 ∷ 0 ∷ 0 ∷ 0 ∷ 0 ∷ 0 ∷ 0 ∷ 0 ∷ 0 ∷ 0 ∷ 2 ∷ [])
transcript_of_lone_word = refl

-- what a hub prints of it
printed_lone_word : words_text (superposed lone_word) ≡ text_file (codes "00001000000000000000000000000000000000000000000000000000000000000000000000000002" ∷ [])
unfolding word_of
printed_lone_word = refl

-- the greeting of station 0 of 2 in a session of 2 words
greeting_frame : frame_bytes (hello 0 2 2) ≡ (1 ∷ 0 ∷ 6 ∷ 0 ∷ 0 ∷ 0 ∷ 2 ∷ 0 ∷ 2 ∷ [])
greeting_frame = refl

-- a station's zero word of round 1
sent_frame : frame_bytes (send 1 zero_word) ≡ (2 ∷ 0 ∷ 66 ∷ 0 ∷ 1 ∷ 0 ∷ 0 ∷ 0 ∷ 0 ∷ 0 ∷ 0 ∷ 0 ∷ 0 ∷ 0 ∷ 0 ∷ 0 ∷ 0 ∷ 0 ∷ 0 ∷ 0 ∷ 0 ∷ 0 ∷ 0 ∷ 0 ∷ 0 ∷ 0 ∷ 0 ∷ 0 ∷ 0 ∷ 0 ∷ 0 ∷ 0 ∷ 0 ∷ 0 ∷ 0 ∷ 0 ∷ 0 ∷ 0
    ∷ 0 ∷ 0 ∷ 0 ∷ 0 ∷ 0 ∷ 0 ∷ 0 ∷ 0 ∷ 0 ∷ 0 ∷ 0 ∷ 0 ∷ 0 ∷ 0 ∷ 0 ∷ 0 ∷ 0 ∷ 0 ∷ 0 ∷ 0 ∷ 0 ∷ 0 ∷ 0 ∷ 0 ∷ 0 ∷ 0 ∷ 0 ∷ 0 ∷ 0 ∷ 0 ∷ 0 ∷ [])
unfolding word_of
sent_frame = refl

-- the sum of round 0
broadcast_frame : frame_bytes (all 0 (two_ends 1 2)) ≡ (3 ∷ 0 ∷ 66 ∷ 0 ∷ 0 ∷ 0 ∷ 0 ∷ 0 ∷ 1 ∷ 0 ∷ 0 ∷ 0 ∷ 0 ∷ 0 ∷ 0 ∷ 0 ∷ 0 ∷ 0 ∷ 0 ∷ 0 ∷ 0 ∷ 0 ∷ 0 ∷ 0 ∷ 0 ∷ 0 ∷ 0 ∷ 0 ∷ 0 ∷ 0 ∷ 0 ∷ 0 ∷ 0 ∷ 0 ∷ 0 ∷ 0
    ∷ 0 ∷ 0 ∷ 0 ∷ 0 ∷ 0 ∷ 0 ∷ 0 ∷ 0 ∷ 0 ∷ 0 ∷ 0 ∷ 0 ∷ 0 ∷ 0 ∷ 0 ∷ 0 ∷ 0 ∷ 0 ∷ 0 ∷ 0 ∷ 0 ∷ 0 ∷ 0 ∷ 0 ∷ 0 ∷ 0 ∷ 0 ∷ 0 ∷ 0 ∷ 0 ∷ 0 ∷ 0 ∷ 2 ∷ [])
broadcast_frame = refl

-- a message and two coins
stream_with_a_message : stream_text (record { shorts = []; longs = (170 ∷ []) ∷ []; coins = 5 ∷ 5 ∷ [] }) ≡ text_file (codes "long aa" ∷ codes "coin 5" ∷ codes "coin 5" ∷ [])
unfolding digits
stream_with_a_message = refl

-- two values, a message of no bytes, the greatest coin
stream_of_all_kinds : stream_text (record { shorts = small_value 1 ∷ small_value 171 ∷ []; longs = [] ∷ []; coins = 15 ∷ [] }) ≡ text_file (codes "short 000000000000000000000000000001"
    ∷ codes "short 0000000000000000000000000000ab" ∷ codes "long " ∷ codes "coin 15" ∷ [])
unfolding digits
stream_of_all_kinds = refl

-- the empty stream is the empty file
empty_stream : stream_text nothing ≡ []
empty_stream = refl

-- one member that says zero words; in the first round the other two stations receive different words
abbrev pub dealing_script : Script
dealing_script = first_version (dealing (two_ends 0 2) (two_ends 0 3) ∷ dealing zero_word zero_word ∷ [])

-- its file
dealing_script_file : script_text dealing_script ≡ text_file (codes "dcscript 1" ∷ codes "round 0" ∷ codes "say 2 00000000000000000000000000000000000000000000000000000000000000000000000000000000"
    ∷ codes "to 0 00000000000000000000000000000000000000000000000000000000000000000000000000000002" ∷ codes "to 1 00000000000000000000000000000000000000000000000000000000000000000000000000000003"
    ∷ codes "round 1" ∷ codes "say 2 00000000000000000000000000000000000000000000000000000000000000000000000000000000"
    ∷ codes "to 0 00000000000000000000000000000000000000000000000000000000000000000000000000000000" ∷ codes "to 1 00000000000000000000000000000000000000000000000000000000000000000000000000000000"
    ∷ [])
unfolding word_of digits
dealing_script_file = refl

-- a round in which nobody is in the coalition
quiet_script_file : script_text (first_version (record { says = []; delivery = all_sum } ∷ [])) ≡ text_file (codes "dcscript 1" ∷ codes "round 0" ∷ codes "all" ∷ [])
unfolding digits
quiet_script_file = refl

-- a script of no rounds
empty_script_file : script_text (first_version []) ≡ text_file (codes "dcscript 1" ∷ [])
unfolding digits
empty_script_file = refl

-- version 2: in the first round a member's word has two terms, in the second one of the delivered words has one
abbrev pub ruled_script : Script
ruled_script = record {
  version = 2;
  rounds = record { says = record (constant 2 zero_word) { terms = term_of 0 2 0 0 15 ∷ term_of 15 65536 1 0 0 ∷ [] } ∷ []; delivery = all_sum }
      ∷ record { says = constant 2 zero_word ∷ []; delivery = each (record (constant 0 (two_ends 0 2)) { terms = term_of 3 255 2 1 7 ∷ [] } ∷ constant 1 (two_ends 0 3) ∷ []) } ∷ [];
}

-- its file
ruled_script_file : script_text ruled_script ≡ text_file (codes "dcscript 2" ∷ codes "round 0" ∷ codes "say 2 00000000000000000000000000000000000000000000000000000000000000000000000000000000"
    ∷ codes "add 0 00002 0 0 15" ∷ codes "add 15 10000 1 0 0" ∷ codes "all" ∷ codes "round 1" ∷ codes "say 2 00000000000000000000000000000000000000000000000000000000000000000000000000000000"
    ∷ codes "to 0 00000000000000000000000000000000000000000000000000000000000000000000000000000002" ∷ codes "add 3 000ff 2 1 7"
    ∷ codes "to 1 00000000000000000000000000000000000000000000000000000000000000000000000000000003" ∷ [])
unfolding word_of digits
ruled_script_file = refl

-- terms are in order by the symbol that gains, then by station, round and symbol; the factor does not count
order_of_terms : is_before (term_order (term_of 0 9 5 5 5)) (term_order (term_of 1 1 0 0 0)) ∷ is_before (term_order (term_of 1 1 4 9 9)) (term_order (term_of 1 1 5 0 0))
    ∷ is_before (term_order (term_of 1 1 4 9 0)) (term_order (term_of 1 1 4 8 5)) ∷ is_before (term_order (term_of 1 1 4 9 5)) (term_order (term_of 1 1 4 9 6))
    ∷ is_before (term_order (term_of 1 1 4 9 5)) (term_order (term_of 1 2 4 9 5)) ∷ [] ≡ true ∷ true ∷ false ∷ true ∷ false ∷ []
order_of_terms = refl

-- stations 0 and 2 change places
images_file : images_text exchange ≡ text_file (codes "2" ∷ codes "1" ∷ codes "0" ∷ codes "3" ∷ [])
unfolding digits
images_file = refl

-- one wanted word
wanted_file : wanted_text (two_ends 7 9 ∷ []) ≡ text_file (codes "00007000000000000000000000000000000000000000000000000000000000000000000000000009" ∷ [])
wanted_file = refl

-- a key file of one pair and one word: first pads 1 to 16, second pads 0, 65536 and zeros
abbrev pub small_keys : Keys
small_keys = record {
  stations = 3;
  words = 1;
  pairs = record { u = 0; v = 2; a = range_with_len 1 16; b = 0 ∷ 65536 ∷ replicate 14 0 } ∷ [];
}

-- its bytes
small_key_file : keys_bytes small_keys ≡ (68 ∷ 67 ∷ 75 ∷ 1 ∷ 0 ∷ 3 ∷ 0 ∷ 1 ∷ 0 ∷ 0 ∷ 0 ∷ 1 ∷ 0 ∷ 0 ∷ 0 ∷ 2 ∷ 0 ∷ 0 ∷ 0 ∷ 1 ∷ 0 ∷ 0 ∷ 0 ∷ 2 ∷ 0 ∷ 0 ∷ 0 ∷ 3 ∷ 0 ∷ 0 ∷ 0 ∷ 4 ∷ 0 ∷ 0 ∷ 0 ∷ 5 ∷ 0 ∷ 0 ∷ 0
    ∷ 6 ∷ 0 ∷ 0 ∷ 0 ∷ 7 ∷ 0 ∷ 0 ∷ 0 ∷ 8 ∷ 0 ∷ 0 ∷ 0 ∷ 9 ∷ 0 ∷ 0 ∷ 0 ∷ 10 ∷ 0 ∷ 0 ∷ 0 ∷ 11 ∷ 0 ∷ 0 ∷ 0 ∷ 12 ∷ 0 ∷ 0 ∷ 0 ∷ 13 ∷ 0 ∷ 0 ∷ 0 ∷ 14 ∷ 0 ∷ 0 ∷ 0 ∷ 15 ∷ 0 ∷ 0 ∷ 0 ∷ 16 ∷ 0 ∷ 0 ∷ 0 ∷ 0 ∷ 0 ∷ 1
    ∷ 0 ∷ 0 ∷ 0 ∷ 0 ∷ 0 ∷ 0 ∷ 0 ∷ 0 ∷ 0 ∷ 0 ∷ 0 ∷ 0 ∷ 0 ∷ 0 ∷ 0 ∷ 0 ∷ 0 ∷ 0 ∷ 0 ∷ 0 ∷ 0 ∷ 0 ∷ 0 ∷ 0 ∷ 0 ∷ 0 ∷ 0 ∷ 0 ∷ 0 ∷ 0 ∷ 0 ∷ 0 ∷ 0 ∷ 0 ∷ 0 ∷ 0 ∷ 0 ∷ 0 ∷ 0 ∷ 0 ∷ 0 ∷ 0 ∷ 0 ∷ 0 ∷ 0 ∷ 0 ∷ 0 ∷ 0 ∷ 0
    ∷ 0 ∷ 0 ∷ 0 ∷ 0 ∷ 0 ∷ 0 ∷ 0 ∷ 0 ∷ 0 ∷ [])
small_key_file = refl

-- a key file of seeds of one pair and five words, with a seed of zeros
small_seed_file : seeds_bytes (record { stations = 3; words = 5; pairs = record { u = 0; v = 1; seed = replicate 32 0 } ∷ [] })
    ≡ (68 ∷ 67 ∷ 75 ∷ 2 ∷ 0 ∷ 3 ∷ 0 ∷ 5 ∷ 0 ∷ 0 ∷ 0 ∷ 1 ∷ 0 ∷ 0 ∷ 0 ∷ 1 ∷ replicate 32 0)
small_seed_file = refl

-- three pairs and five words take 1944 bytes
key_file_of_a_triangle : length (keys_bytes (record { stations = 3; words = 5; pairs = zero_pair 5 0 1 ∷ zero_pair 5 0 2 ∷ zero_pair 5 1 2 ∷ [] })) ≡ 1944
key_file_of_a_triangle = refl

-- one station without neighbours, one word
abbrev pub lone_net : Net
lone_net = record {
  stations = 1;
  edges = [];
  coalition = [];
  keys = record { stations = 1; words = 1; pairs = [] };
  streams = [];
  script = first_version (record { says = []; delivery = all_sum } ∷ []);
  words = 1;
}

-- nothing is said in it
abbrev pub lone_run : Run
lone_run = record {
  words = zero_word ∷ [];
  sums = zero_word ∷ [];
  delivered = zero_word ∷ [];
  logs = [] ∷ [];
  sents = [] ∷ [];
  pending = (0, 0) ∷ [];
}

-- the whole view of a net of one station
view_of_a_lone_station : view_text lone_net lone_run ≡ text_file (codes "view 1" ∷ codes "net 1 1" ∷ codes "round 0"
    ∷ codes "word 0 00000000000000000000000000000000000000000000000000000000000000000000000000000000" ∷ codes "sum 00000000000000000000000000000000000000000000000000000000000000000000000000000000"
    ∷ codes "all" ∷ codes "got 0 00000000000000000000000000000000000000000000000000000000000000000000000000000000" ∷ [])
unfolding view_text word_of digits
view_of_a_lone_station = refl

-- its log text
logs_of_a_lone_station : logs_text lone_net lone_run ≡ text_file (codes "station 0" ∷ codes "pending 0 0" ∷ [])
unfolding logs_text digits
logs_of_a_lone_station = refl

-- three stations in a triangle, the middle one in the coalition and dealing words
abbrev pub dealt_net : Net
dealt_net = record {
  stations = 3;
  edges = (0, 1) ∷ (0, 2) ∷ (1, 2) ∷ [];
  coalition = 1 ∷ [];
  keys = record {
    stations = 3;
    words = 1;
    pairs = record { u = 0; v = 1; a = two_ends 1 2; b = two_ends 0 3 }
        ∷ record { u = 0; v = 2; a = two_ends 4 5; b = two_ends 0 6 }
        ∷ record { u = 1; v = 2; a = two_ends 7 8; b = two_ends 0 9 }
        ∷ [];
  };
  streams = [];
  script = first_version (record { says = constant 1 (two_ends 10 11) ∷ []; delivery = each (constant 0 (two_ends 12 13) ∷ constant 2 (two_ends 14 15) ∷ []) } ∷ []);
  words = 1;
}

-- its one round
abbrev pub dealt_run : Run
dealt_run = record {
  words = two_ends 20 21 ∷ two_ends 10 11 ∷ two_ends 22 23 ∷ [];
  sums = two_ends 52 55 ∷ [];
  delivered = two_ends 12 13 ∷ two_ends 14 15 ∷ [];
  logs = [] ∷ [] ∷ [];
  sents = [] ∷ [] ∷ [];
  pending = (1, 0) ∷ (0, 2) ∷ [];
}

-- the pads of the two honest stations do not stand in the view
view_of_a_dealing_coalition : view_text dealt_net dealt_run ≡ text_file (codes "view 1" ∷ codes "net 3 1" ∷ codes "edge 0 1" ∷ codes "edge 0 2" ∷ codes "edge 1 2" ∷ codes "member 1"
    ∷ codes "first 0 1 0 00001000000000000000000000000000000000000000000000000000000000000000000000000002"
    ∷ codes "second 0 1 0 00000000000000000000000000000000000000000000000000000000000000000000000000000003"
    ∷ codes "first 1 2 0 00007000000000000000000000000000000000000000000000000000000000000000000000000008"
    ∷ codes "second 1 2 0 00000000000000000000000000000000000000000000000000000000000000000000000000000009" ∷ codes "round 0"
    ∷ codes "word 0 00014000000000000000000000000000000000000000000000000000000000000000000000000015" ∷ codes "word 1 0000a00000000000000000000000000000000000000000000000000000000000000000000000000b"
    ∷ codes "word 2 00016000000000000000000000000000000000000000000000000000000000000000000000000017" ∷ codes "sum 00034000000000000000000000000000000000000000000000000000000000000000000000000037"
    ∷ codes "each" ∷ codes "got 0 0000c00000000000000000000000000000000000000000000000000000000000000000000000000d"
    ∷ codes "got 2 0000e00000000000000000000000000000000000000000000000000000000000000000000000000f" ∷ [])
unfolding view_text digits
view_of_a_dealing_coalition = refl

-- a member has no log
logs_of_a_dealing_coalition : logs_text dealt_net dealt_run ≡ text_file (codes "station 0" ∷ codes "pending 1 0" ∷ codes "station 2" ∷ codes "pending 0 2" ∷ [])
unfolding logs_text digits
logs_of_a_dealing_coalition = refl

-- three honest stations
abbrev pub honest_net : Net
honest_net = record {
  stations = 3;
  edges = (0, 1) ∷ (0, 2) ∷ (1, 2) ∷ [];
  coalition = [];
  keys = record { stations = 3; words = 5; pairs = [] };
  streams = [];
  script = first_version [];
  words = 5;
}

-- one value came out once, another twice
abbrev pub common_log : List Entry
common_log = short (small_value 1) 1 ∷ short (small_value 3) 2 ∷ []

-- five rounds of which the sums are given
abbrev pub honest_run : Run
honest_run = record {
  words = [];
  sums = zero_word ∷ two_ends 3 7 ∷ two_ends 1 1 ∷ two_ends 2 6 ∷ zero_word ∷ [];
  delivered = [];
  logs = common_log ∷ common_log ∷ common_log ∷ [];
  sents = (short (small_value 1) 1 ∷ []) ∷ (short (small_value 3) 1 ∷ []) ∷ (short (small_value 3) 1 ∷ []) ∷ [];
  pending = (0, 0) ∷ (0, 0) ∷ (0, 0) ∷ [];
}

-- all logs of an ordinary session
logs_of_three_stations : logs_text honest_net honest_run ≡ text_file (codes "station 0" ∷ codes "log short 1 000000000000000000000000000001" ∷ codes "log short 2 000000000000000000000000000003"
    ∷ codes "sent short 000000000000000000000000000001" ∷ codes "pending 0 0" ∷ codes "station 1" ∷ codes "log short 1 000000000000000000000000000001"
    ∷ codes "log short 2 000000000000000000000000000003" ∷ codes "sent short 000000000000000000000000000003" ∷ codes "pending 0 0" ∷ codes "station 2"
    ∷ codes "log short 1 000000000000000000000000000001" ∷ codes "log short 2 000000000000000000000000000003" ∷ codes "sent short 000000000000000000000000000003" ∷ codes "pending 0 0" ∷ [])
unfolding logs_text digits
logs_of_three_stations = refl

-- its sums as `hub` and `sum` print them
printed_sums_of_three_stations : words_text honest_run.sums ≡ text_file (codes "00000000000000000000000000000000000000000000000000000000000000000000000000000000"
    ∷ codes "00003000000000000000000000000000000000000000000000000000000000000000000000000007" ∷ codes "00001000000000000000000000000000000000000000000000000000000000000000000000000001"
    ∷ codes "00002000000000000000000000000000000000000000000000000000000000000000000000000006" ∷ codes "00000000000000000000000000000000000000000000000000000000000000000000000000000000" ∷ [])
unfolding word_of
printed_sums_of_three_stations = refl

-- a run of three words whose first station's log has shorts and messages
abbrev pub trial_run : Run
trial_run = record {
  words = [];
  sums = two_ends 3 7 ∷ two_ends 65536 65535 ∷ two_ends 0 3 ∷ [];
  delivered = [];
  logs = (short (small_value 1) 4 ∷ long (170 ∷ []) ∷ short (small_value 2) 3 ∷ []) ∷ [] ∷ [];
  sents = [] ∷ [] ∷ [];
  pending = (1, 0) ∷ (2, 3) ∷ [];
}

-- the summary of a trial
trial_summary : trial_text 7 2 3 trial_run ≡ text_file (codes "trial 7 2 3" ∷ codes "short 7" ∷ codes "long 1" ∷ codes "pending 3 3"
    ∷ codes "sum 00002000000000000000000000000000000000000000000000000000000000000000000000000008" ∷ [])
unfolding trial_text word_of digits
trial_summary = refl

-- rounds with a zero word have no line
shifts_of_two_edges : shifts_text (record { u = 0; v = 1; words = zero_word ∷ two_ends 0 65533 ∷ two_ends 1 5 ∷ zero_word ∷ [] } ∷ record {
  u = 1;
  v = 2;
  words = zero_word ∷ two_ends 0 65533
      ∷ two_ends 1 5 ∷ zero_word ∷ [];
} ∷ []) ≡ text_file (codes "shift 0 1 1 0000000000000000000000000000000000000000000000000000000000000000000000000000fffd"
    ∷ codes "shift 0 1 2 00001000000000000000000000000000000000000000000000000000000000000000000000000005"
    ∷ codes "shift 1 2 1 0000000000000000000000000000000000000000000000000000000000000000000000000000fffd"
    ∷ codes "shift 1 2 2 00001000000000000000000000000000000000000000000000000000000000000000000000000005" ∷ [])
unfolding word_of digits
shifts_of_two_edges = refl

-- a twin that changes nothing prints nothing
shifts_of_the_same_net : shifts_text (record { u = 0; v = 1; words = zero_word ∷ zero_word ∷ [] } ∷ []) ≡ []
unfolding word_of
shifts_of_the_same_net = refl

-- two words of changes, few of which are not 0
abbrev pub few_changes : Steering
few_changes = record {
  round = 0;
  symbol = 15;
  first = slice_set (slice_set (replicate 32 0) 16 14) 31 18;
  second = slice_set (slice_set (replicate 32 0) 1 65530) 16 65528;
}

-- the place of the first difference, then each change that is not 0
printed_steering : steering_text few_changes ≡ text_file (codes "differ 0 15" ∷ codes "first 16 0000e" ∷ codes "first 31 00012" ∷ codes "second 1 0fffa" ∷ codes "second 16 0fff8" ∷ [])
unfolding digits
printed_steering = refl
