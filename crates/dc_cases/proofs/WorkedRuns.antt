-- Texts of whole runs, computed from the nets: the protocol and the formats together give the lines that are written out here.
use Rattle.std.specs.Prelude.{◌≡◌, refl, [], ◌∷◌, ◌++◌, replicate, codes}
use Rattle.std.specs.Fmt.{digits}
use Rattle.dc_spec.specs.Words.{zero_word}
use Rattle.dc_station_rules.proofs.Computing.{computing as one_station}
use Rattle.dc_graph_rules.specs.Graphs.{reached}
use Rattle.dc_graph_rules.specs.Forests.{spreads, chain}
use Rattle.dc_net_rules.specs.Runs.{rounds_of, run_of}
use Rattle.dc_twin_rules.specs.Twins.{shifts, twin}
use Rattle.dc_spec.specs.Symbols.{power_below}
use Rattle.dc_steering_rules.specs.Steerings.{changes_up_to, steering_of}
use Rattle.dc_net_rules.specs.SessionTexts.{says}
use Rattle.dc_formats.specs.TextFile.{text_file}
use Rattle.dc_formats.specs.Frames.{frames_bytes}
use Rattle.dc_run_texts.specs.View.{view_text}
use Rattle.dc_run_texts.specs.Logs.{logs_text}
use Rattle.dc_twin_rules.specs.Shifts.{shifts_text}
use Rattle.dc_steering_rules.specs.SteeringText.{steering_text}
use Rattle.dc_cases.proofs.SharedValues.{two_ends, nothing, zero_pair, ring, exchange, split_pair, three_stations}
use Rattle.dc_cases.proofs.WorkedFiles.{lone_net}

-- named by a lemma, this opens every definition that a run computes by
unfoldable pub computing : Type 0
unfolding digits one_station rounds_of reached spreads chain power_below changes_up_to view_text logs_text
computing = Unit {0}

-- the whole view of a net of one station without neighbours
view_of_lone_run : view_text lone_net (run_of lone_net) ≡ text_file
    (codes "view 1"
    ∷ codes "net 1 1"
    ∷ codes "round 0"
    ∷ codes "word 0 00000000000000000000000000000000000000000000000000000000000000000000000000000000"
    ∷ codes "sum 00000000000000000000000000000000000000000000000000000000000000000000000000000000"
    ∷ codes "all"
    ∷ codes "got 0 00000000000000000000000000000000000000000000000000000000000000000000000000000000"
    ∷ [])
unfolding computing
view_of_lone_run = refl

-- what each of them logs, and its own value as sent
logs_of_three_runs : logs_text three_stations (run_of three_stations) ≡ text_file
    (codes "station 0"
    ∷ codes "log short 1 000000000000000000000000000001"
    ∷ codes "log short 2 000000000000000000000000000003"
    ∷ codes "sent short 000000000000000000000000000001"
    ∷ codes "pending 0 0"
    ∷ codes "station 1"
    ∷ codes "log short 1 000000000000000000000000000001"
    ∷ codes "log short 2 000000000000000000000000000003"
    ∷ codes "sent short 000000000000000000000000000003"
    ∷ codes "pending 0 0"
    ∷ codes "station 2"
    ∷ codes "log short 1 000000000000000000000000000001"
    ∷ codes "log short 2 000000000000000000000000000003"
    ∷ codes "sent short 000000000000000000000000000003"
    ∷ codes "pending 0 0"
    ∷ [])
unfolding computing
logs_of_three_runs = refl

-- what is printed of the shifts where stations 0 and 2 change places
shifts_in_ring : shifts_text (shifts ring exchange) ≡ text_file
    (codes "shift 0 1 1 0000000000000000000000000000000000000000000000000000000000000000000000000000fffd"
    ∷ codes "shift 0 1 2 00001000000000000000000000000000000000000000000000000000000000000000000000000005"
    ∷ codes "shift 1 2 1 0000000000000000000000000000000000000000000000000000000000000000000000000000fffd"
    ∷ codes "shift 1 2 2 00001000000000000000000000000000000000000000000000000000000000000000000000000005"
    ∷ [])
unfolding computing
shifts_in_ring = refl

-- the net and its twin have the same view
views_of_twins : view_text ring (run_of ring) ≡ view_text (twin ring exchange) (run_of (twin ring exchange))
unfolding computing
views_of_twins = refl

-- what is printed of the changes that make the second sum the word with 7 and 9
steering_of_pair : steering_text (steering_of split_pair 0 1 (two_ends 7 9 ∷ [])) ≡ text_file
    (codes "differ 0 15"
    ∷ codes "first 16 0000e"
    ∷ codes "first 31 00012"
    ∷ codes "second 1 0fffa"
    ∷ codes "second 16 0fff8"
    ∷ [])
unfolding computing
steering_of_pair = refl

-- a station with nothing to say sends its greeting, a zero word, and after the first sum a second one
sent_by_station : frames_bytes (says 0 2 2 (zero_pair 2 0 1 ∷ []) nothing (zero_word ∷ [])) ≡ 1 ∷ 0 ∷ 6 ∷ 0 ∷ 0 ∷ 0 ∷ 2 ∷ 0 ∷ 2 ∷ [] ++ (2 ∷ 0 ∷ 66 ∷ 0 ∷ 0 ∷ replicate 64 0)
    ++ (2 ∷ 0 ∷ 66 ∷ 0 ∷ 1 ∷ replicate 64 0)
unfolding computing
sent_by_station = refl
