-- The lines of entries, by what a log tells of an entry.
use Rattle.std.proofs.Common.{◌≡◌, ℕ, ◌<◌, List, [], ◌∷◌, ◌++◌, length, get_or, zero, suc, Some, None, refl, arith, append_assoc}
use Rattle.std.specs.Prelude.{codes, decimal, option_map, slice_get}
use Rattle.dc_spec.specs.Text.{line}
use Rattle.dc_spec.specs.Entries.{Entry, short, long, entry_bytes}
use Rattle.dc_formats.specs.TextFile.{hex_text}
use Rattle.dc_station.specs.Logs.{entry_times}
use Rattle.dc_run_texts.specs.Logs.{log_line, pending_line, sent_line}

-- what is there of an entry
pub entry_there : {A : Type 0} (f : Entry → A) (entries : List Entry) (k : ℕ) (d : Entry) (x : A) → k < length entries
    → option_map f (slice_get entries k) ≡ Some x → f (get_or entries k d) ≡ x
entry_there f [] k d x low e = absurd (omega arith)
entry_there f (entry ∷ entries) zero d x low e = cc
entry_there f (entry ∷ entries) (suc k) d x low e = entry_there f entries k d x (omega arith) e

in_line : (a n b h e : List ℕ) → (((a ++ n) ++ b) ++ h) ++ e ≡ (a ++ n) ++ ((b ++ h) ++ e)
in_line a n b h e = simp append_assoc

-- the line of a value
pub log_line-short : (entry : Entry) (times : ℕ) (bytes : List ℕ) → entry_times entry ≡ Some times → entry_bytes entry ≡ bytes
    → log_line entry ≡ (codes "log short " ++ decimal times) ++ line (codes " " ++ hex_text bytes)
log_line-short (short value n) times bytes e is =
    let same : n ≡ times = cc in
    rw (same, is) (in_line (codes "log short ") (decimal times) (codes " ") (hex_text bytes) (10 ∷ []))
log_line-short (long message) times bytes e is = absurd cc

-- the line of a message
pub log_line-long : (entry : Entry) (bytes : List ℕ) → entry_times entry ≡ None → entry_bytes entry ≡ bytes → log_line entry ≡ line (codes "log long " ++ hex_text bytes)
log_line-long (short value n) bytes e is = absurd cc
log_line-long (long message) bytes e is = rw is refl

-- the line of a value that counts as sent
pub sent_line-short : (entry : Entry) (times : ℕ) (bytes : List ℕ) → entry_times entry ≡ Some times → entry_bytes entry ≡ bytes
    → sent_line entry ≡ line (codes "sent short " ++ hex_text bytes)
sent_line-short (short value n) times bytes e is = rw is refl
sent_line-short (long message) times bytes e is = absurd cc

-- the line of a message that counts as sent
pub sent_line-long : (entry : Entry) (bytes : List ℕ) → entry_times entry ≡ None → entry_bytes entry ≡ bytes → sent_line entry ≡ line (codes "sent long " ++ hex_text bytes)
sent_line-long (short value n) bytes e is = absurd cc
sent_line-long (long message) bytes e is = rw is refl

-- the line of pending entries in two parts
pub pending_line-parts : (shorts longs : ℕ) → pending_line shorts longs ≡ (codes "pending " ++ decimal shorts) ++ line (codes " " ++ decimal longs)
pending_line-parts shorts longs = in_line (codes "pending ") (decimal shorts) (codes " ") (decimal longs) (10 ∷ [])
