-- One more row behind those of a log.
use Rattle.std.proofs.Common.{◌≡◌, ℕ, ◌+◌, ◌*◌, ◌<◌, ◌≤◌, List, [], ◌∷◌, ◌++◌, length, take, drop, refl, sym, ap, ap₂, ◌∙◌, subst, arith, length-append, length-drop, take_all, ◌↔◌}
use Rattle.std.specs.List.{AllByRecursion}
use Rattle.std.proofs.Math.Seq.{drop-append_seam}
use Rattle.std.proofs.lemmas.List.{map-append, take-append-le, drop-append-le}
use Rattle.dc_spec.specs.Entries.{Entry, entry_bytes, bytes_in}
use Rattle.dc_station_rules.proofs.FewEntries.{bytes_in-append}
use Rattle.dc_station.specs.declared.log.Kind.{Kind}
use Rattle.dc_station.specs.declared.log.Kind.TheVariants.{Short, Long}
use Rattle.dc_station.specs.declared.log.Row.{Row}
use Rattle.dc_station.specs.Logs.{FitsRoom, entry_as, IsSized, entry_at, entries_of, LiesIn, AreLaid}

-- the bytes of an entry
bytes-as : (kind : Kind) (bytes : List ℕ) → entry_bytes (entry_as kind bytes) ≡ bytes
bytes-as (Short times) bytes = refl
bytes-as Long bytes = refl

-- one more entry fits where there is room for it
pub fits-push : (entries : List Entry) (kind : Kind) (bytes : List ℕ) (room : ℕ)
    → FitsRoom (entries ++ entry_as kind bytes ∷ []) room ↔ ((length entries < room) × (bytes_in entries + length bytes ≤ 15 * room))
fits-push entries kind bytes room =
    let count : length (entries ++ entry_as kind bytes ∷ []) ≡ length entries + 1 = length-append entries (entry_as kind bytes ∷ []) in
    let size : bytes_in (entries ++ entry_as kind bytes ∷ []) ≡ bytes_in entries + (length bytes + 0) = bytes_in-append entries (entry_as kind bytes ∷ []) ∙ ap (λ b. bytes_in entries + (length b + 0)) (bytes-as kind bytes) in (
      λ fits. let few = fits.few in let short = fits.short in (omega arith, omega arith),
      λ room. let few = room.0 in let short = room.1 in record { few = omega arith; short = omega arith },
    )

-- what lies among bytes stays there when more come behind
stays : (bytes more : List ℕ) (row : Row) → LiesIn bytes row → entry_at (bytes ++ more) row ≡ entry_at bytes row
stays bytes more row lies =
    let within = lies.within in
    ap (λ bs. entry_as row.kind (take row.size bs)) (drop-append-le row.begin bytes more (omega arith))
    ∙ ap (entry_as row.kind) (take-append-le row.size (drop row.begin bytes) more (omega (arith, length-drop row.begin bytes)))

all-stay : (bytes more : List ℕ) (rows : List Row) → AllByRecursion (LiesIn bytes) rows → entries_of (bytes ++ more) rows ≡ entries_of bytes rows
all-stay bytes more [] lie = refl
all-stay bytes more (row ∷ rows) lie = ap₂ (λ e es. e ∷ es) (stays bytes more row lie.0) (all-stay bytes more rows lie.1)

-- and lies among them still
lie-more : (bytes more : List ℕ) (rows : List Row) (row : Row) → AllByRecursion (LiesIn bytes) rows → LiesIn (bytes ++ more) row → AllByRecursion (LiesIn (bytes ++ more)) (rows ++ row ∷ [])
lie-more bytes more [] row lie last = (last, tt)
lie-more bytes more (r ∷ rows) row lie last = (record { within = let within = lie.0.within in omega (arith, length-append bytes more); sized = lie.0.sized }, lie-more bytes more rows row lie.1 last)

-- a row for the bytes that come behind
pub record Behind (bytes more : List ℕ) (row : Row) : Type 0 where
  pub begin : row.begin ≡ length bytes
  pub size : row.size ≡ length more
  pub sized : IsSized row.kind (length more)

last-entry : (bytes more : List ℕ) (row : Row) → Behind bytes more row → entry_at (bytes ++ more) row ≡ entry_as row.kind more
last-entry bytes more row is =
    ap₂ (λ b s. entry_as row.kind (take s (drop b (bytes ++ more)))) is.begin is.size
    ∙ ap (λ bs. entry_as row.kind (take (length more) bs)) (drop-append_seam bytes more)
    ∙ ap (entry_as row.kind) (take_all (length more) more (omega arith))

-- its entry comes behind the others
pub entries-push : (bytes more : List ℕ) (rows : List Row) (row : Row) (room : ℕ) → AreLaid bytes rows room → Behind bytes more row
    → entries_of (bytes ++ more) (rows ++ row ∷ []) ≡ entries_of bytes rows ++ entry_as row.kind more ∷ []
entries-push bytes more rows row room laid is =
    map-append (entry_at (bytes ++ more)) rows (row ∷ []) ∙ ap₂ (λ es e. es ++ e ∷ []) (all-stay bytes more rows laid.lie) (last-entry bytes more row is)

-- and the rows are laid, where there is room for it
pub laid-push : (bytes more : List ℕ) (rows : List Row) (row : Row) (room : ℕ) → AreLaid bytes rows room → Behind bytes more row → FitsRoom (entries_of bytes rows ++ entry_as row.kind more ∷ []) room
    → AreLaid (bytes ++ more) (rows ++ row ∷ []) room
laid-push bytes more rows row room laid is fits =
    let same = entries-push bytes more rows row room laid is in
    let counted = laid.counted in
    let begin = is.begin in
    let size = is.size in
    record {
      lie = lie-more bytes more rows row laid.lie (record { within = omega (arith, length-append bytes more); sized = subst (IsSized row.kind) (sym is.size) is.sized });
      counted = ap bytes_in same ∙ bytes_in-append (entries_of bytes rows) (entry_as row.kind more ∷ []) ∙ ap (λ b. bytes_in (entries_of bytes rows) + (length b + 0)) (bytes-as row.kind more) ∙ omega (arith, length-append bytes more);
      fit = subst (λ es. FitsRoom es room) (sym same) fits;
    }
