-- Entries that fit in a log's room.
use Rattle.std.proofs.Common.{◌≡◌, ℕ, ◌+◌, List, [], ◌∷◌, ◌++◌, map, take, drop, slice_get, Some, sym, ap, ◌∙◌, subst, arith, length-append, append_assoc, add-one}
use Rattle.std.proofs.lemmas.List.{take-append-drop, map-append}
use Rattle.std.proofs.lemmas.Option.{slice_get_within, get_or_from_slice_get}
use Rattle.std.proofs.Math.Seq.{take-suc}
use Rattle.dc_spec.specs.Entries.{Entry}
use Rattle.dc_station_rules.specs.Epochs.{Leaf}
use Rattle.dc_station_rules.specs.Stations.{leaf_entry}
use Rattle.dc_station_rules.proofs.FewEntries.{bytes_in-append}
use Rattle.dc_station.specs.Logs.{FitsRoom}

-- entries fit where they fit with more at their end
pub fits_front : (xs ys : List Entry) (room : ℕ) → FitsRoom (xs ++ ys) room → FitsRoom xs room
fits_front xs ys room fits =
    let few = fits.few in
    let short = fits.short in
    record { few = omega (arith, length-append xs ys); short = omega (arith, bytes_in-append xs ys) }

-- one leaf more
leaf_more : (leaves : List Leaf) (i : ℕ) (leaf : Leaf) → slice_get leaves i ≡ Some leaf → take (i + 1) leaves ≡ take i leaves ++ leaf ∷ []
leaf_more leaves i leaf is =
    rw add-one (take-suc leaves i leaf (slice_get_within leaves i leaf is) ∙ ap (λ x. take i leaves ++ x ∷ []) (get_or_from_slice_get leaves i leaf leaf is))

-- entries of leaves, and one leaf more
pub entries_more : (entries : List Entry) (leaves : List Leaf) (i : ℕ) (leaf : Leaf) → slice_get leaves i ≡ Some leaf
    → entries ++ map leaf_entry (take (i + 1) leaves) ≡ (entries ++ map leaf_entry (take i leaves)) ++ leaf_entry leaf ∷ []
entries_more entries leaves i leaf is =
    ap (λ xs. entries ++ map leaf_entry xs) (leaf_more leaves i leaf is) ∙ (ap (λ es. entries ++ es) (map-append leaf_entry (take i leaves) (leaf ∷ [])) ∙ sym (append_assoc entries (map leaf_entry (take i leaves)) (leaf_entry leaf ∷ [])))

-- where the entries of all leaves fit, those of the first ones do
pub fits_some : (entries : List Entry) (leaves : List Leaf) (i : ℕ) (room : ℕ) → FitsRoom (entries ++ map leaf_entry leaves) room → FitsRoom (entries ++ map leaf_entry (take i leaves)) room
fits_some entries leaves i room fits =
    let all : entries ++ map leaf_entry leaves ≡ (entries ++ map leaf_entry (take i leaves)) ++ map leaf_entry (drop i leaves) = ap (λ xs. entries ++ map leaf_entry xs) (sym (take-append-drop i leaves)) ∙ (ap (λ es. entries ++ es) (map-append leaf_entry (take i leaves) (drop i leaves)) ∙ sym (append_assoc entries (map leaf_entry (take i leaves)) (map leaf_entry (drop i leaves)))) in
    fits_front (entries ++ map leaf_entry (take i leaves)) (map leaf_entry (drop i leaves)) room (subst (λ es. FitsRoom es room) all fits)
