-- The transforms of pads, and what a block of received symbols contributes to later sums.
use Rattle.std.specs.Prelude.{ℕ, ◌+◌, ◌-◌, ◌*◌, ◌%◌, ◌^◌, ◌<◌, ◌≡◌, List, [], length, sum_by, slice_index, slice_index_or}
use Rattle.std.specs.List.{range_with_len}
use Rattle.dc_keys.specs.StationPads.{StationPads}
use Rattle.dc_transform_rules.specs.Polynomials.{scaled}
use Rattle.dc_transform_rules.specs.Transforms.{size, forward, column}

-- the first 2 ^ depth pads, with zeros after them where there are fewer
abbrev pub padded : ℕ → List ℕ → List ℕ
padded depth pads = column 1 (size 1 depth) 0 pads

-- a column of a list of rows is the transform of these pads, divided by 2 ^ depth
abbrev pub IsSpectrum : ℕ → ℕ → ℕ → List ℕ → List ℕ → Type 0
IsSpectrum width depth s spectrum pads =
    scaled (2 ^ depth) (column width (size 1 depth) s spectrum) ≡ forward 1 depth 0 (padded depth pads)

-- to row i of a column of later sums: the products of the symbols of a block of rows before them
-- with pads, added up
abbrev pub contribution : ℕ → ℕ → ℕ → List ℕ → List ℕ → ℕ → ℕ
contribution width rows s pads block i =
    sum_by (λ k. slice_index pads (rows + i - k) * slice_index block (width * k + s)) (range_with_len 0 rows)

-- each of so many rows has one number in all columns
abbrev pub AreAlike : ℕ → ℕ → List ℕ → Type 0
AreAlike width rows block =
    (k s : ℕ) → s < width → k < rows → slice_index block (width * k + s) ≡ slice_index block (width * k + 0)

-- sums before and after a block of so many rows was added to them: each column that is the transform
-- of pads contributes by these pads
abbrev pub Added : ℕ → ℕ → ℕ → List ℕ → List ℕ → List ℕ → List ℕ → Type 0
Added width depth rows spectrum block before after =
    (s : ℕ) (pads : List ℕ) (i : ℕ) → s < width → IsSpectrum width depth s spectrum pads → width * i + s < length before →
    slice_index after (width * i + s) ≡ (slice_index before (width * i + s) + contribution width rows s pads block i) % 65537

-- for each station, its column is the transform of its second pads
abbrev pub AreSpectra : ℕ → List ℕ → List StationPads → Type 0
AreSpectra depth spectrum pads =
    (s : ℕ) (none : StationPads) → s < length pads → IsSpectrum (length pads) depth s spectrum (slice_index_or pads s none).second

-- for each level below a number of them: as many rows as it has, with the transforms of all stations
abbrev pub AreAllSpectra : ℕ → List (List ℕ) → List StationPads → Type 0
AreAllSpectra levels spectra pads =
    (level : ℕ) → level < levels → (length (slice_index_or spectra level []) ≡ size (length pads) (level + 5))
    × AreSpectra (level + 5) (slice_index_or spectra level []) pads

-- sums before and after what the received numbers of a block before place `now` contribute was added to
-- the sums from there on
abbrev pub CarriedFrom : ℕ → ℕ → ℕ → ℕ → ℕ → List ℕ → List ℕ → List ℕ → List ℕ → Type 0
CarriedFrom width depth rows block now spectrum received before after =
    (s : ℕ) (pads : List ℕ) (i : ℕ) → s < width → IsSpectrum width depth s spectrum pads → i < rows →
    now + (width * i + s) < length before →
    slice_index after (now + (width * i + s))
    ≡ (slice_index before (now + (width * i + s))
    + sum_by (λ k. slice_index pads (rows + i - k) * slice_index received (now - block + (width * k + s)))
    (range_with_len 0 rows)) % 65537
