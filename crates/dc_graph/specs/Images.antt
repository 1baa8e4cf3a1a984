-- Reading the images of stations, one a line.
use Rattle.std.specs.Prelude.{ℕ, List, Option, Some, None, Result, nat_lt, if◌then◌else◌}
use Rattle.dc_spec.specs.Limits.{most_stations}
use Rattle.dc_field.specs.NumberInText.{number_in}
use Rattle.dc_field.specs.declared.list_fault.ListFault.{ListFault}
use Rattle.dc_field.specs.declared.list_fault.ListKind.TheVariants.{Number}
use Rattle.dc_text.specs.ListFiles.{list_from_bytes}

-- a number that a station may have
abbrev pub where_station : Option ℕ → Option ℕ
where_station None = None
where_station (Some n) = if nat_lt n most_stations then Some n else None

-- the image that a text spells in decimal
abbrev pub image_in : List ℕ → Option ℕ
image_in text = where_station (number_in text)

-- the images that bytes spell, or their first fault
unfoldable pub perm_from_bytes : List ℕ → Result (List ℕ) ListFault
perm_from_bytes bytes = list_from_bytes image_in Number most_stations bytes
