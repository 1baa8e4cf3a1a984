-- An entry given out, as an entry of the definitions.
use Rattle.dc_spec.specs.Entries.{Entry as net_entry, short, long}
use Rattle.dc_station.specs.declared.entry.Entry.{Entry}
use Rattle.dc_station.specs.declared.entry.Entry.TheVariants.{Short, Long}

-- the entry
abbrev pub entry_of : Entry → net_entry
entry_of (Short value times) = short value times
entry_of (Long bytes) = long bytes
