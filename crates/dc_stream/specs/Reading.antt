-- Reading a stream file: its items line by line, and the stream that they are.
use Rattle.std.specs.Prelude.{ℕ, List, [], Result, Ok}
use Rattle.dc_spec.specs.Entries.{Stream}
use Rattle.dc_formats.specs.TextFile.{file_lines}
use Rattle.dc_text.specs.Lines.{and_then, with_lines}
use Rattle.dc_stream.specs.declared.fault.StreamFault.{StreamFault}
use Rattle.dc_stream.specs.declared.fault.StreamKind.{StreamKind}
use Rattle.dc_stream.specs.declared.fault.StreamKind.TheVariants.{NotText}
use Rattle.dc_stream.specs.Items.{StreamItem, items_with_line, stream_of_items}

-- what is wrong with the line of this number
abbrev pub stream_fault : ℕ → StreamKind → StreamFault
stream_fault number kind = record { line = number; kind = kind }

-- the items of a file, or its first fault
abbrev pub items_from_bytes : List ℕ → Result (List StreamItem) StreamFault
items_from_bytes bytes = with_lines stream_fault NotText items_with_line 1 [] (file_lines bytes)

-- the stream that bytes spell, or their first fault
unfoldable pub stream_from_bytes : List ℕ → Result Stream StreamFault
stream_from_bytes bytes = and_then (λ fault. fault) (λ items. Ok (stream_of_items items)) (items_from_bytes bytes)
