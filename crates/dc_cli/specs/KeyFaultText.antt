-- The texts of the faults of a key file.
use Rattle.std.specs.Prelude.{ℕ, List, ◌++◌, codes}
use Rattle.dc_keyfile.specs.declared.fault.KeyFault.{KeyFault}
use Rattle.dc_keyfile.specs.declared.fault.KeyFault.TheVariants.{Truncated, Magic, Version, Stations, Words, TooLarge, Pair, Order, Symbol, FirstSecondPad, Rest}
use Rattle.dc_cli.specs.Pieces.{numbered}

-- a pad above 65536: the place of the pair, which of its pads it is, and the number in its place
abbrev pub symbol_text : ℕ → ℕ → ℕ → List ℕ
symbol_text pair index seen = numbered (codes "symbol pair=") pair ++ numbered (codes " index=") index ++ numbered (codes " seen=") seen

-- a fault of a key file: its name, then its fields
abbrev pub key_fault_text : KeyFault → List ℕ
key_fault_text (Truncated at need) = numbered (codes "truncated at=") at ++ numbered (codes " need=") need
key_fault_text Magic = codes "magic"
key_fault_text (Version seen) = numbered (codes "version seen=") seen
key_fault_text (Stations seen) = numbered (codes "stations seen=") seen
key_fault_text (Words seen) = numbered (codes "words seen=") seen
key_fault_text (TooLarge symbols) = numbered (codes "too-large symbols=") symbols
key_fault_text (Pair place) = numbered (codes "pair place=") place
key_fault_text (Order place) = numbered (codes "order place=") place
key_fault_text (Symbol pair index seen) = symbol_text pair index seen
key_fault_text (FirstSecondPad pair) = numbered (codes "first-second-pad pair=") pair
key_fault_text (Rest at) = numbered (codes "rest at=") at
