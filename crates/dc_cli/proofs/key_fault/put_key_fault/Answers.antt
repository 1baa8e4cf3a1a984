use Rattle.dc_cli.proofs.key_fault.put_key_fault.Goals as goal

pub returns-in-Truncated : goal.returns-in-Truncated
returns-in-Truncated g c = rw c.in-Truncated.is c.put_two_numbers.ensures

pub returns-in-Symbol : goal.returns-in-Symbol
returns-in-Symbol g c = rw (c.in-Symbol.is, ← c.from-in-Symbol.ensures, ← c.from-in-Symbol-2.ensures, ← c.from-in-Symbol-3.ensures) c.put_symbol.ensures

pub returns-in-Version : goal.returns-in-Version
returns-in-Version g c = rw (c.in-Version.is, ← c.from.ensures) c.put_number.ensures

pub returns-in-Stations : goal.returns-in-Stations
returns-in-Stations g c = rw (c.in-Stations.is, ← c.from-in-Stations.ensures) c.put_number-in-Stations.ensures

pub returns-in-Words : goal.returns-in-Words
returns-in-Words g c = rw (c.in-Words.is, ← c.from-in-Words.ensures) c.put_number-in-Words.ensures

pub returns-in-TooLarge : goal.returns-in-TooLarge
returns-in-TooLarge g c = rw c.in-TooLarge.is c.put_number-in-TooLarge.ensures

pub returns-in-Pair : goal.returns-in-Pair
returns-in-Pair g c = rw (c.in-Pair.is, ← c.from-in-Pair.ensures) c.put_number-in-Pair.ensures

pub returns-in-Order : goal.returns-in-Order
returns-in-Order g c = rw (c.in-Order.is, ← c.from-in-Order.ensures) c.put_number-in-Order.ensures

pub returns-in-FirstSecondPad : goal.returns-in-FirstSecondPad
returns-in-FirstSecondPad g c = rw (c.in-FirstSecondPad.is, ← c.from-in-FirstSecondPad.ensures) c.put_number-in-FirstSecondPad.ensures
