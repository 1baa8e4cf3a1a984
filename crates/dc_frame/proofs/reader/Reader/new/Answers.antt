use Rattle.std.proofs.Common.{[], refl, sym}
use Rattle.dc_frame.specs.Reading.{first, reading_from}
use Rattle.dc_frame.proofs.reader.Reader.new.Goals as goal

pub invariant_of-result : goal.invariant_of-result
unfolding first
invariant_of-result c = rw c.new.ensures (record { one = tt })

pub returns : goal.returns
unfolding reading_from
returns c = record { front = []; frames = []; whole = sym c.new.ensures; read = refl; count = refl; place = refl }
