-- The net of parts that agree, and parts that differ.
use Rattle.std.proofs.Common.{ℕ, List, [], Result, Ok, Err, refl, arith}
use Rattle.dc_spec.specs.Outside.{ShelfState}
use Rattle.dc_spec.specs.Net.{Net}
use Rattle.dc_net.specs.declared.fault.NetFault.{NetFault}
use Rattle.dc_net.specs.Checked.{Disagrees}
use Rattle.dc_net_files.specs.Steps.{makes}
use Rattle.dc_net_files.specs.Parts.{parts_step, agreed, net_step}
use Rattle.dc_net_files.specs.Reading.{Differs, Ended, Agreed}
use Rattle.dc_net_files.specs.declared.fault.NotRead.{NotRead}
use Rattle.dc_net_files.specs.declared.fault.NotRead.TheVariants.{Disagree}
use Rattle.dc_net_files.proofs.GaveLemmas.{Gave-none}
use Rattle.dc_net_files.proofs.EndedLemmas.{Reaches-then, Reaches-first, Reaches-same, Ended-then}

disagreed : (net : Net) (fault : NetFault) (s : ShelfState) → Disagrees net fault → Differs (agreed net) fault s s
disagreed net fault s p = record {
  files = [];
  gave = Gave-none (agreed net) s s refl refl (omega arith);
  found = p.found;
  differ = rw p.is_first refl;
  is = p.stands;
}

-- the parts were read and compared
pub Ended-agreed : (name : List ℕ) (net : Net) (s0 s1 : ShelfState) (r : Result Net NotRead)
    → Ended (parts_step name) s0 s1 (Ok net) → Agreed net r → Ended (net_step name) s0 s1 r
Ended-agreed name net s0 s1 (Ok checked) p is =
    Reaches-then (net_step name) (agreed net) (makes checked) s0 s1 s1 (Reaches-first (parts_step name) (makes net) agreed s0 s1 p)
    (Reaches-same (agreed net) (makes checked) s1 (λ more. rw (is.1, is.0) refl))
Ended-agreed name net s0 s1 (Err (Disagree fault)) p is =
    Ended-then (net_step name) (agreed net) s0 s1 s1 (Err (Disagree fault)) (Reaches-first (parts_step name) (makes net) agreed s0 s1 p)
    (disagreed net fault s1 is)
Ended-agreed name net s0 s1 (Err _) p is = absurd is
