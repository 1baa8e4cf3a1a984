use Rattle.std.proofs.Common.{◌^◌, ◌≤◌, arith}
use Rattle.std.proofs.Math.Nat.{pow-le-pow_right}
use Rattle.dc_fast_keys.proofs.walk.power_of.Goals as goal

pub returns-clause-small : goal.returns-clause-small
returns-clause-small c = let h : 2 ^ c.args.level ≤ 4096 = pow-le-pow_right {n = 2} (omega arith) c.requires in omega arith
