use Rattle.std.proofs.Common.{refl, arith}
use Rattle.dc_conv.proofs.Loops.{zeros_small}
use Rattle.dc_conv.proofs.adding.widened.Goals as goal

pub loop-k-init : goal.loop-k-init
loop-k-init c = record { room = refl; so_far = λ k lt. omega arith; small = zeros_small 1032 }
