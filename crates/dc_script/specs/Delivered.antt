-- A declared delivery as the protocol's.
use Rattle.dc_spec.specs.Scripts.{Delivery as Delivered, all_sum, each}
use Rattle.dc_script.specs.declared.delivery.Delivery.{Delivery}
use Rattle.dc_script.specs.declared.delivery.Delivery.TheVariants.{Sum, Each}

-- the sum, or a word for each
abbrev pub delivered : Delivery → Delivered
delivered Sum = all_sum
delivered (Each words) = each words
