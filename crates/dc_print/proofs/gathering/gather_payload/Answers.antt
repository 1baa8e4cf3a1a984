use Rattle.std.proofs.Common.{take, rules}
use Rattle.dc_formats.specs.TextFile.{hex_text}
use Rattle.dc_print.proofs.GatherLemmas.{Gathers-then, Gathers-stops}
use Rattle.dc_print.proofs.gathering.gather_payload.Goals as goal

pub returns-in_err-end : goal.returns-in_err-end
returns-in_err-end g c = Gathers-stops c.args.text.now (hex_text c.args.bytes.now) (take c.args.end c.args.buffer.now) c.gather_bytes.new.buffer _ _ _ _ _ c.in_err-end.ensures (search rules)

pub returns : goal.returns
returns g c = Gathers-then _ _ _ _ _ _ _ _ _ _ c.in_ok-end.ensures c.gather_hex.ensures
