use Rattle.std.proofs.Common.{◌≡◌, ◌++◌, Some, get_or, take, refl, rules, ◌∙◌}
use Rattle.std.specs.Prelude.{codes, decimal}
use Rattle.dc_spec.specs.Entries.{entry_bytes}
use Rattle.dc_spec.specs.Text.{line}
use Rattle.dc_formats.specs.TextFile.{hex_text}
use Rattle.dc_station.specs.Logs.{entry_times}
use Rattle.dc_print.proofs.GatherLemmas.{Gathers-then, Gathers-stops}
use Rattle.dc_view.proofs.EntryLines.{entry_there, log_line-short, log_line-long}
use Rattle.dc_view.proofs.logs.gather_log_line.Goals as goal

pub returns-in_err-end-in-Some : goal.returns-in_err-end-in-Some
returns-in_err-end-in-Some g c = λ d.
    let entry = get_or c.args.log.now.entries c.args.k d in
    let told = entry_there entry_times c.args.log.now.entries c.args.k d c.times.result c.requires.entry c.times.ensures in
    let times : entry_times (get_or c.args.log.now.entries c.args.k d) ≡ Some c.from.result = cc in
    rw (log_line-short entry c.from.result (entry_bytes entry) times refl)
    (Gathers-stops (codes "log short " ++ decimal c.from.result) (line (codes " " ++ hex_text (entry_bytes entry))) (take c.args.end c.args.buffer.now) c.gather_number.new.buffer _ _ _ _ _
    c.in_err-end-in-Some.ensures (search rules))

pub returns-in_ok-end-in-Some : goal.returns-in_ok-end-in-Some
returns-in_ok-end-in-Some g c = λ d.
    let entry = get_or c.args.log.now.entries c.args.k d in
    let told = entry_there entry_times c.args.log.now.entries c.args.k d c.times.result c.requires.entry c.times.ensures in
    let times : entry_times (get_or c.args.log.now.entries c.args.k d) ≡ Some c.from.result = cc in
    rw (log_line-short entry c.from.result c.bytes.result.now times (entry_there entry_bytes c.args.log.now.entries c.args.k d c.bytes.result.now c.requires.entry c.bytes.ensures))
    (Gathers-then (codes "log short " ++ decimal c.from.result) (line (codes " " ++ hex_text c.bytes.result.now)) (take c.args.end c.args.buffer.now) c.gather_number.new.buffer _ _ _ _ _ _
    c.in_ok-end-in-Some.ensures c.gather_payload_line.ensures)

pub returns-in-None : goal.returns-in-None
returns-in-None g c = λ d.
    rw (log_line-long (get_or c.args.log.now.entries c.args.k d) c.bytes-in-None.result.now
    (entry_there entry_times c.args.log.now.entries c.args.k d c.times.result c.requires.entry c.times.ensures ∙ c.in-None.is)
    (entry_there entry_bytes c.args.log.now.entries c.args.k d c.bytes-in-None.result.now c.requires.entry c.bytes-in-None.ensures)) c.gather_payload_line-in-None.ensures
