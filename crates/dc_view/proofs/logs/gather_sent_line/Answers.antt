use Rattle.std.proofs.Common.{get_or, ◌∙◌}
use Rattle.dc_spec.specs.Entries.{entry_bytes}
use Rattle.dc_station.specs.Logs.{entry_times}
use Rattle.dc_view.proofs.EntryLines.{entry_there, sent_line-short, sent_line-long}
use Rattle.dc_view.proofs.logs.gather_sent_line.Goals as goal

pub returns-in-Some : goal.returns-in-Some
returns-in-Some g c = λ d.
    rw (sent_line-short (get_or c.args.sent.now.entries c.args.k d) c.in-Some.field-0 c.bytes.result.now
    (entry_there entry_times c.args.sent.now.entries c.args.k d c.times.result c.requires.entry c.times.ensures ∙ c.in-Some.is)
    (entry_there entry_bytes c.args.sent.now.entries c.args.k d c.bytes.result.now c.requires.entry c.bytes.ensures)) c.gather_payload_line.ensures

pub returns-in-None : goal.returns-in-None
returns-in-None g c = λ d.
    rw (sent_line-long (get_or c.args.sent.now.entries c.args.k d) c.bytes-in-None.result.now
    (entry_there entry_times c.args.sent.now.entries c.args.k d c.times.result c.requires.entry c.times.ensures ∙ c.in-None.is)
    (entry_there entry_bytes c.args.sent.now.entries c.args.k d c.bytes-in-None.result.now c.requires.entry c.bytes-in-None.ensures)) c.gather_payload_line-in-None.ensures
