use Rattle.std.proofs.Common.{◌++◌, Ok, Err, take, rules}
use Rattle.std.specs.Prelude.{codes, decimal}
use Rattle.std.specs.List.{flat_map}
use Rattle.dc_spec.specs.Text.{line}
use Rattle.dc_run_texts.specs.Logs.{log_line, sent_line, pending_line}
use Rattle.dc_print.proofs.GatherLemmas.{Gathers-then, Gathers-stops}
use Rattle.dc_view.proofs.logs.gather_station.Goals as goal

pub returns-in_err-end : goal.returns-in_err-end
returns-in_err-end g c =
    let head = line (codes "station " ++ decimal c.args.i) in
    let log = flat_map log_line c.args.log.now.entries in
    let sent = flat_map sent_line c.args.sent.now.entries in
    let before = take c.args.end c.args.buffer.now in
    let x = c.gather_number_line.new.buffer in
    let failed = c.in_err-end.field-0.0 in
    Gathers-stops (head ++ log ++ sent) (pending_line c.args.pending.shorts c.args.pending.longs) before x x _ _ failed _
    (Gathers-stops (head ++ log) sent before x x _ _ failed (Err failed)
    (Gathers-stops head log before x x _ _ failed (Err failed) (rw c.from.ensures at c.in_err-end.ensures) (search rules)) (search rules)) (search rules)

pub returns-in_err-end-2 : goal.returns-in_err-end-2
returns-in_err-end-2 g c =
    let head = line (codes "station " ++ decimal c.args.i) in
    let log = flat_map log_line c.args.log.now.entries in
    let sent = flat_map sent_line c.args.sent.now.entries in
    let before = take c.args.end c.args.buffer.now in
    let x = c.gather_log.new.buffer in
    let failed = c.in_err-end-2.field-0.0 in
    Gathers-stops (head ++ log ++ sent) (pending_line c.args.pending.shorts c.args.pending.longs) before x x _ _ failed _
    (Gathers-stops (head ++ log) sent before x x _ _ failed (Err failed)
    (Gathers-then head log before c.gather_number_line.new.buffer x _ _ _ c.in_ok-end.end (Err failed) (rw c.from.ensures at c.in_ok-end.ensures) c.in_err-end-2.ensures) (search rules)) (search rules)

pub returns-in_err-end-3 : goal.returns-in_err-end-3
returns-in_err-end-3 g c =
    let head = line (codes "station " ++ decimal c.args.i) in
    let log = flat_map log_line c.args.log.now.entries in
    let sent = flat_map sent_line c.args.sent.now.entries in
    let before = take c.args.end c.args.buffer.now in
    let x = c.gather_sent.new.buffer in
    let failed = c.in_err-end-3.field-0.0 in
    Gathers-stops (head ++ log ++ sent) (pending_line c.args.pending.shorts c.args.pending.longs) before x x _ _ failed _
    (Gathers-then (head ++ log) sent before c.gather_log.new.buffer x _ _ _ c.in_ok-end-2.end (Err failed)
    (Gathers-then head log before c.gather_number_line.new.buffer c.gather_log.new.buffer _ _ _ c.in_ok-end.end (Ok c.in_ok-end-2.end) (rw c.from.ensures at c.in_ok-end.ensures) c.in_ok-end-2.ensures)
    c.in_err-end-3.ensures) (search rules)

pub returns : goal.returns
returns g c =
    let head = line (codes "station " ++ decimal c.args.i) in
    let log = flat_map log_line c.args.log.now.entries in
    let sent = flat_map sent_line c.args.sent.now.entries in
    let before = take c.args.end c.args.buffer.now in
    Gathers-then (head ++ log ++ sent) (pending_line c.args.pending.shorts c.args.pending.longs) before c.gather_sent.new.buffer c.gather_pending.new.buffer _ _ _ c.in_ok-end-3.end _
    (Gathers-then (head ++ log) sent before c.gather_log.new.buffer c.gather_sent.new.buffer _ _ _ c.in_ok-end-2.end (Ok c.in_ok-end-3.end)
    (Gathers-then head log before c.gather_number_line.new.buffer c.gather_log.new.buffer _ _ _ c.in_ok-end.end (Ok c.in_ok-end-2.end) (rw c.from.ensures at c.in_ok-end.ensures) c.in_ok-end-2.ensures)
    c.in_ok-end-3.ensures) c.gather_pending.ensures
