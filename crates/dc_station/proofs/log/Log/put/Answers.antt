use Rattle.std.proofs.Common.{rules, arith, ◌+◌, ◌*◌, ◌<◌, ◌≤◌, ◌∷◌, ◌++◌, [], length, sym, ap, ◌∙◌, subst, refl}
use Rattle.dc_spec.specs.Entries.{bytes_in}
use Rattle.dc_station.specs.Logs.{Kept, FitsRoom, entry_as, entries_of}
use Rattle.dc_station.proofs.RowLemmas.{fits-push, entries-push, laid-push}
use Rattle.dc_station.proofs.log.Log.put.Goals as goal

-- where the test holds, the entry fits
fits-now : (c : goal.After-put_row) → FitsRoom (c.args.self.now.entries ++ entry_as c.args.kind c.args.bytes.now ∷ []) c.args.self.now.room
fits-now c =
    let free : (length c.args.self.now.entries < c.args.self.now.room) × (bytes_in c.args.self.now.entries + length c.args.bytes.now ≤ 15 * c.args.self.now.room) = search rules in
    (fits-push c.args.self.now.entries c.args.kind c.args.bytes.now c.args.self.now.room).1 free

fits-inside : (c : goal.After-put_row) → FitsRoom (entries_of c.self.inside.bytes.items c.self.inside.rows.items ++ entry_as c.args.kind c.args.bytes.now ∷ []) c.self.inside.room
fits-inside c = subst (λ (k : Kept). FitsRoom (k.entries ++ entry_as c.args.kind c.args.bytes.now ∷ []) k.room) (sym c.self.view_is) (fits-now c)

pub invariant_of-self : goal.invariant_of-self
invariant_of-self c =
    let laid = laid-push c.self.inside.bytes.items c.args.bytes.now c.self.inside.rows.items _ c.self.inside.room c.self.invariant.0 (record { begin = refl; size = refl; sized = c.requires }) (fits-inside c) in
    (rw (c.put_row.ensures.bytes, c.put_row.ensures.rows) laid, omega arith, omega arith)

pub returns-then-has_room-clause-entries : goal.returns-then-has_room-clause-entries
returns-then-has_room-clause-entries c = λ fits.
    let same = entries-push c.self.inside.bytes.items c.args.bytes.now c.self.inside.rows.items _ c.self.inside.room c.self.invariant.0 (record { begin = refl; size = refl; sized = c.requires }) in
    rw (c.put_row.ensures.bytes, c.put_row.ensures.rows) (same ∙ ap (λ (k : Kept). k.entries ++ entry_as c.args.kind c.args.bytes.now ∷ []) c.self.view_is)

pub returns-then-has_room-clause-full : goal.returns-then-has_room-clause-full
returns-then-has_room-clause-full c = λ full. absurd (full (fits-now c))

pub returns-else-has_room-clause-entries : goal.returns-else-has_room-clause-entries
returns-else-has_room-clause-entries c = λ fits.
    let free = (fits-push c.args.self.now.entries c.args.kind c.args.bytes.now c.args.self.now.room).0 fits in
    absurd (search rules)
