use Rattle.std.proofs.Common.{List, None, Some, ap, arith, length, reverse, slice_get, sym, ◌∙◌, ◌≡◌}
use Rattle.std.specs.Option.{option_map}
use Rattle.std.proofs.lemmas.Option.{slice_get_past}
use Rattle.packed_history.specs.Arenas.{event_in}
use Rattle.packed_history.specs.declared.arenas.Row.{Row}
use Rattle.packed_history.proofs.Laid.{event_at, has_at, row_read}
use Rattle.packed_history.proofs.history.PackedHistory.event.Goals as goal

pub event-requires : goal.event-requires
event-requires c =
    let rows = c.self.inside.rows.items in
    let read = c.in-Some.ensures.lookup in
    has_at c.self.inside.arenas rows c.args.place c.in-Some.row.now c.self.invariant
    (row_read rows c.deref.result.now c.args.place c.in-Some.row.now c.deref.ensures.value read.3.0 read.1)

pub returns-in_ok-event-in-Some : goal.returns-in_ok-event-in-Some
returns-in_ok-event-in-Some c =
    let p = c.self.inside.arenas in
    let rows = c.self.inside.rows.items in
    let read = c.in-Some.ensures.lookup in
    let there : slice_get rows c.args.place ≡ Some c.in-Some.row.now =
    row_read rows c.deref.result.now c.args.place c.in-Some.row.now c.deref.ensures.value read.3.0 read.1 in
    ap Some c.in_ok-event-in-Some.ensures
    ∙ ap (option_map (event_in p)) (sym there)
    ∙ event_at p rows c.args.place
    ∙ ap (λ es. slice_get (reverse es) c.args.place) c.self.view_is

pub returns-in-None : goal.returns-in-None
returns-in-None c =
    let p = c.self.inside.arenas in
    let rows = c.self.inside.rows.items in
    let long = ap (λ (rs : List Row). length rs) c.deref.ensures.value in
    let none : slice_get rows c.args.place ≡ None = slice_get_past rows c.args.place (omega (arith, c.in-None.ensures.lookup.3, long)) in
    ap (option_map (event_in p)) (sym none)
    ∙ event_at p rows c.args.place
    ∙ ap (λ es. slice_get (reverse es) c.args.place) c.self.view_is
