use Rattle.std.proofs.Common.{rules, ◌∙◌}
use Rattle.std.specs.Prelude.{None, unwrap_or}
use Rattle.std.specs.HashMap.Entry.{entry_value}
use Rattle.holders.proofs.Indexed.{held_in_index, room_in_index, value_in_index}
use Rattle.holders.proofs.index.Index.make_room.Goals as goal

pub returns-clause-held : goal.returns-clause-held
returns-clause-held g c =
    let own = c.in_ok-copy.field-0 in
    let row = entry_value c.in_ok-self-inside.field-0 in
    held_in_index _ c.self.inside.rows.entries _ own row c.self.view_is c.in_ok-self-inside.ensures.value (λ q. search rules)

pub returns-clause-room : goal.returns-clause-room
returns-clause-room g c = λ b.
    let own = c.in_ok-copy.field-0 in
    let row = entry_value c.in_ok-self-inside.field-0 in
    room_in_index _ c.self.inside.rows.entries _ c.args.name.now own b (unwrap_or row None) c.self.view_is c.in_ok-copy.ensures.ok.1 (λ q. search rules)

pub returns-clause-value : goal.returns-clause-value
returns-clause-value g c =
    let own = c.in_ok-copy.field-0 in
    let row = entry_value c.in_ok-self-inside.field-0 in
    let found = c.in_ok-self-inside.ensures.value in
    c.or_insert.ensures.value
    ∙ value_in_index _ c.self.inside.rows.entries c.args.name.now own row c.self.view_is c.in_ok-copy.ensures.ok.1 found
