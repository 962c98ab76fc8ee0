use Rattle.std.proofs.Common.{◌≡◌, ◌&&◌, true, not, subst, sym, ◌∙◌}
use Rattle.std.proofs.lemmas.Bool.{and_parts}
use Rattle.action_names.specs.Names.{has_name, same_name}
use Rattle.action_names.proofs.Ancestry.{and_of}
use Rattle.holders.specs.Held.{may_be_handed}
use Rattle.holders.proofs.Handing.{still}
use Rattle.object_model.specs.Objects.{Seen}
use Rattle.moss_locks.specs.Table as table
use Rattle.moss_locks.specs.Table.{Table}
use Rattle.atomic_object.specs.Kept.{Kept, has_room}
use Rattle.atomic_object.proofs.Rooms.{both_left, nobody_passes}
use Rattle.atomic_object.proofs.object.Object.pass.Goals as goal

pub returns-clause-room : goal.returns-clause-room
returns-clause-room c = λ b h.
    let other = not (same_name c.args.action.now b) in
    let adding = c.self.inside.deltas in
    let before : Seen = record { stack = c.self.inside.versions; deltas = adding.held; locks = c.inherit.new.self.locks } in
    both_left other (may_be_handed adding.held adding.room b) (table.has_room c.self.inside.locks b)
    (λ x.
    let p = and_parts other (may_be_handed adding.held adding.room b) x in
    still adding.held _ adding.room _ b (nobody_passes before c.args.action.now c.args.to _ c.pass_parts.ensures.deltas)
    (λ has. c.pass_parts.ensures.room b ∙ and_of other (has_name adding.room b) p.0 has) p.1)
    (λ x. subst (λ (t : Table). table.has_room t b ≡ true) (sym c.pass_parts.ensures.locks) (c.inherit.ensures.room b x))
    (subst (λ (k : Kept). other && has_room k b ≡ true) (sym c.self.view_is) h)
