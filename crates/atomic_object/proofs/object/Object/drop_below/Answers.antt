use Rattle.std.proofs.Common.{◌≡◌, ◌&&◌, true, not, ap, subst, sym, ◌∙◌}
use Rattle.std.proofs.lemmas.Bool.{and_parts}
use Rattle.action_names.specs.Names.{has_name, is_ancestor}
use Rattle.action_names.proofs.Ancestry.{and_of}
use Rattle.holders.specs.Held.{may_be_handed}
use Rattle.holders.proofs.Handing.{still}
use Rattle.moss_locks.specs.Table as table
use Rattle.local_laws.proofs.Outcomes.{has_filter}
use Rattle.atomic_object.specs.Kept.{Kept, has_room}
use Rattle.atomic_object.proofs.Rooms.{both_left, nobody_below}
use Rattle.atomic_object.proofs.object.Object.drop_below.Goals as goal

pub returns-clause-room : goal.returns-clause-room
returns-clause-room c = λ b h.
    let a = c.args.action.now in
    let beside = not (is_ancestor a b) in
    let adding = c.self.inside.deltas in
    both_left beside (may_be_handed adding.held adding.room b) (table.has_room c.self.inside.locks b)
    (λ x.
    let p = and_parts beside (may_be_handed adding.held adding.room b) x in
    still adding.held _ adding.room _ b (nobody_below _ _ a c.drop_below-2.ensures.left)
    (λ has. ap (λ ns. has_name ns b) c.drop_below-2.ensures.room ∙ has_filter (λ d. not (is_ancestor a d)) adding.room b
    ∙ and_of (has_name adding.room b) beside has p.0) p.1)
    (c.drop_below-3.ensures.room b)
    (subst (λ (k : Kept). beside && has_room k b ≡ true) (sym c.self.view_is) h)
