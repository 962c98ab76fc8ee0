use Rattle.std.proofs.Common.{◌≡◌, ◌&&◌, true, not, filter, List, ap, sym, subst, ◌∙◌}
use Rattle.std.proofs.lemmas.Bool.{and_parts}
use Rattle.action_names.specs.Names.{Name, has_name, is_ancestor}
use Rattle.action_names.proofs.Ancestry.{and_of}
use Rattle.holders.specs.Held.{may_be_handed, names_of, without_below}
use Rattle.holders.proofs.Handing.{still}
use Rattle.holders.proofs.Rows.{room_kept}
use Rattle.object_model.specs.Locks.{without, dropped_below}
use Rattle.moss_locks.specs.Table.{Table, has_room}
use Rattle.moss_locks.proofs.Names.{all_still, has_beside}
use Rattle.moss_locks.proofs.table.LockTable.drop_below.Goals as goal

pub returns-clause-locks : goal.returns-clause-locks
returns-clause-locks c =
    let a = c.args.action.now in
    let i = c.self.inside in
    let reads : names_of c.drop_below.new.self.held ≡ without a (names_of i.readers.held) =
    ap names_of c.drop_below.ensures.held ∙ room_kept (λ b. not (is_ancestor a b)) i.readers.held in
    let writes : names_of c.drop_below-2.new.self.held ≡ without a (names_of i.writers.held) =
    ap names_of c.drop_below-2.ensures.held ∙ room_kept (λ b. not (is_ancestor a b)) i.writers.held in
    let adds : names_of c.drop_below-3.new.self.held ≡ without a (names_of i.adders.held) =
    ap names_of c.drop_below-3.ensures.held ∙ room_kept (λ b. not (is_ancestor a b)) i.adders.held in
    rw (reads, writes, adds) (ap (λ (table : Table). dropped_below table.locks a) c.self.view_is)

-- whoever is beside the action may be handed the locks of a class as before
kept_beside : (a b : Name) (old new : List Name) (before after : List Name) → new ≡ without a old → after ≡ filter (λ x. not (is_ancestor a x)) before
    → not (is_ancestor a b) && may_be_handed old before b ≡ true → may_be_handed new after b ≡ true
kept_beside a b old new before after is room h =
    let beside = and_parts (not (is_ancestor a b)) (may_be_handed old before b) h in
    still old new before after b (λ e. is ∙ ap (without a) e)
    (λ has. ap (λ ns. has_name ns b) room ∙ has_beside a b before ∙ and_of (not (is_ancestor a b)) (has_name before b) beside.0 has) beside.1

pub returns-clause-room : goal.returns-clause-room
returns-clause-room c = λ b h.
    let a = c.args.action.now in
    let i = c.self.inside in
    let names : (held : List (Name × Unit {0})) (left : List (Name × Unit {0})) → left ≡ without_below held a → names_of left ≡ without a (names_of held) =
    λ held left e. ap names_of e ∙ room_kept (λ x. not (is_ancestor a x)) held in
    all_still (not (is_ancestor a b)) (may_be_handed (names_of i.readers.held) i.readers.room b)
    (may_be_handed (names_of i.writers.held) i.writers.room b) (may_be_handed (names_of i.adders.held) i.adders.room b)
    (kept_beside a b _ _ _ _ (names i.readers.held _ c.drop_below.ensures.held) c.drop_below.ensures.room)
    (kept_beside a b _ _ _ _ (names i.writers.held _ c.drop_below-2.ensures.held) c.drop_below-2.ensures.room)
    (kept_beside a b _ _ _ _ (names i.adders.held _ c.drop_below-3.ensures.held) c.drop_below-3.ensures.room)
    (subst (λ (table : Table). not (is_ancestor a b) && has_room table b ≡ true) (sym c.self.view_is) h)
