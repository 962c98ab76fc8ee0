use Rattle.std.proofs.Common.{rules}
use Rattle.holders.proofs.Kept.{kept_of}
use Rattle.holders.proofs.Rows.{held_sorted, kept_held, kept_room, kept_sorted}
use Rattle.holders.proofs.few.FewHolders.keep.Goals as goal

pub returns-clause-held : goal.returns-clause-held
returns-clause-held g c =
    let stays = g.S.Survivors.stays c.args.survivors.now in
    kept_held _ c.self.inside.rows.items _ stays c.self.view_is
    (kept_of _ _ _ _ c.retain.ensures.filtered (λ r. stays r.0) (λ r b f h. (search rules, search rules)))

pub returns-clause-room : goal.returns-clause-room
returns-clause-room g c =
    let stays = g.S.Survivors.stays c.args.survivors.now in
    kept_room _ c.self.inside.rows.items _ stays c.self.view_is
    (kept_of _ _ _ _ c.retain.ensures.filtered (λ r. stays r.0) (λ r b f h. (search rules, search rules)))

pub invariant_of-self : goal.invariant_of-self
invariant_of-self g c =
    let stays = g.S.Survivors.stays c.args.survivors.now in
    kept_sorted c.self.inside.rows.items _ stays c.self.invariant
    (kept_of _ _ _ _ c.retain.ensures.filtered (λ r. stays r.0) (λ r b f h. (search rules, search rules)))

pub returns-clause-rising : goal.returns-clause-rising
returns-clause-rising g c = held_sorted c.retain.new.self.items (invariant_of-self g c)
