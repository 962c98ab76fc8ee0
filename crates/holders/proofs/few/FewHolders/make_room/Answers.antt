use Rattle.holders.proofs.Places.{sorted_made}
use Rattle.holders.proofs.FewRows.{made_held, made_room, made_same}
use Rattle.holders.proofs.few.FewHolders.make_room.Goals as goal

pub returns-clause-held : goal.returns-clause-held
returns-clause-held g c =
    made_held _ c.self.inside.rows.items c.add.new.rows.items c.args.holder.now c.self.view_is c.add.result (c.add.ensures.ok, c.add.ensures.err)

pub returns-clause-room : goal.returns-clause-room
returns-clause-room g c =
    made_room _ c.self.inside.rows.items c.add.new.rows.items c.args.holder.now c.self.view_is c.add.result (c.add.ensures.ok, c.add.ensures.err)

pub returns-clause-err : goal.returns-clause-err
returns-clause-err g c =
    made_same _ c.self.inside.rows.items c.add.new.rows.items c.args.holder.now c.self.view_is c.add.result (c.add.ensures.ok, c.add.ensures.err)

pub invariant_of-self : goal.invariant_of-self
invariant_of-self g c = sorted_made c.self.inside.rows.items c.add.new.rows.items c.args.holder.now c.add.result c.self.invariant c.add.ensures.ok c.add.ensures.err
