use Rattle.std.proofs.Common.{not}
use Rattle.action_names.specs.Names.{is_ancestor}
use Rattle.holders.proofs.Rows.{held_sorted, kept_held, kept_room, kept_sorted}
use Rattle.holders.proofs.few.FewHolders.drop_below.Goals as goal

pub returns-clause-held : goal.returns-clause-held
returns-clause-held g c = kept_held _ c.self.inside.rows.items _ (λ b. not (is_ancestor c.args.action.now b)) c.self.view_is c.drop_below.ensures

pub returns-clause-room : goal.returns-clause-room
returns-clause-room g c = kept_room _ c.self.inside.rows.items _ (λ b. not (is_ancestor c.args.action.now b)) c.self.view_is c.drop_below.ensures

pub invariant_of-self : goal.invariant_of-self
invariant_of-self g c = kept_sorted c.self.inside.rows.items _ (λ b. not (is_ancestor c.args.action.now b)) c.self.invariant c.drop_below.ensures

pub returns-clause-rising : goal.returns-clause-rising
returns-clause-rising g c =
    held_sorted c.drop_below.new.rows.items (kept_sorted c.self.inside.rows.items _ (λ b. not (is_ancestor c.args.action.now b)) c.self.invariant c.drop_below.ensures)
