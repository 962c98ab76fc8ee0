use Rattle.std.proofs.Common.{not}
use Rattle.action_names.specs.Names.{is_ancestor}
use Rattle.guardian_index.proofs.Rows.{orderly_kept}
use Rattle.guardian_index.proofs.Changes.{kept_held, room_left}
use Rattle.guardian_index.proofs.trees.TreeRows.drop_below.Goals as goal

pub invariant_of-self : goal.invariant_of-self
invariant_of-self c = orderly_kept c.self.inside.rows.entries _ (λ m. not (is_ancestor c.args.action.now m)) c.self.invariant c.remove_below.ensures

pub returns-clause-held : goal.returns-clause-held
returns-clause-held c = λ b n.
    kept_held _ c.self.inside.rows.entries _ (λ m. not (is_ancestor c.args.action.now m)) c.self.view_is c.remove_below.ensures b n

pub returns-clause-room : goal.returns-clause-room
returns-clause-room c = λ b room. room_left _ c.self.inside.rows.entries _ c.args.action.now c.self.view_is c.remove_below.ensures b room
