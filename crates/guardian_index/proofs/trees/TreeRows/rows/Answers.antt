use Rattle.guardian_index.proofs.Somebody.{all_held}
use Rattle.guardian_index.proofs.trees.TreeRows.rows.Goals as goal

pub returns : goal.returns
returns c = λ n. all_held c.args.self.now c.self.inside.rows.entries c.values.result c.self.invariant.names c.self.view_is c.values.ensures.rest n
