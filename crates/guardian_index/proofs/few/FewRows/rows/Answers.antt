use Rattle.std.proofs.Common.{ap}
use Rattle.std.specs.Map.{values_of}
use Rattle.guardian_index.proofs.Somebody.{all_held}
use Rattle.guardian_index.proofs.few.FewRows.rows.Goals as goal

pub returns : goal.returns
returns c = λ n.
    all_held c.args.self.now c.self.inside.rows.items (values_of c.deref.result.now) c.self.invariant.names c.self.view_is (ap (λ rs. values_of rs) c.deref.ensures.value) n
