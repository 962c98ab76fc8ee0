use Rattle.guardian.proofs.Whole.{whole_first}
use Rattle.guardian.proofs.guardian.Guardian.over.Goals as goal

pub invariant_of-result : goal.invariant_of-result
invariant_of-result g c =
    (_, whole_first g.S.Stable.seen c.args.memory c.args.store c.requires.first.0 c.requires.first.1 c.requires.first.2 c.requires.found c.requires.rests c.requires.first.3)

pub returns-clause-state : goal.returns-clause-state
returns-clause-state g c = λ s sound none settled.
    whole_first g.S.Stable.seen c.args.memory c.args.store s sound none c.requires.found c.requires.rests settled
