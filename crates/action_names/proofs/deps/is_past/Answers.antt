use Rattle.std.proofs.lemmas.Bool.{ltb-true}
use Rattle.action_names.proofs.Entries.{past_last}
use Rattle.action_names.proofs.deps.is_past.Goals as goal

pub returns-in-Some : goal.returns-in-Some
returns-in-Some c less =
    past_last c.args.least.now c.args.guardian c.in-Some.field-0.now c.requires c.in-Some.ensures.value
    (ltb-true c.in-Some.field-0.now.0 c.args.guardian less)
