use Rattle.std.proofs.Common.{of_calls, rules, sym}
use Rattle.std.proofs.lemmas.Fn.{always_returns_same}
use Rattle.action_names.specs.Names.{name_cmp}
use Rattle.atomic_object.proofs.Outcomes.{outcome_absent, outcome_at}
use Rattle.atomic_object.proofs.staying.outcome_of.Goals as goal

-- the closure compares an action's name
pub returns-in-Ok : goal.returns-in-Ok
returns-in-Ok c =
    let outcomes = c.args.outcomes.now in
    let path = c.args.path.now in
    let found = c.in-Ok.ensures.position (λ x. name_cmp x.0 path) (always_returns_same _ _ _ (λ a r f called. search (rules, of_calls))) in
    let entry = c.index-outcomes-at.result in
    sym (outcome_at outcomes path c.in-Ok.at entry c.requires c.in-Ok.ensures.bound (found entry))

pub returns-in-Err : goal.returns-in-Err
returns-in-Err c =
    let path = c.args.path.now in
    sym (outcome_absent c.args.outcomes.now path c.in-Err.field-0 c.requires c.in-Err.ensures.bound
    (c.in-Err.ensures.position (λ x. name_cmp x.0 path) (always_returns_same _ _ _ (λ a r f called. search (rules, of_calls)))))
