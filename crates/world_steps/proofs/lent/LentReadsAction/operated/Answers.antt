use Rattle.std.proofs.Common.{IfOk, subst, sym, ◌≡◌}
use Rattle.run_model.specs.Openings.{opening_in}
use Rattle.layer_contracts.specs.Guardians.{lent_two}
use Rattle.layer_contracts.specs.Forests.{ForestState}
use Rattle.world_steps.specs.Lending.{facts_two, said_two}
use Rattle.world_steps.proofs.Nothing.{content_known, is_known, may_ask, object_there, same_operation, still_there}
use Rattle.world_steps.proofs.Saying.{by_two, two_say}
use Rattle.world_steps.proofs.lent.LentReadsAction.operated.Goals as goal

pub operated-requires : goal.operated-requires
operated-requires g c =
    let says = c.requires.some.1 in
    let f : ForestState = says.state in
    let accepted = c.requires.accepted (said_two f says.a says.b) (two_say _ _ _ f says.a says.b says.lent) in
    let here = c.in-Some.ensures says.a says.b says.lent.first says.lent.second in
    record {
      asked = (
        here.state,
        here.guardian,
        may_ask f.opening (facts_two f says.a says.b) c.args.action.now c.args.object c.args.operation.now here.state accepted
            (sym here.at.number) (here.at.opening f says.lent.opening),
      );
    }

pub apply-requires : goal.apply-requires
apply-requires g c =
    let says = c.requires.some.1 in
    let f : ForestState = says.state in
    let accepted = c.requires.accepted (said_two f says.a says.b) (two_say _ _ _ f says.a says.b says.lent) in
    content_known f.opening (opening_in c.opening.result.now) c.args.object c.args.operation.now c.in_ok-content-in-None.content
    (is_known f.opening (facts_two f says.a says.b) c.args.action.now c.args.object c.args.operation.now accepted)
    c.in_ok-content-in-None.ensures (c.opening.ensures.opening f says.lent.forest)

pub returns-in-Some : goal.returns-in-Some
returns-in-Some g c = λ s says.
    let here = c.in-Some.ensures says.a says.b says.lent.first says.lent.second in
    by_two (λ k. IfOk c.operated.result (λ answer. answer ≡ k.results.operation c.args.action.now c.args.object c.args.operation.now)) says
    (subst (λ k. IfOk c.operated.result (λ answer. answer ≡ k))
    (same_operation says.state.opening (lent_two says.a says.b c.args.object.guardian) c.args.action.now c.args.object c.args.operation.now
    here.state (here.at.opening says.state says.lent.opening) here.at.past)
    (c.operated.ensures here.state here.guardian))

pub first_content-requires-clause-guardian : goal.first_content-requires-clause-guardian
first_content-requires-clause-guardian g c =
    let says = c.requires.some.1 in
    let f : ForestState = says.state in
    let accepted = c.requires.accepted (said_two f says.a says.b) (two_say _ _ _ f says.a says.b says.lent) in
    (object_there f.opening (facts_two f says.a says.b) c.args.action.now c.args.object c.args.operation.now accepted).guardian

pub first_content-requires-clause-number : goal.first_content-requires-clause-number
first_content-requires-clause-number g c =
    let says = c.requires.some.1 in
    let f : ForestState = says.state in
    let accepted = c.requires.accepted (said_two f says.a says.b) (two_say _ _ _ f says.a says.b says.lent) in
    (object_there f.opening (facts_two f says.a says.b) c.args.action.now c.args.object c.args.operation.now accepted).number

pub first_content-requires-clause-there : goal.first_content-requires-clause-there
first_content-requires-clause-there g c =
    let says = c.requires.some.1 in
    let f : ForestState = says.state in
    let accepted = c.requires.accepted (said_two f says.a says.b) (two_say _ _ _ f says.a says.b says.lent) in
    (still_there f.opening (opening_in c.opening.result.now) c.args.object
    (object_there f.opening (facts_two f says.a says.b) c.args.action.now c.args.object c.args.operation.now accepted) (c.opening.ensures.opening f says.lent.forest)).within
