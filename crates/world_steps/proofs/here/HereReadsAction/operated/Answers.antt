use Rattle.std.proofs.Common.{refl}
use Rattle.run_model.specs.LocalReadings.{facts_here}
use Rattle.world_steps.specs.Lending.{said_here}
use Rattle.world_steps.proofs.Own.{object_own}
use Rattle.world_steps.proofs.Nothing.{may_ask}
use Rattle.world_steps.proofs.Saying.{guardian_says}
use Rattle.world_steps.proofs.here.HereReadsAction.operated.Goals as goal

pub operated-requires : goal.operated-requires
operated-requires g c =
    let says = c.requires.some.1 in
    let x = says.state in
    let accepted = c.requires.accepted (said_here x) (guardian_says _ x says.guardian) in
    record {
      asked = (
        x,
        says.guardian,
        may_ask x.opening (facts_here x.opening x.number x.past) c.args.action.now c.args.object c.args.operation.now x accepted
            (object_own x.opening x.number c.args.action.now c.args.object c.args.operation.now x.past accepted) refl,
      );
    }
