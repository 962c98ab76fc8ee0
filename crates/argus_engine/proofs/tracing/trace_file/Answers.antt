use Rattle.std.proofs.Common.{subst, sym, option_map}
use Rattle.argus_engine.specs.Tracing.{IsVerdict}
use Rattle.argus_engine.proofs.Verdicts.{front_told, whole_told}
use Rattle.argus_engine.proofs.tracing.trace_file.Goals as goal

pub returns-in_err-finish-clause-begun : goal.returns-in_err-finish-clause-begun
returns-in_err-finish-clause-begun g c =
    let world = option_map g.M.MakesSteps.run c.in_ok-world.world in
    front_told _ _ _ c.in_ok-bytes.bytes.items c.as_str.result.now world c.in_ok-bytes.ensures.given
    (subst (IsVerdict c.in_ok-bytes.bytes.items world) (sym c.as_str.ensures.value) c.in_ok-world.ensures.said) c.in_err-finish.ensures.front

pub returns-clause-begun : goal.returns-clause-begun
returns-clause-begun g c =
    let world = option_map g.M.MakesSteps.run c.in_ok-world.world in
    whole_told _ _ _ c.in_ok-bytes.bytes.items c.as_str.result.now world c.in_ok-bytes.ensures.given
    (subst (IsVerdict c.in_ok-bytes.bytes.items world) (sym c.as_str.ensures.value) c.in_ok-world.ensures.said) c.in_ok-finish.ensures.ok
