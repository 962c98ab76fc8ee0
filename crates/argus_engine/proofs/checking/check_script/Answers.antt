use Rattle.std.proofs.Common.{sym, subst}
use Rattle.argus_engine.specs.Judging.{IsJudged}
use Rattle.argus_engine.proofs.Judgements.{front_said, whole_said}
use Rattle.argus_engine.proofs.checking.check_script.Goals as goal

pub returns-in_err-finish-clause-begun : goal.returns-in_err-finish-clause-begun
returns-in_err-finish-clause-begun g c =
    front_said _ _ c.args.bytes.now c.as_str.result.now c.in_ok-ended.ended
    (subst (IsJudged c.args.bytes.now c.in_ok-ended.ended) (sym c.as_str.ensures.value) c.in_ok-ended.ensures) c.in_err-finish.ensures.front

pub returns-clause-begun : goal.returns-clause-begun
returns-clause-begun g c =
    whole_said _ _ c.args.bytes.now c.as_str.result.now c.in_ok-ended.ended
    (subst (IsJudged c.args.bytes.now c.in_ok-ended.ended) (sym c.as_str.ensures.value) c.in_ok-ended.ensures) c.in_ok-finish.ensures.ok
