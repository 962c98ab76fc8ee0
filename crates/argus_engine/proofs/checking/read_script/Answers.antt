use Rattle.std.proofs.Common.{string_bytes, subst, sym}
use Rattle.argus_engine.specs.declared.engine.Ended.TheVariants.{Stopped}
use Rattle.argus_engine.specs.Judging.{IsJudged}
use Rattle.argus_engine.proofs.Judgements.{front_fault, on_err}
use Rattle.argus_engine.proofs.checking.read_script.Goals as goal

pub returns-in_err-finish-in-Err-clause-begun : goal.returns-in_err-finish-in-Err-clause-begun
returns-in_err-finish-in-Err-clause-begun g c =
    on_err c.from_residual-in_err-finish-in-Err.result (front_fault _ _ c.args.bytes.now c.as_str.result.now
    (subst (IsJudged c.args.bytes.now Stopped) (sym c.as_str.ensures.value) (c.in_ok-line-in-Err.ensures c.args.bytes.now c.in-Err.ensures.fault))
    c.in_err-finish-in-Err.ensures.front)

pub returns-in_ok-finish-in-Err-clause-read : goal.returns-in_ok-finish-in-Err-clause-read
returns-in_ok-finish-in-Err-clause-read g c = (
  c.as_str.result.now,
  c.in_ok-finish-in-Err.ensures.ok,
  subst (IsJudged c.args.bytes.now Stopped) (sym c.as_str.ensures.value) (c.in_ok-line-in-Err.ensures c.args.bytes.now c.in-Err.ensures.fault),
)

pub returns-in_err-finish-in-Err-clause-faulty : goal.returns-in_err-finish-in-Err-clause-faulty
returns-in_err-finish-in-Err-clause-faulty g c = λ _.
    (string_bytes c.in_ok-line-in-Err.line, c.in_ok-line-in-Err.ensures c.args.bytes.now c.in-Err.ensures.fault)
