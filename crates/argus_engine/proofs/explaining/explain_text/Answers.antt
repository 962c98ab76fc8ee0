use Rattle.std.proofs.Common.{sym, ◌∙◌}
use Rattle.run_model.specs.Explaining.{IsExplained}
use Rattle.argus_engine.proofs.Explanations.{front_written}
use Rattle.argus_engine.proofs.explaining.explain_text.Goals as goal

pub returns-in_err-finish-clause-begun : goal.returns-in_err-finish-clause-begun
returns-in_err-finish-clause-begun g c =
    front_written _ _ c.as_str.result.now (IsExplained c.args.word.now c.args.history.now)
    (λ lines right. c.in_ok-lines.ensures.only lines right ∙ sym c.as_str.ensures.value) c.in_err-finish.ensures.front
