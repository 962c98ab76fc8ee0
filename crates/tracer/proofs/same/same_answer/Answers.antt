use Rattle.std.proofs.Common.{◌∙◌, sym, ap, arith}
use Rattle.run_model.specs.Texts.{names_text}
use Rattle.tracer.proofs.Apart.{began_value, done_value, granted_value, refused_value, waits_value}
use Rattle.tracer.proofs.same.same_answer.Goals as goal

pub returns-in-Began-Began-clause-value : goal.returns-in-Began-Began-clause-value
returns-in-Began-Began-clause-value c =
    began_value c.args.one.now c.args.other.now c.in-Began-Began.names c.in-Began-Began.others c.same_names.result c.in-Began-Began.is-0 c.in-Began-Began.is-1
    (λ h. sym c.as_slice.ensures ∙ c.same_names.ensures.equal h ∙ c.as_slice-in-Began-Began.ensures)
    (λ h e. c.same_names.ensures.differ h (ap names_text c.as_slice.ensures ∙ e ∙ ap names_text (sym c.as_slice-in-Began-Began.ensures)))

pub returns-in-Waits-Waits-clause-value : goal.returns-in-Waits-Waits-clause-value
returns-in-Waits-Waits-clause-value c =
    waits_value c.args.one.now c.args.other.now c.in-Waits-Waits.names c.in-Waits-Waits.others c.same_names-in-Waits-Waits.result c.in-Waits-Waits.is-0 c.in-Waits-Waits.is-1
    (λ h. sym c.as_slice-in-Waits-Waits.ensures ∙ c.same_names-in-Waits-Waits.ensures.equal h ∙ c.as_slice-in-Waits-Waits-2.ensures)
    (λ h e. c.same_names-in-Waits-Waits.ensures.differ h (ap names_text c.as_slice-in-Waits-Waits.ensures ∙ e ∙ ap names_text (sym c.as_slice-in-Waits-Waits-2.ensures)))

pub returns-in-Granted-Granted-clause-value : goal.returns-in-Granted-Granted-clause-value
returns-in-Granted-Granted-clause-value c =
    granted_value c.args.one.now c.args.other.now c.in-Granted-Granted.reply c.in-Granted-Granted.other c.same_reply.result c.in-Granted-Granted.is-0 c.in-Granted-Granted.is-1
    c.same_reply.ensures.equal c.same_reply.ensures.differ

pub returns-in-Done-Done-clause-value : goal.returns-in-Done-Done-clause-value
returns-in-Done-Done-clause-value c =
    done_value c.args.one.now c.args.other.now c.in-Done-Done.count c.in-Done-Done.other c.in-Done-Done.is-0 c.in-Done-Done.is-1 (omega arith) (omega arith)

pub returns-in-Refused-Refused-clause-value : goal.returns-in-Refused-Refused-clause-value
returns-in-Refused-Refused-clause-value c =
    refused_value c.args.one.now c.args.other.now c.in-Refused-Refused.why c.in-Refused-Refused.other c.number.result c.number-in-Refused-Refused.result
    c.in-Refused-Refused.is-0 c.in-Refused-Refused.is-1 c.number.ensures c.number-in-Refused-Refused.ensures
