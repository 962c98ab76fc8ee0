use Rattle.std.proofs.Common.{List, ℕ, subst, arith, decimal}
use Rattle.std.specs.Str.Parse.{ParsesUnsigned}
use Rattle.run_model.proofs.AnswerTexts.{count_found}
use Rattle.run_model.proofs.Utf8.{not_utf8}
use Rattle.traces.specs.Traces.{IsStamp}
use Rattle.traces.proofs.Lines.{no_empty_stamp, no_stamp, stamp_found, stamp_is_utf8}
use Rattle.traces.proofs.line.stamp.Goals as goal

pub returns-in_default : goal.returns-in_default
returns-in_default c = not_utf8 IsStamp decimal c.args.text.now stamp_is_utf8 c.in_default.ensures.cases.0

pub returns-in-49-to-57 : goal.returns-in-49-to-57
returns-in-49-to-57 c =
    stamp_found c.args.text.now c.ok.result (omega arith)
    (rw c.ok.ensures.value
    (count_found c.args.text.now c.parse.result (subst (λ (t : List ℕ). ParsesUnsigned 64 10 t c.parse.result) c.in-Ok.ensures.cases.0 c.parse.ensures.value.0) (omega arith) (omega arith)))

pub returns-in_default-text : goal.returns-in_default-text
returns-in_default-text c = no_empty_stamp c.args.text.now c.in_default-text.len_below

pub returns-in_default-text-2 : goal.returns-in_default-text-2
returns-in_default-text-2 c = no_stamp c.args.text.now (λ low high. omega arith)

pub returns-in_default-text-3 : goal.returns-in_default-text-3
returns-in_default-text-3 c = no_stamp c.args.text.now (λ low high. omega arith)
