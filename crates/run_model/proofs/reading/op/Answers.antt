use Rattle.action_names.specs.Names.{IsName, name_text}
use Rattle.atomic_types.specs.Operations.{IsOp}
use Rattle.run_model.specs.Texts.{op_text}
use Rattle.run_model.proofs.Cutting.{nothing_read}
use Rattle.run_model.proofs.Steps.{op_nowhere, op_short, op_uncut, op_unknown, op_unnamed}
use Rattle.run_model.proofs.reading.op.Goals as goal

pub returns-in_default : goal.returns-in_default
returns-in_default c = op_uncut c.args.text.now c.in_default.ensures

pub returns-in_default-2 : goal.returns-in_default-2
returns-in_default-2 c =
    op_unnamed c.args.text.now c.in-Some.front.now c.in-Some.rest.now c.in-Some.ensures
    (nothing_read IsName name_text c.in-Some.front.now c.in_ok-name.field-0 c.in_default-2.is c.in_ok-name.ensures)

pub returns-in_default-cut : goal.returns-in_default-cut
returns-in_default-cut c = op_short c.args.text.now c.in-Some.front.now c.in-Some.rest.now c.in-Some.ensures c.in_default-cut.ensures

pub returns-in_default-object : goal.returns-in_default-object
returns-in_default-object c =
    op_nowhere c.args.text.now c.in-Some.front.now c.in-Some.rest.now c.in-Some-cut.front.now c.in-Some-cut.rest.now c.in-Some.ensures c.in-Some-cut.ensures
    c.in_default-object.ensures

pub returns-in-None : goal.returns-in-None
returns-in-None c =
    op_unknown c.args.text.now c.in-Some.front.now c.in-Some.rest.now c.in-Some-cut.front.now c.in-Some-cut.rest.now c.in-Some.ensures c.in-Some-cut.ensures
    (nothing_read IsOp op_text c.in-Some-cut.rest.now c.in_ok-operation.field-0 c.in-None.is c.in_ok-operation.ensures)
