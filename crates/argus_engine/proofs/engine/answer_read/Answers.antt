use Rattle.std.proofs.Common.{inl, refl, subst}
use Rattle.argus_engine.specs.Reading.{MayMake, ReadsLine}
use Rattle.argus_engine.proofs.Bytes.{gives_read, made_of_line}
use Rattle.stepping.proofs.Making.{made_none}
use Rattle.argus_engine.proofs.Stepped.{also, failed_later, not_of_reader, of_its_step, of_reader}
use Rattle.argus_engine.proofs.engine.answer_read.Goals as goal

pub returns-in_err-read_line-clause-fault : goal.returns-in_err-read_line-clause-fault
returns-in_err-read_line-clause-fault g c =
    of_reader c.in_err-read_line.field-0.0 c.from_residual.result c.from_residual.ensures.1 c.in_err-read_line.ensures.fault

pub returns-in_err-read_line-clause-cause : goal.returns-in_err-read_line-clause-cause
returns-in_err-read_line-clause-cause g c =
    not_of_reader c.in_err-read_line.field-0.0 c.from_residual.result c.from_residual.ensures.1 c.in_err-read_line.ensures.fault

pub returns-in_err-answer_line-in-Whole-clause-fault : goal.returns-in_err-answer_line-in-Whole-clause-fault
returns-in_err-answer_line-in-Whole-clause-fault g c =
    of_its_step c.in_err-answer_line-in-Whole.field-0.0 c.from_residual-in_err-answer_line-in-Whole.result
    c.from_residual-in_err-answer_line-in-Whole.ensures.1 c.in_err-answer_line-in-Whole.ensures.fault

pub returns-in_err-answer_line-in-Whole-clause-cause : goal.returns-in_err-answer_line-in-Whole-clause-cause
returns-in_err-answer_line-in-Whole-clause-cause g c =
    failed_later c.in_err-answer_line-in-Whole.field-0.0 c.from_residual-in_err-answer_line-in-Whole.result
    c.from_residual-in_err-answer_line-in-Whole.ensures.1 (made_none g.M.MakesSteps.run g.M.MakesSteps.leaves c.args.world.now) c.in_err-answer_line-in-Whole.ensures.cause

pub returns-in-Bad-clause-made : goal.returns-in-Bad-clause-made
returns-in-Bad-clause-made g c = made_none g.M.MakesSteps.run g.M.MakesSteps.leaves _

pub returns-in-Missing-clause-made : goal.returns-in-Missing-clause-made
returns-in-Missing-clause-made g c = made_none g.M.MakesSteps.run g.M.MakesSteps.leaves _

pub returns-in_err-read_line-clause-once : goal.returns-in_err-read_line-clause-once
returns-in_err-read_line-clause-once g c = also c.from_residual.result (inl refl)

pub returns-in_err-answer_line-in-Whole-clause-once : goal.returns-in_err-answer_line-in-Whole-clause-once
returns-in_err-answer_line-in-Whole-clause-once g c =
    also c.from_residual-in_err-answer_line-in-Whole.result
    (made_of_line (g.R.Read.remaining c.args.reader.now) c.read_line.new.line.items (g.M.MakesSteps.run c.args.world.now) (g.M.MakesSteps.run c.answer_line.new.world)
    (gives_read (g.R.Read.remaining c.args.reader.now) (g.R.Read.remaining c.read_line.new.reader) c.read_line.new.line.items
    (subst (ReadsLine (g.R.Read.remaining c.args.reader.now) (g.R.Read.remaining c.read_line.new.reader) c.read_line.new.line.items) c.in-Whole.is c.in_ok-read_line.ensures.found).0)
    (subst (λ line. MayMake line (g.M.MakesSteps.run c.args.world.now) (g.M.MakesSteps.run c.answer_line.new.world)) c.deref.ensures.value c.in_err-answer_line-in-Whole.ensures.once))
