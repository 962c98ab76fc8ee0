use Rattle.std.proofs.Common.{◌≡◌, subst, sym, ◌∙◌, List}
use Rattle.run_model.specs.Keeping as keeping
use Rattle.run_model.specs.Replay.{replayed}
use Rattle.run_model.specs.Openings.{first_content}
use Rattle.run_model.specs.Places.{replies_given}
use Rattle.run_laws.proofs.Serial.{serial_view}
use Rattle.tracer.proofs.Inserted.{operations_by_place}
use Rattle.tracer.proofs.explained.explain.Goals as goal

pub returns-clause-replayed : goal.returns-clause-replayed
returns-clause-replayed c = λ opening run.
    let endings = c.in_ok-endings.ensures in
    let same = operations_by_place c.args.history.now c.in_ok-seen_by_place.field-0.entries _ (c.in_ok-seen_by_place.ensures endings) in
    let Gives : List keeping.Performed → Type 0 = λ os. replayed (first_content opening) os ≡ replies_given os in
    subst Gives (sym same)
    (serial_view opening c.args.history.now run c.args.action.now
    (sym c.is_begun.ensures ∙ c.if-not-is_begun.false)
    (sym (c.in_ok-is_orphan.ensures endings) ∙ c.if-branch.false))
