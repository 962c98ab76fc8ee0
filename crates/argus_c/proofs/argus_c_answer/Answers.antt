use Rattle.std.proofs.Common.{ap, sym, ◌∙◌}
use Rattle.argus_c.specs.Sessions.{IsAnswerText}
use Rattle.argus_c.proofs.Steps.{some_session}
use Rattle.argus_c.proofs.Telling.{tells}
use Rattle.argus_c.proofs.argus_c_answer.Goals as goal

pub returns : goal.returns
returns c =
    let wrote = c.write_found-code in
    let same = ap some_session (sym c.deref.ensures) in
    tells IsAnswerText c.args.handle.now c.told-2.new.self c.deref.result.now c.answer-text.result
    (record { bytes = c.args.place.now; len = c.args.len.now }) (record { bytes = wrote.new.place; len = wrote.new.len })
    wrote.result c.told-2.result (c.in-Some.ensures.some ∙ same) (c.told-2.ensures.same ∙ c.put.ensures.held ∙ same)
    c.answer-text.ensures.told c.answer-text.ensures.none wrote.ensures.done wrote.ensures.small wrote.ensures.nothing wrote.ensures.unwritten
    wrote.ensures.untold wrote.ensures.code c.told-2.ensures.number c.told-2.ensures.error
    (c.told-2.ensures.held c.put.ensures.marked)
