use Rattle.std.proofs.Common.{ap, sym, ◌∙◌}
use Rattle.argus_c.proofs.Steps.{made_answers, some_session}
use Rattle.argus_c.proofs.handle.Handle.make.Goals as goal

pub returns : goal.returns
returns c =
    let made = c.make_read-code in
    made_answers c.args.read.now c.args.self.now c.told-2.new.self c.deref_mut.result.now made.new.self made.result c.told-2.result
    (c.in-Some.ensures.some ∙ ap some_session (sym c.deref_mut.ensures.value)) (c.told-2.ensures.same ∙ c.put.ensures.held)
    made.ensures.made made.ensures.bad made.ensures.same made.ensures.unmade made.ensures.code c.told-2.ensures.number
    c.told-2.ensures.error (c.told-2.ensures.held c.put.ensures.marked)
