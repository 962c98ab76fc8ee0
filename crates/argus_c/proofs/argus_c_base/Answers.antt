use Rattle.std.proofs.Common.{ap, sym, ◌∙◌}
use Rattle.argus_c.specs.Sessions.{IsBaseText}
use Rattle.argus_c.proofs.Steps.{some_session}
use Rattle.argus_c.proofs.Telling.{no_base, tells}
use Rattle.argus_c.proofs.argus_c_base.Goals as goal

pub returns : goal.returns
returns c =
    let wrote = c.write_found-code in
    let same = ap some_session (sym c.deref.ensures) in
    tells (IsBaseText c.args.guardian c.args.number) c.args.handle.now c.told-2.new.self c.deref.result.now c.base-text.result
    (record { bytes = c.args.place.now; len = c.args.len.now }) (record { bytes = wrote.new.place; len = wrote.new.len })
    wrote.result c.told-2.result (c.in-Some.ensures.some ∙ same) (c.told-2.ensures.same ∙ c.put.ensures.held ∙ same)
    c.base-text.ensures.told (no_base c.args.guardian c.args.number c.deref.result.now c.base-text.result c.base-text.ensures.none) wrote.ensures.done wrote.ensures.small wrote.ensures.nothing wrote.ensures.unwritten
    wrote.ensures.untold wrote.ensures.code c.told-2.ensures.number c.told-2.ensures.error
    (c.told-2.ensures.held c.put.ensures.marked)
