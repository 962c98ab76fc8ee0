use Rattle.std.proofs.Common.{ap, sym, ◌∙◌}
use Rattle.argus_c.specs.Keeping.{IsStoreTextOf}
use Rattle.argus_c.proofs.Steps.{some_session}
use Rattle.argus_c.proofs.Telling.{no_store, tells}
use Rattle.argus_c.proofs.keeping.argus_c_store.Goals as goal

pub returns : goal.returns
returns c =
    let wrote = c.write_found-code in
    let same = ap some_session (sym c.deref.ensures) in
    tells (IsStoreTextOf c.args.guardian) c.args.handle.now c.told-2.new.self c.deref.result.now c.store-text.result
    (record { bytes = c.args.place.now; len = c.args.len.now }) (record { bytes = wrote.new.place; len = wrote.new.len })
    wrote.result c.told-2.result (c.in-Some.ensures.some ∙ same) (c.told-2.ensures.same ∙ c.put.ensures.held ∙ same)
    c.store-text.ensures.told (no_store c.args.guardian c.deref.result.now c.store-text.result c.store-text.ensures.none) wrote.ensures.done wrote.ensures.small wrote.ensures.nothing wrote.ensures.unwritten
    wrote.ensures.untold wrote.ensures.code c.told-2.ensures.number c.told-2.ensures.error
    (c.told-2.ensures.held c.put.ensures.marked)
