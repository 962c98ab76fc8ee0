use Rattle.std.proofs.Common.{sym, ap, ◌∙◌}
use Rattle.std.specs.FinMap as map
use Rattle.atomic_types.specs.Parts.{over}
use Rattle.stable_store.specs.Held.{parts_in}
use Rattle.stable_store.proofs.Maps.{get_is, given}
use Rattle.stable_store.proofs.laid.lay_one.Goals as goal

pub returns-clause-before : goal.returns-clause-before
returns-clause-before c = c.in_ok-insert.ensures.old ∙ sym (get_is _ c.args.object)

pub returns-clause-ok : goal.returns-clause-ok
returns-clause-ok c =
    given _ _ _ _ c.in_ok-insert.ensures.updates.0
    ∙ ap (map.insert (parts_in c.args.base.now) c.args.object)
    (c.in_ok-installed.ensures ∙ ap (over c.args.part.now) (c.get.ensures.value ∙ sym (get_is _ c.args.object)))
