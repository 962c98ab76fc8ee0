use Rattle.std.proofs.Common.{sym, ap, subst, ◌∙◌}
use Rattle.stable_store.specs.Held.{parts_in}
use Rattle.stable_store.specs.Undone.{undone, CanUndo}
use Rattle.stable_store.proofs.WayBack.{undone_last, CanUndo-last}
use Rattle.stable_store.proofs.laid.undo.Goals as goal

pub restore-requires : goal.restore-requires
restore-requires c =
    (CanUndo-last _ _ _ _ (subst (λ rs. CanUndo rs (parts_in c.loop-object.base)) c.in-Some.ensures.items c.loop-object.invariant.0)).1

pub loop-object-preserved : goal.loop-object-preserved
loop-object-preserved c =
    let can = subst (λ rs. CanUndo rs (parts_in c.loop-object.base)) c.in-Some.ensures.items c.loop-object.invariant.0 in
    let now = c.restore.ensures in (
      subst (CanUndo c.pop.new.self.items) (sym now) (CanUndo-last _ _ _ _ can).0,
      ap (undone c.pop.new.self.items) now ∙ sym (undone_last _ _ _ _)
          ∙ ap (λ rs. undone rs (parts_in c.loop-object.base)) (sym c.in-Some.ensures.items) ∙ c.loop-object.invariant.1,
    )
