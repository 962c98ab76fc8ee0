use Rattle.std.proofs.Common.{arith, subst, sym}
use Rattle.std.specs.List.Sorted.{IsStrictlySortedBy}
use Rattle.std.specs.Map.{keys_of}
use Rattle.action_names.specs.Names.{name_cmp}
use Rattle.guardian_index.proofs.FewRows.{all_copied, copied_next, orderly_as}
use Rattle.guardian_index.proofs.few.FewRows.to_tree.Goals as goal

pub loop-holder-preserved : goal.loop-holder-preserved
loop-holder-preserved c =
    copied_next _ c.loop-holder.rows.entries _ c.loop-holder.holder-index c.loop-holder-item.result c.in_ok-copy-2.field-0 c.in_ok-copy.copy
    (subst (λ es. IsStrictlySortedBy name_cmp (keys_of es)) (sym c.deref-holder-items.ensures.value) c.self.invariant.names)
    c.loop-holder-item.is (omega (arith, c.loop-holder-test.true)) c.loop-holder.invariant c.in_ok-copy-2.ensures.ok.1 c.in_ok-copy.ensures c.in_ok-insert.ensures.entries

pub of-requires : goal.of-requires
of-requires c =
    let es = c.self.inside.rows.items in
    orderly_as es _ (all_copied _ es c.loop-holder.rows.entries c.loop-holder.holder-index c.loop-holder.invariant (omega (arith, c.loop-holder-test.false))
    c.deref-holder-items.ensures.value) c.self.invariant
