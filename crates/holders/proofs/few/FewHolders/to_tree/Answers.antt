use Rattle.std.proofs.Common.{arith, subst, sym}
use Rattle.std.specs.List.Sorted.{IsStrictlySortedBy}
use Rattle.std.specs.Map.{keys_of}
use Rattle.action_names.specs.Names.{name_cmp}
use Rattle.holders.proofs.FewRows.{inserted_next}
use Rattle.holders.proofs.few.FewHolders.to_tree.Goals as goal

pub loop-holder-preserved : goal.loop-holder-preserved
loop-holder-preserved g c =
    inserted_next _ c.loop-holder.rows.entries _ c.loop-holder.holder-index c.loop-holder-item.result _
    (subst (λ es. IsStrictlySortedBy name_cmp (keys_of es)) (sym c.deref-holder-items.ensures.value) c.self.invariant)
    c.loop-holder-item.is (omega (arith, c.loop-holder-test.true)) c.loop-holder.invariant c.in_ok-copy.ensures.ok.1 c.in_ok-insert.ensures.entries
