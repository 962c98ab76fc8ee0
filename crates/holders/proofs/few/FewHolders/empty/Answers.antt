use Rattle.std.proofs.Common.{None, ◌∙◌, ap, sym, subst}
use Rattle.std.specs.BTreeMap.{is_at}
use Rattle.std.specs.List.Sorted.{IsStrictlySortedBy}
use Rattle.std.specs.Map.{keys_of}
use Rattle.action_names.specs.Names.{name_cmp}
use Rattle.holders.specs.Held.{Rows}
use Rattle.holders.proofs.Places.{sorted_set}
use Rattle.holders.proofs.Rows.{emptied_in, held_sorted, keys_set}
use Rattle.holders.proofs.few.FewHolders.empty.Goals as goal

pub returns-clause-held : goal.returns-clause-held
returns-clause-held g c = emptied_in _ c.self.inside.rows.items _ c.args.holder.now c.self.view_is c.self.invariant c.write.ensures

pub returns-clause-room : goal.returns-clause-room
returns-clause-room g c =
    ap (λ rs. keys_of rs) c.write.ensures ∙ keys_set (is_at (name_cmp c.args.holder.now)) None c.self.inside.rows.items ∙ ap (λ (s : Rows _). s.room) c.self.view_is

pub invariant_of-self : goal.invariant_of-self
invariant_of-self g c =
    subst (λ rs. IsStrictlySortedBy name_cmp (keys_of rs)) (sym c.write.ensures)
    (sorted_set (is_at (name_cmp c.args.holder.now)) None c.self.inside.rows.items c.self.invariant)

pub returns-clause-rising : goal.returns-clause-rising
returns-clause-rising g c = held_sorted c.write.new.rows.items (invariant_of-self g c)
