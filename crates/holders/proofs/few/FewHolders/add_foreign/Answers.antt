use Rattle.std.proofs.Common.{ap, arith, sym, ◌∙◌}
use Rattle.std.specs.BTreeSet.{insert_key}
use Rattle.action_names.specs.Names.{has_name, name_cmp}
use Rattle.holders.proofs.Rows.{has_insert}
use Rattle.holders.proofs.FewRows.{foreign_next, foreign_stay}
use Rattle.holders.proofs.few.FewHolders.add_foreign.Goals as goal
use Rattle.holders.proofs.few.FewHolders.add_foreign.Goals.{then-is_foreign+in_ok-copy+in_ok-insert, else-is_foreign}

pub loop-holder-preserved : goal.loop-holder-preserved
loop-holder-preserved g c = λ b.
    let i = c.loop-holder.holder-index in
    let x = c.loop-holder-item.result in
    let before = c.loop-holder.names.keys in
    let first = c.args.names.now.keys in
    elim c.if-is_foreign.branch [
      | then-is_foreign+in_ok-copy+in_ok-insert w ↦
          ap (λ s. has_name s.keys b) w.names-is
          ∙ ap (λ ns. has_name ns b) (w.in_ok-insert.ensures.keys ∙ ap (insert_key name_cmp before) w.in_ok-copy.ensures.ok.1) ∙ has_insert x.0 b before
          ∙ foreign_next _ i x c.args.action.now b (has_name before b) (has_name first b) c.loop-holder-item.is (omega (arith, c.loop-holder-test.true))
          (c.loop-holder.invariant b) (sym c.is_foreign.ensures ∙ w.if-is_foreign.true)
      | else-is_foreign w ↦
          ap (λ s. has_name s.keys b) w.names-is
          ∙ foreign_stay _ i x c.args.action.now b (has_name before b) (has_name first b) c.loop-holder-item.is (omega (arith, c.loop-holder-test.true))
          (c.loop-holder.invariant b) (sym c.is_foreign.ensures ∙ w.if-is_foreign.false)
    ]
