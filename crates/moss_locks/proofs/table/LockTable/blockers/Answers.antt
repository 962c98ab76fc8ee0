use Rattle.std.proofs.Common.{◌≡◌, ◌||◌, ◌&&◌, not, false, List, ap, ◌∙◌}
use Rattle.std.proofs.lemmas.Result.{IfOk-weaker}
use Rattle.action_names.specs.Names.{Name, has_name, is_ancestor}
use Rattle.atomic_types.specs.declared.op.Class.TheVariants.{Read, Write, Add}
use Rattle.atomic_types.specs.Operations.{classes_conflict}
use Rattle.object_model.specs.Locks.{is_in_the_way}
use Rattle.holders.specs.Held.{names_of}
use Rattle.moss_locks.specs.Table.{Table}
use Rattle.moss_locks.proofs.Waiting.{of_classes, none_waited}
use Rattle.moss_locks.proofs.table.LockTable.blockers.Goals as goal

pub returns-clause-none : goal.returns-clause-none
returns-clause-none c =
    let a = c.args.action.now in
    let wanted = c.args.class in
    let i = c.self.inside in
    let just = λ (b : Name).
    let foreign = not (is_ancestor b a) in
    let reads = classes_conflict Read wanted && has_name (names_of i.readers.held) b in
    let writes = classes_conflict Write wanted && has_name (names_of i.writers.held) b in
    let adds = classes_conflict Add wanted && has_name (names_of i.adders.held) b in
    let nobody : has_name c.new-names.result.keys b ≡ false = ap (λ ns. has_name ns b) c.new-names.ensures.empty in
    c.in_ok-add_in_the_way-3.ensures b
    ∙ ap (λ t. t || (foreign && adds)) (c.in_ok-add_in_the_way-2.ensures b
    ∙ ap (λ t. t || (foreign && writes)) (c.in_ok-add_in_the_way.ensures b ∙ ap (λ t. t || (foreign && reads)) nobody))
    ∙ of_classes foreign reads writes adds ∙ ap (λ (table : Table). is_in_the_way table.locks a wanted b) c.self.view_is in
    IfOk-weaker c.list.result _ _ (λ names e. none_waited c.args.self.now.locks a wanted names.items (λ b. ap (λ (ns : List Name). has_name ns b) e ∙ just b)) c.list.ensures.names
