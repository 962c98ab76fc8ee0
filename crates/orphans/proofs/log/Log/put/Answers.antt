use Rattle.std.proofs.Common.{Ok, ap, not, reverse, sym, ◌∙◌}
use Rattle.std.proofs.lemmas.Result.{IfOk-at_ok}
use Rattle.action_names.specs.Names.{has_name}
use Rattle.orphans.proofs.Indexing.{indexed_more, is_known}
use Rattle.orphans.proofs.Learning.{learnt_known, learnt_new}
use Rattle.orphans.proofs.Turned.{turned_push}
use Rattle.orphans.proofs.log.Log.put.Goals as goal

pub invariant_of-self : goal.invariant_of-self
invariant_of-self c =
    let names = c.args.self.now.names.items in
    let moved = IfOk-at_ok _ (c.unwrap.ensures ∙ ap Ok c.if-unwrap.true) c.insert-inserted.ensures.keys in
    record {
      indexed = λ a.
          indexed_more names _ _ c.args.abort.name c.args.abort.path c.args.self.now.indexed c.args.abort.same moved a
          ∙ ap (λ xs. has_name xs a) (sym c.push_reserved.ensures.items);
    }

pub returns-then-unwrap-clause-names : goal.returns-then-unwrap-clause-names
returns-then-unwrap-clause-names c =
    let names = c.args.self.now.names.items in
    let known = is_known names _ c.args.abort.name c.args.abort.path _ c.args.self.now.indexed c.args.abort.same (IfOk-at_ok _ c.unwrap.ensures c.insert-inserted.ensures.added) in
    ap reverse c.push_reserved.ensures.items
    ∙ turned_push names c.args.abort.name
    ∙ learnt_new (reverse names) c.args.abort.name (known ∙ ap not c.if-unwrap.true)

pub returns-else-unwrap-clause-names : goal.returns-else-unwrap-clause-names
returns-else-unwrap-clause-names c =
    let names = c.args.self.now.names.items in
    let known = is_known names _ c.args.abort.name c.args.abort.path _ c.args.self.now.indexed c.args.abort.same (IfOk-at_ok _ c.unwrap.ensures c.insert-inserted.ensures.added) in
    learnt_known (reverse names) c.args.abort.name (known ∙ ap not c.if-unwrap.false)
