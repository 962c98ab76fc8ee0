use Rattle.std.proofs.Common.{◌∙◌, is_some, not, ap, sym}
use Rattle.holders.specs.Held.{names_of}
use Rattle.holders.proofs.Rows.{holds_some}
use Rattle.moss_locks.proofs.Names.{names_put, twice_not, undone}
use Rattle.moss_locks.proofs.of_class.insert.Goals as goal

pub returns-clause-ok : goal.returns-clause-ok
returns-clause-ok c = ap names_of c.in_ok-before.ensures.held ∙ names_put c.args.holders.now.held c.args.holder.now tt

pub returns-clause-undone : goal.returns-clause-undone
returns-clause-undone c =
    let a = c.args.holder.now in
    undone a (names_of c.args.holders.now.held) _ _ c.in_ok-before.ensures.rose
    (twice_not c.is_none.result ∙ ap not (sym c.is_none.ensures) ∙ ap (λ o. not (is_some o)) c.in_ok-before.ensures.before ∙ ap not (holds_some c.args.holders.now.held a))
    (ap names_of c.in_ok-before.ensures.held ∙ names_put c.args.holders.now.held a tt)
