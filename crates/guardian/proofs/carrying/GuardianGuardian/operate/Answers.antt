use Rattle.std.proofs.Common.{None}
use Rattle.std.proofs.lemmas.Result.{IfOk-weaker, on_err_weaker}
use Rattle.layer_contracts.specs.Guardians.{by_itself, stamped}
use Rattle.guardian.proofs.Asked.{operation_event}
use Rattle.guardian.proofs.Stores.{alone}
use Rattle.guardian.proofs.Whole.{inside, next_within, whole_next, whole_operated, whole_same}
use Rattle.guardian.proofs.carrying.GuardianGuardian.operate.Goals as goal

pub operate-requires-clause-next : goal.operate-requires-clause-next
operate-requires-clause-next g c =
    let next = next_within g.S.Stable.seen c.self.view_is c.requires.next in
    (next.0, next.1.memory, next.2)

pub invariant_of-self : goal.invariant_of-self
invariant_of-self g c =
    let next = next_within g.S.Stable.seen c.self.view_is c.requires.next in
    whole_operated g.S.Stable.seen c.self.inside.memory c.operate.new.self c.self.inside.store c.args.event.now next.0 c.operate.result c.requires.operation next.1
    next.2 c.operate.ensures.kept c.operate.ensures.err

pub returns-clause-kept : goal.returns-clause-kept
returns-clause-kept g c =
    let seen = g.S.Stable.seen in
    let s = c.self.inside.store in
    let news = by_itself c.args.event.now in
    IfOk-weaker c.operate.result _ _
    (λ n says h at next.
    let whole = inside seen c.self.view_is at in
    whole_next seen c.self.inside.memory s n h news c.operate.new.self s whole next (says h whole.memory next)
    (alone h news (seen s) None (operation_event h.number (stamped 0 news) (seen s).content c.requires.operation)))
    c.operate.ensures.kept

pub returns-clause-err : goal.returns-clause-err
returns-clause-err g c =
    let seen = g.S.Stable.seen in
    on_err_weaker c.operate.result
    (λ same h at.
    let whole = inside seen c.self.view_is at in
    whole_same seen c.self.inside.memory c.operate.new.self c.self.inside.store h whole (same h whole.memory))
    c.operate.ensures.err
