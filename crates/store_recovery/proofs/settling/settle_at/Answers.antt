use Rattle.std.proofs.Common.{sym, true≢false, ◌∙◌}
use Rattle.store_recovery.proofs.Promised.{holds_first, settles_first}
use Rattle.store_recovery.proofs.settling.settle_at.Goals as goal

pub returns-clause-settles : goal.returns-clause-settles
returns-clause-settles g c =
    settles_first g.S.Stable.seen g.S.Stable.may_fail c.args.stores.now c.args.left.place c.args.left.top c.args.left.home c.index-stores-left.result
    c.settle_one.new.store c.is_decided-decided.result c.settle_one.result c.requires.first c.is_decided-decided.ensures c.settle_one.ensures.makes

pub returns-clause-ours : goal.returns-clause-ours
returns-clause-ours g c = λ is.
    absurd (true≢false (sym (holds_first g.S.Stable.seen c.args.stores.now c.args.left.place c.args.left.top c.args.left.home c.index-stores-left.result
    c.requires.first c.requires.hold) ∙ c.settle_one.ensures.ours is))
