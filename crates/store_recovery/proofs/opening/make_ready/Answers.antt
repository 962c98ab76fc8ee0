use Rattle.std.proofs.Common.{sym, ◌∙◌}
use Rattle.store_recovery.specs.Opened.{AreRefused}
use Rattle.store_recovery.proofs.InTurn.{error_by, hold_on}
use Rattle.store_recovery.proofs.Ready.{all_opened, are_empty, are_strange, hold_ready, not_counted, not_read, not_settled}
use Rattle.store_recovery.proofs.Stops.{error_is}
use Rattle.store_recovery.proofs.opening.make_ready.Goals as goal

pub returns-then-not-all_hold-clause-refused : goal.returns-then-not-all_hold-clause-refused
returns-then-not-all_hold-clause-refused g c =
    are_empty g.S.Stable.seen c.args.setup.now c.args.stores.now (sym c.all_hold.ensures ∙ c.if-not-all_hold.true)

pub returns-in_err-load_all-clause-refused : goal.returns-in_err-load_all-clause-refused
returns-in_err-load_all-clause-refused g c =
    let why = c.in_err-load_all.field-0.0 in
    error_by c.from_residual.result why (λ e. AreRefused g.S.Stable.seen c.args.setup.now c.args.stores.now c.load_all.new.stores e)
    (error_is c.from_residual.result why c.from_residual.ensures.1)
    (not_read g.S.Stable.seen c.args.setup.now c.args.stores.now c.load_all.new.stores why (sym c.all_hold.ensures ∙ c.if-not-all_hold.false)
    c.in_err-load_all.ensures.same c.in_err-load_all.ensures.called)

pub all_belong-requires-clause-hold : goal.all_belong-requires-clause-hold
all_belong-requires-clause-hold g c =
    hold_on g.S.Stable.seen c.args.stores.now c.load_all.new.stores c.in_ok-load_all.ensures.called.kept ∙ (sym c.all_hold.ensures ∙ c.if-not-all_hold.false)

pub returns-then-not-all_belong-clause-refused : goal.returns-then-not-all_belong-clause-refused
returns-then-not-all_belong-clause-refused g c =
    are_strange g.S.Stable.seen c.args.setup.now c.args.stores.now c.load_all.new.stores (sym c.all_hold.ensures ∙ c.if-not-all_hold.false)
    c.in_ok-load_all.ensures.same c.in_ok-load_all.ensures.called (sym c.all_belong.ensures ∙ c.if-not-all_belong.true)

pub settle_all-requires : goal.settle_all-requires
settle_all-requires g c =
    hold_on g.S.Stable.seen c.args.stores.now c.load_all.new.stores c.in_ok-load_all.ensures.called.kept ∙ (sym c.all_hold.ensures ∙ c.if-not-all_hold.false)

pub returns-in_err-settle_all-clause-refused : goal.returns-in_err-settle_all-clause-refused
returns-in_err-settle_all-clause-refused g c =
    let why = c.in_err-settle_all.field-0.0 in
    let settling = c.in_err-settle_all.ensures in
    error_by c.from_residual-in_err-settle_all.result why (λ e. AreRefused g.S.Stable.seen c.args.setup.now c.args.stores.now c.settle_all.new.stores e)
    (error_is c.from_residual-in_err-settle_all.result why c.from_residual-in_err-settle_all.ensures.1)
    (not_settled g.S.Stable.seen c.args.setup.now c.args.stores.now c.load_all.new.stores (sym c.all_hold.ensures ∙ c.if-not-all_hold.false)
    c.in_ok-load_all.ensures.same c.in_ok-load_all.ensures.called (sym c.all_belong.ensures ∙ c.if-not-all_belong.false) c.settle_all.new.stores why
    settling.settled settling.in_part settling.called settling.ours)

pub count_all-requires : goal.count_all-requires
count_all-requires g c =
    let settling = c.in_ok-settle_all.ensures in
    hold_ready g.S.Stable.seen c.args.setup.now c.args.stores.now c.load_all.new.stores (sym c.all_hold.ensures ∙ c.if-not-all_hold.false)
    c.in_ok-load_all.ensures.same c.in_ok-load_all.ensures.called (sym c.all_belong.ensures ∙ c.if-not-all_belong.false) c.settle_all.new.stores
    settling.settled settling.none settling.called

pub returns-clause-opened : goal.returns-clause-opened
returns-clause-opened g c =
    let settling = c.in_ok-settle_all.ensures in
    all_opened g.S.Stable.seen c.args.setup.now c.args.stores.now c.load_all.new.stores (sym c.all_hold.ensures ∙ c.if-not-all_hold.false)
    c.in_ok-load_all.ensures.same c.in_ok-load_all.ensures.called (sym c.all_belong.ensures ∙ c.if-not-all_belong.false) c.settle_all.new.stores
    settling.settled settling.none settling.called c.count_all.new.stores c.count_all.result c.count_all.ensures.called c.count_all.ensures.bases
    c.count_all.ensures.counts c.count_all.ensures.rest

pub returns-clause-refused : goal.returns-clause-refused
returns-clause-refused g c =
    let settling = c.in_ok-settle_all.ensures in
    not_counted g.S.Stable.seen c.args.setup.now c.args.stores.now c.load_all.new.stores (sym c.all_hold.ensures ∙ c.if-not-all_hold.false)
    c.in_ok-load_all.ensures.same c.in_ok-load_all.ensures.called (sym c.all_belong.ensures ∙ c.if-not-all_belong.false) c.settle_all.new.stores
    settling.settled settling.none settling.called c.count_all.new.stores c.count_all.result settling.in_part c.count_all.ensures.called
    c.count_all.ensures.bumped c.count_all.ensures.bases c.count_all.ensures.none c.count_all.ensures.ours
