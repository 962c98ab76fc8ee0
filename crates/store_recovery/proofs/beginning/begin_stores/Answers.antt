use Rattle.std.proofs.Common.{sym, true≢false, ◌∙◌}
use Rattle.store_recovery.proofs.InTurn.{hold_on}
use Rattle.store_recovery.proofs.Nothing.{empty_alike}
use Rattle.store_recovery.proofs.Promised.{keep_themselves}
use Rattle.store_recovery.proofs.beginning.begin_stores.Goals as goal

pub returns-then-not-all_hold-clause-kept : goal.returns-then-not-all_hold-clause-kept
returns-then-not-all_hold-clause-kept g c = keep_themselves g.S.Stable.seen c.args.stores.now

pub are_empty-requires : goal.are_empty-requires
are_empty-requires g c =
    hold_on g.S.Stable.seen c.args.stores.now c.load_all.new.stores c.in_ok-load_all.ensures.called.kept ∙ (sym c.all_hold.ensures ∙ c.if-not-all_hold.false)

pub returns-then-not-are_empty-clause-cause : goal.returns-then-not-are_empty-clause-cause
returns-then-not-are_empty-clause-cause g c hold nothing other =
    let still = empty_alike g.S.Stable.seen c.args.stores.now c.load_all.new.stores c.in_ok-load_all.ensures.same nothing in
    absurd (true≢false (sym (c.are_empty.ensures.1 still) ∙ c.if-not-are_empty.true))

pub returns-clause-new : goal.returns-clause-new
returns-clause-new g c = record {
  hold = hold_on g.S.Stable.seen c.args.stores.now c.load_all.new.stores c.in_ok-load_all.ensures.called.kept ∙ (sym c.all_hold.ensures ∙ c.if-not-all_hold.false);
  nothing = c.are_empty.ensures.0 c.if-not-are_empty.false;
  rest = c.in_ok-load_all.ensures.rest;
}
