use Rattle.std.proofs.Common.{Bool, ap, false, refl, subst, sym, true, ◌∙◌, ◌≡◌, ◌||◌}
use Rattle.std.proofs.lemmas.Bool.{false≢true}
use Rattle.guardian_laws.specs.Stored.{after_event, asks_store}
use Rattle.layer_contracts.specs.Guardians.{by_itself, stamped}
use Rattle.layer_contracts.specs.Messages.{is_operation, is_turn}
use Rattle.layer_contracts.specs.Stores.{Leaves, LeavesStore, fault_in}
use Rattle.layer_contracts.specs.declared.guardian.Fault.TheVariants.{Memory}
use Rattle.layer_contracts.proofs.Stores.{refused_before}
use Rattle.run_model.proofs.Events.{step_is}
use Rattle.world_steps.proofs.Stores.{leaves_from, with_fault}
use Rattle.locked_run.proofs.own.keep_by_itself.Goals as goal

other_of : (s t : Bool) → (s || t) ≡ true → s ≡ false → t ≡ true
other_of true t is not = absurd (false≢true (sym not))
other_of false t is not = is

pub plan_turn-requires-clause-turn : goal.plan_turn-requires-clause-turn
plan_turn-requires-clause-turn g c =
    let step = c.args.event.now.step in
    other_of (is_operation step) (is_turn step) c.requires.own (ap is_operation (step_is c.event.view_is) ∙ sym c.is_operation.ensures ∙ c.if-is_operation.false)

-- out of memory before its store was called
pub returns-in_err-plan_turn-clause-store : goal.returns-in_err-plan_turn-clause-store
returns-in_err-plan_turn-clause-store g c = λ s here next.
    let news = by_itself c.args.event.now in
    let old = g.G.Guardian.stored c.args.guardian.now in
    let new = g.G.Guardian.stored c.plan_turn.new.self in
    let whole = c.number.ensures.whole s here in
    with_fault c.from_residual-in_err-plan_turn.result Memory (λ fault. LeavesStore s news old new fault) c.from_residual-in_err-plan_turn.ensures.1
    (refused_before (asks_store s.number (stamped 0 news) old.content) (after_event s.opening s.number (stamped 0 news) s.past old.content) old new c.plan_turn.ensures.store whole.found whole.rests)

pub returns-clause-store : goal.returns-clause-store
returns-clause-store g c = λ s here next.
    let news = by_itself c.args.event.now in
    let old = g.G.Guardian.stored c.args.guardian.now in
    let mid = g.G.Guardian.stored c.plan_turn.new.self in
    let new = g.G.Guardian.stored c.carry_out.new.self in
    let left = c.carry_out.ensures.store s news (c.plan_turn.ensures.same s here) (c.in_ok-plan_turn.ensures.planned s here next) refl in
    leaves_from (asks_store s.number (stamped 0 news) old.content) (after_event s.opening s.number (stamped 0 news) s.past old.content) old mid new (fault_in c.carry_out.result) c.plan_turn.ensures.store
    (subst (λ v. Leaves (asks_store s.number (stamped 0 news) v) (after_event s.opening s.number (stamped 0 news) s.past v) mid new (fault_in c.carry_out.result)) c.plan_turn.ensures.store.content left)
