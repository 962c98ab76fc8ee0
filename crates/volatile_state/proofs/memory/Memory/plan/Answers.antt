use Rattle.std.proofs.Common.{ap, arith, refl, subst, sym}
use Rattle.std.proofs.lemmas.Result.{on_ok_weaker}
use Rattle.layer_contracts.specs.Messages.{local_event}
use Rattle.atomic_object.specs.Staying.{OutcomesRise}
use Rattle.volatile_state.proofs.Kept.{message_within, room_within}
use Rattle.volatile_state.proofs.Sound.{inside, more_heard, more_told, sound_same}
use Rattle.volatile_state.proofs.memory.Memory.plan.Goals as goal

pub plan_message-requires : goal.plan_message-requires
plan_message-requires g c = subst (λ l. OutcomesRise l) (sym (ap (λ outcomes. outcomes.items) c.swap.ensures.x_after)) c.requires.rising

pub invariant_of-self : goal.invariant_of-self
invariant_of-self g c =
    (_, sound_same (λ h here k. more_told c.self.inside.told c.plan.ensures.more h here k) refl (λ here k. k) refl c.plan.ensures.same (λ opening here k. k) refl c.self.invariant.1)

pub returns-clause-same : goal.returns-clause-same
returns-clause-same g c = λ s at.
    sound_same (λ h here k. more_told c.self.inside.told c.plan.ensures.more h here k) refl (λ here k. k) refl c.plan.ensures.same (λ opening here k. k) refl
    (inside c.self.view_is (c.plan_message.ensures.same s at))

pub returns-clause-fits : goal.returns-clause-fits
returns-clause-fits g c =
    let there = room_within c.self.view_is c.in_ok-plan_message.ensures.fits in
    on_ok_weaker c.plan.result (λ entry. record {
      count = omega (arith, there.count, c.plan.ensures.crashes);
      heard = there.heard;
      lesson = there.lesson;
      entry = entry;
      planned = there.planned;
    }) c.plan.ensures.fits

pub returns-clause-planned : goal.returns-clause-planned
returns-clause-planned g c =
    on_ok_weaker c.plan.result (λ made s f at of owed agrees.
    let has = message_within c.self.view_is (ap (λ outcomes. outcomes.items) c.swap.ensures.x_after) (c.in_ok-plan_message.ensures.planned s at) in
    record {
      next = record { accepted = c.requires.accepted; owed = owed; agrees = agrees };
      sender = has.sender;
      brought = has.brought;
      heard = more_heard c.self.inside.told c.args.message.now.outcomes.items c.plan_message.new.plan.heard c.plan.ensures.more has.heard;
      lesson = has.lesson;
      entry = made f s.number (local_event f c.args.event.now c.args.message.now) s.past of refl agrees.actions;
      outcomes = has.outcomes;
      planned = has.planned;
    }) c.plan.ensures.planned
