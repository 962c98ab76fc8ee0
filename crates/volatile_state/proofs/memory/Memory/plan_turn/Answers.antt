use Rattle.std.proofs.Common.{[], ap, refl, subst, sym, ◌∙◌, ◌≡◌}
use Rattle.std.specs.List.Sorted.{IsStrictlySortedBy}
use Rattle.run_model.specs.LocalReadings.{Carried, nothing_carried}
use Rattle.layer_contracts.specs.Forests.{ForestState}
use Rattle.layer_contracts.specs.Messages.{carried_of}
use Rattle.orphans.specs.Knowing.{IsLesson}
use Rattle.roster.specs.Entries.{FitsEntry, IsEntry}
use Rattle.roster.specs.Tables.{table}
use Rattle.atomic_object.specs.Staying.{OutcomesRise}
use Rattle.volatile_state.specs.Memories.{InMemory}
use Rattle.volatile_state.proofs.Kept.{message_within}
use Rattle.volatile_state.proofs.memory.Memory.plan_turn.Goals as goal

pub plan_message-requires : goal.plan_message-requires
unfolding IsStrictlySortedBy
plan_message-requires c = subst (λ l. OutcomesRise l) (sym c.clear.ensures.items) tt

pub returns-clause-fits : goal.returns-clause-fits
returns-clause-fits c =
    let there = c.in_ok-plan_message.ensures.fits in
    record {
      count = there.count;
      heard = there.heard;
      lesson = there.lesson;
      entry = subst (λ (m : InMemory). FitsEntry m.roster c.plan_turn.new.entry) c.self-2.view_is c.plan_turn.ensures.fits;
      planned = there.planned;
    }

pub returns-clause-planned : goal.returns-clause-planned
returns-clause-planned c = λ s at next.
    let event = c.args.event.now in
    let f : ForestState = record { opening = s.opening; registry = [] } in
    let none : carried_of f event c.empty-nothing.result ≡ nothing_carried = c.empty-nothing.ensures f event in
    let has = message_within refl c.clear.ensures.items (c.in_ok-plan_message.ensures.planned s at) in
    record {
      next = next;
      sender = has.sender ∙ ap (λ (k : Carried). k.sender) none;
      brought = has.brought;
      heard = has.heard;
      lesson = subst (λ (k : Carried). IsLesson k.sender k.life k.aborts k.counts [] c.plan_message.new.plan.lesson) none has.lesson;
      entry = subst (λ (m : InMemory). IsEntry (table m.places m.roster) event [] c.plan_turn.new.entry) c.self-2.view_is (c.plan_turn.ensures.planned c.self-2.inside.places);
      outcomes = has.outcomes;
      planned = has.planned;
    }
