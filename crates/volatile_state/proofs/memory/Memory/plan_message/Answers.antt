use Rattle.std.proofs.Common.{arith, refl, subst, sym, ◌∙◌, ◌≡◌}
use Rattle.orphans.specs.Knowing.{IsLesson}
use Rattle.tellings.specs.Hearing.{IsHeard}
use Rattle.atomic_object.specs.Staying.{OutcomesRise}
use Rattle.volatile_state.proofs.Sound.{inside, more_roster, sound_same}
use Rattle.volatile_state.proofs.memory.Memory.plan_message.Goals as goal

pub plan-requires-clause-shown : goal.plan-requires-clause-shown
plan-requires-clause-shown c = (c.self.invariant.0.opening, c.self.invariant.0.past, c.self.invariant.1.shown)

pub plan-requires-clause-rising : goal.plan-requires-clause-rising
plan-requires-clause-rising c = subst (λ l. OutcomesRise l) (sym c.as_slice-outcomes.ensures.value) c.requires

pub invariant_of-self : goal.invariant_of-self
invariant_of-self c = (_, sound_same (λ h here k. k) refl (λ here k. k) refl (λ h here k. k) c.plan.ensures.same c.plan.ensures.guardian c.self.invariant.1)

pub returns-in_err-plan-clause-same : goal.returns-in_err-plan-clause-same
returns-in_err-plan-clause-same c = λ s at. sound_same (λ h here k. k) refl (λ here k. k) refl (λ h here k. k) c.plan.ensures.same c.plan.ensures.guardian (inside c.self.view_is at)

pub invariant_of-self-in_err-plan-2 : goal.invariant_of-self-in_err-plan-2
invariant_of-self-in_err-plan-2 c = (_, sound_same c.plan-2.ensures.same c.plan-2.ensures.crashes (λ here k. k) refl (more_roster c.self.inside.roster c.plan-2.ensures.more) c.plan.ensures.same c.plan.ensures.guardian c.self.invariant.1)

pub returns-in_err-plan-2-clause-same : goal.returns-in_err-plan-2-clause-same
returns-in_err-plan-2-clause-same c = λ s at. sound_same c.plan-2.ensures.same c.plan-2.ensures.crashes (λ here k. k) refl (more_roster c.self.inside.roster c.plan-2.ensures.more) c.plan.ensures.same c.plan.ensures.guardian (inside c.self.view_is at)

pub invariant_of-self-in_err-plan_lesson : goal.invariant_of-self-in_err-plan_lesson
invariant_of-self-in_err-plan_lesson c = (_, sound_same c.plan-2.ensures.same c.plan-2.ensures.crashes c.plan_lesson.ensures.same c.plan_lesson.ensures.own (more_roster c.self.inside.roster c.plan-2.ensures.more) c.plan.ensures.same c.plan.ensures.guardian c.self.invariant.1)

pub returns-in_err-plan_lesson-clause-same : goal.returns-in_err-plan_lesson-clause-same
returns-in_err-plan_lesson-clause-same c = λ s at. sound_same c.plan-2.ensures.same c.plan-2.ensures.crashes c.plan_lesson.ensures.same c.plan_lesson.ensures.own (more_roster c.self.inside.roster c.plan-2.ensures.more) c.plan.ensures.same c.plan.ensures.guardian (inside c.self.view_is at)

pub invariant_of-self-2 : goal.invariant_of-self-2
invariant_of-self-2 c = (_, sound_same c.plan-2.ensures.same c.plan-2.ensures.crashes c.plan_lesson.ensures.same c.plan_lesson.ensures.own (more_roster c.self.inside.roster c.plan-2.ensures.more) c.plan.ensures.same c.plan.ensures.guardian c.self.invariant.1)

pub returns-clause-same : goal.returns-clause-same
returns-clause-same c = λ s at. sound_same c.plan-2.ensures.same c.plan-2.ensures.crashes c.plan_lesson.ensures.same c.plan_lesson.ensures.own (more_roster c.self.inside.roster c.plan-2.ensures.more) c.plan.ensures.same c.plan.ensures.guardian (inside c.self.view_is at)

pub returns-clause-fits : goal.returns-clause-fits
returns-clause-fits c =
    let own = c.self.invariant.1.actions in
    let is : c.crashes.result ≡ c.self.inside.roster.crashes =
    c.crashes.ensures c.self.invariant.0.number c.self.invariant.0.past c.self.inside.places own ∙ sym own.crashes in
    record {
      count = omega (arith, c.if-crashes.false, is, c.crashes.type_inv);
      heard = c.in_ok-plan-2.ensures.fits;
      lesson = c.in_ok-plan_lesson.ensures.fits;
      planned = c.in_ok-plan.ensures.fits;
    }

pub returns-clause-planned : goal.returns-clause-planned
returns-clause-planned c = λ s at.
    let message = c.args.message.now in
    let outcomes = c.args.plan.now.outcomes.items in
    record {
      sender = refl;
      brought = refl;
      heard = subst (λ l. IsHeard c.plan-2.new.places c.plan-2.new.self l c.plan-2.new.heard) c.as_slice-outcomes.ensures.value c.in_ok-plan-2.ensures.heard;
      lesson =
          subst (λ l. IsLesson message.sender message.life message.aborts l outcomes c.plan_lesson.new.lesson) c.as_slice.ensures.value
          (subst (λ l. IsLesson message.sender message.life message.aborts c.as_slice.result.now l c.plan_lesson.new.lesson)
          c.as_slice-outcomes.ensures.value c.in_ok-plan_lesson.ensures.news);
      outcomes = c.in_ok-plan.ensures.outcomes ∙ c.as_slice-outcomes.ensures.value;
      planned = c.in_ok-plan.ensures.planned s.number s.past (inside c.self.view_is at).tellings;
    }
