use Rattle.std.proofs.Common.{None, Some, ap, refl, subst, sym, ◌∙◌, ◌≡◌}
use Rattle.run_model.specs.Openings.{opening_in}
use Rattle.activities.specs.Ends.{IsTopAt}
use Rattle.activities.specs.Making.{once_begun}
use Rattle.activities.specs.Serial.{begun_by}
use Rattle.activities.proofs.Alone.{alone_after}
use Rattle.activities.proofs.Clients.{top_at, top_begins_one, top_leaves}
use Rattle.activities.proofs.Meaning.{acting_begun}
use Rattle.activities.proofs.serial.begin_top.Goals as goal

pub begun_by-requires : goal.begun_by-requires
begun_by-requires g c names h =
    top_begins_one (opening_in (g.W.ActivitySteps.run c.args.world.now).lists) c.args.home c.in_ok-answer.ensures.answered.past names
    (sym h ∙ c.in_ok-answer.ensures.answered.answered)

pub returns-in_default : goal.returns-in_default
returns-in_default g c =
    let home = c.args.home in
    let old = g.W.ActivitySteps.run c.args.world.now in
    let new = g.W.ActivitySteps.run c.make_step.new.self in
    let found : begun_by c.in_ok-answer.answer ≡ None = sym c.begun_by.ensures ∙ c.in_default.is in
    record {
      left =
          top_leaves old new home (opening_in old.lists) c.in_ok-answer.ensures.answered.past c.in_ok-answer.answer c.in_ok-answer.ensures.answered.answered
          c.in_ok-answer.ensures.after
          ∙ ap (λ found. once_begun home found old) found;
      top = λ alone. subst (λ found. IsTopAt home old found) found (top_at old home c.in_ok-answer.answer (c.in_ok-answer.ensures.alone alone));
      after = λ alone. alone_after _ c.in_ok-answer.answer old new c.in_ok-answer.ensures.after (c.in_ok-answer.ensures.alone alone);
      begun = λ alone. sym found ∙ ap begun_by (c.in_ok-answer.ensures.alone alone);
      acting = tt;
      failed = tt;
      err = tt;
    }

pub returns : goal.returns
returns g c =
    let home = c.args.home in
    let top = c.new-top.result in
    let old = g.W.ActivitySteps.run c.args.world.now in
    let new = g.W.ActivitySteps.run c.make_step.new.self in
    let found : begun_by c.in_ok-answer.answer ≡ Some top.name = sym c.begun_by.ensures ∙ c.in-Some.is ∙ ap Some (sym c.new-top.ensures.name) in
    record {
      left =
          top_leaves old new home (opening_in old.lists) c.in_ok-answer.ensures.answered.past c.in_ok-answer.answer c.in_ok-answer.ensures.answered.answered
          c.in_ok-answer.ensures.after
          ∙ ap (λ found. once_begun home found old) found;
      top = λ alone. subst (λ found. IsTopAt home old found) found (top_at old home c.in_ok-answer.answer (c.in_ok-answer.ensures.alone alone));
      after = λ alone. alone_after _ c.in_ok-answer.answer old new c.in_ok-answer.ensures.after (c.in_ok-answer.ensures.alone alone);
      begun = λ alone. sym found ∙ ap begun_by (c.in_ok-answer.ensures.alone alone);
      acting = acting_begun top top.name home refl c.new-top.ensures.home (ap (λ x. x.homes.keys) c.new-top.ensures.reached ∙ c.in_ok-reached.ensures.homes)
          (ap (λ x. x.participants.keys) c.new-top.ensures.reached ∙ c.in_ok-reached.ensures.participants);
      failed = tt;
      err = tt;
    }
