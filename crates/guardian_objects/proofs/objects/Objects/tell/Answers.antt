use Rattle.std.proofs.Common.{[], arith, refl, subst, ◌∙◌, ◌≡◌}
use Rattle.std.specs.List.{AllByRecursion}
use Rattle.std.proofs.lemmas.List.{nil_from_length}
use Rattle.guardian_objects.specs.Outcomes.{is_alone}
use Rattle.guardian_objects.specs.Turns.{IsReady}
use Rattle.guardian_objects.proofs.Room.{each_parts}
use Rattle.guardian_objects.proofs.Turning.{fit_ready, last_heard, rest_ready, told_all, told_nothing, told_one_more}
use Rattle.guardian_objects.proofs.objects.Objects.tell.Goals as goal

pub loop-telling-init : goal.loop-telling-init
loop-telling-init c = record {
  guardian = refl;
  count = refl;
  ready = fit_ready (is_alone c.args.planned.now.tellings.items) c.args.self.now c.args.planned.now.tellings.items c.requires.fits.room;
  stands = told_nothing c.args.planned.now.tellings.items c.args.self.now;
}

pub tell_one-requires-clause-ready : goal.tell_one-requires-clause-ready
tell_one-requires-clause-ready c =
    let alone = is_alone c.args.planned.now.tellings.items in (
      alone,
      (each_parts (IsReady alone c.loop-telling.self) c.pop.new.self.items c.in-Some.telling
          (subst (λ l. AllByRecursion (IsReady alone c.loop-telling.self) l) c.in-Some.ensures.items c.loop-telling.invariant.ready)).1,
    )

pub tell_one-requires-clause-heard : goal.tell_one-requires-clause-heard
tell_one-requires-clause-heard c =
    last_heard c.args.planned.now.tellings.items c.pop.new.self.items c.loop-telling.planned.tellings.items c.in-Some.telling c.args.self.now c.loop-telling.self c.in-Some.ensures.items
    c.requires.fits.rising c.loop-telling.invariant.stands c.requires.heard

pub loop-telling-preserved : goal.loop-telling-preserved
loop-telling-preserved c = record {
  guardian = c.tell_one.ensures.guardian ∙ c.loop-telling.invariant.guardian;
  count = c.tell_one.ensures.count ∙ c.loop-telling.invariant.count;
  ready = rest_ready c.args.planned.now.tellings.items c.pop.new.self.items c.loop-telling.planned.tellings.items c.in-Some.telling c.args.self.now c.loop-telling.self c.in-Some.ensures.items
      c.requires.fits.rising c.loop-telling.invariant.stands c.tell_one.new.self c.requires.heard c.loop-telling.invariant.ready c.tell_one.ensures.ready;
  stands = told_one_more c.args.planned.now.tellings.items c.pop.new.self.items c.loop-telling.planned.tellings.items c.in-Some.telling c.args.self.now c.loop-telling.self c.in-Some.ensures.items
      c.requires.fits.rising c.loop-telling.invariant.stands c.tell_one.new.self c.tell_one.ensures.told;
}

pub returns-clause-told : goal.returns-clause-told
returns-clause-told c =
    let none : c.loop-telling.planned.tellings.items ≡ [] =
    nil_from_length c.loop-telling.planned.tellings.items (omega (arith, c.loop-telling.planned.tellings.ok.0, c.in_default.ensures.cases)) in
    told_all c.args.planned.now.tellings.items c.loop-telling.planned.tellings.items c.args.self.now c.loop-telling.self none c.loop-telling.invariant.stands
