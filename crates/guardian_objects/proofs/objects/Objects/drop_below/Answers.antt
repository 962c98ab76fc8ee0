use Rattle.std.proofs.Common.{[], arith, false, length, not, refl, subst, sym, ◌&&◌, ◌∙◌, ◌≡◌, ap}
use Rattle.std.proofs.lemmas.List.{nil_from_length}
use Rattle.action_names.specs.Names.{is_ancestor}
use Rattle.guardian_index.specs.Held.{HasRoomBelow, has_object}
use Rattle.guardian_objects.specs.Turns.{Aborts, AreChanged}
use Rattle.guardian_objects.proofs.Aborting.{abort_all, abort_next, abort_ready, abort_stands, abort_step}
use Rattle.guardian_objects.proofs.Committing.{numbers_of}
use Rattle.guardian_objects.proofs.Holding.{own_name}
use Rattle.guardian_objects.proofs.Turning.{heard_as}
use Rattle.guardian_objects.proofs.objects.Objects.drop_below.Goals as goal

pub loop-number-init : goal.loop-number-init
loop-number-init c = record {
  guardian = refl;
  held = refl;
  rising = c.requires.ready.1.rising;
  there = c.requires.ready.1.there;
  will = λ new h. h;
}

pub drop_below_at-requires-clause-named : goal.drop_below_at-requires-clause-named
drop_below_at-requires-clause-named c = own_name c.args.telling.action c.depth-depth.ensures.named

pub drop_below_at-requires-clause-there : goal.drop_below_at-requires-clause-there
drop_below_at-requires-clause-there c =
    abort_next c.pop.new.self.items c.loop-number.at.items c.in-Some.number _ c.in-Some.ensures.items c.loop-number.self.objects c.loop-number.invariant.there

pub loop-number-preserved : goal.loop-number-preserved
loop-number-preserved c =
    let step = abort_step c.args.telling.action c.args.telling.at.items c.pop.new.self.items c.loop-number.at.items c.in-Some.number _
    c.in-Some.ensures.items c.args.self.now.objects c.loop-number.self.objects c.drop_below_at.new.self.objects c.loop-number.invariant.rising c.loop-number.invariant.there
    c.loop-number.invariant.will c.drop_below_at.ensures.objects in
    record {
      guardian = c.drop_below_at.ensures.guardian ∙ c.loop-number.invariant.guardian;
      held = c.drop_below_at.ensures.held ∙ c.loop-number.invariant.held;
      rising = step.0;
      there = step.1;
      will = step.2;
    }

pub loop-number-preserved-in-Some : goal.loop-number-preserved-in-Some
loop-number-preserved-in-Some c =
    let step = abort_step c.args.telling.action c.args.telling.at.items c.pop.new.self.items c.loop-number.at.items c.in-Some.number _
    c.in-Some.ensures.items c.args.self.now.objects c.loop-number.self.objects c.drop_below_at.new.self.objects c.loop-number.invariant.rising c.loop-number.invariant.there
    c.loop-number.invariant.will c.drop_below_at.ensures.objects in
    record {
      guardian = c.drop_below_at.ensures.guardian ∙ c.loop-number.invariant.guardian;
      held = c.drop_below_at.ensures.held ∙ c.loop-number.invariant.held;
      rising = step.0;
      there = step.1;
      will = step.2;
    }

pub loop-number-preserved-in-Some-2 : goal.loop-number-preserved-in-Some-2
loop-number-preserved-in-Some-2 c =
    let step = abort_step c.args.telling.action c.args.telling.at.items c.pop.new.self.items c.loop-number.at.items c.in-Some.number _
    c.in-Some.ensures.items c.args.self.now.objects c.loop-number.self.objects c.drop_below_at.new.self.objects c.loop-number.invariant.rising c.loop-number.invariant.there
    c.loop-number.invariant.will c.drop_below_at.ensures.objects in
    record {
      guardian = c.drop_below_at.ensures.guardian ∙ c.loop-number.invariant.guardian;
      held = c.drop_below_at.ensures.held ∙ c.loop-number.invariant.held;
      rising = step.0;
      there = step.1;
      will = step.2;
    }

pub loop-number-preserved-in-Some-3 : goal.loop-number-preserved-in-Some-3
loop-number-preserved-in-Some-3 c =
    let step = abort_step c.args.telling.action c.args.telling.at.items c.pop.new.self.items c.loop-number.at.items c.in-Some.number _
    c.in-Some.ensures.items c.args.self.now.objects c.loop-number.self.objects c.drop_below_at.new.self.objects c.loop-number.invariant.rising c.loop-number.invariant.there
    c.loop-number.invariant.will c.drop_below_at.ensures.objects in
    record {
      guardian = c.drop_below_at.ensures.guardian ∙ c.loop-number.invariant.guardian;
      held = c.drop_below_at.ensures.held ∙ c.loop-number.invariant.held;
      rising = step.0;
      there = step.1;
      will = step.2;
    }

pub loop-number-preserved-in-Some-4 : goal.loop-number-preserved-in-Some-4
loop-number-preserved-in-Some-4 c =
    let step = abort_step c.args.telling.action c.args.telling.at.items c.pop.new.self.items c.loop-number.at.items c.in-Some.number _
    c.in-Some.ensures.items c.args.self.now.objects c.loop-number.self.objects c.drop_below_at.new.self.objects c.loop-number.invariant.rising c.loop-number.invariant.there
    c.loop-number.invariant.will c.drop_below_at.ensures.objects in
    record {
      guardian = c.drop_below_at.ensures.guardian ∙ c.loop-number.invariant.guardian;
      held = c.drop_below_at.ensures.held ∙ c.loop-number.invariant.held;
      rising = step.0;
      there = step.1;
      will = step.2;
    }

pub returns-clause-told : goal.returns-clause-told
returns-clause-told c = λ opening stands stand may.
    let t = c.args.telling in
    let none : c.loop-number.at.items ≡ [] = nil_from_length c.loop-number.at.items (omega (arith, c.loop-number.at.ok.0, c.in_default.ensures.cases)) in
    let own = own_name t.action c.depth-depth.ensures.named in
    let held : c.self.inside.held.rows ≡ c.args.self.now.held = ap (λ o. o.held) c.self.view_is ∙ c.loop-number.invariant.held in
    let objects : AreChanged (Aborts t.action) (numbers_of t.at.items) c.args.self.now.objects c.self.inside.objects.items =
    subst (λ os. AreChanged (Aborts t.action) (numbers_of t.at.items) c.args.self.now.objects os) (sym (ap (λ o. o.objects) c.self.view_is))
    (abort_all c.args.self.now.objects t.action t.at.items c.loop-number.at.items c.loop-number.self.objects none c.loop-number.invariant.will) in
    heard_as opening stands t false _ c.requires.aborted
    (abort_stands t c.args.self.now _ own c.requires.ready.1 c.requires.aborted objects (ap (λ o. o.guardian) c.self.view_is ∙ c.loop-number.invariant.guardian)
    (λ b n. c.drop_below.ensures.held b n ∙ ap (λ r. not (is_ancestor t.action b) && has_object r b n) held)
    opening stands stand (λ x. may.untold c.requires.aborted x))

pub returns-clause-ready : goal.returns-clause-ready
returns-clause-ready c =
    let t = c.args.telling in
    let none : c.loop-number.at.items ≡ [] = nil_from_length c.loop-number.at.items (omega (arith, c.loop-number.at.ok.0, c.in_default.ensures.cases)) in
    let own = own_name t.action c.depth-depth.ensures.named in
    let held : c.self.inside.held.rows ≡ c.args.self.now.held = ap (λ o. o.held) c.self.view_is ∙ c.loop-number.invariant.held in
    let objects : AreChanged (Aborts t.action) (numbers_of t.at.items) c.args.self.now.objects c.self.inside.objects.items =
    subst (λ os. AreChanged (Aborts t.action) (numbers_of t.at.items) c.args.self.now.objects os) (sym (ap (λ o. o.objects) c.self.view_is))
    (abort_all c.args.self.now.objects t.action t.at.items c.loop-number.at.items c.loop-number.self.objects none c.loop-number.invariant.will) in
    abort_ready t c.args.self.now _ own c.requires.ready.1 c.requires.aborted objects c.requires.heard
    (λ b room. c.drop_below.ensures.room b (subst (λ r. HasRoomBelow r b) (sym held) room))

pub returns-clause-guardian : goal.returns-clause-guardian
returns-clause-guardian c = ap (λ o. o.guardian) c.self.view_is ∙ c.loop-number.invariant.guardian

pub returns-clause-count : goal.returns-clause-count
returns-clause-count c =
    let t = c.args.telling in
    let none : c.loop-number.at.items ≡ [] = nil_from_length c.loop-number.at.items (omega (arith, c.loop-number.at.ok.0, c.in_default.ensures.cases)) in
    ap (λ o. length o.objects) c.self.view_is
    ∙ (abort_all c.args.self.now.objects t.action t.at.items c.loop-number.at.items c.loop-number.self.objects none c.loop-number.invariant.will).count
