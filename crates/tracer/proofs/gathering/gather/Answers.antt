use Rattle.std.proofs.Common.{◌≡◌, List, ◌++◌, ◌∷◌, [], max, length, refl, sym, ap, ap₂, subst, ◌∙◌, arith}
use Rattle.std.proofs.lemmas.List.{length-map}
use Rattle.run_model.specs.Openings.{OpeningLists, opening_in}
use Rattle.run_model.specs.Runs.{IsRun}
use Rattle.run_laws.proofs.Serving.{runs_are_served}
use Rattle.traces.specs.Traces.{histories_in}
use Rattle.tracer.specs.Copies.{AreByStamp, Copied}
use Rattle.tracer.specs.Homes.{AreHomes}
use Rattle.tracer.proofs.Gathers.{fails_here, goes_by, none_left, one_more, shorter}
use Rattle.tracer.proofs.Merged.{Going, begins, gathered}
use Rattle.tracer.proofs.gathering.gather.Goals as goal

pub returns-in_err-copies-clause-served : goal.returns-in_err-copies-clause-served
returns-in_err-copies-clause-served g c = runs_are_served _ _ c.opening.ensures.is_run

pub loop-first-init : goal.loop-first-init
loop-first-init g c =
    let hs = histories_in c.args.registry.now c.args.guardians.now in
    record {
      going =
          begins _ hs c.as_slice-rest.result.now _ (subst (AreByStamp hs) (sym c.as_slice-rest.ensures.value) c.in_ok-copies.ensures) c.requires;
      homes = subst (AreHomes c.new-homes.result) (sym c.requires) c.new-homes.ensures;
      lists = refl;
      is_run = c.opening.ensures.is_run;
      counted = sym (ap length c.requires);
      within = omega arith;
    }

pub returns-in_err-take_turn-clause-served : goal.returns-in_err-take_turn-clause-served
returns-in_err-take_turn-clause-served g c = runs_are_served _ _ (c.in_err-take_turn.ensures.run c.loop-first.invariant.is_run)

pub returns-then-not-branch-clause-gathered : goal.returns-then-not-branch-clause-gathered
returns-then-not-branch-clause-gathered g c =
    let hs = histories_in c.args.registry.now c.args.guardians.now in
    let limit : c.max-limit.result ≡ max (length (g.M.MakesSteps.run c.args.maker.now).lists.setup) (length hs.guardians) =
    c.max-limit.ensures ∙ ap₂ max (c.guardians.ensures.value ∙ ap length c.setup.ensures ∙ ap (λ (o : OpeningLists). length o.setup) c.opening.ensures.opening)
    (sym (length-map c.args.guardians.now _)) in
    fails_here (g.M.MakesSteps.run c.args.maker.now).lists (g.M.MakesSteps.run c.loop-first.maker).lists hs c.loop-first.rest.now c.split_at.result.0.now c.split_at.result.1.now
    c.in-Some.first.now (g.M.MakesSteps.run c.loop-first.maker).past c.first-in-Some.inside.stamp c.turn_len.result c.max-limit.result c.loop-first.invariant.going
    (sym c.in-Some.ensures.value) (ap (λ (x : Copied). x.stamp) c.first-in-Some.view_is) c.turn_len.ensures.value c.split_at.ensures.front c.split_at.ensures.back
    c.loop-first.invariant.lists limit c.in_ok-take_turn.field-0
    (λ others last parts. c.in_ok-take_turn.ensures.fails others last parts c.loop-first.invariant.homes) c.if-not-branch.true

pub returns-then-not-branch-clause-served : goal.returns-then-not-branch-clause-served
returns-then-not-branch-clause-served g c = runs_are_served _ _ (c.in_ok-take_turn.ensures.run c.loop-first.invariant.is_run)

pub overflow_add-count : goal.overflow_add-count
overflow_add-count g c =
    let hs = histories_in c.args.registry.now c.args.guardians.now in
    let limit : c.max-limit.result ≡ max (length (g.M.MakesSteps.run c.args.maker.now).lists.setup) (length hs.guardians) =
    c.max-limit.ensures ∙ ap₂ max (c.guardians.ensures.value ∙ ap length c.setup.ensures ∙ ap (λ (o : OpeningLists). length o.setup) c.opening.ensures.opening)
    (sym (length-map c.args.guardians.now _)) in
    let less = shorter (g.M.MakesSteps.run c.args.maker.now).lists (g.M.MakesSteps.run c.loop-first.maker).lists hs c.loop-first.rest.now c.split_at.result.0.now c.split_at.result.1.now
    c.in-Some.first.now (g.M.MakesSteps.run c.loop-first.maker).past c.first-in-Some.inside.stamp c.turn_len.result c.max-limit.result c.loop-first.invariant.going
    (sym c.in-Some.ensures.value) (ap (λ (x : Copied). x.stamp) c.first-in-Some.view_is) c.turn_len.ensures.value c.split_at.ensures.front c.split_at.ensures.back
    c.loop-first.invariant.lists limit in
    omega (arith, less, c.loop-first.invariant.within, c.as_slice-rest.type_inv.0)

pub loop-first-preserved : goal.loop-first-preserved
loop-first-preserved g c =
    let hs = histories_in c.args.registry.now c.args.guardians.now in
    let limit : c.max-limit.result ≡ max (length (g.M.MakesSteps.run c.args.maker.now).lists.setup) (length hs.guardians) =
    c.max-limit.ensures ∙ ap₂ max (c.guardians.ensures.value ∙ ap length c.setup.ensures ∙ ap (λ (o : OpeningLists). length o.setup) c.opening.ensures.opening)
    (sym (length-map c.args.guardians.now _)) in
    let made = λ (others : List Copied) (last : Copied) (parts : c.split_at.result.0.now ≡ others ++ last ∷ []). c.in_ok-take_turn.ensures.made others last parts c.if-not-branch.false in
    let less = shorter (g.M.MakesSteps.run c.args.maker.now).lists (g.M.MakesSteps.run c.loop-first.maker).lists hs c.loop-first.rest.now c.split_at.result.0.now c.split_at.result.1.now
    c.in-Some.first.now (g.M.MakesSteps.run c.loop-first.maker).past c.first-in-Some.inside.stamp c.turn_len.result c.max-limit.result c.loop-first.invariant.going
    (sym c.in-Some.ensures.value) (ap (λ (x : Copied). x.stamp) c.first-in-Some.view_is) c.turn_len.ensures.value c.split_at.ensures.front c.split_at.ensures.back
    c.loop-first.invariant.lists limit in
    record {
      going = goes_by (g.M.MakesSteps.run c.args.maker.now).lists (g.M.MakesSteps.run c.loop-first.maker).lists hs c.loop-first.rest.now c.split_at.result.0.now c.split_at.result.1.now
          c.in-Some.first.now (g.M.MakesSteps.run c.loop-first.maker).past c.first-in-Some.inside.stamp c.turn_len.result c.max-limit.result c.loop-first.invariant.going
          (sym c.in-Some.ensures.value) (ap (λ (x : Copied). x.stamp) c.first-in-Some.view_is) c.turn_len.ensures.value c.split_at.ensures.front c.split_at.ensures.back
          c.loop-first.invariant.lists limit c.in_ok-take_turn.field-0 (g.M.MakesSteps.run c.take_turn.new.maker).past
          (λ others last parts. c.in_ok-take_turn.ensures.fails others last parts c.loop-first.invariant.homes) c.if-not-branch.false made;
      homes = c.in_ok-take_turn.ensures.homes c.loop-first.invariant.homes c.if-not-branch.false;
      lists = c.in_ok-take_turn.ensures.opening ∙ c.loop-first.invariant.lists;
      is_run = c.in_ok-take_turn.ensures.run c.loop-first.invariant.is_run;
      counted = omega (
        arith,
        c.loop-first.invariant.counted,
        one_more (g.M.MakesSteps.run c.args.maker.now).lists (g.M.MakesSteps.run c.loop-first.maker).lists hs c.loop-first.rest.now c.split_at.result.0.now c.split_at.result.1.now
            c.in-Some.first.now (g.M.MakesSteps.run c.loop-first.maker).past c.first-in-Some.inside.stamp c.turn_len.result c.max-limit.result c.loop-first.invariant.going
            (sym c.in-Some.ensures.value) (ap (λ (x : Copied). x.stamp) c.first-in-Some.view_is) c.turn_len.ensures.value c.split_at.ensures.front c.split_at.ensures.back
            c.loop-first.invariant.lists limit (g.M.MakesSteps.run c.take_turn.new.maker).past made,
      );
      within = omega (arith, less, c.loop-first.invariant.within);
    }

pub returns-clause-gathered : goal.returns-clause-gathered
returns-clause-gathered g c =
    let hs = histories_in c.args.registry.now c.args.guardians.now in
    let opening = opening_in (g.M.MakesSteps.run c.args.maker.now).lists in
    let past = (g.M.MakesSteps.run c.loop-first.maker).past in
    let none = none_left c.loop-first.rest.now (sym c.in_default.ensures.value) in (
      gathered opening hs past (subst (λ (l : List Copied). Going opening hs l past) none c.loop-first.invariant.going),
      subst (λ (l : OpeningLists). IsRun (opening_in l) past) c.loop-first.invariant.lists c.loop-first.invariant.is_run,
      c.loop-first.invariant.counted,
    )

pub returns-clause-served : goal.returns-clause-served
returns-clause-served g c = runs_are_served _ _ c.loop-first.invariant.is_run
