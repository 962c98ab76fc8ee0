use Rattle.std.proofs.Common.{Ok, ap, map, refl, subst, sym, ◌∙◌}
use Rattle.activities.specs.declared.flow.Flow.TheVariants.{Ended}
use Rattle.activities.specs.Acting.{acting}
use Rattle.activities.specs.Apart.{GoOn, all_gone, arms_taken_in}
use Rattle.activities.proofs.ArmsGone.{flow_came, flow_goes, none_left, taken_came, taken_goes}
use Rattle.activities.proofs.apart.flow_of.Goals as goal

pub loop-arm-init : goal.loop-arm-init
loop-arm-init c = record {
  name = refl;
  home = refl;
  flow = ap (λ arms. all_gone (Ok Ended) (map (λ arm. arm.ended) arms)) c.into_iter-arm-iterator.ensures.into_iter_gives.0;
  goes_on = λ last. subst (λ arms. GoOn (Ok Ended) (map (λ arm. arm.ended) arms) last) c.into_iter-arm-iterator.ensures.into_iter_gives.0;
  taken = ap (arms_taken_in (acting c.args.action.now)) c.into_iter-arm-iterator.ensures.into_iter_gives.0;
}

pub loop-arm-preserved : goal.loop-arm-preserved
loop-arm-preserved c =
    let l = c.loop-arm in
    let rest = c.in-Some.ensures.steps.0 in
    record {
      name = c.learn.ensures.name ∙ l.invariant.name;
      home = c.learn.ensures.home ∙ l.invariant.home;
      flow = flow_goes l.flow c.learn.result c.beside-flow.result c.in-Some.arm.ended (map (λ arm. arm.ended) l.arm-iterator.rest.items)
          (map (λ arm. arm.ended) c.next.new.self.rest.items) _ (ap (map (λ arm. arm.ended)) rest) c.beside-flow.ensures c.learn.ensures.flow l.invariant.flow;
      goes_on = λ last h. l.invariant.goes_on last
          (subst (λ all. GoOn l.flow (map (λ arm. arm.ended) all) last) (sym rest) (
            c.learn.result,
            (c.learn.ensures.flow, c.learn.ensures.fault, c.learn.ensures.memory),
            subst (λ arms. GoOn arms (map (λ arm. arm.ended) c.next.new.self.rest.items) last) c.beside-flow.ensures h,
          ));
      taken = taken_goes l.flow c.learn.result c.beside-flow.result c.in-Some.arm l.arm-iterator.rest.items c.next.new.self.rest.items
          (acting l.action) (acting c.learn.new.action) _ rest c.beside-flow.ensures c.learn.ensures.taken l.invariant.taken;
    }

pub returns-clause-flow : goal.returns-clause-flow
returns-clause-flow c =
    let l = c.loop-arm in
    flow_came l.flow (map (λ arm. arm.ended) l.arm-iterator.rest.items) _
    (ap (map (λ arm. arm.ended)) (none_left l.arm-iterator.rest.items l.arm-iterator.rest.len l.arm-iterator.rest.ok.0 c.in-None.ensures.steps.0)) l.invariant.flow

pub returns-clause-goes_on : goal.returns-clause-goes_on
returns-clause-goes_on c =
    let l = c.loop-arm in
    l.invariant.goes_on l.flow
    (subst (λ arms. GoOn l.flow (map (λ arm. arm.ended) arms) l.flow)
    (sym (none_left l.arm-iterator.rest.items l.arm-iterator.rest.len l.arm-iterator.rest.ok.0 c.in-None.ensures.steps.0)) refl)

pub returns-clause-taken : goal.returns-clause-taken
returns-clause-taken c =
    let l = c.loop-arm in
    taken_came l.flow l.arm-iterator.rest.items (acting l.action) _
    (none_left l.arm-iterator.rest.items l.arm-iterator.rest.len l.arm-iterator.rest.ok.0 c.in-None.ensures.steps.0) l.invariant.taken
