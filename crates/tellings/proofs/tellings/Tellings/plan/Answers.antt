use Rattle.std.proofs.Common.{[], arith, ◌≤◌, refl, subst, sym, take, ◌+◌, ◌++◌, ◌<◌, ◌∙◌, ◌∷◌, ◌≡◌, ap, length}
use Rattle.std.proofs.lemmas.List.{take_all, take_more}
use Rattle.std.proofs.lemmas.Result.{on_ok_weaker}
use Rattle.places.proofs.Walking.{more_more, more_none}
use Rattle.tellings.specs.Hearing.{AreHeard}
use Rattle.tellings.specs.declared.tellings.Tellings.{Tellings}
use Rattle.tellings.proofs.Histories.{kept}
use Rattle.tellings.proofs.Planning.{heard_fits, heard_kept, heard_more}
use Rattle.tellings.proofs.tellings.Tellings.plan.Goals as goal

pub loop-action-init : goal.loop-action-init
loop-action-init c = record {
  more = more_none c.args.places.now;
  heard = subst (AreHeard c.args.places.now c.args.self.now []) (sym c.clear.ensures.items) tt;
}

pub loop-action-preserved : goal.loop-action-preserved
loop-action-preserved c =
    let outcomes = c.args.outcomes.now in
    let i = c.loop-action.action-index in
    let x = c.loop-action-item.result in
    let row = c.in_ok-plan_one.field-0 in
    let names = c.plan_one.new.places in
    let lt : i < length outcomes = omega (arith, c.loop-action-test.true) in
    let more : take (i + 1) outcomes ≡ take i outcomes ++ x ∷ [] = take_more outcomes i x lt ∙ ap (λ y. take i outcomes ++ y ∷ []) (sym c.loop-action-item.is) in
    record {
      more = more_more c.args.places.now c.loop-action.places names c.loop-action.invariant.more c.plan_one.ensures.more;
      heard = subst (λ os. AreHeard names c.args.self.now os c.push.new.self.items) (sym more)
          (subst (AreHeard names c.args.self.now (take i outcomes ++ x ∷ [])) (sym c.in_ok-push.ensures.items)
          (heard_more names c.args.self.now (take i outcomes) c.loop-action.heard.told.items x row
          (heard_kept c.loop-action.places names c.args.self.now c.args.self.now c.plan_one.ensures.more refl (λ k. refl) (take i outcomes)
          c.loop-action.heard.told.items c.loop-action.invariant.heard)
          (record { place = c.in_ok-plan_one.ensures.place; life = c.in_ok-plan_one.ensures.lives; committed = c.in_ok-plan_one.ensures.committed })));
    }

pub returns-in_err-plan_one-clause-same : goal.returns-in_err-plan_one-clause-same
returns-in_err-plan_one-clause-same c = λ g here are.
    let more = more_more c.args.places.now c.loop-action.places c.plan_one.new.places c.loop-action.invariant.more c.plan_one.ensures.more in
    kept c.args.places.now c.plan_one.new.places c.args.self.now c.args.self.now more refl (λ i. refl) (omega arith) g here are

pub returns-in_err-push-clause-same : goal.returns-in_err-push-clause-same
returns-in_err-push-clause-same c = λ g here are.
    let more = more_more c.args.places.now c.loop-action.places c.plan_one.new.places c.loop-action.invariant.more c.plan_one.ensures.more in
    kept c.args.places.now c.plan_one.new.places c.args.self.now c.args.self.now more refl (λ i. refl) (omega arith) g here are

pub returns-clause-same : goal.returns-clause-same
returns-clause-same c = λ g here are.
    kept c.args.places.now c.loop-action.places c.args.self.now (record { crashes = c.args.self.now.crashes; told = c.make_room.new.self })
    c.loop-action.invariant.more refl c.make_room.ensures.same (omega (arith, c.make_room.ensures.within, c.len.ensures)) g here are

pub returns-clause-fits : goal.returns-clause-fits
returns-clause-fits c =
    on_ok_weaker c.make_room.result
    (λ (room : c.len.result ≤ length c.make_room.new.self).
    heard_fits c.loop-action.places c.args.self.now (length c.make_room.new.self) (omega (arith, c.len.ensures))
    (take c.loop-action.action-index c.args.outcomes.now) c.loop-action.heard.told.items c.loop-action.invariant.heard)
    c.make_room.ensures.room

pub returns-clause-heard : goal.returns-clause-heard
returns-clause-heard c =
    let outcomes = c.args.outcomes.now in
    let names = c.loop-action.places in
    let after : Tellings = record { crashes = c.args.self.now.crashes; told = c.make_room.new.self } in
    let all : take c.loop-action.action-index outcomes ≡ outcomes = take_all c.loop-action.action-index outcomes (omega (arith, c.loop-action-test.false)) in
    on_ok_weaker c.make_room.result
    (λ (room : c.len.result ≤ length c.make_room.new.self).
    heard_kept names names c.args.self.now after (more_none names) refl c.make_room.ensures.same outcomes c.loop-action.heard.told.items
    (subst (λ os. AreHeard names c.args.self.now os c.loop-action.heard.told.items) all c.loop-action.invariant.heard))
    c.make_room.ensures.room
