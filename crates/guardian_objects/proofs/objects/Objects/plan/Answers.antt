use Rattle.std.proofs.Common.{Bool, List, [], ap, arith, length, map, refl, subst, sym, take, true, ℕ, ◌+◌, ◌-◌, ◌++◌, ◌<◌, ◌∙◌, ◌∷◌, ◌≡◌}
use Rattle.std.specs.Prelude.{slice_get}
use Rattle.std.specs.List.{AllByRecursion}
use Rattle.std.specs.List.Sorted.{IsStrictlySortedBy}
use Rattle.std.proofs.lemmas.Bool.{eqb-true}
use Rattle.std.proofs.lemmas.List.{take_all, take_more}
use Rattle.action_names.specs.Names.{Name, name_cmp}
use Rattle.guardian_objects.specs.Outcomes.{HasRoomFor, is_alone, outcomes_of}
use Rattle.guardian_objects.specs.declared.outcomes.Telling.{Telling}
use Rattle.guardian_objects.proofs.Room.{all_fit, each_got, each_last, roomier_keeps, roomier_more, roomier_same, roomier_some}
use Rattle.guardian_objects.proofs.Turning.{same_alone, same_names}
use Rattle.guardian_objects.proofs.SoFar.{next_planned, none_planned, one_planned}
use Rattle.guardian_objects.proofs.objects.Objects.plan.Goals as goal

pub loop-action-init : goal.loop-action-init
loop-action-init c = record {
  roomier = roomier_same c.args.self.now;
  room = none_planned (HasRoomFor (is_alone c.args.outcomes.now) c.args.self.now) c.clear.new.self.items c.clear.ensures.items;
  outcomes = ap (λ l. outcomes_of l) c.clear.ensures.items;
  planned = λ g here told. none_planned _ c.clear.new.self.items c.clear.ensures.items;
}

pub plan_one-requires : goal.plan_one-requires
plan_one-requires c = record {
  shown = roomier_some c.args.self.now c.loop-action.self c.loop-action.invariant.roomier c.requires.shown;
  before = each_got (HasRoomFor c.is_alone-alone.result c.loop-action.self) c.loop-action.planned.tellings.items (length c.deref.result.now - 1) _
      (subst (λ b. AllByRecursion (HasRoomFor b c.loop-action.self) c.loop-action.planned.tellings.items) (sym c.is_alone-alone.ensures) c.loop-action.invariant.room)
      (c.last-before.ensures.value ∙ ap (λ l. slice_get l (length c.deref.result.now - 1)) c.deref.ensures.value);
}

-- before one that is told alone none is planned
none_yet : (outcomes : List (Name × Bool)) (i : ℕ) (ts : List Telling) → is_alone outcomes ≡ true → i < length outcomes → outcomes_of ts ≡ take i outcomes → ts ≡ []
none_yet outcomes i ts one lt so_far =
    let count : length outcomes ≡ 1 = eqb-true (length outcomes) 1 one in
    let first : i ≡ 0 = omega (arith, count, lt) in
    empty ts (so_far ∙ ap (λ k. take k outcomes) first)
  where
    empty : (us : List Telling) → outcomes_of us ≡ [] → us ≡ []
    empty [] e = refl
    empty (u ∷ us) e = absurd (cc)

pub loop-action-preserved : goal.loop-action-preserved
loop-action-preserved c =
    let outcomes = c.args.outcomes.now in
    let alone = is_alone outcomes in
    let i = c.loop-action.action-index in
    let x = c.loop-action-item.result in
    let t = c.in_ok-telling.telling in
    let lt : i < length outcomes = omega (arith, c.loop-action-test.true) in
    let more : take (i + 1) outcomes ≡ take i outcomes ++ x ∷ [] = take_more outcomes i x lt ∙ ap (λ y. take i outcomes ++ y ∷ []) (sym c.loop-action-item.is) in
    record {
      roomier = roomier_more c.args.self.now c.loop-action.self c.plan_one.new.self c.loop-action.invariant.roomier c.plan_one.ensures.roomier;
      room = subst (λ l. AllByRecursion (HasRoomFor alone c.plan_one.new.self) l) (sym c.in_ok-push.ensures.items)
          (each_last (HasRoomFor alone c.plan_one.new.self) c.loop-action.planned.tellings.items t
          (all_fit alone c.loop-action.self c.plan_one.new.self c.plan_one.ensures.roomier c.loop-action.planned.tellings.items
          (λ one. none_yet outcomes i c.loop-action.planned.tellings.items one lt c.loop-action.invariant.outcomes) c.loop-action.invariant.room)
          (subst (λ b. HasRoomFor b c.plan_one.new.self t) c.is_alone-alone.ensures c.in_ok-telling.ensures.room));
      outcomes = one_planned c.loop-action.planned.tellings.items c.push.new.self.items t (take i outcomes) (take (i + 1) outcomes) x c.in_ok-push.ensures.items more
          c.in_ok-telling.ensures.action c.in_ok-telling.ensures.committed c.loop-action.invariant.outcomes;
      planned = λ g here told.
          next_planned here c.loop-action.planned.tellings.items c.push.new.self.items t x c.in_ok-push.ensures.items c.in_ok-telling.ensures.action c.in_ok-telling.ensures.committed
          (λ committed. c.in_ok-telling.ensures.next g here told committed) (c.loop-action.invariant.planned g here told);
    }

pub returns-in_err-telling-clause-same : goal.returns-in_err-telling-clause-same
returns-in_err-telling-clause-same c =
    roomier_keeps c.args.self.now c.plan_one.new.self (roomier_more c.args.self.now c.loop-action.self c.plan_one.new.self c.loop-action.invariant.roomier c.plan_one.ensures.roomier)

pub returns-in_err-push-clause-same : goal.returns-in_err-push-clause-same
returns-in_err-push-clause-same c =
    roomier_keeps c.args.self.now c.plan_one.new.self (roomier_more c.args.self.now c.loop-action.self c.plan_one.new.self c.loop-action.invariant.roomier c.plan_one.ensures.roomier)

pub returns-clause-same : goal.returns-clause-same
returns-clause-same c = roomier_keeps c.args.self.now c.loop-action.self c.loop-action.invariant.roomier

pub returns-clause-fits : goal.returns-clause-fits
returns-clause-fits c =
    let outcomes = c.args.outcomes.now in
    let all : take c.loop-action.action-index outcomes ≡ outcomes = take_all c.loop-action.action-index outcomes (omega (arith, c.loop-action-test.false)) in
    record {
      rising = subst (λ l. IsStrictlySortedBy name_cmp l)
          (ap (λ l. map (λ x. x.0) l) (sym (c.loop-action.invariant.outcomes ∙ all)) ∙ same_names c.loop-action.planned.tellings.items) c.requires.rising;
      room = subst (λ b. AllByRecursion (HasRoomFor b c.loop-action.self) c.loop-action.planned.tellings.items)
          (ap (λ l. is_alone l) (sym (c.loop-action.invariant.outcomes ∙ all)) ∙ same_alone c.loop-action.planned.tellings.items) c.loop-action.invariant.room;
    }

pub returns-clause-outcomes : goal.returns-clause-outcomes
returns-clause-outcomes c =
    c.loop-action.invariant.outcomes ∙ take_all c.loop-action.action-index c.args.outcomes.now (omega (arith, c.loop-action-test.false))

pub returns-clause-planned : goal.returns-clause-planned
returns-clause-planned c = λ g here told. c.loop-action.invariant.planned g here told
