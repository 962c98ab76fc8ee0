use Rattle.std.proofs.Common.{Some, [], ap, arith, get_or, length, map, refl, subst, sym, take, true, ◌++◌, ◌+◌, ◌<◌, ◌∙◌, ◌∷◌, ◌≡◌, ◌≤◌, ℕ}
use Rattle.std.specs.List.{AllByRecursion}
use Rattle.std.specs.FinMap as tree
use Rattle.std.proofs.lemmas.List.{map-append, take_all, take_more}
use Rattle.std.proofs.lemmas.Result.{on_ok_weaker}
use Rattle.action_names.specs.Deps.{Deps}
use Rattle.action_names.specs.Names.{IsName, has_name}
use Rattle.places.specs.Placed.{place_in}
use Rattle.places.proofs.Looking.{place_at}
use Rattle.places.proofs.Walking.{more_more, more_none}
use Rattle.run_model.proofs.Events.{answer_is}
use Rattle.run_model.specs.Actions.{names_begun}
use Rattle.run_model.specs.LocalReadings.{least_of}
use Rattle.layer_contracts.specs.Messages.{sent_by}
use Rattle.roster.proofs.Planning.{all_last, all_more, have_fits, have_more, names_more}
use Rattle.roster.proofs.Sent.{has_at}
use Rattle.roster.specs.Entries.{HavePlaces}
use Rattle.roster.proofs.roster.Roster.plan_begun.Goals as goal

pub loop-name-init : goal.loop-name-init
loop-name-init g c =
    let names = c.args.places.now in
    let none = c.clear.ensures.items in
    record {
      more = more_none names;
      count = c.clear.ensures.len;
      placed = subst (HavePlaces names) (sym none) tt;
      names = ap (map (λ (x : ℕ × Deps). get_or names x.0 [])) none;
      named = subst (AllByRecursion (λ (x : ℕ × Deps). IsName (get_or names x.0 []))) (sym none) tt;
      depends = λ f stands.
          subst
          (AllByRecursion (λ (x : ℕ × Deps). (h : ℕ) → tree.get x.1 h ≡ least_of (sent_by f c.args.event.now c.args.sending) (get_or names x.0 []) h))
          (sym none) tt;
    }

pub loop-name-preserved : goal.loop-name-preserved
loop-name-preserved g c =
    let names = c.names_begun-names.result.now in
    let i = c.loop-name.name-index in
    let name = c.name-item.result in
    let old = c.loop-name.places in
    let new = c.provide.new.self in
    let at = c.in_ok-at.at in
    let depends = c.in_ok-depends.depends in
    let begun = c.loop-name.begun.items in
    let pushed = c.in_ok-push.ensures.items in
    let more = c.provide.ensures.more in
    let had = c.loop-name.invariant.placed in
    let less : i < length names = omega (arith, c.loop-name-test.true) in
    let further : take (i + 1) names ≡ take i names ++ name ∷ [] =
    take_more names i name less ∙ ap (λ y. take i names ++ y ∷ []) (sym c.name-item.is) in
    let begins : has_name (names_begun c.args.event.now.answer) name ≡ true =
    ap (λ ns. has_name ns name) (ap names_begun (answer_is c.event.view_is) ∙ sym c.names_begun-names.ensures)
    ∙ has_at names i name less c.name-item.is in
    let is : get_or new at [] ≡ name = (place_at new name at c.in_ok-at.ensures.place).1 in
    record {
      more = more_more c.args.places.now old new c.loop-name.invariant.more more;
      count = omega (arith, c.in_ok-push.ensures.len, c.loop-name.invariant.count);
      placed = subst (HavePlaces new) (sym pushed)
          (all_last (λ (x : ℕ × Deps). place_in new (get_or new x.0 []) ≡ Some x.0) begun (at, depends) (have_more old new more begun had)
          (ap (place_in new) is ∙ c.in_ok-at.ensures.place));
      names =
          ap (map (λ (x : ℕ × Deps). get_or new x.0 [])) pushed
          ∙ map-append (λ (x : ℕ × Deps). get_or new x.0 []) begun ((at, depends) ∷ [])
          ∙ (λ k. (names_more old new more begun had ∙ c.loop-name.invariant.names) k ++ is k ∷ [])
          ∙ sym further;
      named = subst (AllByRecursion (λ (x : ℕ × Deps). IsName (get_or new x.0 []))) (sym pushed)
          (all_last (λ (x : ℕ × Deps). IsName (get_or new x.0 [])) begun (at, depends)
          (all_more old new more (λ a d. IsName a) begun had c.loop-name.invariant.named)
          (subst IsName (sym is) c.provide.ensures.named));
      depends = λ f stands.
          let came = sent_by f c.args.event.now c.args.sending in
          subst (AllByRecursion (λ (x : ℕ × Deps). (h : ℕ) → tree.get x.1 h ≡ least_of came (get_or new x.0 []) h)) (sym pushed)
          (all_last (λ (x : ℕ × Deps). (h : ℕ) → tree.get x.1 h ≡ least_of came (get_or new x.0 []) h) begun (at, depends)
          (all_more old new more (λ a d. (h : ℕ) → tree.get d h ≡ least_of came a h) begun had (c.loop-name.invariant.depends f stands))
          (subst (λ a. (h : ℕ) → tree.get depends h ≡ least_of came a h) (sym is) (c.in_ok-depends.ensures f stands begins)));
    }

pub returns-in_err-reserve-clause-more : goal.returns-in_err-reserve-clause-more
returns-in_err-reserve-clause-more g c = more_none c.args.places.now

pub returns-in_err-reserve-clause-kept : goal.returns-in_err-reserve-clause-kept
returns-in_err-reserve-clause-kept g c = record {
  guardian = refl;
  crashes = refl;
  down = refl;
  rows = c.reserve.ensures.items;
  places = λ i. refl;
  within = omega arith;
}

pub returns-in_err-at-clause-more : goal.returns-in_err-at-clause-more
returns-in_err-at-clause-more g c =
    more_more c.args.places.now c.loop-name.places c.provide.new.self c.loop-name.invariant.more c.provide.ensures.more

pub returns-in_err-at-clause-kept : goal.returns-in_err-at-clause-kept
returns-in_err-at-clause-kept g c = record {
  guardian = refl;
  crashes = refl;
  down = refl;
  rows = c.in_ok-reserve.ensures.items;
  places = λ i. refl;
  within = omega arith;
}

pub returns-in_err-depends-clause-more : goal.returns-in_err-depends-clause-more
returns-in_err-depends-clause-more g c =
    more_more c.args.places.now c.loop-name.places c.provide.new.self c.loop-name.invariant.more c.provide.ensures.more

pub returns-in_err-depends-clause-kept : goal.returns-in_err-depends-clause-kept
returns-in_err-depends-clause-kept g c = record {
  guardian = refl;
  crashes = refl;
  down = refl;
  rows = c.in_ok-reserve.ensures.items;
  places = λ i. refl;
  within = omega arith;
}

pub returns-in_err-push-clause-more : goal.returns-in_err-push-clause-more
returns-in_err-push-clause-more g c =
    more_more c.args.places.now c.loop-name.places c.provide.new.self c.loop-name.invariant.more c.provide.ensures.more

pub returns-in_err-push-clause-kept : goal.returns-in_err-push-clause-kept
returns-in_err-push-clause-kept g c = record {
  guardian = refl;
  crashes = refl;
  down = refl;
  rows = c.in_ok-reserve.ensures.items;
  places = λ i. refl;
  within = omega arith;
}

pub returns-clause-more : goal.returns-clause-more
returns-clause-more g c = c.loop-name.invariant.more

pub returns-clause-kept : goal.returns-clause-kept
returns-clause-kept g c = record {
  guardian = refl;
  crashes = refl;
  down = refl;
  rows = c.in_ok-reserve.ensures.items;
  places = c.make_room.ensures.same;
  within = omega (arith, c.make_room.ensures.within, c.len.ensures);
}

pub returns-clause-fits : goal.returns-clause-fits
returns-clause-fits g c =
    on_ok_weaker c.make_room.result
    (λ (room : c.len.result ≤ length c.make_room.new.self). record {
      rows = omega (arith, c.in_ok-reserve.ensures.ok, c.loop-name.invariant.count);
      places = have_fits c.loop-name.places (length c.make_room.new.self) c.loop-name.begun.items (omega (arith, room, c.len.ensures)) c.loop-name.invariant.placed;
    })
    c.make_room.ensures.room

pub returns-clause-placed : goal.returns-clause-placed
returns-clause-placed g c =
    on_ok_weaker c.make_room.result (λ (room : c.len.result ≤ length c.make_room.new.self). c.loop-name.invariant.placed) c.make_room.ensures.room

pub returns-clause-begun : goal.returns-clause-begun
returns-clause-begun g c =
    on_ok_weaker c.make_room.result
    (λ (room : c.len.result ≤ length c.make_room.new.self) f stands. record {
      names =
          c.loop-name.invariant.names
          ∙ take_all c.loop-name.name-index c.names_begun-names.result.now (omega (arith, c.loop-name-test.false))
          ∙ c.names_begun-names.ensures
          ∙ ap names_begun (sym (answer_is c.event.view_is));
      named = c.loop-name.invariant.named;
      depends = c.loop-name.invariant.depends f stands;
    })
    c.make_room.ensures.room
