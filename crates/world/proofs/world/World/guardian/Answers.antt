use Rattle.std.proofs.Common.{MatchOption, ap, rules, slice_get, subst, sym, ◌-◌, ◌∙◌, ◌≤◌}
use Rattle.std.specs.Arc.{arc_value}
use Rattle.run_model.specs.Openings.{opening_in}
use Rattle.guardian.specs.Guardians.{IsWhole}
use Rattle.layer_contracts.specs.Stores.{IsStoreOf}
use Rattle.world_steps.specs.Standings.{standing}
use Rattle.world_steps.proofs.Led.{stands_at}
use Rattle.world.specs.Worlds.{seen_of}
use Rattle.world.proofs.Reading.{found_at}
use Rattle.world.proofs.world.World.guardian.Goals as goal

pub returns-clause-stands : goal.returns-clause-stands
returns-clause-stands g c =
    let seen = g.S.Stable.seen in
    let lists = arc_value c.self.inside.opening in
    let past = c.self.inside.history in
    let gs = c.self.inside.guardians.items in
    let positive : 1 ≤ c.args.number = search rules in
    subst (λ w. MatchOption c.get.result (Unit {0}) (λ guardian. IsWhole seen guardian.now (standing (opening_in w.run.lists) w.run.past c.args.number))) c.self.view_is
    (found_at c.get.result (λ guardian. guardian.now) _ (c.args.number - 1) _ (λ x. IsWhole seen x (standing (opening_in lists) past c.args.number))
    c.get.ensures.lookup.1 c.get.ensures.lookup.3 (λ x found.
    stands_at (λ y s. IsWhole seen y s) (opening_in lists) past gs c.args.number x c.self.invariant positive
    (ap (λ l. slice_get l (c.args.number - 1)) (sym c.deref.ensures.value) ∙ found)))

pub returns-clause-whole : goal.returns-clause-whole
returns-clause-whole g c =
    let seen = g.S.Stable.seen in
    let lists = arc_value c.self.inside.opening in
    let past = c.self.inside.history in
    let gs = c.self.inside.guardians.items in
    let positive : 1 ≤ c.args.number = search rules in
    subst (λ w. MatchOption c.get.result (Unit {0}) (λ guardian. IsStoreOf (standing (opening_in w.run.lists) w.run.past c.args.number) (seen_of seen guardian.now)))
    c.self.view_is
    (found_at c.get.result (λ guardian. guardian.now) _ (c.args.number - 1) _ (λ x. IsStoreOf (standing (opening_in lists) past c.args.number) (seen_of seen x))
    c.get.ensures.lookup.1 c.get.ensures.lookup.3 (λ x found.
    (stands_at (λ y s. IsWhole seen y s) (opening_in lists) past gs c.args.number x c.self.invariant positive
    (ap (λ l. slice_get l (c.args.number - 1)) (sym c.deref.ensures.value) ∙ found)).store))
