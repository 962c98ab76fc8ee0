use Rattle.std.proofs.Common.{IfOk, Some, ap, arith, length, rules, slice_get, subst, sym, ◌+◌, ◌-◌, ◌<◌, ◌∙◌, ◌≡◌, ◌≤◌}
use Rattle.std.proofs.lemmas.Option.{slice_get-get_or}
use Rattle.std.specs.Arc.{arc_value}
use Rattle.run_model.specs.Openings.{objects_at, opening_in}
use Rattle.run_model.specs.Versions.{base_of}
use Rattle.world_steps.specs.Standings.{standing}
use Rattle.world.proofs.Reading.{base_is, has_place}
use Rattle.world.proofs.world.World.base.Goals as goal

pub returns : goal.returns
returns g c =
    let x = c.args.object in
    let lists = arc_value c.self.inside.opening in
    let past = c.self.inside.history in
    let gs = c.self.inside.guardians.items in
    let there : x.number ≤ length (objects_at lists.setup x.guardian) =
    subst (λ w. x.number ≤ length (objects_at w.run.lists.setup x.guardian)) (sym c.self.view_is) c.requires.there in
    let place : x.guardian - 1 < length lists.setup = has_place lists.setup x.guardian x.number c.requires.number there in
    let lt : x.guardian - 1 < length gs = subst (λ n. x.guardian - 1 < n) (sym c.self.invariant.count) place in
    let at : slice_get gs (x.guardian - 1) ≡ Some c.index-guardian.result.now =
    slice_get-get_or gs (x.guardian - 1) _ lt ∙ ap (λ y. Some y) (sym c.index-guardian.ensures) in
    subst (λ w. IfOk c.content.result (λ content. content ≡ base_of (opening_in w.run.lists) x w.run.past)) c.self.view_is
    (subst (λ base. IfOk c.content.result (λ content. content ≡ base))
    (base_is (opening_in lists) past x c.in-Some.base c.self.invariant.is_run c.requires.guardian
    (c.in-Some.ensures.base (standing (opening_in lists) past (x.guardian - 1 + 1)) (c.self.invariant.each (x.guardian - 1) c.index-guardian.result.now at)))
    c.content.ensures)

pub unreachable-requires : goal.unreachable-requires
unreachable-requires g c =
    let x = c.args.object in
    let lists = arc_value c.self.inside.opening in
    let past = c.self.inside.history in
    let gs = c.self.inside.guardians.items in
    let there : x.number ≤ length (objects_at lists.setup x.guardian) =
    subst (λ w. x.number ≤ length (objects_at w.run.lists.setup x.guardian)) (sym c.self.view_is) c.requires.there in
    let place : x.guardian - 1 < length lists.setup = has_place lists.setup x.guardian x.number c.requires.number there in
    let lt : x.guardian - 1 < length gs = subst (λ n. x.guardian - 1 < n) (sym c.self.invariant.count) place in
    let at : slice_get gs (x.guardian - 1) ≡ Some c.index-guardian.result.now =
    slice_get-get_or gs (x.guardian - 1) _ lt ∙ ap (λ y. Some y) (sym c.index-guardian.ensures) in
    let number : x.guardian ≡ x.guardian - 1 + 1 = omega (arith, c.requires.guardian) in
    c.in-None.ensures.none (standing (opening_in lists) past (x.guardian - 1 + 1)) (c.self.invariant.each (x.guardian - 1) c.index-guardian.result.now at)
    (search rules) c.requires.number (subst (λ g. x.number ≤ length (objects_at lists.setup g)) number there)
