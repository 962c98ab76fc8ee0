use Rattle.std.proofs.Common.{Some, ap, arith, subst, sym, suc, true, ◌-◌, ◌∙◌, ◌≡◌}
use Rattle.std.proofs.lemmas.Result.{IfOk-weaker}
use Rattle.atomic_types.specs.Objects.{knows}
use Rattle.run_model.specs.LocalReadings.{standing_here}
use Rattle.run_model.specs.Openings.{first_content}
use Rattle.object_laws.specs.Shown.{Shows}
use Rattle.atomic_object.specs.Kept.{seen}
use Rattle.atomic_object.specs.Ways.{IsShown}
use Rattle.guardian_objects.specs.Objects.{object_at, object_of}
use Rattle.guardian_objects.specs.Operations.{IsShownAt}
use Rattle.guardian_objects.proofs.Holding.{own_name}
use Rattle.guardian_objects.proofs.Operated.{asked_at}
use Rattle.guardian_objects.proofs.Places.{element_is, object_there, object_within}
use Rattle.guardian_objects.proofs.objects.Objects.answer.Goals as goal

pub index-requires : goal.index-requires
index-requires c =
    let asked : IsShownAt c.self.inside.objects.items c.args.number c.args.op.now =
    subst (λ o. IsShownAt o.objects c.args.number c.args.op.now) (sym c.self.view_is) (asked_at c.args.self.now c.args.number c.args.op.now c.requires) in
    let w = object_within c.self.inside.objects.items c.args.number asked.0 asked.1 in
    omega (arith, w.0, w.1, c.self.inside.objects.ok.0)

pub answer-requires-clause-named : goal.answer-requires-clause-named
answer-requires-clause-named c = own_name c.args.action.now c.depth-depth.ensures.named

pub answer-requires-clause-shown : goal.answer-requires-clause-shown
answer-requires-clause-shown c =
    let os = c.self.inside.objects.items in
    let asked : IsShownAt os c.args.number c.args.op.now =
    subst (λ o. IsShownAt o.objects c.args.number c.args.op.now) (sym c.self.view_is) (asked_at c.args.self.now c.args.number c.args.op.now c.requires) in
    let w = object_within os c.args.number asked.0 asked.1 in
    let number : c.args.number ≡ suc (c.args.number - 1) = omega (arith, w.0) in
    subst (λ z. IsShown (seen z)) (sym (element_is os c.args.number (c.args.number - 1) asked.0 c.index.result.now asked.1 number c.index.ensures)) asked.2

pub answer-requires-clause-known : goal.answer-requires-clause-known
answer-requires-clause-known c =
    let os = c.self.inside.objects.items in
    let asked : IsShownAt os c.args.number c.args.op.now =
    subst (λ o. IsShownAt o.objects c.args.number c.args.op.now) (sym c.self.view_is) (asked_at c.args.self.now c.args.number c.args.op.now c.requires) in
    let w = object_within os c.args.number asked.0 asked.1 in
    let number : c.args.number ≡ suc (c.args.number - 1) = omega (arith, w.0) in
    subst (λ z. knows (seen z).stack.base c.args.op.now ≡ true)
    (sym (element_is os c.args.number (c.args.number - 1) asked.0 c.index.result.now asked.1 number c.index.ensures)) asked.3

pub returns : goal.returns
returns c =
    let os = c.self.inside.objects.items in
    IfOk-weaker c.answer.result _ _
    (λ answer says opening here are.
    let f = object_there c.args.self.now.objects c.args.number c.requires.3 c.requires.4 in
    let there : object_at os c.args.number ≡ Some f.0 = ap (λ o. object_at o.objects c.args.number) c.self.view_is ∙ f.1 in
    let number : c.args.number ≡ suc (c.args.number - 1) = omega (arith, c.requires.3) in
    says (first_content opening (object_of c.args.self.now c.args.number)) (standing_here here (object_of c.args.self.now c.args.number))
    (subst (λ z. Shows (first_content opening (object_of c.args.self.now c.args.number)) (standing_here here (object_of c.args.self.now c.args.number)) (seen z))
    (sym (element_is os c.args.number (c.args.number - 1) f.0 c.index.result.now there number c.index.ensures)) (are.shown c.args.number f.0 f.1)))
    c.answer.ensures
