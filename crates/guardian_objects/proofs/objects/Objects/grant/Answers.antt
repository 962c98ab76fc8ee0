use Rattle.std.proofs.Common.{[], ap, length, refl, subst, sym, ◌&&◌, ◌==◌, ◌∙◌, ◌∷◌, ◌||◌}
use Rattle.action_names.specs.Names.{same_name}
use Rattle.atomic_types.specs.declared.op.Reply.TheVariants.{Done}
use Rattle.guardian_index.specs.Held.{has_number, has_object, objects_at}
use Rattle.guardian_objects.specs.Objects.{Keeps}
use Rattle.guardian_objects.specs.Operations.{IsFreeAt, IsGrantedBy}
use Rattle.guardian_objects.specs.Turns.{AreChanged}
use Rattle.guardian_objects.proofs.Operated.{free_at, granted_stands, on_err, same_keeps, stays_keeps}
use Rattle.guardian_objects.proofs.Places.{by_view}
use Rattle.guardian_objects.proofs.objects.Objects.grant.Goals as goal

pub grant_at-requires : goal.grant_at-requires
grant_at-requires c =
    subst (λ o. IsFreeAt o.objects c.args.number c.args.action.now c.args.op.now) (sym c.self.view_is)
    (free_at c.args.self.now c.args.number c.args.action.now c.args.op.now c.requires)

pub returns-in_err-make_room-clause-err : goal.returns-in_err-make_room-clause-err
returns-in_err-make_room-clause-err c =
    on_err c.from_residual.result (by_view (λ o m. Keeps o m) _ _ _ c.self.view_is (same_keeps _ _ refl refl c.make_room.ensures.held))

pub returns-in_err-grant_at-clause-err : goal.returns-in_err-grant_at-clause-err
returns-in_err-grant_at-clause-err c =
    on_err c.from_residual-in_err-grant_at.result
    (by_view (λ o m. Keeps o m) c.grant_at.new.self _ _ c.self.view_is
    (stays_keeps (c.args.number ∷ []) _ c.grant_at.new.self c.grant_at.ensures.guardian c.in_err-grant_at.ensures.err
    (λ b. ap (λ r. objects_at r b) c.grant_at.ensures.held ∙ c.make_room.ensures.held b)))

pub returns-clause-operates : goal.returns-clause-operates
returns-clause-operates c = λ r.
    let a = c.args.action.now in
    let n = c.args.number in
    let wanted = c.args.op.now in
    granted_stands a n wanted r c.args.self.now _ c.in_ok-grant_at.ensures.named c.requires.4 c.requires.5
    (ap (λ o. o.guardian) c.self-2.view_is ∙ c.grant_at.ensures.guardian ∙ ap (λ o. o.guardian) c.self.view_is)
    (subst (λ l. AreChanged (IsGrantedBy a wanted r) (n ∷ []) c.args.self.now.objects l) (sym (ap (λ o. o.objects) c.self-2.view_is))
    (subst (λ l. AreChanged (IsGrantedBy a wanted r) (n ∷ []) l c.grant_at.new.self.objects) (ap (λ o. o.objects) c.self.view_is)
    (c.in_ok-grant_at.ensures.granted r)))
    (λ b m.
    c.insert.ensures.held b m
    ∙ ap (λ t. (same_name a b && (n == m)) || t)
    (ap (λ o. has_object o.held b m) c.self-2.view_is ∙ ap (λ r. has_object r b m) c.grant_at.ensures.held ∙ ap (λ l. has_number l m) (c.make_room.ensures.held b)
    ∙ ap (λ o. has_object o.held b m) c.self.view_is))

pub returns-clause-count : goal.returns-clause-count
returns-clause-count c =
    ap (λ o. length o.objects) c.self-2.view_is ∙ (c.in_ok-grant_at.ensures.granted Done).count ∙ ap (λ o. length o.objects) c.self.view_is
