use Rattle.std.proofs.Common.{[], arith, length, not, refl, subst, sym, ◌&&◌, ◌∙◌, ◌≡◌, ◌||◌, true, ap}
use Rattle.std.specs.Option.{IfSome}
use Rattle.std.proofs.lemmas.List.{nil_from_length}
use Rattle.action_names.specs.Names.{same_name}
use Rattle.guardian_index.specs.Held.{HasRoomBelow, MayBeHanded, has_object, is_name_of}
use Rattle.guardian_objects.specs.Objects.{index_of}
use Rattle.guardian_objects.specs.Turns.{AreChanged, Commits}
use Rattle.guardian_objects.proofs.Committing.{commit_above, commit_all, commit_first, commit_next, commit_ready, commit_stands, commit_step, numbers_of}
use Rattle.guardian_objects.proofs.Holding.{own_name}
use Rattle.guardian_objects.proofs.Room.{room_alone}
use Rattle.guardian_objects.proofs.Turning.{heard_as}
use Rattle.guardian_objects.proofs.objects.Objects.hand_on.Goals as goal

pub loop-number-init : goal.loop-number-init
loop-number-init c = record {
  guardian = refl;
  index = refl;
  rising = c.requires.ready.1.rising;
  may = commit_first c.args.telling c.args.self.now c.requires.committed c.requires.ready.1 c.requires.heard;
  will = λ new h. h;
}

pub hand_on_at-requires-clause-named : goal.hand_on_at-requires-clause-named
hand_on_at-requires-clause-named c = own_name c.args.telling.action c.depth-depth.ensures.named

pub hand_on_at-requires-clause-there : goal.hand_on_at-requires-clause-there
hand_on_at-requires-clause-there c =
    commit_next c.args.telling.action c.args.telling.to c.pop.new.self.items c.loop-number.at.items c.in-Some.number c.in-Some.next c.in-Some.ensures.items
    c.loop-number.self.objects c.loop-number.invariant.may

pub loop-number-preserved : goal.loop-number-preserved
loop-number-preserved c =
    let step = commit_step c.args.telling.action c.args.telling.to c.args.telling.at.items c.pop.new.self.items c.loop-number.at.items c.in-Some.number c.in-Some.next
    c.in-Some.ensures.items c.args.self.now.objects c.loop-number.self.objects c.hand_on_at.new.self.objects c.loop-number.invariant.rising c.loop-number.invariant.may
    c.loop-number.invariant.will c.hand_on_at.ensures.objects in
    record {
      guardian = c.hand_on_at.ensures.guardian ∙ c.loop-number.invariant.guardian;
      index = c.hand_on_at.ensures.index ∙ c.loop-number.invariant.index;
      rising = step.0;
      may = step.1;
      will = step.2;
    }

pub hand_on-requires-clause-above : goal.hand_on-requires-clause-above
hand_on-requires-clause-above c =
    commit_above c.args.telling c.args.self.now (own_name c.args.telling.action c.depth-depth.ensures.named) c.requires.committed c.requires.heard

pub hand_on-requires-clause-room : goal.hand_on-requires-clause-room
hand_on-requires-clause-room c =
    let t = c.args.telling in
    let index = ap index_of c.self.view_is ∙ c.loop-number.invariant.index in
    let above = commit_above t c.args.self.now (own_name t.action c.depth-depth.ensures.named) c.requires.committed c.requires.heard in
    subst (λ i. IfSome t.to (λ h. MayBeHanded i h t.action)) (sym index)
    (room_alone c.requires.ready.0 c.args.self.now t.action t.to above (c.requires.ready.1.index c.requires.committed))

pub returns-clause-told : goal.returns-clause-told
returns-clause-told c = λ opening stands stand may.
    let t = c.args.telling in
    let none : c.loop-number.at.items ≡ [] = nil_from_length c.loop-number.at.items (omega (arith, c.loop-number.at.ok.0, c.in_default.ensures.cases)) in
    let own = own_name t.action c.depth-depth.ensures.named in
    let held : c.self.inside.held.rows ≡ c.args.self.now.held = ap (λ o. o.held) c.self.view_is ∙ ap (λ i. i.rows) c.loop-number.invariant.index in
    let objects : AreChanged (Commits t.action t.to) (numbers_of t.at.items) c.args.self.now.objects c.self.inside.objects.items =
    subst (λ os. AreChanged (Commits t.action t.to) (numbers_of t.at.items) c.args.self.now.objects os) (sym (ap (λ o. o.objects) c.self.view_is))
    (commit_all c.args.self.now.objects t.action t.to t.at.items c.loop-number.at.items c.loop-number.self.objects none c.loop-number.invariant.will) in
    heard_as opening stands t true _ c.requires.committed
    (commit_stands t c.args.self.now _ own c.requires.ready.1 objects (ap (λ o. o.guardian) c.self.view_is ∙ c.loop-number.invariant.guardian)
    (λ b n.
    c.hand_on.ensures.held b n
    ∙ (λ i. not (same_name t.action b) && (has_object (held i) b n || (is_name_of t.to b && has_object (held i) t.action n))))
    opening stands stand (λ x. may.next c.requires.committed x))

pub returns-clause-ready : goal.returns-clause-ready
returns-clause-ready c =
    let t = c.args.telling in
    let none : c.loop-number.at.items ≡ [] = nil_from_length c.loop-number.at.items (omega (arith, c.loop-number.at.ok.0, c.in_default.ensures.cases)) in
    let own = own_name t.action c.depth-depth.ensures.named in
    let held : c.self.inside.held.rows ≡ c.args.self.now.held = ap (λ o. o.held) c.self.view_is ∙ ap (λ i. i.rows) c.loop-number.invariant.index in
    let objects : AreChanged (Commits t.action t.to) (numbers_of t.at.items) c.args.self.now.objects c.self.inside.objects.items =
    subst (λ os. AreChanged (Commits t.action t.to) (numbers_of t.at.items) c.args.self.now.objects os) (sym (ap (λ o. o.objects) c.self.view_is))
    (commit_all c.args.self.now.objects t.action t.to t.at.items c.loop-number.at.items c.loop-number.self.objects none c.loop-number.invariant.will) in
    commit_ready t c.args.self.now _ own c.requires.ready.1 objects c.requires.heard c.requires.committed
    (λ b other room. c.hand_on.ensures.room b other (subst (λ r. HasRoomBelow r b) (sym held) room))

pub returns-clause-guardian : goal.returns-clause-guardian
returns-clause-guardian c = ap (λ o. o.guardian) c.self.view_is ∙ c.loop-number.invariant.guardian

pub returns-clause-count : goal.returns-clause-count
returns-clause-count c =
    let t = c.args.telling in
    let none : c.loop-number.at.items ≡ [] = nil_from_length c.loop-number.at.items (omega (arith, c.loop-number.at.ok.0, c.in_default.ensures.cases)) in
    ap (λ o. length o.objects) c.self.view_is
    ∙ (commit_all c.args.self.now.objects t.action t.to t.at.items c.loop-number.at.items c.loop-number.self.objects none c.loop-number.invariant.will).count
