use Rattle.std.proofs.Common.{◌≡◌, true, false, sym, ap, ◌∙◌, subst}
use Rattle.std.specs.Prelude.{IsTrue}
use Rattle.std.proofs.lemmas.Bool.{true≢false}
use Rattle.std.proofs.lemmas.Result.{IfOk-weaker, on_ok_weaker, on_err_weaker}
use Rattle.object_model.specs.Stacks.{is_on_top}
use Rattle.version_stack.specs.Layers.{stack_of}
use Rattle.version_stack.proofs.Under.{either_way, not_true, on_ok_all, on_err_all}
use Rattle.version_stack.proofs.Stacked.{top_in, rising_in, owners_in, some_overlay, noted_top, noted_fresh}
use Rattle.version_stack.proofs.versions.Versions.note.Goals as goal

pub note_on_top-requires-clause-some : goal.note_on_top-requires-clause-some
note_on_top-requires-clause-some g c =
    let a = c.args.owner.now in
    some_overlay c.self.invariant a (ap (λ ns. is_on_top ns a) (sym c.deref.ensures.value) ∙ sym c.if-is_on_top.ensures)

pub note_on_top-requires-clause-known : goal.note_on_top-requires-clause-known
note_on_top-requires-clause-known g c =
    subst (λ x. IsTrue (g.T.AtomicType.knows x c.args.op.now)) (sym (top_in c.self.invariant c.self.view_is)) c.requires.known

pub invariant_of-self : goal.invariant_of-self
invariant_of-self g c =
    let a = c.args.owner.now in
    let on_top : is_on_top c.self.inside.owners.items a ≡ true =
    ap (λ ns. is_on_top ns a) (sym c.deref.ensures.value) ∙ sym c.if-is_on_top.ensures in
    either_way c.note_on_top.result
    (on_ok_weaker c.note_on_top.result (λ noted. (noted_top c.self.invariant c.self.view_is a on_top noted).layers) c.note_on_top.ensures.ok)
    (on_err_weaker c.note_on_top.result (λ e. rw e c.self.invariant) c.note_on_top.ensures.err)

pub returns-then-is_on_top-clause-rising : goal.returns-then-is_on_top-clause-rising
returns-then-is_on_top-clause-rising g c = rising_in c.self.invariant c.self.view_is

pub returns-then-is_on_top-clause-replies : goal.returns-then-is_on_top-clause-replies
returns-then-is_on_top-clause-replies g c =
    IfOk-weaker c.note_on_top.result _ _ (λ r h. h ∙ ap (λ x. g.T.AtomicType.reply x c.args.op.now) (top_in c.self.invariant c.self.view_is))
    c.note_on_top.ensures.replies

pub returns-then-is_on_top-clause-ok : goal.returns-then-is_on_top-clause-ok
returns-then-is_on_top-clause-ok g c =
    let a = c.args.owner.now in
    let on_top : is_on_top c.self.inside.owners.items a ≡ true =
    ap (λ ns. is_on_top ns a) (sym c.deref.ensures.value) ∙ sym c.if-is_on_top.ensures in
    on_ok_weaker c.note_on_top.result (λ noted. (noted_top c.self.invariant c.self.view_is a on_top noted).view) c.note_on_top.ensures.ok

pub returns-then-is_on_top-clause-err : goal.returns-then-is_on_top-clause-err
returns-then-is_on_top-clause-err g c =
    let i = c.self.inside in
    on_err_weaker c.note_on_top.result
    (λ e. ap (λ os. stack_of g.T.Layered.laid i.content i.settled i.owners.items i.ends.items os) e ∙ c.self.view_is) c.note_on_top.ensures.err

pub note_above-requires-clause-known : goal.note_above-requires-clause-known
note_above-requires-clause-known g c =
    subst (λ x. IsTrue (g.T.AtomicType.knows x c.args.op.now)) (sym (top_in c.self.invariant c.self.view_is)) c.requires.known

pub note_above-requires-clause-writes : goal.note_above-requires-clause-writes
note_above-requires-clause-writes g c =
    let a = c.args.owner.now in
    let another : is_on_top c.self.inside.owners.items a ≡ false =
    ap (λ ns. is_on_top ns a) (sym c.deref.ensures.value) ∙ sym c.if-is_on_top.ensures in
    not_true _ (λ adds.
    let owned : is_on_top c.self.inside.owners.items a ≡ true =
    ap (λ ns. is_on_top ns a) (sym (owners_in c.self.invariant c.self.view_is)) ∙ c.requires.owned adds in
    true≢false (sym owned ∙ another))

pub invariant_of-self-2 : goal.invariant_of-self-2
invariant_of-self-2 g c =
    let a = c.args.owner.now in
    let above = c.note_above.ensures in
    let another : is_on_top c.self.inside.owners.items a ≡ false =
    ap (λ ns. is_on_top ns a) (sym c.deref.ensures.value) ∙ sym c.if-is_on_top.ensures in
    either_way c.note_above.result
    (on_ok_all c.note_above.result above.ok above.owners above.ends
    (λ noted owners ends. rw (owners, ends) (noted_fresh c.self.invariant c.self.view_is a another c.requires.above noted).layers))
    (on_err_all c.note_above.result above.err above.owners_stay above.ends_stay
    (λ overlays owners ends. rw (overlays, owners, ends) c.self.invariant))

pub returns-clause-rising : goal.returns-clause-rising
returns-clause-rising g c = rising_in c.self.invariant c.self.view_is

pub returns-clause-replies : goal.returns-clause-replies
returns-clause-replies g c =
    IfOk-weaker c.note_above.result _ _ (λ r h. h ∙ ap (λ x. g.T.AtomicType.reply x c.args.op.now) (top_in c.self.invariant c.self.view_is))
    c.note_above.ensures.replies

pub returns-clause-ok : goal.returns-clause-ok
returns-clause-ok g c =
    let a = c.args.owner.now in
    let above = c.note_above.ensures in
    let another : is_on_top c.self.inside.owners.items a ≡ false =
    ap (λ ns. is_on_top ns a) (sym c.deref.ensures.value) ∙ sym c.if-is_on_top.ensures in
    on_ok_all c.note_above.result above.ok above.owners above.ends
    (λ noted owners ends. rw (owners, ends) (noted_fresh c.self.invariant c.self.view_is a another c.requires.above noted).view)

pub returns-clause-err : goal.returns-clause-err
returns-clause-err g c =
    let above = c.note_above.ensures in
    on_err_all c.note_above.result above.err above.owners_stay above.ends_stay
    (λ overlays owners ends. rw (overlays, owners, ends) c.self.view_is)
