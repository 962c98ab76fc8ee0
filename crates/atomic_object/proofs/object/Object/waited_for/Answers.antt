use Rattle.std.proofs.Common.{ap, false, refl, sym, true, ◌∙◌}
use Rattle.std.proofs.lemmas.Bool.{true≢false}
use Rattle.object_model.specs.Locks.{is_in_the_way, must_wait}
use Rattle.object_laws.proofs.Standing.{blockers_shown_law}
use Rattle.atomic_object.specs.Kept.{Kept, seen}
use Rattle.atomic_object.proofs.Granting.{locks_say, waits_for}
use Rattle.atomic_object.proofs.object.Object.waited_for.Goals as goal

pub returns-then-must_wait-clause-waits : goal.returns-then-must_wait-clause-waits
returns-then-must_wait-clause-waits c = λ d s shows.
    let now = c.args.self.now in
    let a = c.args.action.now in
    let op = c.args.op.now in
    let k = c.class-then-must_wait.result in
    let names = c.in_ok-names.names.items in
    waits_for d s a op c.from_vec.result
    (λ e. true≢false
    (sym (locks_say _ true _ now a _ op c.must_wait.ensures c.class.ensures c.self.view_is c.if-must_wait.true)
    ∙ locks_say (must_wait c.self.inside.locks.locks a k) false _ now a k op refl c.class-then-must_wait.ensures c.self.view_is
    (c.in_ok-names.ensures.none.0 (sym c.from_vec.ensures ∙ e))))
    (c.from_vec.ensures
    ∙ blockers_shown_law d s (seen now) a op names shows c.in_ok-names.ensures.rising
    (λ b. c.in_ok-names.ensures.names b ∙ ap (λ (x : Kept). is_in_the_way x.locks.locks a k b) c.self.view_is
    ∙ ap (λ x. is_in_the_way now.locks.locks a x b) c.class-then-must_wait.ensures))

pub returns-clause-free : goal.returns-clause-free
returns-clause-free c =
    locks_say _ false _ c.args.self.now c.args.action.now _ c.args.op.now c.must_wait.ensures c.class.ensures c.self.view_is c.if-must_wait.false
