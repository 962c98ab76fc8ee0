use Rattle.std.proofs.Common.{sym, ◌∙◌}
use Rattle.object_laws.proofs.Standing.{knows_shown_law}
use Rattle.atomic_object.specs.Kept.{seen}
use Rattle.atomic_object.proofs.Granting.{answered, nobody}
use Rattle.atomic_object.proofs.object.Object.answer.Goals as goal

pub returns-in-Some : goal.returns-in-Some
returns-in-Some c = rw c.in-Some.is at c.in_ok-names.ensures.waits

pub reply-requires : goal.reply-requires
reply-requires c =
    let h = c.requires.shown in
    let k = knows_shown_law h.0 h.1 (seen c.args.self.now) c.args.op.now h.2 in
    k.1 ∙ sym k.0 ∙ c.requires.known

pub returns-in_ok-reply-in-None : goal.returns-in_ok-reply-in-None
returns-in_ok-reply-in-None c = λ d s shows.
    let now = c.args.self.now in
    let a = c.args.action.now in
    let op = c.args.op.now in
    let free = rw c.in-None.is at c.in_ok-names.ensures.free in
    let known = sym (knows_shown_law d s (seen now) op shows).0 ∙ c.requires.known in
    answered d s (seen now) a op c.in_ok-reply-in-None.field-0 shows known (nobody d s (seen now) a op shows free) c.in_ok-reply-in-None.ensures
