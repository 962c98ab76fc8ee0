use Rattle.std.proofs.Common.{sym, ◌∙◌}
use Rattle.std.proofs.lemmas.Result.{on_ok_weaker}
use Rattle.object_laws.proofs.Standing.{adders_on_top_shown, knows_shown_law, owners_above_shown}
use Rattle.atomic_object.specs.Kept.{seen}
use Rattle.atomic_object.proofs.Granting.{nobody, operated_as}
use Rattle.atomic_object.proofs.object.Object.grant.Goals as goal

pub granted-requires-clause-above : goal.granted-requires-clause-above
granted-requires-clause-above c = λ changes.
    let h = c.requires.shown in
    let now = c.args.self.now in
    let a = c.args.action.now in
    let op = c.args.op.now in
    owners_above_shown h.0 h.1 (seen now) a op h.2 changes (nobody h.0 h.1 (seen now) a op h.2 c.requires.free)

pub granted-requires-clause-owned : goal.granted-requires-clause-owned
granted-requires-clause-owned c = λ adds own.
    let h = c.requires.shown in
    let now = c.args.self.now in
    let a = c.args.action.now in
    let op = c.args.op.now in
    adders_on_top_shown h.0 h.1 (seen now) a op h.2 adds (nobody h.0 h.1 (seen now) a op h.2 c.requires.free) own

pub granted-requires-clause-known : goal.granted-requires-clause-known
granted-requires-clause-known c =
    let h = c.requires.shown in
    let k = knows_shown_law h.0 h.1 (seen c.args.self.now) c.args.op.now h.2 in
    k.1 ∙ sym k.0 ∙ c.requires.known

pub granted-requires-clause-rising : goal.granted-requires-clause-rising
granted-requires-clause-rising c = c.requires.shown.2.names_rise

pub returns-clause-operates : goal.returns-clause-operates
returns-clause-operates c =
    on_ok_weaker c.granted.result
    (λ operated r d s o shows e f untold.
    let now = c.args.self.now in
    let a = c.args.action.now in
    let op = c.args.op.now in
    let known = sym (knows_shown_law d s (seen now) op shows).0 ∙ c.requires.known in
    operated_as d s (seen now) (seen c.granted.new.self) o a op shows e f c.requires.named untold known (nobody d s (seen now) a op shows c.requires.free) operated)
    c.granted.ensures.ok
