use Rattle.std.proofs.Common.{ap, arith}
use Rattle.packed_history.proofs.Kept.{kept_reply}
use Rattle.packed_history.proofs.answers.Answers.keep_reply.Goals as goal

pub returns-clause-ok : goal.returns-clause-ok
returns-clause-ok c =
    let inside = c.self.inside in
    λ a. kept_reply c.args.self.now (record { begun = inside.begun.items; replies = c.push.new.self.items }) a c.args.reply.now c.in_ok-copy.field-0
    inside.replies.items c.in-Ok.place (ap (λ g. g.begun) c.self.view_is) (ap (λ g. g.replies) c.self.view_is) c.in_ok-push.ensures.items
    c.in_ok-copy.ensures (omega (arith, c.in-Ok.ensures, c.len.ensures, inside.replies.ok.0))
