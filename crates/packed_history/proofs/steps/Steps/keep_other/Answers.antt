use Rattle.std.proofs.Common.{ap, arith}
use Rattle.atomic_types.specs.Operations.{Op}
use Rattle.packed_history.specs.declared.steps.Request.{Request}
use Rattle.packed_history.proofs.Kept.{kept_request}
use Rattle.packed_history.proofs.steps.Steps.keep_other.Goals as goal

pub returns-clause-ok : goal.returns-clause-ok
returns-clause-ok c =
    let inside = c.self.inside in
    let request : Op → Request = λ o. record { object = c.args.object; operation = o } in
    λ a. kept_request c.args.self.now (record { kinds = inside.kinds.items; plain = inside.plain; requests = c.push.new.self.items }) a
    (request c.args.operation.now) (request c.in_ok-operation.operation) inside.requests.items c.in-Ok.place (ap (λ r. r.kinds) c.self.view_is)
    (ap (λ r. r.plain) c.self.view_is) (ap (λ r. r.requests) c.self.view_is) c.in_ok-push.ensures.items (ap request c.in_ok-operation.ensures)
    (omega (arith, c.in-Ok.ensures, c.len.ensures, inside.requests.ok.0))
