use Rattle.std.proofs.Common.{◌≡◌, Ok, decimal, ap, sym, ◌∙◌, arith, rules}
use Rattle.serde_json.specs.View.{view, members_view}
use Rattle.script_model.specs.Reading.{step}
use Rattle.script_model.specs.StatementReading.{body_at, statement}
use Rattle.script_parts.specs.Places.{pointer}
use Rattle.script.specs.Contexts.{context_of}
use Rattle.script.proofs.StatementLists.{items_at, statements_step}
use Rattle.script.proofs.StatementScopes.{left_again, extends_more}
use Rattle.script.proofs.StatementBodies.{if_statement}
use Rattle.script.proofs.statements.Context.+body.Goals as goal

pub body_at-returns-clause-kept : goal.body_at-returns-clause-kept
body_at-returns-clause-kept t c =
    let many = c.forget_to.ensures.left ∙ c.len-bound.ensures in
    left_again c.args.scope.now c.statements.new.scope c.forget_to.new.self c.in_ok-body.ensures.extends c.forget_to.ensures.newest many

pub coenter-returns-in_err-arm-clause-read : goal.coenter-returns-in_err-arm-clause-read
coenter-returns-in_err-arm-clause-read t c =
    let vs = c.in_ok-documents.documents.now in
    let at = items_at vs c.loop-i.i c.index-documents-i.result (omega arith) c.index-documents-i.is in
    rw (c.in_ok-documents.ensures, c.loop-i.invariant.read, at, ← c.item.ensures, ← c.loop-i.invariant.kept) (search rules)

pub plain_statement-returns-in-Some-clause-read : goal.plain_statement-returns-in-Some-clause-read
plain_statement-returns-in-Some-clause-read t c =
    let a = c.args in
    let members = members_view a.members.now.entries in
    let inside = pointer c.member-in-Some.result in
    if_statement (body_at a.levels) (context_of a.self.now) a.scope.now c.branches.new.scope members (pointer a.place.now) inside
    (view c.in-Some.json.now) c.branches.result c.in-Some.ensures c.in_ok-only.ensures c.member-in-Some.ensures
    c.branches.ensures.read c.branches.ensures.kept

pub statements-loop-i-preserved : goal.statements-loop-i-preserved
statements-loop-i-preserved t c =
    let a = c.args in
    let place = pointer a.place.now in
    let cx = context_of a.self.now in
    let inner = body_at a.levels in
    let d = view c.index-documents-i.result in
    let s = c.in_ok-statement.field-0 in
    let next = c.statement.new.scope in
    let at = sym c.item.ensures in
    let gives : statement inner cx c.loop-i.scope d (step place (decimal c.loop-i.i)) ≡ Ok (s, next) =
    ap (statement inner cx c.loop-i.scope d) at ∙ c.in_ok-statement.ensures.read in
    record {
      read = c.loop-i.invariant.read
          ∙ statements_step inner cx a.documents.now c.loop-i.i c.loop-i.scope next place c.loop-i.body _ c.index-documents-i.result s
          (omega arith) c.index-documents-i.is gives c.in_ok-push.ensures.ok;
      extends = extends_more a.scope.now c.loop-i.scope next c.loop-i.invariant.extends c.in_ok-statement.ensures.extends;
    }
