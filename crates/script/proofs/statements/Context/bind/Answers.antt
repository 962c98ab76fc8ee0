use Rattle.std.proofs.Common.{rules}
use Rattle.serde_json.specs.View.{view, members_view}
use Rattle.script_parts.specs.Places.{pointer}
use Rattle.script.proofs.StatementBindings.{bind_into}
use Rattle.script.proofs.StatementScopes.{extends_one}
use Rattle.script.proofs.statements.Context.bind.Goals as goal

pub returns-in_err-name-clause-read : goal.returns-in_err-name-clause-read
returns-in_err-name-clause-read c =
    let a = c.args in
    let into = bind_into a.scope.now c.in-Some.sort (members_view a.members.now.entries) (pointer a.place.now) (pointer c.member-place.result) (view c.in-Some-member.into.now)
    c.in-Some-member.ensures c.member-place.ensures in
    rw (c.in-Some.is, into) (search rules)

pub returns-in_ok-bound-in-None-clause-extends : goal.returns-in_ok-bound-in-None-clause-extends
returns-in_ok-bound-in-None-clause-extends c = extends_one c.args.scope.now _ _ c.in_ok-bound-in-None.ensures.bound
