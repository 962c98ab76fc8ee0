use Rattle.std.proofs.Common.{sym, ◌∙◌, rules}
use Rattle.serde_json.specs.View.{view}
use Rattle.script_parts.specs.Places.{pointer}
use Rattle.script.specs.Contexts.{context_of}
use Rattle.script.proofs.StatementEndings.{return_in-value}
use Rattle.script.proofs.statements.Context.return_value.Goals as goal

pub returns-in_err-value : goal.returns-in_err-value
returns-in_err-value c =
    let a = c.args in
    let some = sym c.is_null.ensures ∙ c.if-is_null.false in
    rw (return_in-value (context_of a.self.now) a.scope.now (view a.json.now) (pointer a.place.now) some) (search rules)
