use Rattle.std.proofs.Common.{◌≡◌, [], ap, length, arith, rules}
use Rattle.script_parts.proofs.ScopeLemmas.{length-onto}
use Rattle.script_parts.proofs.scope.Scope.len.Goals as goal

pub returns : goal.returns
returns c =
    let count : c.len.result ≡ length c.self.inside.bound.items = search rules in
    omega (arith, length-onto [] c.self.inside.bound.items, ap length c.self.view_is)
