use Rattle.std.proofs.Common.{◌≡◌, length, rules}
use Rattle.script_parts.proofs.Items.{array_some, is_two}
use Rattle.script_parts.proofs.expressions.is_pair.Goals as goal

pub returns-in-Some : goal.returns-in-Some
returns-in-Some c =
    let count : c.len.result ≡ length c.in-Some.items.now.items = search rules in
    rw (array_some _ _ c.in-Some.ensures, count) (is_two c.in-Some.items.now.items)
