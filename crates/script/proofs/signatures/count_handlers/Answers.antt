use Rattle.std.proofs.Common.{ap, arith}
use Rattle.serde_json.specs.Events.{members_len}
use Rattle.serde_json.proofs.Views.{members_len-members_view}
use Rattle.script.proofs.signatures.count_handlers.Goals as goal

pub returns-in-Some : goal.returns-in-Some
returns-in-Some c = omega (arith, members_len-members_view c.in-Some.handlers.now.entries, ap members_len c.in-Some.ensures)
