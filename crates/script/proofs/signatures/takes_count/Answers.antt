use Rattle.serde_json.specs.View.{view}
use Rattle.script.proofs.Wanted.{takes_count-params}
use Rattle.script.proofs.signatures.takes_count.Goals as goal

pub returns-in-Some : goal.returns-in-Some
returns-in-Some c = let e = takes_count-params (view c.args.handler.now) c.in-Some.params.now.items c.args.count c.in-Some.ensures in cc
