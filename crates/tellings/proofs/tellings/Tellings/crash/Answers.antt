use Rattle.std.proofs.Common.{ap, ◌+◌}
use Rattle.tellings.proofs.Histories.{crashed_event}
use Rattle.tellings.proofs.Planning.{heard_places}
use Rattle.tellings.proofs.tellings.Tellings.crash.Goals as goal

pub returns-clause-told : goal.returns-clause-told
returns-clause-told c = λ g here e names are is down.
    let heard = c.args.heard.now in
    let places = heard_places names c.args.self.now e.carried.outcomes heard.told.items is in
    crashed_event names c.args.self.now _ heard (c.put_all.ensures.values names places) c.put_all.ensures.length g here e are is
    (ap (λ n. n + 1) c.put_all.ensures.crashes) down
