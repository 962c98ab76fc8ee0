use Rattle.std.proofs.Common.{ap, arith, length}
use Rattle.stable_store.specs.Held.{held}
use Rattle.argus_c.proofs.Holding.{content_is}
use Rattle.argus_c.proofs.session.Session.store.Goals as goal

pub returns-clause-told : goal.returns-clause-told
returns-clause-told c =
    let k = c.in-Some-kept.kept.now in
    record {
      there = (omega arith, omega (arith, ap (λ s. length s) c.setup.ensures));
      content = held k;
      holds = content_is c.args.self.now.world c.args.guardian c.in-Some.found.now c.store.result.now k c.in-Some.ensures.found c.store.ensures c.in-Some-kept.ensures;
      same = c.in_ok-store_text-in-Some-kept.ensures.text;
      utf8 = c.in_ok-store_text-in-Some-kept.ensures.utf8;
    }
