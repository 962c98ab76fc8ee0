use Rattle.std.proofs.Common.{◌≡◌, Err, ap, inr, map, rules}
use Rattle.stable_store.specs.Held.{held}
use Rattle.argus_c.specs.declared.codes.Code.TheVariants.{Bad, NotOurs}
use Rattle.argus_c.proofs.reopening.reopened.Goals as goal

pub returns-in_err-kept-clause-bad : goal.returns-in_err-kept-clause-bad
returns-in_err-kept-clause-bad c e =
    let is : c.in_err-kept.field-0.0 ≡ Bad = search rules in
    inr (c.in_err-kept.ensures.bad (ap Err is))

pub returns-in_err-world-clause-not_ours : goal.returns-in_err-world-clause-not_ours
returns-in_err-world-clause-not_ours c e =
    let is : c.in_err-world.field-0.0 ≡ NotOurs = search rules in
    record {
      setup = c.in_ok-setup.setup;
      left = map held c.in_ok-kept.kept.items;
      read = c.in_ok-setup.ensures.found;
      stores = c.in_ok-kept.ensures.found;
      others = c.in_err-world.ensures.others (ap Err is);
    }
