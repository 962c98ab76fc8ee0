use Rattle.std.proofs.Common.{None, Some, refl, ◌∙◌}
use Rattle.argus_c.proofs.Uncalled.{changes_told}
use Rattle.argus_c.proofs.session.Session.make.Goals as goal

pub returns-in-Ok-step-clause-made : goal.returns-in-Ok-step-clause-made
returns-in-Ok-step-clause-made c e =
    let stepped = c.in-Ok-step.ensures in
    record {
      answer = c.in-Ok-step.answer;
      told = refl;
      right = stepped.answer;
      after = stepped.after;
      orphans = stepped.orphans;
      served = stepped.served;
      changes = changes_told _ _ c.args.step.now None c.mark.new.self stepped.stores c.in-Ok.ensures.marked c.in-Ok.ensures.others (c.forget.ensures ∙ c.learn.ensures);
    }

pub returns-in-Err-Memory-clause-unmade : goal.returns-in-Err-Memory-clause-unmade
returns-in-Err-Memory-clause-unmade c ne =
    let stepped = c.in-Err-Memory.ensures in
    record {
      run = stepped.err;
      last = refl;
      changes = changes_told _ _ c.args.step.now (Some c.in-Err-Memory.field-0) c.mark.new.self stepped.stores c.in-Ok.ensures.marked c.in-Ok.ensures.others refl;
    }

pub returns-in-Err-Stable-clause-unmade : goal.returns-in-Err-Stable-clause-unmade
returns-in-Err-Stable-clause-unmade c ne =
    let stepped = c.in-Err-Stable.ensures in
    record {
      run = stepped.err;
      last = refl;
      changes = changes_told _ _ c.args.step.now (Some c.in-Err-Stable.field-0) c.mark.new.self stepped.stores c.in-Ok.ensures.marked c.in-Ok.ensures.others refl;
    }
