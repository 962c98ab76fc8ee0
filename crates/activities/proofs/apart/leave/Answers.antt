use Rattle.std.proofs.Common.{ap, false, refl, subst, sym, true, ◌∙◌}
use Rattle.std.proofs.lemmas.Bool.{false≢true}
use Rattle.std.proofs.lemmas.Result.{err_from_is_err_and}
use Rattle.activities.specs.Acting.{acting}
use Rattle.activities.specs.Serial.{ended}
use Rattle.activities.proofs.Making.{if_ok_each}
use Rattle.activities.proofs.apart.leave.Goals as goal

-- the claim was refused
pub returns-in_err-abort-clause-leaving : goal.returns-in_err-abort-clause-leaving
returns-in_err-abort-clause-leaving g c =
    let p = err_from_is_err_and c.from_residual.result c.from_residual.ensures.1 in
    record {
      granted = false;
      next = c.claim.new.self;
      claimed = subst (λ b. g.W.ActivitySteps.claims b c.args.world.now c.claim.new.self) c.if-not-claim.true c.claim.ensures.claims;
      follows = rw p.1 tt;
    }

pub returns-then-not-claim-clause-leaving : goal.returns-then-not-claim-clause-leaving
returns-then-not-claim-clause-leaving g c = record {
  granted = false;
  next = c.claim.new.self;
  claimed = subst (λ b. g.W.ActivitySteps.claims b c.args.world.now c.claim.new.self) c.if-not-claim.true c.claim.ensures.claims;
  follows = refl;
}

-- nobody is refused who is alone
pub returns-then-not-claim-clause-means : goal.returns-then-not-claim-clause-means
returns-then-not-claim-clause-means g c = λ alone.
    absurd (false≢true (sym c.if-not-claim.true ∙ c.claim.ensures.alone alone))

-- the claim was granted
pub returns-clause-leaving : goal.returns-clause-leaving
returns-clause-leaving g c = record {
  granted = true;
  next = c.claim.new.self;
  claimed = subst (λ b. g.W.ActivitySteps.claims b c.args.world.now c.claim.new.self) c.if-not-claim.false c.claim.ensures.claims;
  follows = (
    c.end-ended.new.world,
    subst (λ b. g.W.ActivitySteps.settles b c.end-ended.new.world c.settle.new.self) c.has_left.ensures c.settle.ensures.settles,
  );
}

pub returns-clause-means : goal.returns-clause-means
returns-clause-means g c =
    if_ok_each c.end-ended.result c.end-ended.ensures.means
    (λ end so alone. ap (λ w. record { world = w; flow = end }) c.settle.ensures.same ∙ so alone
    ∙ ap (λ w. ended (acting c.args.action.now) c.args.flow w) c.claim.ensures.same)
