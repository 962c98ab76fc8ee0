use Rattle.roster.proofs.Readings.{gone_other, gone_own}
use Rattle.roster.specs.Tables.{table}
use Rattle.roster.proofs.roster.Roster.is_gone.Goals as goal

pub returns-then-home-self : goal.returns-then-home-self
returns-then-home-self c = λ g here is.
    gone_own g here (table c.args.places.now c.args.self.now) is c.args.action.now c.birth-home.result.0 c.birth-home.result.1 c.birth-home.ensures.home c.birth-home.ensures.life c.if-home-self.true

pub returns-else-home-self : goal.returns-else-home-self
returns-else-home-self c = λ g here is.
    gone_other g here (table c.args.places.now c.args.self.now) is c.args.action.now c.birth-home.result.0 c.birth-home.ensures.home c.if-home-self.false
