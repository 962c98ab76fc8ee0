use Rattle.std.proofs.Common.{ap, ◌∙◌}
use Rattle.picture.specs.Losses.{kept_home}
use Rattle.picture.proofs.Beginnings.{home_kept}
use Rattle.picture.proofs.bars.Bars.home.Goals as goal

pub returns-in-Some-clause-home : goal.returns-in-Some-clause-home
returns-in-Some-clause-home c = λ past are. ap kept_home c.in-Some.ensures.value ∙ home_kept c.args.self.now past c.args.action.now are

pub returns-in-None-clause-home : goal.returns-in-None-clause-home
returns-in-None-clause-home c = λ past are. ap kept_home c.in-None.ensures.value ∙ home_kept c.args.self.now past c.args.action.now are
