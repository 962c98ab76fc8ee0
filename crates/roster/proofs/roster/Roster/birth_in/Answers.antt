use Rattle.roster.proofs.roster.Roster.birth_in.Goals as goal

pub returns-clause-home : goal.returns-clause-home
returns-clause-home c = c.home_in-home.ensures

pub returns-clause-life : goal.returns-clause-life
returns-clause-life c = c.life_in-life.ensures
