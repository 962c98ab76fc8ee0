use Rattle.service.proofs.together.InArmArm.run.Given as goal

-- the arm, as the run is when it has begun
abbrev pub ghosts-work_in : goal.ghosts-work_in
ghosts-work_in g a = record {
  start = record { run = g.W.MakesOwnSteps.run a.service.now.world; action = a.at.now.action; home = a.at.now.home; reached = a.at.now.reached.items; left = a.at.now.left };
}
