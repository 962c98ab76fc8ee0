use Rattle.world_steps.proofs.stepping.step.Given as goal

-- all of a step is said of its opening
abbrev pub ghost-answer_at : goal.ghost-answer_at
ghost-answer_at g a = g.opening

abbrev pub ghost-keep : goal.ghost-keep
ghost-keep g a = g.opening
