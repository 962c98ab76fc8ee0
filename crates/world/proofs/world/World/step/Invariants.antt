use Rattle.run_model.specs.Openings.{opening_in}
use Rattle.world.proofs.world.World.step.Given as goal

-- the opening is the registry's
abbrev pub ghost-step : goal.ghost-step
ghost-step g a = opening_in a.forest.now.opening
