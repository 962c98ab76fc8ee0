-- What a reading says of what happened.
use Rattle.run_model.specs.Answers.{Results}
use Rattle.run_model.specs.Openings.{Opening}
use Rattle.run_model.specs.Refusals.{Facts}

pub record Said : Type 0 where
  pub opening : Opening
  pub facts : Facts
  pub results : Results
