use Rattle.std.proofs.Common.{decimal}
use Rattle.action_names.specs.Names.{IsName, name_text}
use Rattle.run_model.specs.Spaces.{number_lacks_space}
use Rattle.run_model.proofs.Cutting.{nothing_read}
use Rattle.run_model.proofs.reading.of_guardian_and_action.Goals as goal

pub returns-in_default : goal.returns-in_default
returns-in_default g c = λ n a f h e. c.in_default.ensures (decimal n) (name_text a) (number_lacks_space n f) e

pub returns-in_default-component : goal.returns-in_default-component
returns-in_default-component g c = λ n a f h e.
    c.in_default-component.ensures n f (c.in-Some.ensures.only (decimal n) (name_text a) (number_lacks_space n f) e).0

pub returns-in-None : goal.returns-in-None
returns-in-None g c = λ n a f h e.
    nothing_read IsName name_text c.in-Some.rest.now c.in_ok-action.field-0 c.in-None.is c.in_ok-action.ensures a h
    (c.in-Some.ensures.only (decimal n) (name_text a) (number_lacks_space n f) e).1
