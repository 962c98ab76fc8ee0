use Rattle.std.proofs.Common.{decimal}
use Rattle.action_names.specs.Names.{IsName, name_text}
use Rattle.run_model.specs.Spaces.{name_lacks_space}
use Rattle.run_model.proofs.Cutting.{nothing_read}
use Rattle.run_model.proofs.reading.of_action_and_guardian.Goals as goal

pub returns-in_default : goal.returns-in_default
returns-in_default g c = λ a n f h e. c.in_default.ensures (name_text a) (decimal n) (name_lacks_space a f) e

pub returns-in_default-component : goal.returns-in_default-component
returns-in_default-component g c = λ a n f h e.
    c.in_default-component.ensures n h (c.in-Some.ensures.only (name_text a) (decimal n) (name_lacks_space a f) e).1

pub returns-in-None : goal.returns-in-None
returns-in-None g c = λ a n f h e.
    nothing_read IsName name_text c.in-Some.front.now c.in_ok-action.field-0 c.in-None.is c.in_ok-action.ensures a f
    (c.in-Some.ensures.only (name_text a) (decimal n) (name_lacks_space a f) e).0
