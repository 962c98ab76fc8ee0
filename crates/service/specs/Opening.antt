-- An action that begins, and in which work begins then.
use Rattle.std.specs.Prelude.{ℕ, List, [], ◌∷◌, Option, None}
use Rattle.action_names.specs.Names.{Name}
use Rattle.run_model.specs.declared.answer.Answer.{Answer}
use Rattle.run_model.specs.Openings.{fresh_lists}
use Rattle.stepping.specs.Beside.{OwnRun}
use Rattle.service.specs.Calling.{BeganOne, BeganThese}
use Rattle.service.specs.declared.fault.CallFault.{CallFault}
use Rattle.service.specs.declared.place.Place.{Place}

-- the one action that began
abbrev pub BeganAt : Place → Answer → Type 0
BeganAt at answer = BeganOne at.action answer

-- the two actions that began
abbrev pub BeganBoth : (Place × Place) → Answer → Type 0
BeganBoth (one, other) answer = BeganThese (one.action ∷ other.action ∷ []) answer

-- The run, the action and its home as work begins, the guardians reached until then, and what came to nothing until
-- then.
pub record Start : Type 0 where
  pub run : OwnRun
  pub action : Name
  pub home : ℕ
  pub reached : List ℕ
  pub left : Option CallFault

-- a start of no work
abbrev pub nowhere : Start
nowhere = record {
  run = record { lists = fresh_lists []; past = []; since = [] };
  action = [];
  home = 0;
  reached = [];
  left = None;
}
