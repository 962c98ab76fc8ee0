-- The pointer that a place is.
use Rattle.std.specs.Prelude.{ℕ, List, [], ◌≡◌, ◌≢◌, Ok, Err, decimal}
use Rattle.script_model.specs.Reading.{step, Outcome}
use Rattle.script_model.specs.declared.fault.ScriptFault.TheVariants.{Memory}
use Rattle.script_parts.specs.declared.place.Place.{Place}
use Rattle.script_parts.specs.declared.place.Place.TheVariants.{Root, Member', Item'}

abbrev pub pointer : Place → List ℕ
pointer Root = []
pointer (Member' p place name) = step (pointer place) name.now
pointer (Item' p place index) = step (pointer place) (decimal index)

-- what a call answers that reads, where contracts see what it hands out as f of it
abbrev pub AnswersBy : {A B : Type 0} → (A → B) → Outcome B → Outcome A → Type 0
AnswersBy f outcome (Ok a) = outcome ≡ Ok (f a)
AnswersBy f outcome (Err e) = e ≢ Memory → outcome ≡ Err e
