use Rattle.std.proofs.Common.{◌≡◌, ◌++◌, Ok, true}
use Rattle.serde_json.specs.View.{members_view}
use Rattle.script_model.specs.Reading.{and_then}
use Rattle.script_model.specs.ContentReading.{tags_in}
use Rattle.script_model.specs.Shapes.{are_named}
use Rattle.script_parts.specs.Places.{pointer}
use Rattle.script_parts.proofs.contents.tags_in.Given as goal

-- the whole is what was read and what is left, and what is left has names
abbrev pub invariant-loop-name : goal.invariant-loop-name
invariant-loop-name l = record {
  read : tags_in (members_view l.initial.name-iterator) (pointer l.place)
      ≡ and_then (tags_in (members_view l.name-iterator) (pointer l.place)) (λ xs. Ok (l.tags.items ++ xs));
  named : are_named (members_view l.name-iterator) ≡ true;
}
