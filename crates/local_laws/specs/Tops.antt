-- The version on top of an object, with the deltas beside it: what the kept operations leave of its content.
use Rattle.std.specs.Prelude.{ℤ, ◌≡◌, Bool, true, false, not, IsTrue, List, [], ◌∷◌, filter, Option, Some, None}
use Rattle.std.specs.List.{list_any}
use Rattle.action_names.specs.Names.{Name, is_ancestor}
use Rattle.values.specs.declared.content.Content.{Content}
use Rattle.values.specs.declared.content.Content.TheVariants.{Counter}
use Rattle.values.specs.declared.value.Value.TheVariants.{Text}
use Rattle.values.specs.Contents.{IsCounter}
use Rattle.atomic_types.specs.Operations.{Op}
use Rattle.atomic_types.specs.declared.operation.Operation.TheVariants.{Add, Total}
use Rattle.atomic_types.specs.declared.part.Part.TheVariants.{Delta}
use Rattle.atomic_types.specs.Parts.{laid}
use Rattle.run_model.specs.declared.history.Event.{Event}
use Rattle.run_model.specs.declared.step.ObjectId.{ObjectId}
use Rattle.run_model.specs.Keeping.{Standing, blockers_by, kept_on, standing_of}
use Rattle.run_model.specs.Openings.{Opening, first_content}
use Rattle.run_model.specs.Replay.{left_of}
use Rattle.run_model.specs.Runs.{IsRun}
use Rattle.run_model.specs.Telling.{last_passing}
use Rattle.run_model.specs.Versions.{deltas_by, owners_by, top_by, under, version_by}
use Rattle.local_laws.specs.Orderly.{IsOrderly}

-- the owner of the version on top, if that is not the base
abbrev pub top_owner : Standing → Option Name
top_owner s = last_passing (λ a. true) (owners_by s)

-- what is held by no ancestor of this owner is not in the owner's version, and what anybody holds is not in the base
abbrev pub is_beside : Option Name → Name → Bool
is_beside None a = true
is_beside (Some owner) a = not (is_ancestor a owner)

-- the deltas that are not in the version on top
abbrev pub deltas_beside : Standing → List (Name × ℤ)
deltas_beside s = filter (λ d. is_beside (top_owner s) d.0) (deltas_by s)

-- the content, with deltas added to it
abbrev pub with_deltas : Content → List (Name × ℤ) → Content
with_deltas c [] = c
with_deltas c (d ∷ ds) = with_deltas (laid (Delta d.1) c) ds

-- the version on top, with the deltas beside it
abbrev pub total_by : Content → Standing → Content
total_by c s = with_deltas (top_by c s) (deltas_beside s)

-- An add of a text belongs to no object, and changes none; but its holder has a delta, of 0, and to add 0 brings a
-- counter's number within 64 bits.
abbrev pub adds_text : Op → Bool
adds_text (Add (Text bytes)) = true
adds_text _ = false

abbrev pub NumberFits : Content → Type 0
NumberFits (Counter n) = IsCounter n
NumberFits _ = Unit {0}

-- where such an add is kept, the number on top is within 64 bits already
abbrev pub TextsAddNothing : Content → Standing → Type 0
TextsAddNothing c s = IsTrue (list_any (λ o. adds_text o.operation) s.kept)
    → NumberFits (top_by c s)

-- Where Moss's rule is kept, the replay of all that was given back and is kept leaves the version on top, with the
-- deltas beside it. So the reply of a total is that of this content.
abbrev pub TopWithDeltas : Type 0
TopWithDeltas = (c : Content) (s : Standing) → IsOrderly s → TextsAddNothing c s
    → left_of (under c (λ b. true) s.restored) s.kept ≡ total_by c s

-- So is the version of an action whose total waits for nobody.
abbrev pub VersionWithDeltas : Type 0
VersionWithDeltas = (c : Content) (s : Standing) (a : Name) → IsOrderly s
    → blockers_by s a Total ≡ [] → TextsAddNothing c s → version_by c s a ≡ total_by c s

-- No run adds a text, so this is what its kept operations leave.
abbrev pub TopsOfRuns : Type 0
TopsOfRuns = (opening : Opening) (past : List Event) (x : ObjectId) → IsRun opening past
    → left_of (first_content opening x) (kept_on x past)
    ≡ total_by (first_content opening x) (standing_of x past)
