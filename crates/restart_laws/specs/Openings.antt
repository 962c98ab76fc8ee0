-- Openings at which each object has a content of its type, and the law that a run keeps the types of objects.
use Rattle.std.specs.Prelude.{◌≡◌, ℕ, IsTrue, List, Some}
use Rattle.action_names.specs.Names.{Name}
use Rattle.values.specs.declared.content.Content.{Content}
use Rattle.atomic_types.specs.declared.part.Part.{Part}
use Rattle.run_model.specs.declared.history.Event.{Event}
use Rattle.run_model.specs.declared.step.ObjectId.{ObjectId}
use Rattle.run_model.specs.Openings.{Opening, Setup, first_content, fresh, objects_at}
use Rattle.run_model.specs.Runs.{IsRun}
use Rattle.run_model.specs.Versions.{base_of, version_of}
use Rattle.recovery_laws.specs.Numbers.{IsGuardian}
use Rattle.store_recovery.specs.Belonging.{object_at, same_type, suits}

-- Each guardian's store held parts of the guardian's own objects alone: values of the types that the setup gave them,
-- and deltas of counters.
abbrev pub OpensInType : Opening → Type 0
OpensInType opening = (g n : ℕ) (part : Part) → IsGuardian opening g
    → (opening.stores g).base n ≡ Some part
    → IsTrue (suits (object_at (objects_at opening.setup g) n) part)

-- New guardians open in type.
abbrev pub FreshOpensInType : Type 0
FreshOpensInType = (setup : Setup) → OpensInType (fresh setup)

-- the object is a guardian's, and the setup gave it this content
abbrev pub IsSetUpWith : Opening → ObjectId → Content → Type 0
IsSetUpWith opening x c =
    IsGuardian opening x.guardian
    × (object_at (objects_at opening.setup x.guardian) x.number ≡ Some c)

-- So each object of the setup has a content of its type at the opening.
abbrev pub ObjectsOpenInType : Type 0
ObjectsOpenInType = (opening : Opening) (x : ObjectId) (c : Content) → OpensInType opening
    → IsSetUpWith opening x c → IsTrue (same_type c (first_content opening x))

-- Its base and each action's version keep that type through a run.
abbrev pub ObjectsKeepTypes : Type 0
ObjectsKeepTypes = (opening : Opening) (past : List Event) (x : ObjectId) (c : Content) (a : Name)
    → OpensInType opening → IsRun opening past → IsSetUpWith opening x c
    → IsTrue (same_type c (base_of opening x past))
    × IsTrue (same_type c (version_of opening x a past))
