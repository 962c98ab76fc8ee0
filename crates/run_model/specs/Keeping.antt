-- Granted operations, which of them are kept, and for whom an operation waits (Moss 1981).
use Rattle.std.specs.Prelude.{ℕ, suc, Bool, false, not, ◌&&◌, ◌||◌, ◌==◌, nat_lt, List, [], ◌∷◌, ◌++◌, length, filter, filter_map}
use Rattle.std.specs.List.{list_any}
use Rattle.action_names.specs.Names.{Name, is_ancestor, ancestors, top_of, rising_names}
use Rattle.atomic_types.specs.Operations as op
use Rattle.atomic_types.specs.declared.op.Reply.{Reply}
use Rattle.atomic_types.specs.Operations.{is_read, class_of, classes_conflict, conflicts}
use Rattle.atomic_types.specs.declared.op.Class.{Class}
use Rattle.atomic_types.specs.declared.op.Class.TheVariants.{Add, Write}
use Rattle.atomic_types.specs.declared.part.Part.{Part}
use Rattle.atomic_types.specs.declared.part.Part.TheVariants.{Value, Delta}
use Rattle.run_model.specs.declared.step.Step.{Step}
use Rattle.run_model.specs.declared.step.Step.TheVariants.{Op}
use Rattle.run_model.specs.declared.step.ObjectId.{ObjectId}
use Rattle.run_model.specs.declared.answer.Answer.{Answer}
use Rattle.run_model.specs.declared.answer.Answer.TheVariants.{Granted}
use Rattle.run_model.specs.declared.history.Event.{Event}
use Rattle.run_model.specs.Actions.{is_aborted, step_crashes}
use Rattle.run_model.specs.Visibility.{votes_yes}
use Rattle.run_model.specs.Telling.{tells, told_committed, holder_by}

-- a granted operation: the number of its event, its action, object, operation and reply
pub record Performed : Type 0 where
  pub number : ℕ
  pub action : Name
  pub object : ObjectId
  pub operation : op.Op
  pub reply : Reply

abbrev pub same_object : ObjectId → ObjectId → Bool
same_object x y = (x.guardian == y.guardian) && (x.number == y.number)

abbrev pub performed_by : ℕ → Step → Answer → List Performed
performed_by n (Op a x o) (Granted r) =
    record { number = n; action = a; object = x; operation = o; reply = r } ∷ []
performed_by n _ _ = []

-- all granted operations, the newest first
abbrev pub performed : List Event → List Performed
performed [] = []
performed (e ∷ past) = performed_by (suc (length past)) e.step e.answer ++ performed past

-- g prepared t after the event of number n
abbrev pub prepared_after : ℕ → ℕ → Name → List Event → Bool
prepared_after n g t [] = false
prepared_after n g t (e ∷ past) =
    prepared_after n g t past || (nat_lt n (suc (length past)) && votes_yes e.step e.answer g t)

-- a crash of its guardian after past leaves the operation: a write or an add granted before that guardian prepared
-- its top action
abbrev pub outlives_crash : Performed → List Event → Bool
outlives_crash o past =
    not (is_read o.operation) && prepared_after o.number o.object.guardian (top_of o.action) past

-- an event after past that tells the operation's guardian that just these actions aborted undoes it: one of them is
-- an ancestor of its action, or the guardian crashes
abbrev pub undoes_by : (Name → Bool) → Step → List Event → Performed → Bool
undoes_by aborts step past o =
    list_any aborts (ancestors o.action)
    || (step_crashes step o.object.guardian && not (outlives_crash o past))

-- the event that follows past undoes the operation: its guardian is told that an ancestor of its action aborted, or
-- crashes
abbrev pub undoes : Event → List Event → Performed → Bool
undoes e past o =
    undoes_by (λ c. tells e past o.object.guardian c && is_aborted c past) e.step past o

-- a granted operation is kept from its own event on, until one undoes it
abbrev pub is_kept : Performed → List Event → Bool
is_kept o [] = false
is_kept o (e ∷ past) = (o.number == suc (length past)) || (is_kept o past && not (undoes e past o))

-- the kept operations on an object, the newest first
abbrev pub kept_on : ObjectId → List Event → List Performed
kept_on x past = filter (λ o. same_object o.object x && is_kept o past) (performed past)

-- What all that is asked of an object rests on: of which actions its guardian was told that they committed; the
-- operations kept on it, the newest first; and where the guardian was opened again by itself, what its store gave
-- back to prepared top actions, the newest first: what they wrote or added before all those operations.
pub record Standing : Type 0 where
  pub told : Name → Bool
  pub kept : List Performed
  pub restored : List (Name × Part)

abbrev pub standing_of : ObjectId → List Event → Standing
standing_of x past =
    record { told = λ c. told_committed x.guardian c past; kept = kept_on x past; restored = [] }

-- a value was written, a delta added
abbrev pub part_class : Part → Class
part_class (Value v) = Write
part_class (Delta z) = Add

-- the holders of what conflicts with an operation; one may come twice
abbrev pub conflicting_holders : Standing → op.Op → List Name
conflicting_holders s wanted =
    filter_map (λ r. holder_by s.told r.0)
    (filter (λ r. classes_conflict (part_class r.1) (class_of wanted)) s.restored)
    ++ filter_map (λ o. holder_by s.told o.action)
    (filter (λ o. conflicts o.operation wanted) s.kept)

-- for whom an operation of a waits: the holders of what conflicts with it, as far as they are no ancestors of a, each
-- once, rising by name
abbrev pub blockers_by : Standing → Name → op.Op → List Name
blockers_by s a wanted =
    rising_names (filter (λ c. not (is_ancestor c a)) (conflicting_holders s wanted))

abbrev pub blockers : Name → ObjectId → op.Op → List Event → List Name
blockers a x wanted past = blockers_by (standing_of x past) a wanted
