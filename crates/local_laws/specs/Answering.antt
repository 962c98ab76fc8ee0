-- What a guardian answers by its own history, and what its store contains, is what the flat history has it answer and
-- contain.
use Rattle.std.specs.Prelude.{◌≡◌, ◌==◌, ℕ, List, IsTrue}
use Rattle.std.specs.List.{list_any}
use Rattle.action_names.specs.Names.{Name}
use Rattle.atomic_types.specs.Operations as op
use Rattle.run_model.specs.declared.step.ObjectId.{ObjectId}
use Rattle.run_model.specs.declared.step.Step.TheVariants.{Op, Prepare}
use Rattle.run_model.specs.declared.answer.Answer.{Answer}
use Rattle.run_model.specs.Actions.{home_of, is_begun, is_committed}
use Rattle.run_model.specs.Answers.{answer_of, told_count}
use Rattle.run_model.specs.Lists.{guardians_of, is_known_orphan}
use Rattle.run_model.specs.Openings.{Opening}
use Rattle.run_model.specs.Runs.{IsRun}
use Rattle.run_model.specs.StableContent.{stable_base, stable_prepared, is_stably_decided}
use Rattle.run_model.specs.Votes.{may_prepare}
use Rattle.run_model.specs.LocalReadings.{count_here, is_orphan_here, operation_here, prepared_here, stable_base_here, vote_here, decided_here}
use Rattle.run_model.specs.LocalHistories.{Stamped, dependencies_carried, events_of, local_history}

abbrev pub OrphansSame : Type 0
OrphansSame = (opening : Opening) (run : List Stamped) (g : ℕ) (a : Name)
    → IsRun opening (events_of run)
    → IsTrue (is_begun a (events_of run)) → home_of a (events_of run) ≡ g
    → is_orphan_here opening g (local_history opening run g) a
    ≡ is_known_orphan opening a g (events_of run)

-- an operation of an action that is at home there
abbrev pub OperationsSame : Type 0
OperationsSame =
    (opening : Opening) (run : List Stamped) (g : ℕ) (a : Name) (x : ObjectId) (wanted : op.Op)
    → IsRun opening (events_of run)
    → IsTrue (is_begun a (events_of run)) → home_of a (events_of run) ≡ g
    → operation_here opening g a x wanted (local_history opening run g)
    ≡ answer_of opening (Op a x wanted) (events_of run)

-- its vote on t, by what the message brings
abbrev pub VotesSame : Type 0
VotesSame = (opening : Opening) (run : List Stamped) (g : ℕ) (t : Name) (answer : Answer)
    → IsRun opening (events_of run) → IsTrue (list_any (λ k. k == g) (guardians_of opening))
    → vote_here g t (dependencies_carried opening (record { step = Prepare g t; answer = answer })
    g (events_of run))
    (local_history opening run g)
    ≡ may_prepare g t (events_of run)

-- the count of a telling
abbrev pub TellingsSame : Type 0
TellingsSame = (opening : Opening) (run : List Stamped) (g : ℕ) (a : Name)
    → IsRun opening (events_of run)
    → count_here opening g a (is_committed a (events_of run)) (local_history opening run g)
    ≡ told_count opening g a (events_of run)

abbrev pub PreparedSame : Type 0
PreparedSame = (opening : Opening) (run : List Stamped) (g : ℕ) (t : Name)
    → IsRun opening (events_of run) → prepared_here opening g t (local_history opening run g)
    ≡ stable_prepared opening g t (events_of run)

abbrev pub BasesSame : Type 0
BasesSame = (opening : Opening) (run : List Stamped) (g n : ℕ) → IsRun opening (events_of run)
    → stable_base_here opening g n (local_history opening run g)
    ≡ stable_base opening g n (events_of run)

abbrev pub DecidedSame : Type 0
DecidedSame = (opening : Opening) (run : List Stamped) (g : ℕ) (t : Name)
    → IsRun opening (events_of run) → decided_here opening g t (local_history opening run g)
    ≡ is_stably_decided opening g t (events_of run)
