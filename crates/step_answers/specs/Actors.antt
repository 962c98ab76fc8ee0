-- What is read of an action in one look-up.
use Rattle.std.specs.Prelude.{◌≡◌, ◌||◌, ℕ, Bool, true, false, List, Option, Some, None, IsFalse, IsTrue}
use Rattle.action_names.specs.Names.{Name}
use Rattle.run_model.specs.declared.history.Event.{Event}
use Rattle.run_model.specs.Actions as actions
use Rattle.step_answers.specs.declared.actor.Actor.{Actor}
use Rattle.step_answers.specs.declared.actor.Status.{Status}
use Rattle.step_answers.specs.declared.actor.Status.TheVariants.{Aborted, Closed, Committed}
use Rattle.step_answers.specs.declared.actor.Worker.{Worker}

-- what stands so has committed or aborted
abbrev pub has_ended : Status → Bool
has_ended Committed = true
has_ended Aborted = true
has_ended _ = false

-- it is closed, and has not ended
abbrev pub is_closed : Status → Bool
is_closed Closed = true
is_closed _ = false

-- what is asked of an actor that does something by itself
abbrev pub worker_of : Actor → Worker
worker_of actor = record {
  home = actor.home;
  done = has_ended actor.status || is_closed actor.status;
  busy = actor.busy;
}

-- The action is at home at h, has ended or not, is closed or not, and busy or not. Once it has ended its status does
-- not say whether it was closed.
pub record IsActor (h : ℕ) (over shut is_busy : Bool) (actor : Actor) : Type 0 where
  pub home : actor.home ≡ h
  pub ended : has_ended actor.status ≡ over
  pub closed : IsFalse over → is_closed actor.status ≡ shut
  pub busy : actor.busy ≡ is_busy

-- so it is after these events
abbrev pub IsActorOf : Name → List Event → Actor → Type 0
IsActorOf a past = IsActor (actions.home_of a past) (actions.is_ended a past)
    (actions.is_closed a past) (actions.is_busy a past)

-- it is at home at h, done or not, and busy or not
pub record IsWorker (h : ℕ) (is_done is_busy : Bool) (worker : Worker) : Type 0 where
  pub home : worker.home ≡ h
  pub done : worker.done ≡ is_done
  pub busy : worker.busy ≡ is_busy

-- what is read of an action: something exactly where it was begun, and then this holds of it
abbrev pub IsReadAs : {X : Type 0} → Bool → (X → Type 0) → Option X → Type 0
IsReadAs begun holds None = IsFalse begun
IsReadAs begun holds (Some x) = IsTrue begun × holds x
