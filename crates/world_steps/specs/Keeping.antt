-- What an accepted step leaves of what it was lent.
use Rattle.std.specs.Prelude.{◌≡◌, ℕ, Bool, true, false, ◌&&◌, ◌==◌, ◌||◌, ◌∷◌, Option, IsTrue, MatchBool}
use Rattle.run_model.specs.declared.history.Event.{Event}
use Rattle.run_model.specs.Runs.{is_accepted}
use Rattle.run_model.specs.LocalReadings.{Carried}
use Rattle.run_model.specs.LocalHistories.{answer_lent, carried_lent, events_there, names_guardian, registry_after, takes_registry}
use Rattle.local_laws.specs.Owed.{IsOwed}
use Rattle.guardian_laws.specs.Laws.{Agrees}
use Rattle.stable_store.specs.Calls.{View}
use Rattle.guardian_laws.specs.Stored.{after_event, asks_store}
use Rattle.layer_contracts.specs.Guardians.{GuardianState, News, after_step, kept, lent_two, stamped}
use Rattle.layer_contracts.specs.Forests.{ForestState, RegistryNews, begun_in, stamped_there}
use Rattle.layer_contracts.specs.Messages.{is_operation, carried_of}
use Rattle.layer_contracts.specs.Stores.{Leaves}
use Rattle.layer_contracts.specs.declared.guardian.Fault.{Fault}
use Rattle.layer_contracts.specs.declared.message.Message.{Message}
use Rattle.world_steps.specs.Lending.{AreLent, IsOneOf}

-- the event agrees with the histories of those lent that it names
abbrev pub AgreesTwo : ForestState → GuardianState → GuardianState → Event → Type 0
AgreesTwo f a b e = (g : ℕ) → ((a.number == g) || (b.number == g)) ≡ true
    → names_guardian e.step (events_there f.registry) g ≡ true → Agrees f.opening g (stamped 0
    (record { event = e; carried = carried_lent f.opening e g f.registry (lent_two a b) }))
    (lent_two a b g)

-- The event is answered as what was lent has it, and accepted. Of an operation what its guardian's own history asks
-- is asked of the caller: the forest, which alone is read here for whether the action was begun, does not say that it
-- is on the roster. And so is that the event agrees with the histories of the guardians that it names, of which the
-- forest knows nothing.
pub record IsAnswered (f : ForestState) (a b : GuardianState) (e : Event) : Type 0 where
  pub answer : e.answer ≡ answer_lent f.opening f.registry (lent_two a b) e.step
  pub accepted : IsTrue (is_accepted e.answer)
  pub operation : (g : ℕ) → IsTrue (is_operation e.step)
      → names_guardian e.step (events_there f.registry) g ≡ true → IsOwed f.opening g (stamped 0
      (record { event = e; carried = carried_lent f.opening e g f.registry (lent_two a b) }))
      (lent_two a b g) e.step
  pub agrees : AgreesTwo f a b e

-- what the event brings to x, of those lent
abbrev pub news_to : ForestState → GuardianState → GuardianState → Event → GuardianState → News
news_to f a b e x =
    record { event = e; carried = carried_lent f.opening e x.number f.registry (lent_two a b) }

-- what is lent, with the event that it answers so
pub record AreAnswered (stands : ForestState → Type 0) (one other : GuardianState → Type 0)
    (f : ForestState) (a b : GuardianState) (e : Event) : Type 0 where
  pub lent : AreLent stands one other f a b
  pub answered : IsAnswered f a b e

-- the guardian x is one of those that are lent, in the forest's opening, and the event is answered so
pub record IsLentAt (stands : ForestState → Type 0) (one : GuardianState → Type 0) (f : ForestState)
    (a b : GuardianState) (e : Event) (x : GuardianState) : Type 0 where
  pub forest : stands f
  pub here : one x
  pub lent : IsOneOf a b x
  pub opening : x.opening ≡ f.opening
  pub answered : IsAnswered f a b e

-- what the event brings to a guardian that it names, as that guardian's own history asks of it
pub record IsBrought (f : ForestState) (a b : GuardianState) (e : Event) (x : GuardianState)
    (brought : Carried) : Type 0 where
  pub named : names_guardian e.step (events_there f.registry) x.number ≡ true
  pub carried : brought ≡ carried_lent f.opening e x.number f.registry (lent_two a b)
  pub owed :
      IsOwed x.opening x.number (stamped 0 (record { event = e; carried = brought })) x.past e.step
  pub agrees :
      Agrees x.opening x.number (stamped 0 (record { event = e; carried = brought })) x.past

-- and nothing to one that it does not name
abbrev pub Brings : ForestState → GuardianState → GuardianState → Event → GuardianState
    → Bool → Message → Type 0
Brings f a b e x brings message =
    MatchBool brings (IsBrought f a b e x (carried_of f e message))
    (names_guardian e.step (events_there f.registry) x.number ≡ false)

-- a guardian that the event names has a plan for it
pub record IsPlannedAt (is_planned : News → Type 0) (f : ForestState) (a b : GuardianState)
    (e : Event) (x : GuardianState) : Type 0 where
  pub named : names_guardian e.step (events_there f.registry) x.number ≡ true
  pub planned : is_planned (news_to f a b e x)

-- and one that it does not name keeps nothing
abbrev pub Plans : (GuardianState → News → Type 0) → ForestState → GuardianState → GuardianState
    → Event → GuardianState → Bool → Type 0
Plans is_planned f a b e x keeps =
    MatchBool keeps (IsPlannedAt (is_planned x) f a b e x)
    (names_guardian e.step (events_there f.registry) x.number ≡ false)

-- in some state in which the guardian stands the plan is for this event
abbrev pub IsPlannedHere : (GuardianState → Type 0)
    → (GuardianState → News → Type 0) → Event → Type 0
IsPlannedHere stands is_planned e = (x : GuardianState) × (news : News) × stands x
    × is_planned x news × (news.event ≡ e)

-- of each such state and what the plan is for there
abbrev pub WhereverPlanned : (GuardianState → Type 0) → (GuardianState → News → Type 0) → Event
    → (GuardianState → News → Type 0) → Type 0
WhereverPlanned stands is_planned e holds = (x : GuardianState) (news : News) → stands x
    → is_planned x news → news.event ≡ e → holds x news

-- the guardian stands where it stood
abbrev pub StandsStill : (GuardianState → Type 0) → (GuardianState → Type 0) → Type 0
StandsStill stood stands = (x : GuardianState) → stood x → stands x

-- And the forest in this state has one, if it keeps the event. What the event begins begins in this life of its home.
abbrev pub PlansThere : (ForestState → RegistryNews → Type 0) → ForestState → ℕ → Event → Type 0
PlansThere is_planned f life e =
    IsTrue (takes_registry e.step)
    → is_planned f (record { event = e; begun = begun_in f life e })

-- in some state in which the forest stands the plan is for this event
abbrev pub IsPlannedInSome : (ForestState → Type 0)
    → (ForestState → RegistryNews → Type 0) → Event → Type 0
IsPlannedInSome stands is_planned e = (f : ForestState) × (news : RegistryNews) × stands f
    × is_planned f news × (news.event ≡ e)

-- once it is carried out the forest stands, with the event, where it stood
abbrev pub IsInstalled : (ForestState → Type 0) → (ForestState → Type 0)
    → (ForestState → RegistryNews → Type 0) → Event → ℕ → Type 0
IsInstalled stood stands is_planned e n =
    (f : ForestState) (news : RegistryNews) → stood f → is_planned f news → news.event ≡ e
    → stands (record f { registry = stamped_there n news ∷ f.registry })

-- What a step leaves of the store of x, of those lent. Where the event does not name x, or asks nothing of its store,
-- that is as it was.
abbrev pub StoreLeft : ForestState → GuardianState → GuardianState → Event → GuardianState → View
    → View → Option Fault → Type 0
StoreLeft f a b e x old new fault =
    Leaves (names_guardian e.step (events_there f.registry) x.number
    && asks_store x.number (stamped 0 (news_to f a b e x)) old.content)
    (after_event x.opening x.number (stamped 0 (news_to f a b e x)) x.past old.content)
    old new fault

-- once it is carried out the guardian stands, with the event, where it stood
abbrev pub IsKept : (GuardianState → Type 0) → (GuardianState → Type 0)
    → (GuardianState → News → Type 0) → Event → ℕ → Type 0
IsKept stood stands is_planned e n =
    WhereverPlanned stood is_planned e (λ x news. stands (kept x (stamped n news)))

-- After the event, with its stamp, the forest stands where this leads from the state f, and two guardians where it
-- leads from a and b.
pub record IsDone (stands : ForestState → Type 0) (one other : GuardianState → Type 0)
    (f : ForestState) (a b : GuardianState) (e : Event) (n : ℕ) : Type 0 where
  pub forest :
      stands (record f { registry = registry_after f.opening (n, e) f.registry (lent_two a b) })
  pub first : one (after_step a (n, e) f.registry (lent_two a b))
  pub second : other (after_step b (n, e) f.registry (lent_two a b))

-- the forest and two guardians stand where they stood
pub record AreSame (stood stands : ForestState → Type 0)
    (stood_one stood_other one other : GuardianState → Type 0) : Type 0 where
  pub forest : (f : ForestState) → stood f → stands f
  pub first : StandsStill stood_one one
  pub second : StandsStill stood_other other
