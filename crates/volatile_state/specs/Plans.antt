-- What events a plan is for, and when the memory has room for it.
use Rattle.std.specs.Prelude.{◌≡◌, ◌+◌, ◌<◌, ◌^◌, ℕ, Bool, List, is_some}
use Rattle.action_names.specs.Names.{Name}
use Rattle.run_model.specs.declared.history.Event.{Event}
use Rattle.run_model.specs.LocalReadings.{prepared_here}
use Rattle.layer_contracts.specs.declared.message.Message.{Message}
use Rattle.layer_contracts.specs.Guardians.{GuardianState, IsNext, News, by_itself, kept, stamped}
use Rattle.tellings.specs.Hearing.{FitsHeard, IsHeard}
use Rattle.orphans.specs.Knowing.{FitsLesson, IsLesson}
use Rattle.roster.specs.Entries.{FitsEntry, IsEntry}
use Rattle.roster.specs.Rosters.{crashes_of}
use Rattle.roster.specs.Tables.{table}
use Rattle.guardian_objects.specs.Outcomes.{ArePlanned, Fits, outcomes_of}
use Rattle.volatile_state.specs.Memories.{InMemory, IsSound}
use Rattle.volatile_state.specs.declared.plan.Plan.{Plan}

-- of these actions the store has a record
abbrev pub AreRecorded : (Name → Bool) → GuardianState → Type 0
AreRecorded stays g = (a : Name) → stays a ≡ is_some (prepared_here g.opening g.number a g.past)

-- There is room for the plan, and one more crash can be counted.
pub record FitsPlan (p : Plan) (m : InMemory) : Type 0 where
  pub count : crashes_of m.roster + 1 < 2 ^ 64
  pub heard : FitsHeard m.told p.heard
  pub lesson : FitsLesson m.lists p.lesson
  pub entry : FitsEntry m.roster p.entry
  pub planned : Fits m.objects p.planned.tellings.items

-- There is room for what a message brings beside dependencies, and one more crash can be counted.
pub record FitsMessage (p : Plan) (m : InMemory) : Type 0 where
  pub count : crashes_of m.roster + 1 < 2 ^ 64
  pub heard : FitsHeard m.told p.heard
  pub lesson : FitsLesson m.lists p.lesson
  pub planned : Fits m.objects p.planned.tellings.items

-- The copies are of what the message brings beside dependencies, with these outcomes in place of its own.
pub record HasMessage (p : Plan) (m : InMemory) (g : GuardianState) (message : Message)
    (news : List (Name × Bool)) : Type 0 where
  pub sender : p.sender ≡ message.sender
  pub brought : p.outcomes.items ≡ news
  pub heard : IsHeard m.places m.told news p.heard
  pub lesson : IsLesson message.sender message.life message.aborts message.counts.items news p.lesson
  pub outcomes : outcomes_of p.planned.tellings.items ≡ news
  pub planned : ArePlanned g.past p.planned.tellings.items

-- The news may come next, and the copies are of it.
pub record IsPlanOf (p : Plan) (m : InMemory) (g : GuardianState) (news : News) : Type 0 where
  pub next : IsNext g news
  pub sender : p.sender ≡ news.carried.sender
  pub brought : p.outcomes.items ≡ news.carried.outcomes
  pub heard : IsHeard m.places m.told news.carried.outcomes p.heard
  pub lesson : IsLesson news.carried.sender news.carried.life news.carried.aborts
      news.carried.counts news.carried.outcomes p.lesson
  pub entry : IsEntry (table m.places m.roster) news.event news.carried.dependencies p.entry
  pub outcomes : outcomes_of p.planned.tellings.items ≡ news.carried.outcomes
  pub planned : ArePlanned g.past p.planned.tellings.items

-- the plan is for this event, in some state in which the memory stands and of which this holds
abbrev pub IsPlannedWhere : (GuardianState → Type 0) → Plan → InMemory → Event → Type 0
IsPlannedWhere holds p m e = (g : GuardianState) × (news : News) × IsSound m g × IsPlanOf p m g news
    × (news.event ≡ e) × holds g

abbrev pub IsPlanned : Plan → InMemory → Event → Type 0
IsPlanned p m e = (g : GuardianState) × (news : News) × IsSound m g
    × IsPlanOf p m g news × (news.event ≡ e)

-- in each such state, the memory stands in the state that follows the event
abbrev pub FollowsWhere : (GuardianState → Type 0) → Plan → InMemory → Event → ℕ → InMemory → Type 0
FollowsWhere holds p old e stamp new =
    (g : GuardianState) (news : News) → IsSound old g → IsPlanOf p old g news → news.event ≡ e
    → holds g → IsSound new (kept g (stamped stamp news))

abbrev pub Follows : Plan → InMemory → Event → ℕ → InMemory → Type 0
Follows p old e stamp new =
    (g : GuardianState) (news : News) → IsSound old g → IsPlanOf p old g news → news.event ≡ e
    → IsSound new (kept g (stamped stamp news))

-- after an operation the memory stands in the state that follows it, wherever it may come next
abbrev pub Operated : InMemory → Event → ℕ → InMemory → Type 0
Operated old e stamp new = (g : GuardianState) → IsSound old g → IsNext g (by_itself e)
    → IsSound new (kept g (stamped stamp (by_itself e)))
