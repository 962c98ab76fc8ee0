-- Which guardians an event names, and the histories that guardians and the registry keep, with what their messages
-- carried.
use Rattle.std.specs.Prelude.{ℕ, suc, Bool, true, false, not, ◌&&◌, ◌||◌, ◌==◌, List, [], ◌∷◌, length, map, filter, filter_map, if◌then◌else◌, Option, Some, None, option_map, is_none}
use Rattle.action_names.specs.Names.{Name, same_name, parent_of, is_proper_ancestor, rising_names}
use Rattle.run_model.specs.declared.step.Step.{Step}
use Rattle.run_model.specs.declared.step.Step.TheVariants.{Top, NestedTop, Call, Arms, Op, Commit, Close, Prepare, Decide, Abort, Tell, Crash, Recover}
use Rattle.run_model.specs.declared.history.Event.{Event}
use Rattle.run_model.specs.Visibility.{has_prepared}
use Rattle.run_model.specs.Votes.{is_number}
use Rattle.run_model.specs.Refusals.{Facts, facts_of}
use Rattle.run_model.specs.Answers.{Results, answer_by, operated_by}
use Rattle.run_model.specs.declared.answer.Answer.{Answer}
use Rattle.std.specs.List.{list_all}
use Rattle.run_model.specs.Actions.{begins, home_in, crashes, is_down, is_gone, names_begun, begun, home_of, incarnation_of, maker_of, is_ended, is_committed, step_closes}
use Rattle.run_model.specs.Openings.{Opening, first_content}
use Rattle.run_model.specs.Dependencies.{dependency, dependency_after, own_entry}
use Rattle.run_model.specs.Lists.{guardians_of, carried_by, carried_from}
use Rattle.run_model.specs.LocalReadings.{Carried, LocalEvent, after_commit, beside, count_here, events_here, is_orphan_here, standing_here, told_here, unsent_aborts, unsent_counts}

abbrev pub is_home_of : Option Name → List Event → ℕ → Bool
is_home_of None past g = false
is_home_of (Some a) past g = home_of a past == g

-- the step, taken after past, names g
abbrev pub names_guardian : Step → List Event → ℕ → Bool
names_guardian (Top h) past g = h == g
names_guardian (NestedTop a) past g = home_of a past == g
names_guardian (Call a h) past g = (home_of a past == g) || (h == g)
names_guardian (Arms a kinds) past g = home_of a past == g
names_guardian (Op a x wanted) past g = home_of a past == g
names_guardian (Commit a) past g = (home_of a past == g) || (home_of (parent_of a) past == g)
names_guardian (Close t) past g = home_of t past == g
names_guardian (Prepare h t) past g = (home_of t past == g) || (h == g)
names_guardian (Decide t) past g = home_of t past == g
names_guardian (Abort a) past g = (home_of a past == g) || is_home_of (maker_of a past) past g
names_guardian (Tell h a) past g = h == g
names_guardian (Crash h) past g = h == g
names_guardian (Recover h) past g = h == g

-- the step reads or changes the forest of actions
abbrev pub takes_registry : Step → Bool
takes_registry (Op a x wanted) = false
takes_registry (Crash g) = false
takes_registry (Recover g) = false
takes_registry _ = true

-- an event with its stamp
abbrev pub Stamped : Type 0
Stamped = ℕ × Event

abbrev pub events_of : List Stamped → List Event
events_of run = map (λ s. s.1) run

-- events with their numbers for stamps
abbrev pub numbered : List Event → List Stamped
numbered [] = []
numbered (e ∷ past) = (suc (length past), e) ∷ numbered past

-- on which guardians an action depends, rising, each with the least incarnation
abbrev pub dependencies_of : Opening → Name → List Event → List (ℕ × ℕ)
dependencies_of opening a past =
    filter_map (λ g. option_map (λ n. (g, n)) (dependency a g past)) (guardians_of opening)

-- how often the sender crashed
abbrev pub life_of : Option ℕ → List Event → ℕ
life_of None past = 0
life_of (Some h) past = crashes h past

-- what a sender has not sent yet of its lists, where these are the guardians' histories
abbrev pub aborts_from : Option ℕ → ℕ → (ℕ → List LocalEvent) → List Name
aborts_from None g histories = []
aborts_from (Some h) g histories = unsent_aborts h g (histories h) (histories g)

abbrev pub counts_of_sender : Option ℕ → ℕ → (ℕ → List LocalEvent) → List (ℕ × ℕ)
counts_of_sender None g histories = []
counts_of_sender (Some h) g histories = unsent_counts h g (histories h) (histories g)

-- each of these actions with its dependencies
abbrev pub with_dependencies : Opening → List Event → List Name → List (Name × List (ℕ × ℕ))
with_dependencies opening past names = map (λ b. (b, dependencies_of opening b past)) names

-- to the parent's home those of the action that commits, to the guardian that votes those of the top action, and to
-- their home those of new actions
abbrev pub dependencies_sent : (Name → ℕ) → (Name → List (ℕ × ℕ)) → Step → ℕ
    → List (Name × List (ℕ × ℕ)) → List (Name × List (ℕ × ℕ))
dependencies_sent home depends (Commit a) g new =
    if home (parent_of a) == g then (a, depends a) ∷ [] else []
dependencies_sent home depends (Prepare h t) g new = if h == g then (t, depends t) ∷ [] else []
dependencies_sent home depends _ g new = new

abbrev pub dependencies_carried : Opening → Event → ℕ → List Event → List (Name × List (ℕ × ℕ))
dependencies_carried opening e g past =
    dependencies_sent (λ a. home_of a past) (λ a. dependencies_of opening a past) e.step g
    (with_dependencies opening (e ∷ past)
    (filter (λ b. home_of b (e ∷ past) == g) (names_begun e.answer)))

-- the outcomes below t that a guardian with this history has not been told since its last crash, by name
abbrev pub outcomes_below : Name → ℕ → List Event → List LocalEvent → List (Name × Bool)
outcomes_below t g past here =
    map (λ b. (b, is_committed b past))
    (rising_names (filter
    (λ b. is_proper_ancestor t b && (is_ended b past && not (told_here g b here))) (begun past)))

abbrev pub outcomes_carried : Step → ℕ → List Event → List LocalEvent → List (Name × Bool)
outcomes_carried (Tell h a) g past here = if h == g then (a, is_committed a past) ∷ [] else []
outcomes_carried (Prepare h t) g past here = if h == g then outcomes_below t g past here else []
outcomes_carried _ g past here = []

-- what the messages of the event that follows past carried to g, where these are the guardians' histories
abbrev pub carried : Opening → Event → ℕ → List Event → (ℕ → List LocalEvent) → Carried
carried opening e g past histories = record {
  sender = carried_from e.step g past;
  life = life_of (carried_from e.step g past) past;
  aborts = aborts_from (carried_from e.step g past) g histories;
  counts = counts_of_sender (carried_from e.step g past) g histories;
  dependencies = dependencies_carried opening e g past;
  outcomes = outcomes_carried e.step g past (histories g);
  restored = [];
}

-- the history of g: the events of a run that name it, the newest first
abbrev pub local_history : Opening → List Stamped → ℕ → List LocalEvent
local_history opening [] g = []
local_history opening (s ∷ run) g =
    if names_guardian s.1.step (events_of run) g
    then record { stamp = s.0; event = s.1; carried = carried opening s.1 g (events_of run) (λ h. local_history opening run h) }
    ∷ local_history opening run g
    else local_history opening run g

-- a new action as the registry hears of it
pub record NewAction : Type 0 where
  pub name : Name
  pub home : ℕ
  pub incarnation : ℕ
  pub dependencies : List (ℕ × ℕ)

-- an event as the registry keeps it
pub record RegistryEvent : Type 0 where
  pub stamp : ℕ
  pub event : Event
  pub begun : List NewAction

abbrev pub new_action : Opening → List Event → Name → NewAction
new_action opening past b = record {
  name = b;
  home = home_of b past;
  incarnation = incarnation_of b past;
  dependencies = dependencies_of opening b past;
}

-- the registry's history: the events of a run that take its lock, the newest first
abbrev pub registry_history : Opening → List Stamped → List RegistryEvent
registry_history opening [] = []
registry_history opening (s ∷ run) =
    if takes_registry s.1.step
    then record { stamp = s.0; event = s.1; begun = map (λ b. new_action opening (s.1 ∷ events_of run) b) (names_begun s.1.answer) }
    ∷ registry_history opening run
    else registry_history opening run

-- the stamp of the event that closed a, by the registry's history
abbrev pub closing_there : Name → List RegistryEvent → Option ℕ
closing_there a [] = None
closing_there a (c ∷ registry) =
    if step_closes c.event.step a then Some c.stamp else closing_there a registry

abbrev pub events_there : List RegistryEvent → List Event
events_there registry = map (λ c. c.event) registry

-- what is said of one of these new actions
abbrev pub new_least : List NewAction → Name → ℕ → Option ℕ
new_least [] a h = None
new_least (x ∷ xs) a h = if same_name x.name a then beside x.dependencies h else new_least xs a h

-- the least incarnation of h on which a depends, by the registry's history
abbrev pub dependency_there : Name → ℕ → List RegistryEvent → Option ℕ
dependency_there a h [] = None
dependency_there a h (c ∷ registry) =
    if begins c.event a then new_least c.begun a h
    else after_commit c.event.step a (dependency_there a h registry)
    (λ d. dependency_there d h registry)

-- What a step asks that is lent the registry's history and those of guardians: of actions the registry's events, of a
-- guardian its own.
abbrev pub facts_lent : Opening → List RegistryEvent → (ℕ → List LocalEvent) → Facts
facts_lent opening registry histories = record (facts_of opening (events_there registry)) {
  gone = λ a. is_gone a (events_here (histories (home_of a (events_there registry))));
  orphan = λ a. is_orphan_here opening (home_of a (events_there registry))
      (histories (home_of a (events_there registry))) a;
  ready = λ t. list_all
      (λ g. is_none (dependency_there t g registry) || has_prepared g t (events_there registry))
      (guardians_of opening);
  down = λ g. is_down g (events_here (histories g));
  takes_part = λ g t. not (is_none (dependency_there t g registry));
  told = λ g a. told_here g a (histories g);
}

abbrev pub results_lent : Opening → List RegistryEvent → (ℕ → List LocalEvent) → Results
results_lent opening registry histories = record {
  operation = λ a x wanted.
      operated_by (first_content opening x) (standing_here (histories x.guardian) x) a wanted;
  vote = λ g t. is_number (dependency_there t g registry) (crashes g (events_here (histories g)));
  count = λ g a. count_here opening g a (is_committed a (events_there registry)) (histories g);
}

-- the answer of a step by what it is lent
abbrev pub answer_lent : Opening → List RegistryEvent → (ℕ → List LocalEvent) → Step → Answer
answer_lent opening registry histories step = answer_by opening
    (facts_lent opening registry histories) (results_lent opening registry histories) step

abbrev pub entries_of : Opening → (ℕ → Option ℕ) → List (ℕ × ℕ)
entries_of opening depends =
    filter_map (λ h. option_map (λ n. (h, n)) (depends h)) (guardians_of opening)

-- a new action, as the step that begins it hands it out by what it is lent
abbrev pub home_lent : Step → List RegistryEvent → ℕ
home_lent step registry = home_in step (λ c. home_of c (events_there registry))

abbrev pub life_lent : Step → List RegistryEvent → (ℕ → List LocalEvent) → ℕ
life_lent step registry histories =
    crashes (home_lent step registry) (events_here (histories (home_lent step registry)))

abbrev pub action_lent : Opening → Step → List RegistryEvent
    → (ℕ → List LocalEvent) → Name → NewAction
action_lent opening step registry histories b = record {
  name = b;
  home = home_lent step registry;
  incarnation = life_lent step registry histories;
  dependencies =
      entries_of opening (λ h. dependency_after true step b (λ c. dependency_there c h registry)
      (own_entry (home_lent step registry) h (life_lent step registry histories)));
}

-- the event as the registry keeps it, by what the step is lent
abbrev pub registry_event_lent : Opening → Stamped → List RegistryEvent
    → (ℕ → List LocalEvent) → RegistryEvent
registry_event_lent opening s registry histories = record {
  stamp = s.0;
  event = s.1;
  begun = map (λ b. action_lent opening s.1.step registry histories b) (names_begun s.1.answer);
}

abbrev pub sender_lent : Step → ℕ → List RegistryEvent → (ℕ → List LocalEvent) → Option ℕ
sender_lent step g registry histories =
    carried_by (λ a. home_of a (events_there registry))
    (λ h. is_down h (events_here (histories h))) step g

abbrev pub sender_life : Option ℕ → (ℕ → List LocalEvent) → ℕ
sender_life None histories = 0
sender_life (Some h) histories = crashes h (events_here (histories h))

-- what its messages carry to g, by what the step is lent
abbrev pub carried_lent : Opening → Event → ℕ → List RegistryEvent → (ℕ → List LocalEvent) → Carried
carried_lent opening e g registry histories = record {
  sender = sender_lent e.step g registry histories;
  life = sender_life (sender_lent e.step g registry histories) histories;
  aborts = aborts_from (sender_lent e.step g registry histories) g histories;
  counts = counts_of_sender (sender_lent e.step g registry histories) g histories;
  dependencies = dependencies_sent (λ a. home_of a (events_there registry))
      (λ a. entries_of opening (λ h. dependency_there a h registry)) e.step g
      (map (λ b. (b, (action_lent opening e.step registry histories b).dependencies))
      (filter (λ b. home_lent e.step registry == g) (names_begun e.answer)));
  outcomes = outcomes_carried e.step g (events_there registry) (histories g);
  restored = [];
}

-- the histories after an accepted step: the registry keeps the event where the step takes it, and each guardian that
-- it names
abbrev pub registry_after : Opening → Stamped → List RegistryEvent → (ℕ → List LocalEvent)
    → List RegistryEvent
registry_after opening s registry histories =
    if takes_registry s.1.step
    then registry_event_lent opening s registry histories ∷ registry else registry

abbrev pub history_after_lent : Opening → Stamped → List RegistryEvent → (ℕ → List LocalEvent)
    → ℕ → List LocalEvent
history_after_lent opening s registry histories g =
    if names_guardian s.1.step (events_there registry) g
    then record { stamp = s.0; event = s.1; carried = carried_lent opening s.1 g registry histories }
    ∷ histories g
    else histories g
