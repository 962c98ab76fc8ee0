-- When all parts of a memory are those of one history.
use Rattle.std.proofs.Common.{Bool, List, None, Some, [], add-one, ap, arith, cond, false, filter, length, refl, subst, suc, sym, true, ℕ, ◌+◌, ◌<◌, ◌^◌, ◌∙◌, ◌∷◌, ◌≡◌, ◌≤◌}
use Rattle.std.proofs.lemmas.Bool.{false≢true}
use Rattle.std.specs.Prelude.{is_some}
use Rattle.action_names.specs.Names.{Name, is_top}
use Rattle.run_model.specs.declared.history.Event.{Event}
use Rattle.run_model.specs.declared.step.ObjectId.{ObjectId}
use Rattle.run_model.specs.Actions.{crashes, step_crashes}
use Rattle.run_model.specs.LocalReadings.{LocalEvent, events_here, or_zero, prepared_here, standing_here}
use Rattle.run_model.specs.Openings.{Opening, OpeningLists, opening_in}
use Rattle.run_model.specs.StableContent.{Prepared, parts_by, step_told}
use Rattle.run_model.specs.Visibility.{votes_yes}
use Rattle.guardian_laws.specs.Crashes.{LeavesSafe}
use Rattle.guardian_laws.specs.Laws.{Agrees}
use Rattle.layer_contracts.specs.Guardians.{GuardianState, News, kept, stamped}
use Rattle.places.specs.Placed.{AreMore}
use Rattle.tellings.specs.Hearing.{AreTold, IsHeard}
use Rattle.tellings.specs.declared.tellings.Heard.{Heard}
use Rattle.tellings.proofs.Histories.{kept as told_kept}
use Rattle.tellings.proofs.Planning.{heard_kept}
use Rattle.roster.proofs.Planning.{roster_kept}
use Rattle.tellings.specs.Hearing as hearing
use Rattle.tellings.specs.declared.tellings.Tellings.{Tellings}
use Rattle.orphans.specs.Knowing.{AreLists, guardian_of}
use Rattle.orphans.specs.Knowing as knowing
use Rattle.orphans.specs.declared.lists.Lists.{Lists}
use Rattle.roster.specs.Rosters.{IsRoster}
use Rattle.roster.specs.Rosters as rosters
use Rattle.roster.specs.Tables.{table}
use Rattle.roster.specs.declared.roster.Roster.{Roster}
use Rattle.guardian_objects.specs.Objects.{AreObjects, Indexed, Keeps}
use Rattle.volatile_state.specs.Memories.{InMemory, IsSound}
use Rattle.volatile_state.proofs.Agreed.{safe_at}

-- what is inside stands where the memory does
pub inside : {m old : InMemory} {g : GuardianState} → m ≡ old → IsSound old g → IsSound m g
inside {m} {old} {g} is at = subst (λ k. IsSound k g) (sym is) at

-- ---- before anything happened

pub nothing_safe : (opening : Opening) (x : ObjectId) → LeavesSafe opening [] x
nothing_safe opening x = record { kept = tt; restored = tt }

abbrev pub nothing_yet : OpeningLists → ℕ → GuardianState
nothing_yet opening number = record { opening = opening_in opening; number = number; past = [] }

pub nothing_sound : (opening : OpeningLists) (number : ℕ) (places : List Name) (told : Tellings) (lists : Lists) (roster : Roster) (objects : Indexed)
    → 1 ≤ number → AreTold number [] places told → hearing.crashes_of told ≡ 0 → AreLists [] lists → guardian_of lists ≡ number
    → IsRoster number [] (table places roster) → AreObjects (opening_in opening) [] objects → objects.guardian ≡ number
    → IsSound (record { opening = opening; number = number; places = places; told = told; lists = lists; roster = roster; objects = objects }) (nothing_yet opening number)
nothing_sound opening number places told lists roster objects numbered tellings lives knowledge knower actions shown owner = record {
  opened = refl;
  own = refl;
  numbered = numbered;
  tellings = tellings;
  lives = lives;
  knowledge = knowledge;
  knower = knower;
  actions = actions;
  shown = shown;
  owner = owner;
  safe = λ x own. nothing_safe (opening_in opening) x;
  tops = λ t h. absurd (false≢true h);
}

-- ---- while nothing but places and room are made

-- what was told stands among more names, and what is to be heard
pub more_told : {old new : List Name} (told : Tellings) → AreMore old new → (h : ℕ) (here : List LocalEvent) → AreTold h here old told → AreTold h here new told
more_told {old} {new} told more h here are = told_kept old new told told more refl (λ i. refl) (omega arith) h here are

pub more_heard : {old new : List Name} (told : Tellings) (outcomes : List (Name × Bool)) (heard : Heard) → AreMore old new → IsHeard old told outcomes heard
    → IsHeard new told outcomes heard
more_heard {old} {new} told outcomes heard more is = heard_kept old new told told more refl (λ i. refl) outcomes heard.told.items is

-- and the roster
pub more_roster : {old new : List Name} (roster : Roster) → AreMore old new → (h : ℕ) (here : List LocalEvent)
    → IsRoster h here (table old roster) → IsRoster h here (table new roster)
more_roster {old} {new} roster more h here is = roster_kept h here old new roster roster more (record {
  guardian = refl;
  crashes = refl;
  down = refl;
  rows = refl;
  places = λ i. refl;
  within = omega arith;
}) is

pub sound_same : {opening : OpeningLists} {number : ℕ} {places more_places : List Name} {told more_told : Tellings} {lists more_lists : Lists} {roster more_roster : Roster}
    {objects more_objects : Indexed} {g : GuardianState}
    → ((h : ℕ) (here : List LocalEvent) → AreTold h here places told → AreTold h here more_places more_told) → hearing.crashes_of more_told ≡ hearing.crashes_of told
    → ((here : List LocalEvent) → AreLists here lists → AreLists here more_lists) → guardian_of more_lists ≡ guardian_of lists
    → ((h : ℕ) (here : List LocalEvent) → IsRoster h here (table places roster) → IsRoster h here (table more_places more_roster))
    → Keeps objects more_objects → more_objects.guardian ≡ objects.guardian
    → IsSound (record { opening = opening; number = number; places = places; told = told; lists = lists; roster = roster; objects = objects }) g
    → IsSound (record { opening = opening; number = number; places = more_places; told = more_told; lists = more_lists; roster = more_roster; objects = more_objects }) g
sound_same {g = g} tells lives knows knower acts keeps owner s = record {
  opened = s.opened;
  own = s.own;
  numbered = s.numbered;
  tellings = tells g.number g.past s.tellings;
  lives = lives ∙ s.lives;
  knowledge = knows g.past s.knowledge;
  knower = knower ∙ s.knower;
  actions = acts g.number g.past s.actions;
  shown = keeps g.opening g.past s.shown;
  owner = owner ∙ s.owner;
  safe = s.safe;
  tops = s.tops;
}

-- ---- crashes are counted

module _ {m : InMemory} {g : GuardianState} (s : IsSound m g) (room : rosters.crashes_of m.roster + 1 < 2 ^ 64) where
  counted : crashes g.number (events_here g.past) + 1 < 2 ^ 64
  counted = subst (λ n. n + 1 < 2 ^ 64) s.actions.crashes room

  -- one more can be counted of what was told, and in the lists
  pub told_room : hearing.crashes_of m.told + 1 < 2 ^ 64
  told_room = subst (λ n. n + 1 < 2 ^ 64) (sym s.lives) counted

  pub lists_room : knowing.crashes_of m.lists + 1 < 2 ^ 64
  lists_room = subst (λ n. n + 1 < 2 ^ 64) (sym (s.knowledge.crashes ∙ ap (λ h. crashes h (events_here g.past)) s.knower)) counted

module _ (g : ℕ) (c : LocalEvent) (here : List LocalEvent) where
  abbrev before : List Event
  before = filter (λ e. step_crashes e.step g) (events_here here)

  by_step : {t : Bool} → step_crashes c.event.step g ≡ t → length (cond t (c.event ∷ before) before) ≡ crashes g (events_here (c ∷ here))
  by_step is = sym (ap (λ t. length (cond t (c.event ∷ before) before)) is)

  pub not_counted : (old new : ℕ) → step_crashes c.event.step g ≡ false → new ≡ old → old ≡ crashes g (events_here here) → new ≡ crashes g (events_here (c ∷ here))
  not_counted old new up same is = same ∙ is ∙ by_step up

  pub one_counted : (old new : ℕ) → step_crashes c.event.step g ≡ true → new ≡ old + 1 → old ≡ crashes g (events_here here) → new ≡ crashes g (events_here (c ∷ here))
  one_counted old new down more is = more ∙ add-one old ∙ ap suc is ∙ by_step down

-- ---- with one event more

pub tops_next : (opening : Opening) (g : ℕ) (c : LocalEvent) (here : List LocalEvent)
    → ((t : Name) → votes_yes c.event.step c.event.answer g t ≡ true → is_top t ≡ true)
    → ((t : Name) → is_some (prepared_here opening g t here) ≡ true → is_top t ≡ true)
    → (t : Name) → is_some (prepared_here opening g t (c ∷ here)) ≡ true → is_top t ≡ true
tops_next opening g c here voted before t = of (votes_yes c.event.step c.event.answer g t) refl (step_told c.event.step g t)
  where
    made : Prepared
    made = record { home = or_zero c.carried.sender; parts = parts_by opening g (λ x. standing_here (c ∷ here) x) t }

    of : (v : Bool) → votes_yes c.event.step c.event.answer g t ≡ v → (u : Bool)
        → is_some (cond v (Some made) (cond u None (prepared_here opening g t here))) ≡ true → is_top t ≡ true
    of true vote u h = voted t vote
    of false vote true h = absurd (false≢true h)
    of false vote false h = before t h

pub sound_next : {opening : OpeningLists} {number : ℕ} {places : List Name} {told more_told : Tellings} {lists more_lists : Lists} {roster more_roster : Roster}
    {objects more_objects : Indexed} {g : GuardianState} (n : ℕ) (e : News)
    → IsSound (record { opening = opening; number = number; places = places; told = told; lists = lists; roster = roster; objects = objects }) g
    → Agrees g.opening g.number (stamped 0 e) g.past
    → AreTold g.number (stamped n e ∷ g.past) places more_told → hearing.crashes_of more_told ≡ crashes g.number (events_here (stamped n e ∷ g.past))
    → AreLists (stamped n e ∷ g.past) more_lists → guardian_of more_lists ≡ guardian_of lists
    → IsRoster g.number (stamped n e ∷ g.past) (table places more_roster)
    → AreObjects g.opening (stamped n e ∷ g.past) more_objects → more_objects.guardian ≡ objects.guardian
    → IsSound (record { opening = opening; number = number; places = places; told = more_told; lists = more_lists; roster = more_roster; objects = more_objects }) (kept g (stamped n e))
sound_next {g = g} n e s agrees tellings lives knowledge knower actions shown owner = record {
  opened = s.opened;
  own = s.own;
  numbered = s.numbered;
  tellings = tellings;
  lives = lives;
  knowledge = knowledge;
  knower = knower ∙ s.knower;
  actions = actions;
  shown = shown;
  owner = owner ∙ s.owner;
  safe = λ x own. safe_at g.opening n e g.past x (agrees.safe x own);
  tops = tops_next g.opening g.number (stamped n e) g.past agrees.votes.top s.tops;
}
