-- What each part becomes once a planned event is kept.
use Rattle.std.proofs.Common.{Bool, List, [], ap, false, refl, subst, sym, true, ℕ, ◌+◌, ◌∙◌, ◌∷◌, ◌≡◌}
use Rattle.std.specs.List.{AllByRecursion}
use Rattle.std.specs.Prelude.{is_some}
use Rattle.action_names.specs.Names.{Name, is_proper_ancestor, is_top}
use Rattle.atomic_types.specs.Operations as op
use Rattle.atomic_types.specs.declared.op.Reply.{Reply}
use Rattle.atomic_types.specs.declared.part.Part.{Part}
use Rattle.run_model.specs.declared.answer.Answer.TheVariants.{Granted}
use Rattle.run_model.specs.declared.history.Event.{Event}
use Rattle.run_model.specs.declared.step.ObjectId.{ObjectId}
use Rattle.run_model.specs.declared.step.Step.{Step}
use Rattle.run_model.specs.declared.step.Step.TheVariants.{Crash, Op}
use Rattle.run_model.specs.Actions.{step_crashes}
use Rattle.run_model.specs.LocalReadings.{LocalEvent, prepared_here, standing_here, told_committed_here}
use Rattle.run_model.specs.Openings.{Opening, first_content}
use Rattle.run_model.specs.StableContent.{parts_by}
use Rattle.run_model.specs.Visibility.{votes_yes}
use Rattle.guardian_laws.specs.Crashes.{LeavesSafe}
use Rattle.layer_contracts.specs.Guardians.{GuardianState, IsNext, News, by_itself, stamped}
use Rattle.layer_contracts.specs.Messages.{is_operation}
use Rattle.layer_contracts.specs.declared.message.Message.{Message}
use Rattle.object_laws.specs.OnceTold.{HoldsItsTree}
use Rattle.tellings.specs.Hearing.{AreTold, IsHeard}
use Rattle.tellings.specs.Hearing as hearing
use Rattle.tellings.specs.declared.tellings.Tellings.{Tellings}
use Rattle.orphans.specs.Knowing.{AreLists, IsLesson, guardian_of}
use Rattle.orphans.specs.declared.lists.Lists.{Lists}
use Rattle.guardian_laws.specs.Actions.{AgreesOnActions}
use Rattle.roster.specs.Entries.{IsEntry}
use Rattle.roster.specs.Rosters.{IsRoster}
use Rattle.roster.specs.Tables.{table}
use Rattle.roster.specs.declared.roster.Roster.{Roster}
use Rattle.guardian_objects.specs.Objects.{AreObjects, Indexed, Operates}
use Rattle.guardian_objects.specs.Objects as indexed
use Rattle.guardian_objects.specs.Outcomes.{ArePlanned, IsHearing, OnlyTells, outcomes_of}
use Rattle.volatile_state.specs.Memories.{InMemory, IsOfSome, IsSound}
use Rattle.volatile_state.specs.Plans.{AreRecorded, FitsMessage, FitsPlan, Follows, FollowsWhere, HasMessage, IsPlanOf, IsPlanned, IsPlannedWhere, Operated}
use Rattle.volatile_state.specs.declared.plan.Plan.{Plan}
use Rattle.volatile_state.proofs.Agreed.{actions_at, crash_brings, crash_is, may_tell, only_tells, operation_brings, vote_only_tells}
use Rattle.volatile_state.proofs.Held.{holds_tree, no_parts, vote_brings}
use Rattle.volatile_state.proofs.Operated.{IsGranted, answer_is, granted_facts, may_grant, operated_next}
use Rattle.volatile_state.proofs.Sound.{not_counted, one_counted, sound_next, tops_next}
use Rattle.volatile_state.proofs.Untouched.{after_operation}

-- ---- as the fields say

pub fits_within : {m old : InMemory} {p : Plan} → m ≡ old → FitsPlan p old → FitsPlan p m
fits_within {m} {old} {p} is fits = subst (λ k. FitsPlan p k) (sym is) fits

pub room_within : {m old : InMemory} {p : Plan} → m ≡ old → FitsMessage p old → FitsMessage p m
room_within {m} {old} {p} is fits = subst (λ k. FitsMessage p k) (sym is) fits

pub message_within : {m old : InMemory} {p : Plan} {g : GuardianState} {message : Message} {outcomes others : List (Name × Bool)} → m ≡ old → outcomes ≡ others
    → HasMessage p old g message outcomes → HasMessage p m g message others
message_within {m} {old} {p} {g} {message} {outcomes} {others} is same has =
    subst (λ k. HasMessage p k g message others) (sym is) (subst (λ l. HasMessage p old g message l) same has)

pub planned_within : {m old : InMemory} {p : Plan} {e : Event} → m ≡ old → IsPlanned p old e → IsPlanned p m e
planned_within {m} {old} {p} {e} is planned = subst (λ k. IsPlanned p k e) (sym is) planned

pub plan_within : {m old : InMemory} {p : Plan} {g : GuardianState} {news : News} → m ≡ old → IsPlanOf p old g news → IsPlanOf p m g news
plan_within {m} {old} {p} {g} {news} is of = subst (λ k. IsPlanOf p k g news) (sym is) of

pub next_within : {m old : InMemory} {news : News} → m ≡ old → (g : GuardianState) × IsSound old g × IsNext g news → (g : GuardianState) × IsSound m g × IsNext g news
next_within {m} {old} {news} is next = subst (λ k. (g : GuardianState) × IsSound k g × IsNext g news) (sym is) next

pub operated_within : {m old new : InMemory} {e : Event} {n : ℕ} → m ≡ old → Operated m e n new → Operated old e n new
operated_within {m} {old} {new} {e} {n} is operated = subst (λ k. Operated k e n new) is operated

-- and where more holds of the state
pub planned_where : {m old : InMemory} {p : Plan} {e : Event} (holds : GuardianState → Type 0) → m ≡ old → IsPlannedWhere holds p old e → IsPlannedWhere holds p m e
planned_where {m} {old} {p} {e} holds is planned = subst (λ k. IsPlannedWhere holds p k e) (sym is) planned

pub follows_where : {m old new : InMemory} {p : Plan} {e : Event} {n : ℕ} (holds : GuardianState → Type 0) → m ≡ old → FollowsWhere holds p m e n new → FollowsWhere holds p old e n new
follows_where {m} {old} {new} {p} {e} {n} holds is follows = subst (λ k. FollowsWhere holds p k e n new) is follows

pub follows_without : {m old new : InMemory} {p : Plan} {e : Event} {n : ℕ} → m ≡ old → Follows p m e n new → Follows p old e n new
follows_without {m} {old} {new} {p} {e} {n} is follows = subst (λ k. Follows p k e n new) is follows

pub crashes_within : (old m : InMemory) (step : Step) (t : Bool) → m ≡ old → step_crashes step old.number ≡ t → step_crashes step m.number ≡ t
crashes_within old m step t is h = ap (λ (k : InMemory). step_crashes step k.number) is ∙ h

-- what follows stands in some state, where the plan was for the event
pub stands_after : {m new : InMemory} {p : Plan} {e : Event} {n : ℕ} → IsPlanned p m e → Follows p m e n new → IsOfSome new
stands_after planned follows = (_, follows planned.0 planned.1 planned.2 planned.3 planned.4)

pub stands_after_where : {m new : InMemory} {p : Plan} {e : Event} {n : ℕ} (holds : GuardianState → Type 0) → IsPlannedWhere holds p m e → FollowsWhere holds p m e n new
    → IsOfSome new
stands_after_where holds planned follows = (_, follows planned.0 planned.1 planned.2 planned.3 planned.4 planned.5)

-- the step of the event, and the guardian's number
pub crashes_is : {m : InMemory} {g : GuardianState} (news : News) (e : Event) (t : Bool) → IsSound m g → news.event ≡ e → step_crashes e.step m.number ≡ t
    → step_crashes news.event.step g.number ≡ t
crashes_is news e t s same is = (λ i. step_crashes (same i).step (sym s.own i)) ∙ is

module _ {m : InMemory} {g : GuardianState} {news : News} (s : IsSound m g) (next : IsNext g news) where
  -- ---- an operation

  module _ (a : Name) (x : ObjectId) (wanted : op.Op) (step : news.event.step ≡ Op a x wanted) where
    granted : IsGranted g.opening g.number (stamped 0 news) g.past a x wanted
    granted = granted_facts g.opening g.number (stamped 0 news) g.past a x wanted step next.owed next.accepted

    reply : (r : Reply) × (news.event.answer ≡ Granted r)
    reply = answer_is (first_content g.opening x) (standing_here g.past x) a wanted news.event.answer granted.answered next.accepted

    -- so the event is that operation, granted
    pub event_is : (r : Reply) × (news.event ≡ record { step = Op a x wanted; answer = Granted r })
    event_is = (reply.0, λ i. record { step = step i; answer = reply.1 i })

    pub may_operate : indexed.IsGranted m.objects x.number a wanted
    may_operate =
        may_grant g.opening g.number g.past x m.objects granted.own s.owner a wanted reply.0 s.shown granted.low granted.high granted.known
        (sym reply.1 ∙ granted.answered)

    pub operated : (n : ℕ) (new : Indexed) → ((r : Reply) → Operates a x.number wanted r m.objects new) → AreObjects g.opening (stamped n news ∷ g.past) new
    operated n new operates =
        operated_next g.opening g.number g.past x m.objects granted.own s.owner (stamped n news) a wanted new reply.0 step reply.1 (operates reply.0) s.shown
        (operation_brings news.event.step news.carried.outcomes (ap (λ t. is_operation t) step) next.agrees.outcomes.brought) next.agrees.given
        next.agrees.outcomes.operation

module _ {m : InMemory} {p : Plan} {g : GuardianState} {news : News} (s : IsSound m g) (of : IsPlanOf p m g news) where
  -- the outcomes may be told
  pub may_hear : IsHearing m.objects p.planned.tellings.items
  may_hear = may_tell g.opening g.past (stamped 0 news) m.objects p.planned.tellings.items s.shown of.planned of.outcomes of.next.agrees.outcomes

  -- ---- a yes vote

  -- what was written and added in the tree is held by the top action then
  pub tree_held : (top : Name) → votes_yes news.event.step news.event.answer g.number top ≡ true → (x : ObjectId) → x.guardian ≡ m.objects.guardian
      → HoldsItsTree (standing_here (stamped 0 news ∷ g.past) x) top
  tree_held top vote x own =
      let same : x.guardian ≡ g.number = own ∙ s.owner in
      holds_tree g.opening x (stamped 0 news) g.past top
      (subst (λ h. votes_yes news.event.step news.event.answer h top ≡ true) (sym same) vote) (of.next.agrees.votes.top top vote) (of.next.agrees.safe x same)
      (subst (λ h. TopsAt h) (sym same) (tops_next g.opening g.number (stamped 0 news) g.past of.next.agrees.votes.top s.tops))
    where
      TopsAt : ℕ → Type 0
      TopsAt h = (t : Name) → is_some (prepared_here g.opening h t (stamped 0 news ∷ g.past)) ≡ true → is_top t ≡ true

  -- of a top action that was told committed a vote prepares nothing
  pub parts_none : (top : Name) (told : Bool) (parts : List (ℕ × Part)) → ((h : ℕ) (here : List LocalEvent) → AreTold h here m.places m.told → told ≡ told_committed_here top here)
      → told ≡ true → parts ≡ [] → parts ≡ parts_by g.opening g.number (λ x. standing_here (stamped 0 news ∷ g.past) x) top
  parts_none top told parts says was none =
      none ∙ sym (no_parts g.opening g.number (stamped 0 news) g.past top (sym (says g.number g.past s.tellings) ∙ was))

  -- of another one, what the objects say
  pub parts_are : (top : Name) (told : Bool) (parts : List (ℕ × Part)) (outcomes : List (Name × Bool))
      → ((h : ℕ) (here : List LocalEvent) → AreTold h here m.places m.told → told ≡ told_committed_here top here) → told ≡ false
      → outcomes ≡ news.carried.outcomes → votes_yes news.event.step news.event.answer g.number top ≡ true
      → ((opening : Opening) (here : List LocalEvent) (c : LocalEvent) → AreObjects opening here m.objects
      → is_top top ≡ true → told_committed_here top here ≡ false → c.carried.outcomes ≡ outcomes → OnlyTells c here
      → AllByRecursion (λ x. is_proper_ancestor top x.0 ≡ true) outcomes
      → ((x : ObjectId) → x.guardian ≡ m.objects.guardian → HoldsItsTree (standing_here (c ∷ here) x) top)
      → parts ≡ parts_by opening m.objects.guardian (λ x. standing_here (c ∷ here) x) top)
      → parts ≡ parts_by g.opening g.number (λ x. standing_here (stamped 0 news ∷ g.past) x) top
  parts_are top told parts outcomes says never same vote makes =
      makes g.opening g.past c s.shown (of.next.agrees.votes.top top vote) (sym (says g.number g.past s.tellings) ∙ never) (sym same)
      (vote_only_tells g.opening g.number 0 top news g.past of.next.agrees vote)
      (subst (λ l. AllByRecursion (λ x. is_proper_ancestor top x.0 ≡ true) l) (sym same)
      (vote_brings g.number top news.event.step news.event.answer c.carried.outcomes vote of.next.agrees.outcomes.brought))
      (tree_held top vote)
      ∙ ap (λ h. parts_by g.opening h (λ x. standing_here (c ∷ g.past) x) top) s.owner
    where
      c : LocalEvent
      c = stamped 0 news

-- ---- a crash

module _ {m : InMemory} {g : GuardianState} (s : IsSound m g) (stays : Name → Bool) (told : (a : Name) → stays a ≡ is_some (prepared_here g.opening g.number a g.past)) where
  -- the survivors are those of which the store has a record
  pub survivors_are : (a : Name) → stays a ≡ is_some (prepared_here g.opening m.objects.guardian a g.past)
  survivors_are a = told a ∙ ap (λ h. is_some (prepared_here g.opening h a g.past)) (sym s.owner)

  -- so they are top actions
  pub survivors_top : (a : Name) → stays a ≡ true → is_top a ≡ true
  survivors_top a h = s.tops a (sym (told a) ∙ h)

-- ---- all parts follow an event

-- what the roster and the lists say of their calls
abbrev EntersBy : Plan → Roster → Roster → Type 0
EntersBy p old new = (g : ℕ) (here : List LocalEvent) (c : LocalEvent) (names : List Name) → IsRoster g here (table names old) → AgreesOnActions g c here
    → IsEntry (table names old) c.event c.carried.dependencies p.entry → IsRoster g (c ∷ here) (table names new)

abbrev LearnsBy : Plan → Lists → Lists → Type 0
LearnsBy p old new = (here : List LocalEvent) (c : LocalEvent) → AreLists here old → step_crashes c.event.step (guardian_of old) ≡ false
    → IsLesson c.carried.sender c.carried.life c.carried.aborts c.carried.counts c.carried.outcomes p.lesson → AreLists (c ∷ here) new

abbrev HearsBy : Bool → Plan → Tellings → Tellings → Type 0
HearsBy crash p old new = (g : ℕ) (here : List LocalEvent) (c : LocalEvent) (names : List Name) → AreTold g here names old
    → IsHeard names old c.carried.outcomes p.heard → step_crashes c.event.step g ≡ crash → AreTold g (c ∷ here) names new

module _ (m : InMemory) (p : Plan) (e : Event) (n : ℕ) (told : Tellings) (lists : Lists) (roster : Roster) (objects : Indexed) where
  abbrev after : InMemory
  after = record m { told = told; lists = lists; roster = roster; objects = objects }

  pub kept_follows : is_operation e.step ≡ false → step_crashes e.step m.number ≡ false
      → HearsBy false p m.told told → hearing.crashes_of told ≡ hearing.crashes_of m.told
      → LearnsBy p m.lists lists → guardian_of lists ≡ guardian_of m.lists → EntersBy p m.roster roster
      → ((opening : Opening) (here : List LocalEvent) (c : LocalEvent) → AreObjects opening here m.objects → ArePlanned here p.planned.tellings.items
      → outcomes_of p.planned.tellings.items ≡ c.carried.outcomes → OnlyTells c here → AreObjects opening (c ∷ here) objects)
      → objects.guardian ≡ m.objects.guardian → Follows p m e n after
  kept_follows other quiet hears counts learns own enters tells owner g news s of same =
      let c = stamped n news in
      let up = crashes_is news e false s same quiet in
      sound_next n news s of.next.agrees
      (hears g.number g.past c m.places s.tellings of.heard up) (not_counted g.number c g.past _ _ up counts s.lives)
      (learns g.past c s.knowledge (ap (λ h. step_crashes news.event.step h) s.knower ∙ up) of.lesson) own
      (enters g.number g.past c m.places s.actions (actions_at g.number n news g.past of.next.agrees.actions) of.entry)
      (tells g.opening g.past c s.shown of.planned of.outcomes
      (only_tells g.opening g.number n news g.past of.next.agrees (ap (λ k. is_operation k.step) same ∙ other) up)) owner

  pub crash_follows : (stays : Name → Bool)
      → step_crashes e.step m.number ≡ true
      → HearsBy true p m.told told → hearing.crashes_of told ≡ hearing.crashes_of m.told + 1
      → ((here : List LocalEvent) (c : LocalEvent) → AreLists here m.lists → step_crashes c.event.step (guardian_of m.lists) ≡ true → AreLists (c ∷ here) lists)
      → guardian_of lists ≡ guardian_of m.lists → EntersBy p m.roster roster
      → ((opening : Opening) (here : List LocalEvent) (c : LocalEvent) → AreObjects opening here m.objects
      → ((x : ObjectId) → x.guardian ≡ m.objects.guardian → LeavesSafe opening here x)
      → ((a : Name) → stays a ≡ is_some (prepared_here opening m.objects.guardian a here))
      → c.event.step ≡ Crash m.objects.guardian → c.carried.outcomes ≡ [] → c.carried.restored ≡ [] → AreObjects opening (c ∷ here) objects)
      → objects.guardian ≡ m.objects.guardian → FollowsWhere (AreRecorded stays) p m e n after
  crash_follows stays crash hears counts forgets own enters crashed owner g news s of same recorded =
      let c = stamped n news in
      let step = news.event.step in
      let down = crashes_is news e true s same crash in
      sound_next n news s of.next.agrees
      (hears g.number g.past c m.places s.tellings of.heard down) (one_counted g.number c g.past _ _ down counts s.lives)
      (forgets g.past c s.knowledge (ap (λ h. step_crashes step h) s.knower ∙ down)) own
      (enters g.number g.past c m.places s.actions (actions_at g.number n news g.past of.next.agrees.actions) of.entry)
      (crashed g.opening g.past c s.shown (λ x own. s.safe x (own ∙ s.owner)) (survivors_are s stays recorded)
      (crash_is m.objects.guardian step (ap (λ h. step_crashes step h) s.owner ∙ down))
      (crash_brings g.number step news.carried.outcomes down of.next.agrees.outcomes.brought) of.next.agrees.given) owner

-- an operation leaves all but its object as it was
pub operated_follows : (m : InMemory) (e : Event) (n : ℕ) (objects : Indexed) (a : Name) (x : ObjectId) (wanted : op.Op) → e.step ≡ Op a x wanted
    → ((r : Reply) → Operates a x.number wanted r m.objects objects) → objects.guardian ≡ m.objects.guardian → Operated m e n (record m { objects = objects })
operated_follows m e n objects a x wanted step operates owner g s next =
    let news = by_itself e in
    let is = event_is s next a x wanted step in
    let untouched = after_operation n a x wanted is.0 g.number g.past e is.1 in
    sound_next n news s next.agrees
    (untouched.told m.places m.told s.tellings) (s.lives ∙ untouched.crashes)
    (untouched.lists m.lists s.knowledge) refl
    (untouched.roster (table m.places m.roster) s.actions)
    (operated s next a x wanted step n objects operates) owner
