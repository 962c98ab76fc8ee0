-- What plans leave that are carried out.
use Rattle.std.proofs.Common.{Bool, List, [], ap, ap₂, cond, eqb-true, false, map, refl, subst, sym, true, ℕ, ◌==◌, ◌∙◌, ◌∷◌, ◌≡◌, IsFalse, IsTrue}
use Rattle.std.proofs.lemmas.Bool.{false≢true, or_left, or_right, true≢false}
use Rattle.std.specs.Bool.{MatchBool, OnTrue}
use Rattle.std.specs.List.Sorted.{IsStrictlySortedBy}
use Rattle.action_names.specs.Names.{name_cmp}
use Rattle.run_model.specs.declared.history.Event.{Event}
use Rattle.run_model.specs.declared.step.Step.{Step}
use Rattle.run_model.specs.declared.step.Step.TheVariants.{Abort, Arms, Call, Close, Commit, Crash, Decide, NestedTop, Op, Prepare, Recover, Tell, Top}
use Rattle.run_model.specs.Actions.{home_of}
use Rattle.run_model.specs.LocalHistories.{RegistryEvent, carried_lent, events_there, names_guardian, registry_after, registry_event_lent, takes_registry}
use Rattle.run_model.specs.LocalReadings.{LocalEvent}
use Rattle.run_laws.proofs.Names.{eqb_self}
use Rattle.layer_contracts.specs.Guardians.{GuardianState, News, after_step, kept, lent_two, stamped}
use Rattle.layer_contracts.specs.Forests.{ForestState, RegistryNews, begun_in, stamped_there}
use Rattle.layer_contracts.specs.Messages.{may_fail}
use Rattle.layer_contracts.specs.declared.message.Message.{Message}
use Rattle.world_steps.specs.Lending.{IsOneOf, begun_lent}
use Rattle.world_steps.specs.Keeping.{Brings, IsInstalled, IsKept, IsPlannedHere, IsPlannedInSome, Plans, PlansThere, StandsStill, news_to}

-- each of two that differ is lent
pub first_lent : (a b : GuardianState) → a.past ≡ lent_two a b a.number
first_lent a b = sym (ap (λ t. cond t a.past (cond (b.number == a.number) b.past [])) (eqb_self a.number))

pub second_lent : (a b : GuardianState) → (a.number == b.number) ≡ false → b.past ≡ lent_two a b b.number
second_lent a b d = sym (ap₂ (λ t u. cond t a.past (cond u b.past [])) d (eqb_self b.number))

-- so each is one of them
pub first_one : (a b : GuardianState) → IsOneOf a b a
first_one a b = record { past = first_lent a b; number = or_left _ _ (eqb_self a.number) }

pub second_one : (a b : GuardianState) → (a.number == b.number) ≡ false → IsOneOf a b b
second_one a b d = record { past = second_lent a b d; number = or_right _ _ (eqb_self b.number) }

-- a guardian says one number, whatever state it stands in
pub differ_as : (stands one : GuardianState → Type 0) (a b c d : GuardianState) (m n : ℕ) → ((x : GuardianState) → stands x → m ≡ x.number)
    → ((x : GuardianState) → one x → n ≡ x.number) → stands a → one b → stands c → one d → (a.number == b.number) ≡ false → (c.number == d.number) ≡ false
differ_as stands one a b c d m n h k p q r s e = ap₂ (λ u v. u == v) (sym (h c r) ∙ h a p) (sym (k d s) ∙ k b q) ∙ e

-- the guardian after an event that names it, and after another
pub named_is : (f : ForestState) (a b x : GuardianState) (e : Event) (n : ℕ) → x.opening ≡ f.opening → x.past ≡ lent_two a b x.number
    → names_guardian e.step (events_there f.registry) x.number ≡ true → kept x (stamped n (news_to f a b e x)) ≡ after_step x (n, e) f.registry (lent_two a b)
named_is f a b x e n s p q =
    let new : List LocalEvent → List LocalEvent = λ past. record { stamp = n; event = e; carried = carried_lent x.opening e x.number f.registry (lent_two a b) } ∷ past in
    ap (λ st. kept x (stamped n (record { event = e; carried = carried_lent st e x.number f.registry (lent_two a b) }))) (sym s)
    ∙ ap (λ past. record x { past = past }) (ap new p
    ∙ sym (ap (λ t. cond t (new (lent_two a b x.number)) (lent_two a b x.number)) q))

pub unnamed_is : (f : ForestState) (a b x : GuardianState) (e : Event) (n : ℕ) → x.past ≡ lent_two a b x.number
    → names_guardian e.step (events_there f.registry) x.number ≡ false → x ≡ after_step x (n, e) f.registry (lent_two a b)
unnamed_is f a b x e n p q =
    let new : List LocalEvent → List LocalEvent = λ past. record { stamp = n; event = e; carried = carried_lent x.opening e x.number f.registry (lent_two a b) } ∷ past in
    ap (λ past. record x { past = past }) (p ∙ sym (ap (λ t. cond t (new (lent_two a b x.number)) (lent_two a b x.number)) q))

-- by the plan that was carried out
pub left_at : (stood stands : GuardianState → Type 0) (is_planned : GuardianState → News → Type 0)
    (f : ForestState) (a b x : GuardianState) (e : Event) (n : ℕ) (keeps : Bool)
    → x.opening ≡ f.opening → x.past ≡ lent_two a b x.number → stood x
    → Plans is_planned f a b e x keeps
    → MatchBool keeps (IsKept stood stands is_planned e n) (StandsStill stood stands)
    → stands (after_step x (n, e) f.registry (lent_two a b))
left_at stood stands is_planned f a b x e n false s p u q h =
    subst stands (unnamed_is f a b x e n p q) (h x u)
left_at stood stands is_planned f a b x e n true s p u q h =
    subst stands (named_is f a b x e n s p q.named) (h x (news_to f a b e x) u q.planned refl)

-- such a plan may be carried out
pub planned_here : (stands : GuardianState → Type 0) (is_planned : GuardianState → News → Type 0)
    (f : ForestState) (a b x : GuardianState) (e : Event) (keeps : Bool) → stands x
    → Plans is_planned f a b e x keeps → OnTrue keeps (IsPlannedHere stands is_planned e)
planned_here stands is_planned f a b x e false s q = tt
planned_here stands is_planned f a b x e true s q = (x, news_to f a b e x, s, q.planned, refl)

-- and the forest, by the plan that was made for an event that was entered
pub left_there : (stood stands : ForestState → Type 0)
    (is_planned : ForestState → RegistryNews → Type 0) (f : ForestState) (a b : GuardianState)
    (e : Event) (life n : ℕ) → begun_in f life e ≡ begun_lent f a b e → stood f
    → PlansThere is_planned f life e
    → (IsTrue (takes_registry e.step) → IsInstalled stood stands is_planned e n)
    → (IsFalse (takes_registry e.step) → (k : ForestState) → stood k → stands k)
    → stands (record f { registry = registry_after f.opening (n, e) f.registry (lent_two a b) })
left_there stood stands is_planned f a b e life n born s planned installed same =
    of (takes_registry e.step) refl
  where
    after : Bool → List RegistryEvent
    after t = cond t (registry_event_lent f.opening (n, e) f.registry (lent_two a b) ∷ f.registry) f.registry

    of : (t : Bool) → takes_registry e.step ≡ t
        → stands (record f { registry = registry_after f.opening (n, e) f.registry (lent_two a b) })
    of false takes = subst (λ r. stands (record f { registry = r })) (sym (ap after takes)) (same takes f s)
    of true takes =
        subst stands
        (ap (λ begun. record f { registry = stamped_there n (record { event = e; begun = begun }) ∷ f.registry }) born
        ∙ ap (λ r. record f { registry = r }) (sym (ap after takes)))
        (installed takes f (record { event = e; begun = begun_in f life e }) s (planned takes) refl)

-- such a plan may be carried out
pub planned_there : (stands : ForestState → Type 0) (is_planned : ForestState → RegistryNews → Type 0)
    (f : ForestState) (e : Event) (life : ℕ) → stands f → PlansThere is_planned f life e
    → IsTrue (takes_registry e.step) → IsPlannedInSome stands is_planned e
planned_there stands is_planned f e life s planned takes =
    (f, record { event = e; begun = begun_in f life e }, s, planned takes, refl)

-- what agrees tells outcomes by name
pub brought_rising : (f : ForestState) (a b x : GuardianState) (e : Event) (brings : Bool) (message : Message) → Brings f a b e x brings message
    → OnTrue brings (IsStrictlySortedBy name_cmp (map (λ x. x.0) message.outcomes.items))
brought_rising f a b x e false message q = tt
brought_rising f a b x e true message q = q.agrees.outcomes.once

-- at one guardian only the event may fail
quiet : (step : Step) (f : ForestState) (m n : ℕ) → names_guardian step (events_there f.registry) m ≡ true → names_guardian step (events_there f.registry) n ≡ true
    → (m == n) ≡ false → may_fail step m ≡ true → may_fail step n ≡ false
quiet (Prepare h t) f m n p q d s = of (h == n) refl
  where
    of : (t : Bool) → (h == n) ≡ t → (h == n) ≡ false
    of false e = e
    of true e = absurd (true≢false (sym (sym (ap (λ k. k == n) (eqb-true h m s)) ∙ e) ∙ d))
quiet (Decide t) f m n p q d s = absurd (true≢false (sym (ap (λ k. k == n) (sym (eqb-true (home_of t (events_there f.registry)) m p)) ∙ q) ∙ d))
quiet (Tell h a) f m n p q d s = absurd (true≢false (sym (ap (λ k. k == n) (sym (eqb-true h m p)) ∙ q) ∙ d))
quiet (Recover h) f m n p q d s = absurd (true≢false (sym (ap (λ k. k == n) (sym (eqb-true h m p)) ∙ q) ∙ d))
quiet (Top g) f m n p q d s = absurd (false≢true s)
quiet (NestedTop a) f m n p q d s = absurd (false≢true s)
quiet (Call a g) f m n p q d s = absurd (false≢true s)
quiet (Arms a kinds) f m n p q d s = absurd (false≢true s)
quiet (Op a x wanted) f m n p q d s =
    absurd (true≢false (sym (ap (λ k. k == n) (sym (eqb-true (home_of a (events_there f.registry)) m p)) ∙ q) ∙ d))
quiet (Commit a) f m n p q d s = absurd (false≢true s)
quiet (Close t) f m n p q d s = absurd (false≢true s)
quiet (Abort a) f m n p q d s = absurd (false≢true s)
quiet (Crash g) f m n p q d s = absurd (false≢true s)

-- so the other plan cannot fail
pub quiet_plan : (is_planned : GuardianState → News → Type 0) (f : ForestState) (a b x y : GuardianState)
    (e : Event) (keeps : Bool) → names_guardian e.step (events_there f.registry) x.number ≡ true
    → may_fail e.step x.number ≡ true → (x.number == y.number) ≡ false
    → Plans is_planned f a b e y keeps → OnTrue keeps (may_fail e.step y.number ≡ false)
quiet_plan is_planned f a b x y e false n s d q = tt
quiet_plan is_planned f a b x y e true n s d q = quiet e.step f x.number y.number n q.named d s

-- and may be installed
pub quiet_here : (stands : GuardianState → Type 0) (x : GuardianState) (step : Step) (keeps : Bool)
    → stands x → OnTrue keeps (may_fail step x.number ≡ false)
    → OnTrue keeps ((y : GuardianState) × stands y × IsFalse (may_fail step y.number))
quiet_here stands x step false s q = tt
quiet_here stands x step true s q = (x, s, q)
