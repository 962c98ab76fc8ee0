-- A step names a guardian just where that is one of the two that it names.
use Rattle.std.proofs.Common.{Bool, List, None, Option, Some, ap₂, refl, subst, sym, true, false, ℕ, ◌==◌, ◌∙◌, ◌≡◌, ◌||◌}
use Rattle.action_names.specs.Names.{Name}
use Rattle.run_model.specs.declared.history.Event.{Event}
use Rattle.run_model.specs.declared.step.Step.{Step}
use Rattle.run_model.specs.declared.step.Step.TheVariants.{Abort, Arms, Call, Close, Commit, Crash, Decide, NestedTop, Op, Prepare, Recover, Tell, Top}
use Rattle.run_model.specs.Actions.{maker_of, home_of}
use Rattle.run_model.specs.LocalHistories.{events_there, home_lent, is_home_of, names_guardian}
use Rattle.layer_contracts.specs.Forests.{ForestState}
use Rattle.world_steps.specs.declared.names.NamedGuardians.{NamedGuardians}
use Rattle.world_steps.specs.Naming.{AreNamed, first_named, home_of_maker, second_named}

twice : (t : Bool) → t ≡ (t || t)
twice true = refl
twice false = refl

no_other : (t : Bool) → (t || false) ≡ (t || t)
no_other true = refl
no_other false = refl

by_maker : (maker : Option Name) (own : ℕ) (past : List Event) (g : ℕ)
    → ((own == g) || is_home_of maker past g) ≡ ((own == g) || (home_of_maker maker own past == g))
by_maker None own past g = no_other (own == g)
by_maker (Some m) own past g = refl

names_both : (step : Step) (past : List Event) (g : ℕ) → names_guardian step past g ≡ ((first_named step past == g) || (second_named step past == g))
names_both (Top h) past g = twice (h == g)
names_both (NestedTop a) past g = twice (home_of a past == g)
names_both (Call a h) past g = refl
names_both (Arms a kinds) past g = twice (home_of a past == g)
names_both (Op a x wanted) past g = twice (home_of a past == g)
names_both (Commit a) past g = refl
names_both (Close t) past g = twice (home_of t past == g)
names_both (Prepare h t) past g = refl
names_both (Decide t) past g = twice (home_of t past == g)
names_both (Abort a) past g = by_maker (maker_of a past) (home_of a past) past g
names_both (Tell h a) past g = twice (h == g)
names_both (Crash h) past g = twice (h == g)
names_both (Recover h) past g = twice (h == g)

-- what is said of the two is said of the step
pub named_are : {stands : ForestState → Type 0} {step : Step} {named : NamedGuardians} → AreNamed stands step named → (f : ForestState) → stands f → (g : ℕ)
    → names_guardian step (events_there f.registry) g ≡ ((named.first == g) || (named.second == g))
named_are {stands} {step} {named} are f at g =
    names_both step (events_there f.registry) g
    ∙ sym (ap₂ (λ h k. (h == g) || (k == g)) (are.first f at) (are.second f at))

pub is_as_named : {stands : ForestState → Type 0} {step : Step} {named : NamedGuardians} → AreNamed stands step named → (f : ForestState) → stands f → (g : ℕ) (t : Bool)
    → t ≡ ((named.first == g) || (named.second == g)) → t ≡ names_guardian step (events_there f.registry) g
is_as_named are f at g t is = is ∙ sym (named_are are f at g)

-- the home of what the step begins that names these
abbrev pub IsHomeOfNew : NamedGuardians → Step → ℕ → Type 0
IsHomeOfNew named step home =
    (f : ForestState) → named.first ≡ first_named step (events_there f.registry)
    → named.second ≡ second_named step (events_there f.registry) → home ≡ home_lent step f.registry

-- and of what the same step begins
pub home_of_same : {step same : Step} (named : NamedGuardians) (home : ℕ) → same ≡ step
    → IsHomeOfNew named step home → IsHomeOfNew named same home
home_of_same named home is of = subst (λ s. IsHomeOfNew named s home) (sym is) of
