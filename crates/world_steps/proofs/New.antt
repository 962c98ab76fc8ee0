-- What is said of new actions.
use Rattle.std.proofs.Common.{Bool, List, [], ap, ap₂, false, filter, map, refl, sym, true, ℕ, ◌==◌, ◌∙◌, ◌∷◌, ◌≡◌}
use Rattle.action_names.specs.Names.{Name}
use Rattle.run_model.specs.declared.history.Event.{Event}
use Rattle.run_model.specs.Actions.{crashes, names_begun}
use Rattle.run_model.specs.LocalHistories.{NewAction, action_lent, home_lent, life_lent}
use Rattle.run_model.specs.LocalReadings.{events_here}
use Rattle.layer_contracts.specs.Guardians.{GuardianState, lent_two}
use Rattle.layer_contracts.specs.Forests.{ForestState, begun_in, new_entries}
use Rattle.world_steps.specs.Lending.{begun_lent, new_two}

all_kept : (t : Bool) (names : List Name) → t ≡ true → filter (λ c. t) names ≡ names
all_kept t names h = ap (λ s. filter (λ c. s) names) h ∙ all names
  where
    all : (ns : List Name) → filter (λ c. true) ns ≡ ns
    all [] = refl
    all (n ∷ ns) = ap (λ l. n ∷ l) (all ns)

none_kept : (t : Bool) (names : List Name) → t ≡ false → filter (λ c. t) names ≡ []
none_kept t names h = ap (λ s. filter (λ c. s) names) h ∙ none names
  where
    none : (ns : List Name) → filter (λ c. false) ns ≡ []
    none [] = refl
    none (n ∷ ns) = none ns

-- the life of the home of new actions
pub life_is : (f : ForestState) (a b : GuardianState) (e : Event) (home life : ℕ) → home ≡ home_lent e.step f.registry
    → life ≡ crashes home (events_here (lent_two a b home)) → life ≡ life_lent e.step f.registry (lent_two a b)
life_is f a b e home life h l = l ∙ ap (λ m. crashes m (events_here (lent_two a b m))) h

-- what an event begins, in the life of its home
pub begun_there : (f : ForestState) (a b : GuardianState) (e : Event) (home life : ℕ) → home ≡ home_lent e.step f.registry
    → life ≡ crashes home (events_here (lent_two a b home)) → begun_in f life e ≡ begun_lent f a b e
begun_there f a b e home life h l = ap (λ m. begun_in f m e) (life_is f a b e home life h l)

-- where it begins nothing, in each
pub begun_never : (f : ForestState) (a b : GuardianState) (e : Event) (life : ℕ) → names_begun e.answer ≡ [] → begun_in f life e ≡ begun_lent f a b e
begun_never f a b e life none = ap (born life) none ∙ sym (ap (born (life_lent e.step f.registry (lent_two a b))) none)
  where
    born : ℕ → List Name → List NewAction
    born m ns =
        map (λ c. record { name = c; home = home_lent e.step f.registry; incarnation = m; dependencies = new_entries f (home_lent e.step f.registry) m c }) ns

pub new_never : (f : ForestState) (a b : GuardianState) (e : Event) (g : ℕ) → names_begun e.answer ≡ [] → [] ≡ new_two f a b e g
new_never f a b e g none =
    sym (ap (λ ns. map (λ c. (c, (action_lent f.opening e.step f.registry (lent_two a b) c).dependencies)) (filter (λ c. home_lent e.step f.registry == g) ns)) none)

pub new_here : (f : ForestState) (a b : GuardianState) (e : Event) (g home life : ℕ) → home ≡ home_lent e.step f.registry
    → life ≡ crashes home (events_here (lent_two a b home)) → (home == g) ≡ true
    → map (λ c. (c, new_entries f home life c)) (names_begun e.answer) ≡ new_two f a b e g
new_here f a b e g home life h l q =
    ap₂ (λ m k. map (λ c. (c, new_entries f m k c)) (names_begun e.answer)) h (life_is f a b e home life h l)
    ∙ sym (ap (λ ns. map (λ c. (c, (action_lent f.opening e.step f.registry (lent_two a b) c).dependencies)) ns)
    (all_kept (home_lent e.step f.registry == g) (names_begun e.answer) (sym (ap (λ m. m == g) h) ∙ q)))

pub new_elsewhere : (f : ForestState) (a b : GuardianState) (e : Event) (g home : ℕ) → home ≡ home_lent e.step f.registry
    → (home == g) ≡ false → [] ≡ new_two f a b e g
new_elsewhere f a b e g home h q =
    sym (ap (λ ns. map (λ c. (c, (action_lent f.opening e.step f.registry (lent_two a b) c).dependencies)) ns)
    (none_kept (home_lent e.step f.registry == g) (names_begun e.answer) (sym (ap (λ m. m == g) h) ∙ q)))
