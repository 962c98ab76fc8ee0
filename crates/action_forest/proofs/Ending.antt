-- Actions close and end.
use Rattle.std.proofs.Common.{Bool, None, inl, inr, length, ◌⊎◌, ◌≤◌, Option, Some, ap, arith, cond, count_by, false, not, refl, subst, sym, true, ℕ, ◌-◌, ◌||◌, ◌∙◌, ◌∷◌, ◌≡◌, List}
use Rattle.std.specs.Prelude.{slice_get, is_some}
use Rattle.std.specs.FinMap as tree
use Rattle.std.specs.Option.{option_and_then}
use Rattle.action_names.specs.Names.{Name, is_top, parent_of, same_name}
use Rattle.action_names.specs.Deps.{Deps, lesser}
use Rattle.run_model.specs.declared.history.Event.{Event}
use Rattle.run_model.specs.declared.step.Step.{Step}
use Rattle.run_model.specs.declared.step.Step.TheVariants.{Abort, Close, Commit, Decide}
use Rattle.run_model.specs.Actions.{is_aborted, is_closed, is_committed, is_ended, is_exactly, made_by, maker_of}
use Rattle.run_model.specs.LocalHistories.{RegistryEvent, dependency_there, events_there}
use Rattle.run_model.specs.Openings.{Opening}
use Rattle.step_answers.specs.declared.actor.Status.{Status}
use Rattle.step_answers.specs.declared.actor.Status.TheVariants.{Aborted, Active, Closed, Committed}
use Rattle.action_forest.proofs.Changed.{KeepsTree, elsewhere, kept_at, name_changed, place_changed, said_at, said_kept}
use Rattle.action_forest.proofs.Counted.{fewer}
use Rattle.action_forest.proofs.Found.{there}
use Rattle.action_forest.proofs.Names.{same_name_true}
use Rattle.action_forest.proofs.Quiet.{made_quiet, tree_changed, tree_changed_at, tree_quiet}
use Rattle.action_forest.specs.Events.{IsUnended, done, status_there, unended_there}
use Rattle.action_forest.specs.Forests.{IsForest, IsTree}
use Rattle.action_forest.specs.Trees.{Action, Trees, action_of, changed, changed_at, closed, committed, depends_at, ended, maker_at, maker_place, name_at, one_less, place_of, said, status_at, unended_at, with_closed, with_depends, with_status}

pub closed_keeps : KeepsTree with_closed
closed_keeps = record { name = λ x. refl; home = λ x. refl; maker = λ x. refl; children = λ x. refl }

pub status_keeps : (status : Status) → KeepsTree (with_status status)
status_keeps status = record { name = λ x. refl; home = λ x. refl; maker = λ x. refl; children = λ x. refl }

pub less_keeps : KeepsTree one_less
less_keeps = record { name = λ x. refl; home = λ x. refl; maker = λ x. refl; children = λ x. refl }

pub depends_keeps : (deps : Deps) → KeepsTree (with_depends deps)
depends_keeps deps = record { name = λ x. refl; home = λ x. refl; maker = λ x. refl; children = λ x. refl }

-- what the change keeps of each action is said as before, wherever it is
pub said_kept_at : {B : Type 0} (field : Action → B) (missing : B) (f : Action → Action) (o : Option ℕ) (forest : Trees) → KeepsTree f
    → ((x : Action) → field (f x) ≡ field x) → (a : Name)
    → said field missing (action_of (changed_at f o forest) a) ≡ said field missing (action_of forest a)
said_kept_at field missing f None forest keeps same a = refl
said_kept_at field missing f (Some i) forest keeps same a = said_kept field missing f i forest keeps same a

-- what stands at a place that has an action
at_place : (forest : Trees) (t : Name) (i : ℕ) → place_of forest t ≡ Some i → action_of forest t ≡ slice_get forest.actions i
at_place forest t i at = ap (option_and_then (λ j. slice_get forest.actions j)) at

-- what the maker's count becomes, and that others' stay
pub counted : (registry : List RegistryEvent) (forest : Trees) → IsTree registry forest → (f : Action → Action) → KeepsTree f → (by : ℕ → ℕ)
    → ((y : Action) → (f y).unended ≡ by y.unended) → (maker : Option ℕ) (a : Name)
    → unended_at (changed_at f maker forest) a
    ≡ cond (is_exactly (option_and_then (λ j. name_at forest j) maker) a) (by (unended_at forest a)) (unended_at forest a)
counted registry forest h f keeps by counts None a = refl
counted registry forest h f keeps by counts (Some j) a = of (name_at forest j) refl
  where
    of : (o : Option Name) → name_at forest j ≡ o
        → unended_at (changed f j forest) a ≡ cond (is_exactly o a) (by (unended_at forest a)) (unended_at forest a)
    of None none =
        ap (said (λ action. action.unended) 0) (elsewhere f j forest keeps a (λ k. let n = h.named a j k in cc))
    of (Some m) is =
        let at = h.placed m j is in
        let x = there forest j m is in
        said_at (λ action. action.unended) 0 f j forest keeps h.named m x.0 at x.1 a ∙ cases at x.0 x.1 (same_name m a) refl
      where
        cases : place_of forest m ≡ Some j → (x : Action) → slice_get forest.actions j ≡ Some x → (b : Bool) → same_name m a ≡ b
            → cond b (f x).unended (unended_at forest a) ≡ cond b (by (unended_at forest a)) (unended_at forest a)
        cases at x got true same =
            let found : action_of forest a ≡ Some x = at_place forest a j (subst (λ c. place_of forest c ≡ Some j) (same_name_true m a same) at) ∙ got in
            counts x ∙ ap (λ o. by (said (λ action. action.unended) 0 o)) (sym found)
        cases at x got false differ = refl

less_by : (b : Bool) (n : ℕ) → cond b (n - 1) n ≡ n - cond {A = ℕ} b 1 0
less_by true n = refl
less_by false n = omega arith

-- the maker of an action, by its place
maker_found : (forest : Trees) (t : Name) (i : ℕ) → place_of forest t ≡ Some i
    → option_and_then (λ j. name_at forest j) (maker_place forest i) ≡ maker_at forest t
maker_found forest t i at =
    of (slice_get forest.actions i)
    ∙ ap (said (λ action. option_and_then (λ j. name_at forest j) action.maker) None) (sym (at_place forest t i at))
  where
    of : (o : Option Action) → option_and_then (λ j. name_at forest j) (said (λ action. action.maker) None o)
        ≡ said (λ action. option_and_then (λ j. name_at forest j) action.maker) None o
    of None = refl
    of (Some x) = refl

-- how many have not ended, once an action has
unended_after : (registry : List RegistryEvent) (forest : Trees) (status : Status) (t : Name) (i n : ℕ) (step : Step) → IsTree registry forest
    → ((a : Name) → unended_at forest a ≡ unended_there a (events_there registry))
    → is_ended t (events_there registry) ≡ false → place_of forest t ≡ Some i
    → ((b : Name) → is_ended b (events_there (done n step ∷ registry)) ≡ (same_name t b || is_ended b (events_there registry)))
    → (a : Name) → unended_at (ended status i forest) a ≡ unended_there a (events_there (done n step ∷ registry))
unended_after registry forest status t i n step h says not_ended at ends a =
    let first = changed (with_status status) i forest in
    let tree = tree_changed registry forest (with_status status) i (status_keeps status) h in
    let less = counted registry first tree one_less less_keeps (λ m. m - 1) (λ y. refl) (maker_place forest i) a
    ∙ less_by (is_exactly (option_and_then (λ j. name_at first j) (maker_place forest i)) a) (unended_at first a) in
    let before = said_kept (λ action. action.unended) 0 (with_status status) i forest (status_keeps status) (λ x. refl) a ∙ says a in
    let names : option_and_then (λ j. name_at first j) (maker_place forest i) ≡ maker_of t (events_there registry) =
    (λ k. option_and_then (λ j. name_changed (with_status status) i forest (status_keeps status) j k) (maker_place forest i))
    ∙ maker_found forest t i at ∙ h.maker t in
    let one : cond {A = ℕ} (is_exactly (option_and_then (λ j. name_at first j) (maker_place forest i)) a) 1 0
    ≡ cond {A = ℕ} (is_exactly (maker_of t (events_there registry)) a) 1 0 = ap (λ o. cond {A = ℕ} (is_exactly o a) 1 0) names in
    let count = fewer t (λ b. is_ended b (events_there registry)) (λ b. is_ended b (events_there (done n step ∷ registry))) not_ended ends
    (made_by a (events_there registry)) in
    let made = h.made t a in
    let there_now : unended_there a (events_there (done n step ∷ registry))
    ≡ count_by (λ b. not (is_ended b (events_there (done n step ∷ registry)))) (made_by a (events_there registry)) =
    ap (count_by (λ b. not (is_ended b (events_there (done n step ∷ registry))))) (made_quiet (done n step) registry a refl) in
    omega arith

-- places stay as an action is changed
pub place_at : (f : Action → Action) (o : Option ℕ) (forest : Trees) → KeepsTree f → (a : Name) → place_of (changed_at f o forest) a ≡ place_of forest a
place_at f None forest keeps a = refl
place_at f (Some j) forest keeps a = place_changed f j forest keeps a

-- so do the places of makers
pub maker_place_at : (f : Action → Action) (o : Option ℕ) (forest : Trees) → KeepsTree f → (i : ℕ)
    → maker_place (changed_at f o forest) i ≡ maker_place forest i
maker_place_at f None forest keeps i = refl
maker_place_at f (Some j) forest keeps i = kept_at (λ action. action.maker) None f j i forest.actions keeps.maker

place_ended : (status : Status) (i : ℕ) (forest : Trees) (a : Name) → place_of (ended status i forest) a ≡ place_of forest a
place_ended status i forest a =
    place_at one_less (maker_place forest i) (changed (with_status status) i forest) less_keeps a
    ∙ place_changed (with_status status) i forest (status_keeps status) a

-- what an end keeps of each action
said_ended : {B : Type 0} (field : Action → B) (missing : B) (status : Status) (i : ℕ) (forest : Trees)
    → ((x : Action) (s : Status) → field (with_status s x) ≡ field x) → ((x : Action) → field (one_less x) ≡ field x) → (a : Name)
    → said field missing (action_of (ended status i forest) a) ≡ said field missing (action_of forest a)
said_ended field missing status i forest same less a =
    said_kept_at field missing one_less (maker_place forest i) (changed (with_status status) i forest) less_keeps less a
    ∙ said_kept field missing (with_status status) i forest (status_keeps status) (λ x. same x status) a

tree_ended : (registry : List RegistryEvent) (forest : Trees) (status : Status) (i : ℕ) → IsTree registry forest → IsTree registry (ended status i forest)
tree_ended registry forest status i h =
    tree_changed_at registry (changed (with_status status) i forest) one_less (maker_place forest i) less_keeps
    (tree_changed registry forest (with_status status) i (status_keeps status) h)

-- how actions stand, once one has ended
status_after : (registry : List RegistryEvent) (forest : Trees) (status : Status) (t : Name) (i : ℕ) → IsTree registry forest → place_of forest t ≡ Some i
    → (a : Name) → status_at (ended status i forest) a ≡ cond (same_name t a) status (status_at forest a)
status_after registry forest status t i h at a =
    let x = there forest i t (h.named t i at) in
    said_kept_at (λ action. action.status) Active one_less (maker_place forest i) (changed (with_status status) i forest) less_keeps (λ x. refl) a
    ∙ said_at (λ action. action.status) Active (with_status status) i forest (status_keeps status) h.named t x.0 at x.1 a

pub first_at : (f : Action → Action) (o : Option ℕ) (forest : Trees) → (changed_at f o forest).first_top ≡ forest.first_top
first_at f None forest = refl
first_at f (Some i) forest = refl

pub guardians_at : (f : Action → Action) (o : Option ℕ) (forest : Trees) → (changed_at f o forest).guardians ≡ forest.guardians
guardians_at f None forest = refl
guardians_at f (Some i) forest = refl

first_ended : (status : Status) (i : ℕ) (forest : Trees) → (ended status i forest).first_top ≡ forest.first_top
first_ended status i forest = first_at one_less (maker_place forest i) (changed (with_status status) i forest)

guardians_ended : (status : Status) (i : ℕ) (forest : Trees) → (ended status i forest).guardians ≡ forest.guardians
guardians_ended status i forest = guardians_at one_less (maker_place forest i) (changed (with_status status) i forest)

or_over : (s c a : Bool) → (c || (s || a)) ≡ (s || (c || a))
or_over true true a = refl
or_over true false a = refl
or_over false c a = refl

or_first : (s c a : Bool) → ((s || c) || a) ≡ (s || (c || a))
or_first true c a = refl
or_first false c a = refl

-- an action that has not ended has neither committed nor aborted
not_committed : (t : Name) (registry : List RegistryEvent) → is_ended t (events_there registry) ≡ false → is_committed t (events_there registry) ≡ false
not_committed t registry h = of (is_committed t (events_there registry)) (is_aborted t (events_there registry)) h
  where
    of : (c a : Bool) → (c || a) ≡ false → c ≡ false
    of true a k = k
    of false a k = refl

-- an action that stands as active has not ended
pub active_not_ended : (a : Name) (past : List Event) → status_there a past ≡ Active → is_ended a past ≡ false
active_not_ended a past h = of (is_committed a past) (is_aborted a past) (is_closed a past) h
  where
    of : (c b k : Bool) → cond c Committed (cond b Aborted (cond k Closed Active)) ≡ Active → (c || b) ≡ false
    of true b k e = absurd (cc)
    of false true k e = absurd (cc)
    of false false k e = refl

-- what stood so is closed, unless it has ended
closed_then : (c a k : Bool) → closed (cond c Committed (cond a Aborted (cond k Closed Active))) ≡ cond c Committed (cond a Aborted Closed)
closed_then true a k = refl
closed_then false true k = refl
closed_then false false true = refl
closed_then false false false = refl

-- An action is closed.
pub closes : (opening : Opening) (registry : List RegistryEvent) (forest : Trees) (t : Name) (i n : ℕ) → place_of forest t ≡ Some i
    → IsForest opening registry forest → IsForest opening (done n (Close t) ∷ registry) (changed with_closed i forest)
closes opening registry forest t i n at h = record {
  first = h.first;
  setup = h.setup;
  tree = tree_quiet registry (changed with_closed i forest) (done n (Close t)) refl
      (tree_changed registry forest with_closed i closed_keeps h.tree);
  status = λ a.
      said_at (λ action. action.status) Active with_closed i forest closed_keeps h.tree.named t x.0 at x.1 a
      ∙ stands a (same_name t a) refl;
  depends = λ a g. said_kept (λ action. tree.get action.depends g) None with_closed i forest closed_keeps (λ x. refl) a ∙ h.depends a g;
  unended = λ a. said_kept (λ action. action.unended) 0 with_closed i forest closed_keeps (λ x. refl) a ∙ h.unended a;
  inside = h.inside;
}
  where
    past : List Event
    past = events_there registry

    x : (y : Action) × (slice_get forest.actions i ≡ Some y) × (y.name ≡ t)
    x = there forest i t (h.tree.named t i at)

    own : x.0.status ≡ status_there t past
    own = sym (ap (said (λ action. action.status) Active) (at_place forest t i at ∙ x.1)) ∙ h.status t

    stands_by : Name → Bool → Status
    stands_by a b =
        cond (is_committed a past) Committed (cond (is_aborted a past) Aborted (cond (b || is_closed a past) Closed Active))

    stands : (a : Name) (b : Bool) → same_name t a ≡ b
        → cond b (closed x.0.status) (status_at forest a) ≡ status_there a (events_there (done n (Close t) ∷ registry))
    stands a true same =
        ap closed (own ∙ ap (λ c. status_there c past) (same_name_true t a same))
        ∙ closed_then (is_committed a past) (is_aborted a past) (is_closed a past)
        ∙ ap (stands_by a) (sym same)
    stands a false differ = h.status a ∙ ap (stands_by a) (sym differ)

-- An action aborts.
pub aborts : (opening : Opening) (registry : List RegistryEvent) (forest : Trees) (t : Name) (i n : ℕ) → place_of forest t ≡ Some i
    → IsUnended (events_there registry) t → IsForest opening registry forest → IsForest opening (done n (Abort t) ∷ registry) (ended Aborted i forest)
aborts opening registry forest t i n at was h = record {
  first = first_ended Aborted i forest ∙ h.first;
  setup = guardians_ended Aborted i forest ∙ h.setup;
  tree = tree_quiet registry (ended Aborted i forest) (done n (Abort t)) refl (tree_ended registry forest Aborted i h.tree);
  status = λ a. status_after registry forest Aborted t i h.tree at a ∙ ap (cond (same_name t a) Aborted) (h.status a) ∙ stands a;
  depends = λ a g. said_ended (λ action. tree.get action.depends g) None Aborted i forest (λ x s. refl) (λ x. refl) a ∙ h.depends a g;
  unended = unended_after registry forest Aborted t i n (Abort t) h.tree h.unended was.not_ended at (λ b. or_over (same_name t b) _ _);
  inside = h.inside;
}
  where
    of : (s c a k : Bool) → (s ≡ true → c ≡ false)
        → cond s Aborted (cond c Committed (cond a Aborted (cond k Closed Active)))
        ≡ cond c Committed (cond (s || a) Aborted (cond k Closed Active))
    of true c a k e = ap (λ v. cond v Committed Aborted) (sym (e refl))
    of false c a k e = refl

    stands : (a : Name) → cond (same_name t a) Aborted (status_there a (events_there registry)) ≡ status_there a (events_there (done n (Abort t) ∷ registry))
    stands a =
        of (same_name t a) (is_committed a (events_there registry)) (is_aborted a (events_there registry))
        (is_closed a (events_there registry))
        (λ same. subst (λ c. is_committed c (events_there registry) ≡ false) (same_name_true t a same) (not_committed t registry was.not_ended))

committed_first : (s c : Bool) (other : Status) → cond s Committed (cond c Committed other) ≡ cond (s || c) Committed other
committed_first true c other = refl
committed_first false c other = refl

-- a subaction commits and closes at once
committed_closed : (s c a k : Bool)
    → cond s Committed (cond c Committed (cond a Aborted (cond k Closed Active)))
    ≡ cond (s || c) Committed (cond a Aborted (cond (s || k) Closed Active))
committed_closed true c a k = refl
committed_closed false c a k = refl

-- A top action is decided.
pub decides : (opening : Opening) (registry : List RegistryEvent) (forest : Trees) (t : Name) (i n : ℕ) → place_of forest t ≡ Some i
    → IsUnended (events_there registry) t → IsForest opening registry forest → IsForest opening (done n (Decide t) ∷ registry) (ended Committed i forest)
decides opening registry forest t i n at was h = record {
  first = first_ended Committed i forest ∙ h.first;
  setup = guardians_ended Committed i forest ∙ h.setup;
  tree = tree_quiet registry (ended Committed i forest) (done n (Decide t)) refl (tree_ended registry forest Committed i h.tree);
  status = λ a.
      status_after registry forest Committed t i h.tree at a
      ∙ ap (cond (same_name t a) Committed) (h.status a)
      ∙ committed_first (same_name t a) (is_committed a (events_there registry)) _;
  depends = λ a g. said_ended (λ action. tree.get action.depends g) None Committed i forest (λ x s. refl) (λ x. refl) a ∙ h.depends a g;
  unended = unended_after registry forest Committed t i n (Decide t) h.tree h.unended was.not_ended at (λ b. or_first (same_name t b) _ _);
  inside = h.inside;
}

-- whose maker has a name, has it at that name's place
maker_named : (registry : List RegistryEvent) (forest : Trees) (o : Option ℕ) (p : Name) → IsTree registry forest
    → option_and_then (λ j. name_at forest j) o ≡ Some p → (j : ℕ) × (o ≡ Some j) × (place_of forest p ≡ Some j)
maker_named registry forest None p h e = absurd (cc)
maker_named registry forest (Some j) p h e = (j, refl, h.placed p j e)

lesser_some : (x y : Option ℕ) → is_some (lesser x y) ≡ true → (is_some x ≡ true) ⊎ (is_some y ≡ true)
lesser_some None y h = inr h
lesser_some (Some m) y h = inl refl

-- A subaction commits.
pub commits : (opening : Opening) (registry : List RegistryEvent) (forest : Trees) (t : Name) (i n : ℕ) (deps : Deps) → place_of forest t ≡ Some i
    → ((g : ℕ) → tree.get deps g ≡ lesser (depends_at forest (parent_of t) g) (depends_at forest t g))
    → IsUnended (events_there registry) t → is_top t ≡ false → IsForest opening registry forest
    → IsForest opening (done n (Commit t) ∷ registry) (committed deps i forest)
commits opening registry forest t i n deps at merged was no_top h = record {
  first = first_at (with_depends deps) (maker_place forest i) gone ∙ first_ended Committed i forest ∙ h.first;
  setup = guardians_at (with_depends deps) (maker_place forest i) gone ∙ guardians_ended Committed i forest ∙ h.setup;
  tree = tree_quiet registry (committed deps i forest) (done n (Commit t)) refl
      (tree_changed_at registry gone (with_depends deps) (maker_place forest i) (depends_keeps deps) tree_gone);
  status = λ a.
      said_kept_at (λ action. action.status) Active (with_depends deps) (maker_place forest i) gone (depends_keeps deps) (λ x. refl) a
      ∙ status_after registry forest Committed t i h.tree at a
      ∙ ap (cond (same_name t a) Committed) (h.status a)
      ∙ committed_closed (same_name t a) (is_committed a (events_there registry)) (is_aborted a (events_there registry))
      (is_closed a (events_there registry));
  depends = λ a g.
      ap (λ o. depends_at (changed_at (with_depends deps) o gone) a g) parent.1
      ∙ said_at (λ action. tree.get action.depends g) None (with_depends deps) parent.0 gone (depends_keeps deps) tree_gone.named
      (parent_of t) above.0 at_parent above.1 a
      ∙ now a g (same_name (parent_of t) a) refl;
  unended = λ a.
      said_kept_at (λ action. action.unended) 0 (with_depends deps) (maker_place forest i) gone (depends_keeps deps) (λ x. refl) a
      ∙ unended_after registry forest Committed t i n (Commit t) h.tree h.unended was.not_ended at (λ b. or_first (same_name t b) _ _) a;
  inside = λ a g some. inside_now a g (same_name (parent_of t) a) some;
}
  where
    gone : Trees
    gone = ended Committed i forest

    tree_gone : IsTree registry gone
    tree_gone = tree_ended registry forest Committed i h.tree

    parent : (j : ℕ) × (maker_place forest i ≡ Some j) × (place_of forest (parent_of t) ≡ Some j)
    parent = maker_named registry forest (maker_place forest i) (parent_of t) h.tree
        (maker_found forest t i at ∙ h.tree.maker t ∙ h.tree.parents t was.begun no_top)

    at_parent : place_of gone (parent_of t) ≡ Some parent.0
    at_parent = place_ended Committed i forest (parent_of t) ∙ parent.2

    above : (x : Action) × (slice_get gone.actions parent.0 ≡ Some x) × (x.name ≡ parent_of t)
    above = there gone parent.0 (parent_of t) (tree_gone.named (parent_of t) parent.0 at_parent)

    before : (a : Name) (g : ℕ) → depends_at gone a g ≡ dependency_there a g registry
    before a g =
        said_ended (λ action. tree.get action.depends g) None Committed i forest (λ x s. refl) (λ x. refl) a ∙ h.depends a g

    now : (a : Name) (g : ℕ) (b : Bool) → same_name (parent_of t) a ≡ b
        → cond b (tree.get deps g) (depends_at gone a g)
        ≡ cond b (lesser (dependency_there a g registry) (dependency_there t g registry)) (dependency_there a g registry)
    now a g true same =
        merged g
        ∙ ap (λ d. lesser d (depends_at forest t g)) (h.depends (parent_of t) g)
        ∙ ap (λ d. lesser (dependency_there (parent_of t) g registry) d) (h.depends t g)
        ∙ ap (λ c. lesser (dependency_there c g registry) (dependency_there t g registry)) (same_name_true (parent_of t) a same)
    now a g false differ = before a g

    inside_now : (a : Name) (g : ℕ) (b : Bool)
        → is_some (cond b (lesser (dependency_there a g registry) (dependency_there t g registry)) (dependency_there a g registry)) ≡ true
        → (1 ≤ g) × (g ≤ length opening.setup)
    inside_now a g true some =
        elim (lesser_some (dependency_there a g registry) (dependency_there t g registry) some) [ inl k ↦ h.inside a g k | inr k ↦ h.inside t g k ]
    inside_now a g false some = h.inside a g some

-- the trees of a commit, one change after another
pub commit_changes : (i : ℕ) (deps : Deps) (before first after : Trees) (parent : Option ℕ) → first ≡ ended Committed i before
    → parent ≡ maker_place first i → after ≡ changed_at (with_depends deps) parent first → after ≡ committed deps i before
commit_changes i deps before first after parent ends up hangs =
    hangs
    ∙ ap (λ o. changed_at (with_depends deps) o first) (up ∙ ap (λ forest. maker_place forest i) ends ∙ same_maker)
    ∙ ap (changed_at (with_depends deps) (maker_place before i)) ends
  where
    same_maker : maker_place (ended Committed i before) i ≡ maker_place before i
    same_maker =
        maker_place_at one_less (maker_place before i) (changed (with_status Committed) i before) less_keeps i
        ∙ maker_place_at (with_status Committed) (Some i) before (status_keeps Committed) i
