-- The outcome of the action at a place.
use Rattle.std.proofs.Common.{Bool, Bor, List, [], None, Option, Some, ap, cond, false, length, map, not, option_map, refl, sym, true, ℕ, ◌&&◌, ◌<◌, ◌≤◌, ◌∙◌, ◌≡◌, ◌||◌}
use Rattle.std.specs.Prelude.{MatchOption, if◌then◌else◌, slice_get}
use Rattle.std.specs.List.{HoldsAt}
use Rattle.std.specs.Option.{option_and_then, option_copied}
use Rattle.std.proofs.lemmas.Option.{slice_get-get_or, slice_get-map, slice_get_past}
use Rattle.action_names.specs.Names.{Name}
use Rattle.run_model.specs.declared.history.Event.{Event}
use Rattle.run_model.specs.Actions.{is_aborted, is_closed, is_committed, is_ended}
use Rattle.run_model.specs.LocalHistories.{RegistryEvent, events_there}
use Rattle.run_model.specs.Openings.{Opening}
use Rattle.action_forest.specs.declared.forest.Node.{Node}
use Rattle.step_answers.specs.declared.actor.Status.TheVariants.{Aborted, Active, Closed, Committed}
use Rattle.action_forest.specs.Events.{status_there}
use Rattle.action_forest.specs.Forests.{IsForest}
use Rattle.action_forest.specs.Trees.{Action, Trees, action_in, place_of, said}
use Rattle.action_forest.specs.Walks.{name_there, outcome_of, untold_outcome}

-- what is read at a place
pub got : {X : Type 0} (xs items : List X) (k : ℕ) (r : Option (Bor X)) → items ≡ xs
    → MatchOption r (length items ≤ k) (λ x. (k < length items) × HoldsAt (λ y. x.now ≡ y) items k) → slice_get xs k ≡ option_copied r
got xs items k None same h = ap (λ ys. slice_get ys k) (sym same) ∙ slice_get_past items k h
got xs items k (Some x) same h =
    ap (λ ys. slice_get ys k) (sym same) ∙ slice_get-get_or items k x.now h.0 ∙ ap Some (sym (h.1 x.now))

-- how an action stands says whether it has ended, and whether it committed
outcome_there : (b : Name) (past : List Event) → outcome_of (status_there b past) ≡ cond (is_ended b past) (Some (is_committed b past)) None
outcome_there b past = of (is_committed b past) (is_aborted b past) (is_closed b past)
  where
    of : (c a k : Bool) → outcome_of (cond c Committed (cond a Aborted (cond k Closed Active))) ≡ cond (c || a) (Some c) None
    of true a k = refl
    of false true k = refl
    of false false true = refl
    of false false false = refl

-- an outcome, unless it was told
abbrev pub unless_told : (Name → Bool) → Name → Option Bool → Option (Name × Bool)
unless_told told b None = None
unless_told told b (Some committed) = if told b then None else Some (b, committed)

untold_by : (told : Name → Bool) (past : List Event) (b : Name)
    → untold_outcome told past b ≡ unless_told told b (outcome_of (status_there b past))
untold_by told past b = of (is_ended b past) (told b) refl ∙ ap (unless_told told b) (sym (outcome_there b past))
  where
    of : (e t : Bool) → told b ≡ t
        → cond {A = Option (Name × Bool)} (e && not t) (Some (b, is_committed b past)) None
        ≡ unless_told told b (cond e (Some (is_committed b past)) None)
    of true true k = sym (ap (λ t. cond {A = Option (Name × Bool)} t None (Some (b, is_committed b past))) k)
    of true false k = sym (ap (λ t. cond {A = Option (Name × Bool)} t None (Some (b, is_committed b past))) k)
    of false t k = refl

-- the node that is read at a place is the action there
pub node_at : (nodes items : List Node) (k : ℕ) (r : Option (Bor Node)) (node : Bor Node) → items ≡ nodes
    → MatchOption r (length items ≤ k) (λ x. (k < length items) × HoldsAt (λ y. x.now ≡ y) items k) → r ≡ Some node
    → slice_get (map action_in nodes) k ≡ Some (action_in node.now)
node_at nodes items k r node same h is =
    slice_get-map action_in nodes k ∙ ap (option_map action_in) (got nodes items k r same h ∙ ap option_copied is)

pub no_node : (nodes items : List Node) (k : ℕ) (r : Option (Bor Node)) → items ≡ nodes
    → MatchOption r (length items ≤ k) (λ x. (k < length items) × HoldsAt (λ y. x.now ≡ y) items k) → r ≡ None
    → slice_get (map action_in nodes) k ≡ None
no_node nodes items k r same h is =
    slice_get-map action_in nodes k ∙ ap (option_map action_in) (got nodes items k r same h ∙ ap option_copied is)

module _ (opening : Opening) (registry : List RegistryEvent) (forest : Trees) (h : IsForest opening registry forest) (told : Name → Bool) (i : ℕ) where
  -- where there is no action is no outcome
  pub none_untold : slice_get forest.actions i ≡ None → untold_outcome told (events_there registry) (name_there forest i) ≡ None
  none_untold is =
      ap (untold_outcome told (events_there registry)) (ap (said (λ action. action.name) []) is)
      ∙ untold_by told (events_there registry) []
      ∙ ap (λ status. unless_told told [] (outcome_of status)) (sym (h.status []))

  -- the action at a place says its outcome, unless it was told
  pub there_untold : (x : Action) → slice_get forest.actions i ≡ Some x
      → untold_outcome told (events_there registry) (name_there forest i) ≡ unless_told told x.name (outcome_of x.status)
  there_untold x is =
      ap (untold_outcome told (events_there registry)) (ap (said (λ action. action.name) []) is)
      ∙ untold_by told (events_there registry) x.name
      ∙ ap (λ status. unless_told told x.name (outcome_of status)) (sym (h.status x.name) ∙ stands)
    where
      at : place_of forest x.name ≡ Some i
      at = h.tree.placed x.name i (ap (said (λ action. Some action.name) None) is)

      stands : said (λ action. action.status) Active (option_and_then (λ j. slice_get forest.actions j) (place_of forest x.name)) ≡ x.status
      stands = ap (λ o. said (λ action. action.status) Active (option_and_then (λ j. slice_get forest.actions j) o)) at ∙ ap (said (λ action. action.status) Active) is
