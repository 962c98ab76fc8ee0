-- What an accepted event has that some guardians' histories answer so: of the registry's history what its step asks of it.
use Rattle.std.proofs.Common.{Bool, List, None, Option, Some, [], ap, cond, false, inl, inr, refl, subst, suc, sym, true, ℕ, ◌∙◌, ◌∷◌, ◌≡◌}
use Rattle.std.proofs.lemmas.Bool.{false≢true, not-false, or_parts}
use Rattle.std.proofs.lemmas.Option.{same_Some}
use Rattle.action_names.specs.Names.{Name, child_of, is_top, parent_of, same_name}
use Rattle.atomic_types.specs.Operations as op
use Rattle.run_model.specs.declared.answer.Answer.{Answer}
use Rattle.run_model.specs.declared.answer.Answer.TheVariants.{Began, Done, VoteNo, VoteYes}
use Rattle.run_model.specs.declared.answer.Refusal.{Refusal}
use Rattle.run_model.specs.declared.answer.Refusal.TheVariants as why
use Rattle.run_model.specs.declared.history.Event.{Event}
use Rattle.run_model.specs.declared.step.ArmKind.{ArmKind}
use Rattle.run_model.specs.declared.step.ArmKind.TheVariants as arm
use Rattle.run_model.specs.declared.step.Step.{Step}
use Rattle.run_model.specs.declared.step.Step.TheVariants.{Abort, Arms, Call, Close, Commit, Crash, Decide, NestedTop, Op, Prepare, Recover, Tell, Top}
use Rattle.run_model.specs.Actions.{home_in, home_of, is_begun, is_closed, is_ended, next_number}
use Rattle.run_model.specs.Answers.{granted_by, operated_by, outcome_by, refused_or}
use Rattle.run_model.specs.Keeping.{Performed, Standing, blockers_by}
use Rattle.run_model.specs.LocalHistories.{RegistryEvent, events_there, facts_lent, results_lent}
use Rattle.run_model.specs.LocalReadings.{LocalEvent, standing_here}
use Rattle.run_model.specs.Openings.{Opening, first_content}
use Rattle.run_model.specs.Refusals.{arm_names, checks_by, first_refusal}
use Rattle.run_model.specs.Runs.{is_accepted}
use Rattle.run_model.specs.Versions.{under}
use Rattle.run_laws.proofs.Accepted.{NoneApplies, none_applies}
use Rattle.values.specs.declared.content.Content.{Content}
use Rattle.action_forest.proofs.Names.{parent_child, same_name_is}
use Rattle.action_forest.specs.Events.{AreNext, AreUnder, IsUnended}
use Rattle.action_forest.specs.Forests.{IsForest}
use Rattle.action_forest.specs.Rooms.{IsBeginning}
use Rattle.action_forest.specs.Trees.{Trees}
use Rattle.registry.specs.Following.{IsEntered}

-- whether the answer is that actions began
abbrev pub is_began : Answer → Bool
is_began (Began names) = true
is_began _ = false

-- an operation begins nothing
granted : (c : Content) (kept : List Performed) (wanted : op.Op) (bs : List Name) → is_began (granted_by c kept wanted bs) ≡ false
granted c kept wanted [] = refl
granted c kept wanted (b ∷ bs) = refl

operated : (c : Content) (s : Standing) (a : Name) (wanted : op.Op) → is_began (operated_by c s a wanted) ≡ false
operated c s a wanted = granted (under c (λ b. true) s.restored) s.kept wanted (blockers_by s a wanted)

-- the names that arms begin come next, one after another
arms_next : (x : ℕ) (a : Name) (kinds : List ArmKind) (next : Name → ℕ) (child top : ℕ) → next (x ∷ a) ≡ child → next [] ≡ top
    → AreNext next (arm_names (x ∷ a) child top kinds)
arms_next x a [] next child top nc nt = tt
arms_next x a (arm.Sub ∷ kinds) next child top nc nt =
    let up = parent_child (x ∷ a) child in (
      ap (child_of (x ∷ a)) (sym nc) ∙ sym (ap (λ p. child_of p (next p)) up),
      arms_next x a kinds (λ b. cond (same_name b (parent_of (child_of (x ∷ a) child))) (suc (next b)) (next b)) (suc child) top
          (ap (λ t. cond t (suc (next (x ∷ a))) (next (x ∷ a))) (same_name_is (x ∷ a) (parent_of (child_of (x ∷ a) child)) (sym up)) ∙ ap suc nc)
          (ap (λ p. cond (same_name [] p) (suc (next [])) (next [])) up ∙ nt),
    )
arms_next x a (arm.Top ∷ kinds) next child top nc nt = (
  ap (λ n. n ∷ []) (sym nt),
  arms_next x a kinds (λ b. cond (same_name b []) (suc (next b)) (next b)) child (suc top) nc (ap suc nt),
)

arms_under : (a : Name) (kinds : List ArmKind) (child top : ℕ) → AreUnder (Some a) (arm_names a child top kinds)
arms_under a [] child top = tt
arms_under a (arm.Sub ∷ kinds) child top = (inr (ap Some (sym (parent_child a child))), arms_under a kinds (suc child) top)
arms_under a (arm.Top ∷ kinds) child top = (inl refl, arms_under a kinds child (suc top))

none_if_accepted : (o : Option Refusal) (x : Answer) → is_accepted (refused_or o x) ≡ true → o ≡ None
none_if_accepted None x h = refl
none_if_accepted (Some n) x h = absurd (false≢true h)

module _ (opening : Opening) (registry : List RegistryEvent) where
  -- the answer begins names, as the step begins them
  abbrev pub BeginsNames : Step → Answer → Type 0
  BeginsNames step answer =
      (names : List Name) × (answer ≡ Began names) × IsBeginning opening registry step names (home_in step (λ a. home_of a (events_there registry)))

  -- what a step with this answer has
  abbrev pub Asked : Step → Answer → Type 0
  Asked (Top g) answer = BeginsNames (Top g) answer
  Asked (NestedTop a) answer = BeginsNames (NestedTop a) answer
  Asked (Call a g) answer = BeginsNames (Call a g) answer
  Asked (Arms a kinds) answer = BeginsNames (Arms a kinds) answer
  Asked (Op a x wanted) answer = is_began answer ≡ false
  Asked (Commit a) answer = (answer ≡ Done 0) × IsUnended (events_there registry) a × (is_top a ≡ false)
  Asked (Close t) answer = (answer ≡ Done 0) × (is_begun t (events_there registry) ≡ true)
  Asked (Prepare g t) answer = (yes_vote : Bool) × (answer ≡ cond yes_vote VoteYes VoteNo) × (is_top t ≡ true)
  Asked (Decide t) answer = (answer ≡ Done 0) × IsUnended (events_there registry) t
  Asked (Abort a) answer = (answer ≡ Done 0) × IsUnended (events_there registry) a
  Asked (Tell g a) answer = is_began answer ≡ false
  Asked (Crash g) answer = is_began answer ≡ false
  Asked (Recover g) answer = is_began answer ≡ false

  -- the maker of what begins was begun
  made : (a m : Name) → is_begun a (events_there registry) ≡ true → Some a ≡ Some m → is_begun m (events_there registry) ≡ true
  made a m was e = subst (λ b. is_begun b (events_there registry) ≡ true) (same_Some a m e) was

  by_step : (forest : Trees) (histories : ℕ → List LocalEvent) (step : Step) (answer : Answer) → IsForest opening registry forest
      → answer ≡ outcome_by (facts_lent opening registry histories).next (results_lent opening registry histories) step
      → NoneApplies (checks_by opening (facts_lent opening registry histories) step) → Asked step answer
  by_step forest histories (Top g) answer h out k = (
    (next_number opening [] (events_there registry) ∷ []) ∷ [],
    out,
    record { still = refl; next = (refl, tt); under = (inl refl, tt); maker = λ m e. absurd (cc); at_home = refl },
  )
  by_step forest histories (NestedTop a) answer h out k = (
    (next_number opening [] (events_there registry) ∷ []) ∷ [],
    out,
    record { still = refl; next = (refl, tt); under = (inl refl, tt); maker = λ m e. made a m (not-false _ (k why.NoAction)) e; at_home = refl },
  )
  by_step forest histories (Call a g) answer h out k =
      let n = next_number opening a (events_there registry) in
      let up = parent_child a n in (
        child_of a n ∷ [],
        out,
        record {
          still = refl;
          next = (sym (ap (λ p. child_of p (next_number opening p (events_there registry))) up), tt);
          under = (inr (ap Some (sym up)), tt);
          maker = λ m e. made a m (not-false _ (k why.NoAction)) e;
          at_home = refl;
        },
      )
  by_step forest histories (Arms [] kinds) answer h out k =
      absurd (false≢true (h.tree.found [] ∙ not-false _ (k why.NoAction)))
  by_step forest histories (Arms (x ∷ a) kinds) answer h out k =
      let next : Name → ℕ = λ b. next_number opening b (events_there registry) in (
        arm_names (x ∷ a) (next (x ∷ a)) (next []) kinds,
        out,
        record {
          still = refl;
          next = arms_next x a kinds next (next (x ∷ a)) (next []) refl refl;
          under = arms_under (x ∷ a) kinds (next (x ∷ a)) (next []);
          maker = λ m e. made (x ∷ a) m (not-false _ (k why.NoAction)) e;
          at_home = refl;
        },
      )
  by_step forest histories (Op a x wanted) answer h out k = ap is_began out ∙ operated (first_content opening x) (standing_here (histories x.guardian) x) a wanted
  by_step forest histories (Commit a) answer h out k = (
    out,
    record { begun = not-false _ (k why.NoAction); not_ended = (or_parts (is_ended a (events_there registry)) (is_closed a (events_there registry)) (k why.Ended)).0 },
    k why.NotSub,
  )
  by_step forest histories (Close t) answer h out k = (out, not-false _ (k why.NoAction))
  by_step forest histories (Prepare g t) answer h out k = ((results_lent opening registry histories).vote g t, out, not-false _ (k why.NotTop))
  by_step forest histories (Decide t) answer h out k = (out, record { begun = not-false _ (k why.NoAction); not_ended = k why.Ended })
  by_step forest histories (Abort a) answer h out k = (out, record { begun = not-false _ (k why.NoAction); not_ended = k why.Ended })
  by_step forest histories (Tell g a) answer h out k = ap is_began out
  by_step forest histories (Crash g) answer h out k = ap is_began out
  by_step forest histories (Recover g) answer h out k = ap is_began out

  -- what an event has that was entered
  pub asked : (forest : Trees) (e : Event) → IsForest opening registry forest → IsEntered opening registry e → Asked e.step e.answer
  asked forest e h entered =
      let histories = entered.answered.0 in
      let facts = facts_lent opening registry histories in
      let outcome = outcome_by facts.next (results_lent opening registry histories) e.step in
      let none = none_if_accepted (first_refusal (checks_by opening facts e.step)) outcome (sym (ap is_accepted entered.answered.1) ∙ entered.accepted) in
      by_step forest histories e.step e.answer h (entered.answered.1 ∙ ap (λ o. refused_or o outcome) none)
      (none_applies (checks_by opening facts e.step) none)
