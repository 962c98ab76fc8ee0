-- What an event of a guardian begins is new there, and each of its names stands once among them.
use Rattle.std.proofs.Common.{Bool, List, [], ap, arith, cond, false, inl, inr, not, refl, subst, suc, sym, true, ℕ, ◌<◌, ◌∙◌, ◌∷◌, ◌≡◌}
use Rattle.std.proofs.lemmas.Bool.{and_from, false_from_ne_true, false≢true, not-false, or_cases, or_from, or_left, or_right}
use Rattle.std.specs.List.{list_any}
use Rattle.action_names.specs.Names.{Name, child_of, has_name, is_ancestor, last_of, parent_of, same_name}
use Rattle.run_model.specs.declared.answer.Answer.TheVariants.{VoteNo, VoteYes}
use Rattle.run_model.specs.declared.answer.Refusal.TheVariants as why
use Rattle.run_model.specs.declared.history.Event.{Event}
use Rattle.run_model.specs.declared.step.ArmKind.{ArmKind}
use Rattle.run_model.specs.declared.step.ArmKind.TheVariants as arm
use Rattle.run_model.specs.declared.step.Step.{Step}
use Rattle.run_model.specs.declared.step.Step.TheVariants.{Arms, Call, NestedTop, Op, Prepare, Top}
use Rattle.run_model.specs.Actions.{begins, begun, names_begun, next_number}
use Rattle.run_model.specs.Answers.{granted_or_waits, outcome}
use Rattle.run_model.specs.Keeping.{blockers}
use Rattle.run_model.specs.LocalHistories.{Stamped, events_of}
use Rattle.run_model.specs.Openings.{Opening}
use Rattle.run_model.specs.Refusals.{arm_names, checks}
use Rattle.run_model.specs.Runs.{IsRun}
use Rattle.run_model.specs.Votes.{may_prepare}
use Rattle.run_laws.proofs.Accepted.{NoneApplies, answered, checked}
use Rattle.run_laws.proofs.Begun.{ancestor_begun, begun_once, nameless}
use Rattle.run_laws.proofs.Names.{clash, last_child, parent_child, same_name_self, same_name_true}
use Rattle.local_laws.specs.Rosters.{own_events}
use Rattle.local_laws.proofs.Rising.{Distinct}
use Rattle.local_laws.proofs.Roster.{begun_same}
use Rattle.guardian_laws.specs.Actions.{are_new, is_new}

-- ---- the names of arms

-- a child with a lower number is not among them
child_absent : (a : Name) (child top k : ℕ) (kinds : List ArmKind) → (a ≡ [] → ⊥) → k < child
    → has_name (arm_names a child top kinds) (child_of a k) ≡ false
child_absent a child top k [] n l = refl
child_absent a child top k (arm.Sub ∷ kinds) n l = or_from _ _ (false_from_ne_true _ other) (child_absent a (suc child) top k kinds n (omega arith))
  where
    other : same_name (child_of a child) (child_of a k) ≡ true → ⊥
    other h =
        let same : child ≡ k = sym (last_child a child) ∙ ap last_of (same_name_true (child_of a child) (child_of a k) h) ∙ last_child a k in
        omega arith
child_absent a child top k (arm.Top ∷ kinds) n l =
    or_from _ _
    (false_from_ne_true _ (λ h. n (sym (parent_child a k) ∙ ap parent_of (sym (same_name_true (top ∷ []) (child_of a k) h)))))
    (child_absent a child (suc top) k kinds n l)

-- nor is a top action with one
top_absent : (a : Name) (child top k : ℕ) (kinds : List ArmKind) → (a ≡ [] → ⊥) → k < top → has_name (arm_names a child top kinds) (k ∷ []) ≡ false
top_absent a child top k [] n l = refl
top_absent a child top k (arm.Sub ∷ kinds) n l =
    or_from _ _
    (false_from_ne_true _ (λ h. n (sym (parent_child a child) ∙ ap parent_of (same_name_true (child_of a child) (k ∷ []) h))))
    (top_absent a (suc child) top k kinds n l)
top_absent a child top k (arm.Top ∷ kinds) n l = or_from _ _ (false_from_ne_true _ other) (top_absent a child (suc top) k kinds n (omega arith))
  where
    other : same_name (top ∷ []) (k ∷ []) ≡ true → ⊥
    other h =
        let same : top ≡ k = ap last_of (same_name_true (top ∷ []) (k ∷ []) h) in
        omega arith

arms_distinct : (a : Name) (child top : ℕ) (kinds : List ArmKind) → (a ≡ [] → ⊥) → Distinct (arm_names a child top kinds)
arms_distinct a child top [] n = tt
arms_distinct a child top (arm.Sub ∷ kinds) n = (child_absent a (suc child) top child kinds n (omega arith), arms_distinct a (suc child) top kinds n)
arms_distinct a child top (arm.Top ∷ kinds) n = (top_absent a child (suc top) top kinds n (omega arith), arms_distinct a child (suc top) kinds n)

-- ---- what a step begins

outcome_distinct : (opening : Opening) (step : Step) (past : List Event) → IsRun opening past → NoneApplies (checks opening step past)
    → Distinct (names_begun (outcome opening step past))
outcome_distinct opening (Top g) past r f = (refl, tt)
outcome_distinct opening (NestedTop a) past r f = (refl, tt)
outcome_distinct opening (Call a g) past r f = (refl, tt)
outcome_distinct opening (Arms a kinds) past r f =
    arms_distinct a (next_number opening a past) (next_number opening [] past) kinds (nameless opening past a r (not-false _ (f why.NoAction)))
outcome_distinct opening (Op a x wanted) past r f = none (blockers a x wanted past)
  where
    none : (bs : List Name) → Distinct (names_begun (granted_or_waits opening x wanted past bs))
    none [] = tt
    none (b ∷ bs) = tt
outcome_distinct opening (Prepare g t) past r f = none (may_prepare g t past)
  where
    none : (vote : Bool) → Distinct (names_begun (cond vote VoteYes VoteNo))
    none true = tt
    none false = tt
outcome_distinct opening _ past r f = tt

-- each name once
pub begins_distinct : (opening : Opening) (e : Event) (past : List Event) → IsRun opening (e ∷ past) → Distinct (names_begun e.answer)
begins_distinct opening e past r =
    subst (λ answer. Distinct (names_begun answer)) (sym (answered opening e past r)) (outcome_distinct opening e.step past r.2 (checked opening e past r))

-- ---- nothing is there yet of what begins

-- some name of a list that passes a test
any_member : (p : Name → Bool) (names : List Name) → list_any p names ≡ true → (c : Name) × (has_name names c ≡ true) × (p c ≡ true)
any_member p [] h = absurd (false≢true h)
any_member p (b ∷ names) h = elim (or_cases _ _ h) [
  | inl k ↦ (b, or_left _ _ (same_name_self b), k)
  | inr k ↦ let (c, m, q) = any_member p names k in (c, or_right _ _ m, q)
]

new_there : (opening : Opening) (s : Stamped) (run : List Stamped) (g : ℕ) (b : Name) → IsRun opening (events_of (s ∷ run)) → begins s.1 b ≡ true
    → is_new b (own_events opening run g) ≡ true
new_there opening s run g b r k = ap not (false_from_ne_true (list_any (λ c. is_ancestor b c) (begun (own_events opening run g))) (λ h.
    let (c, m, above) = any_member (λ c. is_ancestor b c) (begun (own_events opening run g)) h in
    let old = (begun_same opening run g c r.2 m).0 in
    clash k (begun_once opening s.1 (events_of run) b r (ancestor_begun opening (events_of run) b c r.2 old above))))

all_new : (names : List Name) (past : List Event) → ((b : Name) → has_name names b ≡ true → is_new b past ≡ true) → Distinct names → are_new names past ≡ true
all_new [] past h d = refl
all_new (b ∷ names) past h d =
    and_from (is_new b past) _ (h b (or_left _ _ (same_name_self b)))
    (and_from (not (has_name names b)) _ (ap not d.0) (all_new names past (λ c k. h c (or_right _ _ k)) d.1))

pub names_are_new : (opening : Opening) (s : Stamped) (run : List Stamped) (g : ℕ) → IsRun opening (events_of (s ∷ run))
    → are_new (names_begun s.1.answer) (own_events opening run g) ≡ true
names_are_new opening s run g r =
    all_new (names_begun s.1.answer) (own_events opening run g) (λ b k. new_there opening s run g b r k) (begins_distinct opening s.1 (events_of run) r)
