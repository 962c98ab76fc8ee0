-- The arms of a `coenter`: they begin with different names.
use Rattle.std.proofs.Common.{Bool, IfSome, List, [], Option, None, Some, ap, arith, false, length, option_map, refl, reverse, subst, suc, sym, true, ℕ, ◌<◌, ◌||◌, ◌∙◌, ◌∷◌, ◌≡◌, ◌≢◌}
use Rattle.std.proofs.lemmas.Bool.{false_from_ne_true, or_from}
use Rattle.std.proofs.lemmas.List.{length-map, length-reverse, reverse-append, reverse-reverse}
use Rattle.action_names.specs.Names.{Name, child_of, has_name, last_of, parent_of, same_name}
use Rattle.run_model.specs.declared.answer.Answer.{Answer}
use Rattle.run_model.specs.declared.answer.Answer.TheVariants.{Began, Done, Granted, Refused, VoteNo, VoteYes, Waits}
use Rattle.run_model.specs.declared.answer.Refusal.{Refusal}
use Rattle.run_model.specs.declared.history.Event.{Event}
use Rattle.run_model.specs.declared.step.ArmKind.{ArmKind}
use Rattle.run_model.specs.declared.step.ArmKind.TheVariants as arm
use Rattle.run_model.specs.declared.step.Step.{Step}
use Rattle.run_model.specs.declared.step.Step.TheVariants.{Arms}
use Rattle.run_model.specs.Actions.{names_begun, next_number}
use Rattle.run_model.specs.Answers.{answer_of, outcome, refused_or}
use Rattle.run_model.specs.Refusals.{arm_names, checks, first_refusal}
use Rattle.run_model.specs.Openings.{Opening}
use Rattle.run_model.specs.Runs.{IsRun, World, world_after}
use Rattle.run_laws.proofs.Accepted.{makes_facts}
use Rattle.run_laws.proofs.Begun.{nameless}
use Rattle.run_laws.proofs.Names.{has_name_append, last_child, parent_child, same_name_self, same_name_true}
use Rattle.script_model.specs.declared.statement.Arm.{Arm}
use Rattle.activities.specs.Bodies.{kind_of, kinds}
use Rattle.activities.specs.Making.{Begins}
use Rattle.activities.specs.Serial.{waiting_by}

-- ---- the names of arms differ

-- what has a parent is no top action
child_no_top : (a : Name) (m n : ℕ) → (a ≡ [] → ⊥) → child_of a m ≡ n ∷ [] → ⊥
child_no_top a m n named e = named (sym (parent_child a m) ∙ ap parent_of e)

-- children with different numbers
child_other : (a : Name) (m n : ℕ) → n < m → child_of a m ≡ child_of a n → ⊥
child_other a m n less e = omega (arith, last_child a m, last_child a n, ap last_of e)

-- a child with a lower number is none of the arms
child_absent : (a : Name) (child top : ℕ) (kinds : List ArmKind) (n : ℕ) → (a ≡ [] → ⊥) → n < child
    → has_name (arm_names a child top kinds) (child_of a n) ≡ false
child_absent a child top [] n named less = refl
child_absent a child top (arm.Sub ∷ kinds) n named less =
    or_from _ _ (false_from_ne_true _ (λ h. child_other a child n less (same_name_true _ _ h)))
    (child_absent a (suc child) top kinds n named (omega arith))
child_absent a child top (arm.Top ∷ kinds) n named less =
    or_from _ _ (false_from_ne_true _ (λ h. child_no_top a n top named (sym (same_name_true _ _ h))))
    (child_absent a child (suc top) kinds n named less)

-- a top action with a lower number is none of the arms
top_absent : (a : Name) (child top : ℕ) (kinds : List ArmKind) (n : ℕ) → (a ≡ [] → ⊥) → n < top
    → has_name (arm_names a child top kinds) (n ∷ []) ≡ false
top_absent a child top [] n named less = refl
top_absent a child top (arm.Sub ∷ kinds) n named less =
    or_from _ _ (false_from_ne_true _ (λ h. child_no_top a child n named (same_name_true _ _ h)))
    (top_absent a (suc child) top kinds n named less)
top_absent a child top (arm.Top ∷ kinds) n named less =
    or_from _ _ (false_from_ne_true _ (λ h. other (same_name_true _ _ h))) (top_absent a child (suc top) kinds n named (omega arith))
  where
    other : (top ∷ []) ≡ (n ∷ []) → ⊥
    other e = omega (arith, ap last_of e)

-- no two names are one: the first is not among the others, and so on
pub data Differ : List Name → Type 0 where
  none : Differ []
  one_more : (a : Name) (names : List Name) → has_name names a ≡ false → Differ names → Differ (a ∷ names)

arms_differ : (a : Name) (child top : ℕ) (kinds : List ArmKind) → (a ≡ [] → ⊥) → Differ (arm_names a child top kinds)
arms_differ a child top [] named = none
arms_differ a child top (arm.Sub ∷ kinds) named =
    one_more _ _ (child_absent a (suc child) top kinds child named (omega arith)) (arms_differ a (suc child) top kinds named)
arms_differ a child top (arm.Top ∷ kinds) named =
    one_more _ _ (top_absent a child (suc top) kinds top named (omega arith)) (arms_differ a child (suc top) kinds named)

-- ---- a list turned round

pub has_reverse : (names : List Name) (a : Name) → has_name (reverse names) a ≡ has_name names a
has_reverse [] a = refl
has_reverse (b ∷ names) a =
    ap (λ l. has_name l a) (reverse-append (b ∷ []) names) ∙ has_name_append (reverse names) (b ∷ []) a
    ∙ ap (λ t. t || (same_name b a || false)) (has_reverse names a) ∙ turned (same_name b a) (has_name names a)
  where
    turned : (s t : Bool) → (t || (s || false)) ≡ (s || t)
    turned true true = refl
    turned true false = refl
    turned false true = refl
    turned false false = refl

-- ---- the step that begins arms

-- a step whose outcome begins actions: if it begins none, it was refused, and the world is as it was
pub unless_begun : (w : World) (opening : Opening) (past : List Event) (step : Step) (answer : Answer) (all : List Name)
    → outcome opening step past ≡ Began all → answer ≡ answer_of opening step past → ((names : List Name) → answer ≢ Began names)
    → world_after w step answer ≡ w
unfolding answer_of
unless_begun w opening past step answer all o h refused = go (first_refusal (checks opening step past)) h
  where
    go : (r : Option Refusal) → answer ≡ refused_or r (outcome opening step past) → world_after w step answer ≡ w
    go None e = absurd (refused all (e ∙ o))
    go (Some why) e = ap (λ b. world_after w step b) e

arms_length : (a : Name) (child top : ℕ) (kinds : List ArmKind) → length (arm_names a child top kinds) ≡ length kinds
arms_length a child top [] = refl
arms_length a child top (arm.Sub ∷ kinds) = ap suc (arms_length a (suc child) top kinds)
arms_length a child top (arm.Top ∷ kinds) = ap suc (arms_length a child (suc top) kinds)

-- what it answers that it began
arms_began : (opening : Opening) (a : Name) (kinds : List ArmKind) (past : List Event) (names : List Name)
    → Began names ≡ answer_of opening (Arms a kinds) past → names ≡ arm_names a (next_number opening a past) (next_number opening [] past) kinds
unfolding answer_of
arms_began opening a kinds past names h = go (first_refusal (checks opening (Arms a kinds) past)) h
  where
    go : (o : Option Refusal) → Began names ≡ refused_or o (Began (arm_names a (next_number opening a past) (next_number opening [] past) kinds))
        → names ≡ arm_names a (next_number opening a past) (next_number opening [] past) kinds
    go None e = cc
    go (Some why) e = cc

-- as many as there are arms
pub arms_begin_each : (opening : Opening) (a : Name) (kinds : List ArmKind) (past : List Event) (names : List Name)
    → Began names ≡ answer_of opening (Arms a kinds) past → length names ≡ length kinds
arms_begin_each opening a kinds past names h =
    ap length (arms_began opening a kinds past names h) ∙ arms_length a (next_number opening a past) (next_number opening [] past) kinds

-- no two of them are one
pub begun_differ : (opening : Opening) (a : Name) (kinds : List ArmKind) (past : List Event) → IsRun opening past
    → Differ (names_begun (answer_of opening (Arms a kinds) past))
begun_differ opening a kinds past r = go (answer_of opening (Arms a kinds) past) refl
  where
    go : (answer : Answer) → answer ≡ answer_of opening (Arms a kinds) past → Differ (names_begun answer)
    go (Began names) h =
        subst Differ (sym (arms_began opening a kinds past names h)) (arms_differ a (next_number opening a past) (next_number opening [] past) kinds named)
      where
        named : a ≡ [] → ⊥
        named = nameless opening past a r (makes_facts opening (record { step = Arms a kinds; answer = Began names }) past a (h, refl, r) (same_name_self a)).0
    go (Granted reply) h = none
    go (Waits names) h = none
    go VoteYes h = none
    go VoteNo h = none
    go (Done n) h = none
    go (Refused why) h = none

-- ---- the arms that wait

waiting_began : (answer : Answer) (names : List Name) → Some names ≡ waiting_by answer → answer ≡ Began names
waiting_began (Began names) more e = cc
waiting_began (Granted reply) more e = cc
waiting_began (Waits names) more e = cc
waiting_began VoteYes more e = cc
waiting_began VoteNo more e = cc
waiting_began (Done n) more e = cc
waiting_began (Refused why) more e = cc

-- what is so of the names that an answer began, turned round, is so of those that wait
where_waiting : {X : Type 0} (found : Option X) (items : X → List Name) (answer : Answer) (so : List Name → Type 0)
    → option_map (λ x. reverse (items x)) found ≡ waiting_by answer → ((names : List Name) → answer ≡ Began names → so (reverse names))
    → IfSome found (λ x. so (items x))
where_waiting None items answer so e f = tt
where_waiting (Some x) items answer so e f =
    subst so (reverse-reverse (items x)) (f (reverse (items x)) (waiting_began answer (reverse (items x)) e))

pub waiting_each : {X : Type 0} (found : Option X) (items : X → List Name) (opening : Opening) (past : List Event) (a : Name) (ks : List ArmKind)
    (arms : List Arm) (answer : Answer) → option_map (λ x. reverse (items x)) found ≡ waiting_by answer
    → answer ≡ answer_of opening (Arms a ks) past → ks ≡ kinds arms → IfSome found (λ x. length (items x) ≡ length arms)
waiting_each found items opening past a ks arms answer e h k =
    where_waiting found items answer (λ names. length names ≡ length arms) e
    (λ names b. length-reverse names ∙ arms_begin_each opening a ks past names (sym b ∙ h) ∙ ap length k ∙ length-map arms kind_of)

-- the same of the names turned round
begins_reverse : (actors committing names : List Name) (old new : World) → Begins actors committing names old new
    → Begins actors committing (reverse names) old new
begins_reverse actors committing names old new b = record {
  makes = b.makes;
  begun = λ a h. b.begun a (sym (has_reverse names a) ∙ h);
  only = λ a h. has_reverse names a ∙ b.only a h;
}

pub waiting_begun : {X : Type 0} (found : Option X) (items : X → List Name) (a b : Name) (old new : World) (answer : Answer) → b ≡ a
    → option_map (λ x. reverse (items x)) found ≡ waiting_by answer → Begins (b ∷ []) [] (names_begun answer) old new
    → IfSome found (λ x. Begins (a ∷ []) [] (items x) old new)
waiting_begun found items a b old new answer same e begun =
    where_waiting found items answer (λ names. Begins (a ∷ []) [] names old new) e
    (λ names h. begins_reverse (a ∷ []) [] names old new
    (subst (λ n. Begins (n ∷ []) [] names old new) same (subst (λ x. Begins (b ∷ []) [] (names_begun x) old new) h begun)))

-- where none wait, nothing has begun
pub none_waits : (w : World) (opening : Opening) (past : List Event) (a : Name) (ks : List ArmKind) (answer : Answer) → answer ≡ answer_of opening (Arms a ks) past
    → None ≡ waiting_by answer → world_after w (Arms a ks) answer ≡ w
none_waits w opening past a ks answer h n =
    unless_begun w opening past (Arms a ks) answer (arm_names a (next_number opening a past) (next_number opening [] past) ks) refl h
    (λ names e. none_is (n ∙ ap waiting_by e))
  where
    none_is : {names : List Name} → None ≡ Some names → ⊥
    none_is h = cc
