-- What the tests of one turn say: whether the histories fail at it.
use Rattle.std.proofs.Common.{◌≡◌, ℕ, Bool, true, false, not, cond, ◌&&◌, ◌||◌, List, [], ◌∷◌, ◌++◌, reverse, refl, sym, ap, subst, ◌∙◌}
use Rattle.std.proofs.lemmas.Bool.{true≢false}
use Rattle.std.proofs.lemmas.List.{reverse-append}
use Rattle.std.proofs.lemmas.List.Folds.{list_any-append}
use Rattle.std.proofs.lemmas.Slice.Eq.{bytes_eq-Decides}
use Rattle.run_model.specs.declared.answer.Answer.{Answer}
use Rattle.run_model.specs.declared.history.Event.{Event}
use Rattle.run_model.specs.declared.step.Step.{Step}
use Rattle.run_model.specs.Answers.{answer_of}
use Rattle.run_model.specs.Gathering.{same_event}
use Rattle.run_model.specs.Openings.{Opening, opening_in}
use Rattle.run_model.specs.Runs.{IsRun, World, is_accepted, world_after}
use Rattle.run_model.specs.Texts.{answer_text, step_text}
use Rattle.run_laws.proofs.Runs.{run_more}
use Rattle.tracer.specs.Copies.{Copied, has_late, has_other, is_contradicted, stand_elsewhere, turn_fails}

-- ---- the step

-- it leaves a run
pub stays_run : (old new : World) (step : Step) (answer : Answer) → answer ≡ answer_of (opening_in old.lists) step old.past → new ≡ world_after old step answer
    → IsRun (opening_in old.lists) old.past → IsRun (opening_in new.lists) new.past
stays_run old new step answer is after run =
    subst (λ (w : World). IsRun (opening_in w.lists) w.past) (sym (after ∙ ap (λ (a : Answer). world_after old step a) is)) (run_more (opening_in old.lists) step old.past run)

-- accepted with the event's answer, the event has happened
pub has_happened : (old new : World) (e : Event) (answer : Answer) → new ≡ world_after old e.step answer → is_accepted answer ≡ true → answer ≡ e.answer → new.past ≡ e ∷ old.past
has_happened old new e answer after accepted same =
    ap (λ (w : World). w.past) after
    ∙ ap (λ (b : Bool). cond b (record { step = e.step; answer = answer } ∷ old.past) old.past) accepted
    ∙ ap (λ (a : Answer). record { step = e.step; answer = a } ∷ old.past) same

-- ---- the turn

same_last : (xs ys : List Copied) (x y : Copied) → xs ++ x ∷ [] ≡ ys ++ y ∷ [] → x ≡ y
same_last xs ys x y e =
    let turned : x ∷ reverse xs ≡ y ∷ reverse ys = sym (reverse-append xs (x ∷ [])) ∙ ap reverse e ∙ reverse-append ys (y ∷ []) in cc

same_self : (e : Event) → same_event e e ≡ true
same_self e = and_both _ _ ((bytes_eq-Decides (step_text e.step) (step_text e.step)).1 refl) ((bytes_eq-Decides (answer_text e.answer) (answer_text e.answer)).1 refl)
  where
    and_both : (s t : Bool) → s ≡ true → t ≡ true → (s && t) ≡ true
    and_both true t h i = i
    and_both false t h i = h

or_true : (b : Bool) → (b || true) ≡ true
or_true true = refl
or_true false = refl

not_true : (t : Bool) → true ≡ not t → t ≡ false
not_true true h = absurd (true≢false h)
not_true false h = refl

not_false : (t : Bool) → false ≡ not t → t ≡ true
not_false true h = refl
not_false false h = absurd (true≢false (sym h))

module _ (opening : Opening) (limit : ℕ) (past : List Event) (turn front others : List Copied) (x last : Copied) (e : Event) (mine : turn ≡ front ++ x ∷ [])
    (parts : turn ≡ others ++ last ∷ []) (view : e ≡ x.event) where
  same : e ≡ last.event
  same = view ∙ ap (λ (c : Copied). c.event) (same_last front others x last (sym mine ∙ parts))

  says : (b : Bool) → turn_fails opening limit e past turn ≡ b → not b ≡ not (turn_fails opening limit last.event past turn)
  says b h = ap not (sym h ∙ ap (λ (f : Event). turn_fails opening limit f past turn) same)

  pub late : has_late turn ≡ true → false ≡ not (turn_fails opening limit last.event past turn)
  late h = says true (ap (λ (s : Bool). s || (has_other e turn || (stand_elsewhere limit e past turn || is_contradicted opening e past))) h)

  all_others : has_other e turn ≡ has_other e front
  all_others =
      ap (has_other e) mine ∙ list_any-append (λ (c : Copied). not (same_event c.event e)) front (x ∷ [])
      ∙ ap (λ (f : Event). has_other e front || (not (same_event f e) || false)) (sym view)
      ∙ ap (λ (s : Bool). has_other e front || (not s || false)) (same_self e) ∙ or_none (has_other e front)
    where
      or_none : (s : Bool) → (s || false) ≡ s
      or_none true = refl
      or_none false = refl

  pub differs : has_other e front ≡ true → false ≡ not (turn_fails opening limit last.event past turn)
  differs h =
      says true (ap (λ (s : Bool). has_late turn || (s || (stand_elsewhere limit e past turn || is_contradicted opening e past))) (all_others ∙ h) ∙ or_true (has_late turn))

  pub elsewhere : stand_elsewhere limit e past turn ≡ true → false ≡ not (turn_fails opening limit last.event past turn)
  elsewhere h =
      says true (ap (λ (s : Bool). has_late turn || (has_other e turn || (s || is_contradicted opening e past))) h
      ∙ ap (λ (s : Bool). has_late turn || s) (or_true (has_other e turn)) ∙ or_true (has_late turn))

  pub contradicted : (b : Bool) → b ≡ not (is_contradicted opening e past) → b ≡ false → false ≡ not (turn_fails opening limit last.event past turn)
  contradicted b is bad =
      says true (ap (λ (s : Bool). has_late turn || (has_other e turn || (stand_elsewhere limit e past turn || s))) (not_false (is_contradicted opening e past) (sym bad ∙ is))
      ∙ ap (λ (s : Bool). has_late turn || (has_other e turn || s)) (or_true (stand_elsewhere limit e past turn))
      ∙ ap (λ (s : Bool). has_late turn || s) (or_true (has_other e turn)) ∙ or_true (has_late turn))

  pub fine : (b : Bool) → has_late turn ≡ false → has_other e front ≡ false → stand_elsewhere limit e past turn ≡ false → b ≡ not (is_contradicted opening e past) → b ≡ true
      → true ≡ not (turn_fails opening limit last.event past turn)
  fine b in_time alike here is good =
      says false (ap (λ (s : Bool). s || (has_other e turn || (stand_elsewhere limit e past turn || is_contradicted opening e past))) in_time
      ∙ ap (λ (s : Bool). s || (stand_elsewhere limit e past turn || is_contradicted opening e past)) (all_others ∙ alike)
      ∙ ap (λ (s : Bool). s || is_contradicted opening e past) here
      ∙ not_true (is_contradicted opening e past) (sym good ∙ is))
