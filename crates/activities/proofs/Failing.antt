-- What has ended in spite of a fault, one step after another.
use Rattle.std.proofs.Common.{Bool, Err, IfErr, IfOk, IsTrue, List, None, Ok, OnErr, Option, Result, Vec, [], ap, append_assoc, append-nil, drop, false, inl, inr, map, refl, subst, sym, take, true, ℕ, ◌++◌, ◌∙◌, ◌∷◌, ◌≡◌, ◌⊎◌}
use Rattle.std.proofs.lemmas.Bool.{false≢true, or_cases, or_left}
use Rattle.std.proofs.lemmas.List.{take-append-drop}
use Rattle.std.specs.Result.{result_and}
use Rattle.std.specs.declared.alloc.Global.{Global}
use Rattle.action_names.specs.Names.{Name, has_name, same_name}
use Rattle.layer_contracts.specs.Stores.{fault_in}
use Rattle.layer_contracts.specs.declared.guardian.Fault.{Fault}
use Rattle.run_model.specs.declared.answer.Answer.{Answer}
use Rattle.run_model.specs.declared.step.Step.{Step}
use Rattle.run_model.specs.declared.step.Step.TheVariants.{Abort}
use Rattle.run_model.specs.Actions.{begun, is_begun, is_committed, is_ended, maker_in, names_begun}
use Rattle.run_model.specs.Openings.{opening_in}
use Rattle.run_model.specs.Runs.{World, world_after}
use Rattle.run_laws.proofs.Names.{clash, has_name_append}
use Rattle.activities.specs.declared.apart.EndedArm.{EndedArm}
use Rattle.activities.specs.declared.client.ClientEnd.{ClientEnd}
use Rattle.activities.specs.declared.flow.Flow.{Flow}
use Rattle.activities.specs.Apart.{GoOn, IsSaid, gone_beside}
use Rattle.activities.specs.Ends.{ends_with, listed}
use Rattle.activities.specs.Failing.{AreCauses, EndBut, EndOrFail, HaveEnded, IsCause, StepFails}
use Rattle.activities.specs.Making.{Begins, IsAnswered, Makes, commits_of, with_top}
use Rattle.activities.specs.OwnSteps.{IsOfAction, about}
use Rattle.activities.specs.Serial.{asked}
use Rattle.activities.proofs.Going.{alone, still_ended}
use Rattle.activities.proofs.Making.{begun_parts}
use Rattle.activities.proofs.Steps.{abort_ends, nothing_made}

-- ---- worlds that go on

ended_nowhere : (w : World) → HaveEnded [] w w
ended_nowhere w a b h = elim h [ inl n ↦ absurd (false≢true n) | inr k ↦ absurd (clash b k) ]

-- first these, and then those
ended_through : (first second all : List Name) (x y z : World) → ((a : Name) → IsTrue (is_ended a y.past) → IsTrue (is_ended a z.past))
    → ((a : Name) → IsTrue (has_name all a) → IsTrue (has_name first a) ⊎ IsTrue (has_name second a)) → HaveEnded first x y → HaveEnded second y z
    → HaveEnded all x z
ended_through first second all x y z stay parts e f a b h = go (is_begun a y.past) refl
  where
    go : (t : Bool) → is_begun a y.past ≡ t → IsTrue (is_ended a z.past)
    go false k = f a b (inr k)
    go true t = elim h [
      | inl n ↦ elim (parts a n) [ inl p ↦ stay a (e a t (inl p)) | inr q ↦ f a b (inl q) ]
      | inr k ↦ stay a (e a t (inr k))
    ]

module _ (alone : Type 0) (fails : Fault → Type 0) where
  pub over_nowhere : (w : World) → EndOrFail alone fails [] w w
  over_nowhere w = record { stay = λ a h. h; ended = λ l. inl (ended_nowhere w) }

  pub over_same : (x y : World) → y ≡ x → EndOrFail alone fails [] x y
  over_same x y e = subst (λ w. EndOrFail alone fails [] x w) (sym e) (over_nowhere x)

  over_parts : (first second all : List Name) (x y z : World)
      → ((a : Name) → IsTrue (has_name all a) → IsTrue (has_name first a) ⊎ IsTrue (has_name second a))
      → EndOrFail alone fails first x y → EndOrFail alone fails second y z → EndOrFail alone fails all x z
  over_parts first second all x y z parts m n = record {
    stay = λ a h. n.stay a (m.stay a h);
    ended = λ l. elim (m.ended l) [
      | inl e ↦ elim (n.ended l) [ inl f ↦ inl (ended_through first second all x y z n.stay parts e f) | inr c ↦ inr c ]
      | inr c ↦ inr c
    ];
  }

  pub over_through : (x y z : World) → EndOrFail alone fails [] x y → EndOrFail alone fails [] y z → EndOrFail alone fails [] x z
  over_through x y z m n = over_parts [] [] [] x y z (λ a h. inl h) m n

  pub over_ends : (names : List Name) (x y z : World) → EndOrFail alone fails [] x y → EndOrFail alone fails names y z → EndOrFail alone fails names x z
  over_ends names x y z m n = over_parts [] names names x y z (λ a h. inr h) m n

  pub ends_over : (names : List Name) (x y z : World) → EndOrFail alone fails names x y → EndOrFail alone fails [] y z → EndOrFail alone fails names x z
  ends_over names x y z m n = over_parts names [] names x y z (λ a h. inl h) m n

  -- of fewer actions
  pub over_less : (names : List Name) (x y : World) → EndOrFail alone fails names x y → EndOrFail alone fails [] x y
  over_less names x y m = over_parts names [] [] x y y (λ a h. absurd (false≢true h)) m (over_nowhere y)

  -- of an action by another name for it
  pub over_named : (a b : Name) (x y : World) → b ≡ a → EndOrFail alone fails (b ∷ []) x y → EndOrFail alone fails (a ∷ []) x y
  over_named a b x y e m = subst (λ n. EndOrFail alone fails (n ∷ []) x y) e m

  -- an action that ended, by another name for it, after others did
  pub over_ends_named : (a b : Name) (x y z : World) → b ≡ a → EndOrFail alone fails [] x y → EndOrFail alone fails (b ∷ []) y z
      → EndOrFail alone fails (a ∷ []) x z
  over_ends_named a b x y z e m n = over_ends (a ∷ []) x y z m (over_named a b y z e n)

  -- ---- actions that were begun

  -- those that were begun together have ended
  pub over_fresh : (names actors committing : List Name) (x y z : World) → Begins actors committing names x y → EndOrFail alone fails names y z
      → EndOrFail alone fails [] x z
  over_fresh names actors committing x y z b m = record {
    stay = λ a h. m.stay a (still_ended x y a b.makes h);
    ended = λ l. elim (m.ended l) [ inl e ↦ inl (all e) | inr c ↦ inr c ];
  }
    where
      all : HaveEnded names y z → HaveEnded [] x z
      all e a t h = elim h [ inl n ↦ absurd (false≢true n) | inr k ↦ go k (is_begun a y.past) refl ]
        where
          go : is_begun a x.past ≡ false → (s : Bool) → is_begun a y.past ≡ s → IsTrue (is_ended a z.past)
          go k false s = e a t (inr s)
          go k true s = elim (begun_parts a b.makes.later x.past (subst (λ l. IsTrue (is_begun a l)) b.makes.past s)) [
            | inl n ↦ e a t (inl (b.only a n))
            | inr o ↦ absurd (clash o k)
          ]

  -- where none was
  pub over_none : (actors committing : List Name) (x y : World) → Begins actors committing [] x y → EndOrFail alone fails [] x y
  over_none actors committing x y b = over_fresh [] actors committing x y y b (over_nowhere y)

  -- one was, and has ended
  pub over_child : (n : Name) (actors : List Name) (x y z : World) → Begins actors [] (n ∷ []) x y → EndOrFail alone fails (n ∷ []) y z
      → EndOrFail alone fails [] x z
  over_child n actors x y z b m = over_fresh (n ∷ []) actors [] x y z b m

  -- a client's top action has ended
  pub over_top : (home : ℕ) (a : Name) (x y z : World) → y ≡ with_top home a x → EndOrFail alone fails (a ∷ []) y z → EndOrFail alone fails [] x z
  over_top home a x y z e m = record {
    stay = λ b h. m.stay b (subst (λ (w : World). IsTrue (is_ended b w.past)) (sym e) h);
    ended = λ l. elim (m.ended l) [ inl h ↦ inl (all h) | inr c ↦ inr c ];
  }
    where
      all : HaveEnded (a ∷ []) y z → HaveEnded [] x z
      all h b t k = elim k [ inl n ↦ absurd (false≢true n) | inr o ↦ go o (is_begun b y.past) refl ]
        where
          go : is_begun b x.past ≡ false → (s : Bool) → is_begun b y.past ≡ s → IsTrue (is_ended b z.past)
          go o false s = h b t (inr s)
          go o true s = elim (or_cases (has_name (a ∷ []) b) (is_begun b x.past) (sym (has_name_append (a ∷ []) (begun x.past) b) ∙ subst (λ (w : World). is_begun b w.past ≡ true) e s)) [
            | inl n ↦ h b t (inl n)
            | inr u ↦ absurd (clash u o)
          ]

  -- ---- single steps

  -- a step by which no action makes anything
  pub quiet_over : {E : Type 0} (old new : World) (step : Step) (result : Result Answer E) → IsOfAction step → IfOk result (IsAnswered old.lists step)
      → IfOk result (λ answer. Begins (about step) (commits_of step) (names_begun answer) old new) → OnErr result (new ≡ old) → maker_in step ≡ None
      → EndOrFail alone fails [] old new
  quiet_over old new step (Err fault) of answered begins err none = over_same old new err
  quiet_over old new step (Ok answer) of answered begins err none =
      over_none (about step) (commits_of step) old new
      (subst (λ names. Begins (about step) (commits_of step) names old new)
      (ap names_begun answered.answered ∙ nothing_made (opening_in old.lists) step answered.past of none) begins)

  -- the step that aborts an action
  pub abort_over : (old new : World) (step : Step) (a : Name) (result : Result Answer Fault) → step ≡ Abort a → IfErr result fails
      → IfOk result (λ answer. new ≡ world_after old step answer) → IfOk result (λ answer. alone → answer ≡ asked step old)
      → EndOrFail alone fails [] old new → EndOrFail alone fails (a ∷ []) old new
  abort_over old new step a (Err fault) s f w k m = record { stay = m.stay; ended = λ l. inr (record { fault = fault; fails_so = f }) }
  abort_over old new step a (Ok answer) s f w k m = record {
    stay = m.stay;
    ended = λ l. elim (m.ended l) [ inl e ↦ inl (all l e) | inr c ↦ inr c ];
  }
    where
      after_abort : alone → new ≡ world_after old (Abort a) (asked (Abort a) old)
      after_abort l = w ∙ ap (world_after old step) (k l) ∙ ap (λ s. world_after old s (asked s old)) s

      one : alone → HaveEnded [] old new → IsTrue (is_begun a new.past) → (t : Bool) → is_begun a old.past ≡ t → IsTrue (is_ended a new.past)
      one l e b true t = subst (λ (v : World). IsTrue (is_ended a v.past)) (sym (after_abort l)) (abort_ends old a t)
      one l e b false t = e a b (inr t)

      all : alone → HaveEnded [] old new → HaveEnded (a ∷ []) old new
      all l e c b h = elim h [
        | inl n ↦
            let same : a ≡ c = Rattle.activities.proofs.Going.alone a c n in
            subst (λ n. IsTrue (is_ended n new.past)) same (one l e (subst (λ n. IsTrue (is_begun n new.past)) (sym same) b) (is_begun a old.past) refl)
        | inr k ↦ e c b (inr k)
      ]

  -- an action that has committed has ended
  pub committed_over : (a : Name) (x y : World) → EndOrFail alone fails [] x y → IsTrue (is_committed a y.past) → EndOrFail alone fails (a ∷ []) x y
  committed_over a x y m c = record {
    stay = m.stay;
    ended = λ l. elim (m.ended l) [ inl e ↦ inl (all e) | inr f ↦ inr f ];
  }
    where
      all : HaveEnded [] x y → HaveEnded (a ∷ []) x y
      all e b t h = elim h [
        | inl n ↦
            let same : a ≡ b = Rattle.activities.proofs.Going.alone a b n in
            subst (λ n. IsTrue (is_ended n y.past)) same (or_left _ _ c)
        | inr k ↦ e b t (inr k)
      ]

  -- ---- arms that wait

  pub none_ran : (names : List Name) (w : World) → EndBut alone fails names names w w
  none_ran names w = ([], sym (append-nil names), over_nowhere w)

  -- the last of those that wait has ended
  pub last_ran : (names waits rest : List Name) (a : Name) (x y z : World) → waits ≡ rest ++ (a ∷ []) → EndBut alone fails names waits x y
      → EndOrFail alone fails (a ∷ []) y z → EndBut alone fails names rest x z
  last_ran names waits rest a x y z w (ran, e, m) n = (
    a ∷ ran,
    e ∙ ap (λ l. l ++ ran) w ∙ append_assoc rest (a ∷ []) ran,
    over_parts ran (a ∷ []) (a ∷ ran) x y z (λ b h. elim (or_cases (same_name a b) (has_name ran b) h) [ inl s ↦ inr (or_left (same_name a b) false s) | inr r ↦ inl r ]) m n,
  )

  -- arms that were begun: some ran, and those that waited were aborted
  pub over_arms : (names rest actors : List Name) (x y z w : World) → Begins actors [] names x y → EndBut alone fails names rest y z
      → EndOrFail alone fails rest z w → EndOrFail alone fails [] x w
  over_arms names rest actors x y z w b (ran, e, m) n =
      over_fresh names actors [] x y w b
      (over_parts ran rest names y z w (λ a h. elim (or_cases (has_name rest a) (has_name ran a) (sym (has_name_append rest ran a) ∙ sym (ap (λ l. has_name l a) e) ∙ h)) [ inl r ↦ inr r | inr s ↦ inl s ]) m n)

  -- where nobody is alone, this says which arms wait still
  module _ (actors committing names : List Name) (x y : World) where
    apart : (waits ran : List Name) → names ≡ waits ++ ran → Makes actors committing x y → (alone → ⊥) → EndBut alone fails names waits x y
    apart waits ran e m beside = (ran, e, record { stay = λ a h. still_ended x y a m h; ended = λ l. absurd (beside l) })

    pub none_apart : Makes actors committing x y → (alone → ⊥) → EndBut alone fails names names x y
    none_apart = apart names [] (sym (append-nil names))

    pub fewer_apart : (waits : List Name) (n : ℕ) → waits ≡ take n names → Makes actors committing x y → (alone → ⊥) → EndBut alone fails names waits x y
    fewer_apart waits n w = apart waits (drop n names) (sym (ap (λ l. l ++ drop n names) w ∙ take-append-drop n names))

module _ (alone : Type 0) (fails : Fault → Type 0) (actors committing names waits rest : List Name) (n : ℕ) (x y z : World) where
  pub more_apart : waits ≡ take n names → Makes actors committing x y → EndBut alone fails waits rest y z → (alone → ⊥)
      → EndBut alone fails names rest x z
  more_apart w m (ran, e, k) beside = (
    ran ++ drop n names,
    sym (take-append-drop n names) ∙ ap (λ l. l ++ drop n names) (sym w ∙ e) ∙ append_assoc rest ran (drop n names),
    record { stay = λ a h. k.stay a (still_ended x y a m h); ended = λ l. absurd (beside l) },
  )

-- ---- causes

module _ (fails : Fault → Type 0) where
  pub is_cause : {X : Type 0} (result : Result X Fault) → IfErr result fails → IfErr result (IsCause fails)
  is_cause (Ok x) h = tt
  is_cause (Err fault) h = inr h

  -- of two calls
  pub cause_of_both : {X Y : Type 0} (first : Result X Fault) (second : Result Y Fault) → IfErr first fails → IfErr second fails
      → IfErr (result_and first second) fails
  cause_of_both (Ok x) second p q = q
  cause_of_both (Err fault) second p q = p

  -- of an action, by its body and its end
  pub cause_at_end : {X : Type 0} (ran ended : Result X Fault) → IfErr ran (IsCause fails) → IfErr ran (λ fault. ended ≡ Err fault)
      → IfOk ran (λ x. IfErr ended (IsCause fails)) → IfErr ended (IsCause fails)
  cause_at_end (Ok x) ended p q r = r
  cause_at_end (Err fault) ended p q r = subst (λ e. IfErr e (IsCause fails)) (sym q) p

  -- of clients and one more
  pub cause_of_ends : (ends all : Result (Vec ClientEnd Global) Fault) (next : Result ClientEnd Fault) → listed all ≡ ends_with (listed ends) next
      → IfErr ends (IsCause fails) → IfErr next (IsCause fails) → IfErr all (IsCause fails)
  cause_of_ends ends (Ok all) next e p q = tt
  cause_of_ends (Err before) (Err fault) next e p q = let same : fault ≡ before = cc in subst (IsCause fails) (sym same) p
  cause_of_ends (Ok ends) (Err fault) (Err other) e p q = let same : fault ≡ other = cc in subst (IsCause fails) (sym same) q
  cause_of_ends (Ok ends) (Err fault) (Ok end) e p q = cc

  said_so : (ended said : Result Flow Fault) → IsSaid ended said → IfErr ended (IsCause fails) → IfErr said (IsCause fails)
  said_so ended (Ok flow) s h = tt
  said_so (Ok flow) (Err fault) s h = inl s.2
  said_so (Err was) (Err fault) s h = subst (λ r. IfErr r (IsCause fails)) (sym s.1) h

  beside_so : (arms one : Result Flow Fault) → IfErr arms (IsCause fails) → IfErr one (IsCause fails) → IfErr (gone_beside arms one) (IsCause fails)
  beside_so (Err fault) one p q = p
  beside_so (Ok flow) (Err fault) p q = q
  beside_so (Ok flow) (Ok other) p q = tt

  -- of arms
  pub cause_of_arms : (arms : List EndedArm) (before last : Result Flow Fault) → AreCauses fails arms → IfErr before (IsCause fails)
      → GoOn before (map (λ arm. arm.ended) arms) last → IfErr last (IsCause fails)
  cause_of_arms [] before last c b e = subst (λ r. IfErr r (IsCause fails)) (sym e) b
  cause_of_arms (arm ∷ arms) before last c b (said, s, more) =
      cause_of_arms arms (gone_beside before said) last c.1 (beside_so before said b (said_so arm.ended said s c.0)) more

-- a step that failed
pub step_fails : {M X : Type 0} (leaves : Step → Option Fault → M → M → Type 0) (step : Step) (old new : M) (result : Result X Fault)
    → leaves step (fault_in result) old new → IfErr result (StepFails leaves)
step_fails leaves step old new (Ok x) h = tt
step_fails leaves step old new (Err fault) h = record { step = step; old = old; new = new; left = h }
