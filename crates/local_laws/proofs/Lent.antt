-- The answer of each step by the registry's history and those of guardians is the defined one.
use Rattle.std.proofs.Common.{Bool, List, Some, [], ap, ap₂, arith, cond, drop, false, is_none, length, nat_lt, not, refl, reverse, suc, true, zero, ℕ, ◌&&◌, ◌++◌, ◌==◌, ◌∙◌, ◌∷◌, ◌≡◌, ◌≤◌, ◌||◌}
use Rattle.std.proofs.lemmas.Bool.{eqb-false, ltb-false, or_left, or_parts, or_right, true≢false}
use Rattle.std.proofs.lemmas.List.{reverse-append}
use Rattle.std.specs.List.{list_all, list_any}
use Rattle.action_names.specs.Names.{Name, child_of, has_name}
use Rattle.run_model.specs.declared.answer.Answer.{Answer}
use Rattle.run_model.specs.declared.answer.Answer.TheVariants.{Began, Done, VoteNo, VoteYes}
use Rattle.run_model.specs.declared.answer.Refusal.{Refusal}
use Rattle.run_model.specs.declared.answer.Refusal.TheVariants as why
use Rattle.run_model.specs.declared.history.Event.{Event}
use Rattle.run_model.specs.declared.step.Step.{Step}
use Rattle.run_model.specs.declared.step.Step.TheVariants.{Abort, Arms, Call, Close, Commit, Crash, Decide, NestedTop, Op, Prepare, Recover, Tell, Top}
use Rattle.run_model.specs.Actions.{home_of, is_begun, is_down, is_gone}
use Rattle.run_model.specs.Answers.{answer_by, answer_of, outcome_by, refused_or, results_of}
use Rattle.run_model.specs.Lists.{down_from, guardians_of}
use Rattle.run_model.specs.LocalHistories.{RegistryEvent, Stamped, answer_lent, events_of, events_there, facts_lent, local_history, registry_history, results_lent}
use Rattle.run_model.specs.LocalReadings.{LocalEvent, count_here, is_orphan_here}
use Rattle.run_model.specs.Refusals.{Check, Facts, arm_names, checks_by, facts_of, first_refusal, no_guardian}
use Rattle.run_model.specs.Openings.{Opening, first_content}
use Rattle.run_model.specs.Runs.{IsRun}
use Rattle.run_model.specs.Votes.{all_prepared, is_number, may_prepare}
use Rattle.run_laws.proofs.Names.{eqb_self}
use Rattle.local_laws.specs.Registries.{AnswersSame, IsRegistrySame}
use Rattle.local_laws.specs.Rosters.{own_events}
use Rattle.local_laws.proofs.Actions.{action_same}
use Rattle.local_laws.proofs.Bare.{objects_alike}
use Rattle.local_laws.proofs.Operations.{orphans_same, tellings_same}
use Rattle.local_laws.proofs.Registry.{registry_dependencies_same, registry_same}
use Rattle.local_laws.proofs.Roster.{guardian_same}
use Rattle.local_laws.proofs.Told.{told_same}

-- a check that is the same, and what follows where it does not apply
past_check : (c : Check) (rest rest' : List Check) (o o' : Answer)
    → (c.1 ≡ false → refused_or (first_refusal rest) o ≡ refused_or (first_refusal rest') o')
    → refused_or (first_refusal (c ∷ rest)) o ≡ refused_or (first_refusal (c ∷ rest')) o'
past_check c rest rest' o o' h = of c.1 h
  where
    of : (t : Bool) → (t ≡ false → refused_or (first_refusal rest) o ≡ refused_or (first_refusal rest') o')
        → refused_or (cond t (Some c.0) (first_refusal rest)) o ≡ refused_or (cond t (Some c.0) (first_refusal rest')) o'
    of true h = refl
    of false h = h refl

-- the check that an action was begun
past_action : (n : Refusal) (x y : Bool) → x ≡ y → (rest rest' : List Check) (o o' : Answer)
    → (y ≡ true → refused_or (first_refusal rest) o ≡ refused_or (first_refusal rest') o')
    → refused_or (first_refusal ((n, not x) ∷ rest)) o ≡ refused_or (first_refusal ((n, not y) ∷ rest')) o'
past_action n x y q rest rest' o o' h =
    ap (λ t. refused_or (first_refusal ((n, not t) ∷ rest)) o) q
    ∙ past_check (n, not y) rest rest' o o' (λ k. h (unnot y k))
  where
    unnot : (t : Bool) → not t ≡ false → t ≡ true
    unnot true k = refl
    unnot false k = absurd (true≢false k)

-- a guardian that is not refused is one of the opening
any_snoc : (p : ℕ → Bool) (xs : List ℕ) (x : ℕ) → list_any p (xs ++ x ∷ []) ≡ (p x || list_any p xs)
any_snoc p [] x = refl
any_snoc p (y ∷ ys) x = ap (λ t. p y || t) (any_snoc p ys x) ∙ turn (p y) (p x) (list_any p ys)
  where
    turn : (a b c : Bool) → (a || (b || c)) ≡ (b || (a || c))
    turn true true c = refl
    turn true false c = refl
    turn false b c = refl

any_reverse : (p : ℕ → Bool) (xs : List ℕ) → list_any p (reverse xs) ≡ list_any p xs
any_reverse p [] = refl
any_reverse p (x ∷ xs) =
    ap (λ l. list_any p l) (reverse-append (x ∷ []) xs) ∙ any_snoc p (reverse xs) x ∙ ap (λ t. p x || t) (any_reverse p xs)

counted_down : (n g : ℕ) → (g ≡ 0 → ⊥) → g ≤ n → list_any (λ k. k == g) (down_from n) ≡ true
counted_down zero g z l = absurd (z (omega arith))
counted_down (suc n) g z l = of (suc n == g) refl (counted_down n g z)
  where
    lower : (suc n == g) ≡ false → g ≤ n
    lower q = let d = eqb-false (suc n) g q in below d
      where
        below : (suc n ≡ g → ⊥) → g ≤ n
        below d = omega arith

    of : (t : Bool) → (suc n == g) ≡ t → (g ≤ n → list_any (λ k. k == g) (down_from n) ≡ true) → ((suc n == g) || list_any (λ k. k == g) (down_from n)) ≡ true
    of true q ih = or_left _ _ q
    of false q ih = or_right _ _ (ih (lower q))

pub in_setup : (opening : Opening) (g : ℕ) → ((g == 0) || nat_lt (length opening.setup) g) ≡ false → list_any (λ k. k == g) (guardians_of opening) ≡ true
in_setup opening g h =
    let p = or_parts _ _ h in
    any_reverse (λ k. k == g) (down_from (length opening.setup)) ∙ counted_down (length opening.setup) g (eqb-false g 0 p.0) (ltb-false (length opening.setup) g p.1)

-- tests of the numbers of a list that agree there
all_of : (p q : ℕ → Bool) (ns : List ℕ) → ((n : ℕ) → list_any (λ k. k == n) ns ≡ true → p n ≡ q n) → list_all p ns ≡ list_all q ns
all_of p q [] h = refl
all_of p q (n ∷ ns) h = ap₂ ◌&&◌ (h n (or_left _ _ (eqb_self n))) (all_of p q ns (λ m k. h m (or_right _ _ k)))

-- the facts that a step is lent, as far as they are those of the flat history
record IsLent (f : Facts) (opening : Opening) (past : List Event) : Type 0 where
  begun : (a : Name) → f.begun a ≡ is_begun a past
  ended : (a : Name) → f.ended a ≡ (facts_of opening past).ended a
  done : (a : Name) → f.done a ≡ (facts_of opening past).done a
  closed : (a : Name) → f.closed a ≡ (facts_of opening past).closed a
  busy : (a : Name) → f.busy a ≡ (facts_of opening past).busy a
  home : (a : Name) → f.home a ≡ home_of a past
  next : (a : Name) → f.next a ≡ (facts_of opening past).next a
  ready : (t : Name) → f.ready t ≡ all_prepared opening t past
  down : (g : ℕ) → f.down g ≡ is_down g past
  voted : (g : ℕ) (t : Name) → f.voted g t ≡ (facts_of opening past).voted g t
  told : (g : ℕ) (a : Name) → f.told g a ≡ (facts_of opening past).told g a
  gone : (a : Name) → is_begun a past ≡ true → f.gone a ≡ is_gone a past
  orphan : (a : Name) → is_begun a past ≡ true → f.orphan a ≡ (facts_of opening past).orphan a
  takes_part : (g : ℕ) (t : Name) → list_any (λ k. k == g) (guardians_of opening) ≡ true → f.takes_part g t ≡ (facts_of opening past).takes_part g t

lent : (opening : Opening) (run : List Stamped) → IsRun opening (events_of run)
    → IsLent (facts_lent opening (registry_history opening run) (λ g. local_history opening run g)) opening (events_of run)
lent opening run r = record {
  begun = λ a. ap (λ l. has_name l a) s.begun;
  ended = ended;
  done = λ a. ap₂ ◌||◌ (ended a) (s.closed a);
  closed = λ a. s.closed a;
  busy = λ a. s.busy a;
  home = λ a. s.home a;
  next = λ a. s.next opening a;
  ready = λ t. all_of _ _ (guardians_of opening) (λ g k. ap₂ (λ d p. is_none d || p) (registry_dependencies_same opening run t g r k) (s.prepared g t));
  down = λ g. (guardian_same opening run g r).down;
  voted = λ g t. s.voted g t;
  told = λ g a. told_same opening run g a r;
  gone = λ a b. ap (λ g. is_gone a (own_events opening run g)) (s.home a) ∙ (action_same opening run (home_of a past) a r b refl).gone;
  orphan = λ a b. ap (λ g. is_orphan_here opening g (local_history opening run g) a) (s.home a) ∙ orphans_same opening run (home_of a past) a r b refl;
  takes_part = λ g t k. ap (λ d. not (is_none d)) (registry_dependencies_same opening run t g r k);
}
  where
    past : List Event
    past = events_of run

    s : IsRegistrySame (events_there (registry_history opening run)) past
    s = registry_same opening run r

    ended : (a : Name) → (facts_of opening (events_there (registry_history opening run))).ended a ≡ (facts_of opening past).ended a
    ended a = ap₂ ◌||◌ (s.committed a) (s.aborted a)

-- of each step
by_step : (opening : Opening) (run : List Stamped) → IsRun opening (events_of run) → (step : Step)
    → answer_lent opening (registry_history opening run) (λ g. local_history opening run g) step
    ≡ answer_by opening (facts_of opening (events_of run)) (results_of opening (events_of run)) step
by_step opening run r step = of step
  where
    past : List Event
    past = events_of run

    histories : ℕ → List LocalEvent
    histories g = local_history opening run g

    registry : List RegistryEvent
    registry = registry_history opening run

    l : IsLent (facts_lent opening registry histories) opening past
    l = lent opening run r

    f : Facts
    f = facts_lent opening registry histories

    F : Facts
    F = facts_of opening past

    own : Step → Answer
    own step = outcome_by f.next (results_lent opening registry histories) step

    flat : Step → Answer
    flat step = outcome_by F.next (results_of opening past) step

    -- what follows the check of an action
    action_first : (step : Step) (a : Name)
        → (is_begun a past ≡ true → refused_or (first_refusal (drop 1 (checks_by opening f step))) (own step) ≡ refused_or (first_refusal (drop 1 (checks_by opening F step))) (flat step))
        → refused_or (first_refusal ((why.NoAction, not (f.begun a)) ∷ drop 1 (checks_by opening f step))) (own step)
        ≡ refused_or (first_refusal ((why.NoAction, not (is_begun a past)) ∷ drop 1 (checks_by opening F step))) (flat step)
    action_first step a h =
        past_action why.NoAction (f.begun a) (is_begun a past) (l.begun a) (drop 1 (checks_by opening f step)) (drop 1 (checks_by opening F step)) (own step) (flat step) h

    action_second : (step : Step) (g : ℕ) (a : Name)
        → ((no_guardian opening g).1 ≡ false → is_begun a past ≡ true
        → refused_or (first_refusal (drop 2 (checks_by opening f step))) (own step) ≡ refused_or (first_refusal (drop 2 (checks_by opening F step))) (flat step))
        → refused_or (first_refusal (no_guardian opening g ∷ (why.NoAction, not (f.begun a)) ∷ drop 2 (checks_by opening f step))) (own step)
        ≡ refused_or (first_refusal (no_guardian opening g ∷ (why.NoAction, not (is_begun a past)) ∷ drop 2 (checks_by opening F step))) (flat step)
    action_second step g a h =
        past_check (no_guardian opening g) ((why.NoAction, not (f.begun a)) ∷ drop 2 (checks_by opening f step))
        ((why.NoAction, not (is_begun a past)) ∷ drop 2 (checks_by opening F step)) (own step) (flat step)
        (λ k. past_action why.NoAction (f.begun a) (is_begun a past) (l.begun a) (drop 2 (checks_by opening f step)) (drop 2 (checks_by opening F step)) (own step) (flat step) (h k))

    -- the facts, without those that agree of some actions and guardians alone
    without : Facts → Facts
    without s = record s { gone = λ c. false; orphan = λ c. false; takes_part = λ g t. false }

    alike : without f ≡ without F
    alike = λ i. record {
      begun = λ c. l.begun c i;
      ended = λ c. l.ended c i;
      done = λ c. l.done c i;
      closed = λ c. l.closed c i;
      busy = λ c. l.busy c i;
      gone = λ c. false;
      orphan = λ c. false;
      ready = λ t. l.ready t i;
      home = λ c. l.home c i;
      next = λ c. l.next c i;
      down = λ g. l.down g i;
      takes_part = λ g t. false;
      voted = λ g t. l.voted g t i;
      told = λ g c. l.told g c i;
    }

    -- with those of an action that was begun
    with_action : Name → Facts → Facts
    with_action a s = record (without s) { gone = λ c. s.gone a; orphan = λ c. s.orphan a }

    alike_at : (a : Name) → is_begun a past ≡ true → with_action a f ≡ with_action a F
    alike_at a b = λ i. record (alike i) { gone = λ c. l.gone a b i; orphan = λ c. l.orphan a b i }

    -- the answer by these facts where the first of a step's refusals do not apply
    behind : ℕ → Step → Facts → Answer → Answer
    behind n step s outcome = refused_or (first_refusal (drop n (checks_by opening s step))) outcome

    of : (step : Step) → answer_lent opening registry histories step ≡ answer_by opening (facts_of opening past) (results_of opening past) step
    of (Top g) = λ i. behind 0 (Top g) (alike i) (Began (((alike i).next [] ∷ []) ∷ []))
    of (NestedTop a) = action_first (NestedTop a) a (λ b i. behind 1 (NestedTop a) (alike_at a b i) (Began (((alike i).next [] ∷ []) ∷ [])))
    of (Call a g) = action_second (Call a g) g a (λ k b i. behind 2 (Call a g) (alike_at a b i) (Began (child_of a ((alike i).next a) ∷ [])))
    of (Arms a kinds) =
        action_first (Arms a kinds) a (λ b i.
        behind 1 (Arms a kinds) (alike_at a b i) (Began (arm_names a ((alike i).next a) ((alike i).next []) kinds)))
    of (Op a x wanted) =
        action_second (Op a x wanted) x.guardian a (λ k b i.
        behind 2 (Op a x wanted) (alike_at a b i) ((objects_alike opening run x r).operated (first_content opening x) a wanted i))
    of (Commit a) = action_first (Commit a) a (λ b i. behind 1 (Commit a) (alike_at a b i) (Done 0))
    of (Close t) = action_first (Close t) t (λ b i. behind 1 (Close t) (alike_at t b i) (Done 0))
    of (Prepare g t) =
        action_second (Prepare g t) g t (λ k b i.
        behind 2 (Prepare g t) (record (alike_at t b i) { takes_part = λ h c. l.takes_part g t (in_setup opening g k) i }) (cond (vote k i) VoteYes VoteNo))
      where
        vote : ((g == 0) || nat_lt (length opening.setup) g) ≡ false → (results_lent opening registry histories).vote g t ≡ may_prepare g t past
        vote k = ap₂ is_number (registry_dependencies_same opening run t g r (in_setup opening g k)) (guardian_same opening run g r).crashes
    of (Decide t) = action_first (Decide t) t (λ b i. behind 1 (Decide t) (alike_at t b i) (Done 0))
    of (Abort a) = action_first (Abort a) a (λ b i. behind 1 (Abort a) (alike i) (Done 0))
    of (Tell g a) = λ i.
        behind 0 (Tell g a) (alike i)
        (Done ((ap (λ c. count_here opening g a c (histories g)) ((registry_same opening run r).committed a) ∙ tellings_same opening run g a r) i))
    of (Crash g) = λ i. behind 0 (Crash g) (alike i) (Done 0)
    of (Recover g) = λ i. behind 0 (Recover g) (alike i) (Done 0)

-- the law
pub answers_same : AnswersSame
unfolding answer_of
answers_same opening run step r = by_step opening run r step
