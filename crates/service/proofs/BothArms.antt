-- Arms of an action: how they begin, and what comes of both.
use Rattle.std.proofs.Common.{Bool, List, None, Option, Some, [], ap, arith, eqb-true, false, inl, inr, refl, subst, suc, sym, true, ℕ, ◌&&◌, ◌++◌, ◌==◌, ◌∙◌, ◌∷◌, ◌≡◌, ◌⊎◌}
use Rattle.std.proofs.lemmas.Bool.{and_from, and_parts, false_from_ne_true, false≢true, or_cases, or_left, or_right}
use Rattle.std.proofs.lemmas.List.{append_cancel_right}
use Rattle.std.specs.Option.{option_or}
use Rattle.action_names.specs.Names.{Name, child_of, has_name, is_prefix, same_name}
use Rattle.run_model.specs.declared.answer.Answer.TheVariants as answers
use Rattle.run_model.specs.declared.answer.Refusal.{Refusal}
use Rattle.run_model.specs.declared.history.Event.{Event}
use Rattle.run_model.specs.declared.step.Step.{Step}
use Rattle.run_model.specs.declared.step.Step.TheVariants as steps
use Rattle.run_model.specs.Actions.{is_begun, is_committed, next_number, step_commits, step_crashes}
use Rattle.run_model.specs.Answers.{answer_of, outcome, refused_or}
use Rattle.run_model.specs.Openings.{Opening, opening_in}
use Rattle.run_model.specs.Refusals.{checks, first_refusal}
use Rattle.run_model.specs.Telling.{told_since_crash}
use Rattle.run_model.specs.Votes.{step_votes}
use Rattle.run_laws.proofs.Begun.{ancestor_begun, begun_cases, begun_once}
use Rattle.run_laws.proofs.Growth.{begun_stays, followed}
use Rattle.run_laws.proofs.Names.{clash, same_name_self, same_name_true}
use Rattle.stepping.specs.Beside.{OwnRun, Sees, started}
use Rattle.service.specs.Arms.{AreJoined, any_step}
use Rattle.service.specs.Together.{BeginArms, arms_of}
use Rattle.service.specs.Transacting.{AllSettled, AllVotersTold, AreOwn, Began, EndedAndTold, FallsShort, Goes, IsSettled, Works, began_at, begins_arms, belongs, finishes, in_arm, is_below, works_with}
use Rattle.service.specs.declared.fault.CallFault.{CallFault}
use Rattle.service.proofs.Going.{both_began, child_below, goes_grows, goes_none, kept, own_wider, prefix_self, settled_where, short_wider, with_back, with_crashes_not, with_each, with_front, work_commits_not, works_begun}
use Rattle.service.proofs.Joined.{any_joined, began_there, begun_joined, ended_there, joined_goes, one_part, other_part, own_at, settled_there, told_there}
use Rattle.service.proofs.Others.{commits_no_other}
use Rattle.service.proofs.Parts.{begun_seen}

-- ---- names

-- different children are not above one another
children_apart : (a : Name) (m n : ℕ) → (m == n) ≡ false → is_prefix (child_of a m) (child_of a n) ≡ false
children_apart [] m n e = ap (λ b. b && true) e
children_apart (x ∷ a) m n e = false_from_ne_true _ (λ h. clash (and_parts _ _ h).1 (children_apart a m n e))

-- the names of two arms are children's, one after the other
arms_named : (opening : Opening) (a : Name) (past : List Event) (one other : Name)
    → answer_of opening (arms_of a) past ≡ answers.Began (one ∷ other ∷ [])
    → (one ≡ child_of a (next_number opening a past)) × (other ≡ child_of a (suc (next_number opening a past)))
unfolding answer_of
arms_named opening a past one other h = by (first_refusal (checks opening (arms_of a) past)) h
  where
    n : ℕ
    n = next_number opening a past

    two : answers.Began (child_of a n ∷ child_of a (suc n) ∷ []) ≡ answers.Began (one ∷ other ∷ []) → (one ≡ child_of a n) × (other ≡ child_of a (suc n))
    two e = (cc, cc)

    by : (o : Option Refusal) → refused_or o (outcome opening (arms_of a) past) ≡ answers.Began (one ∷ other ∷ [])
        → (one ≡ child_of a n) × (other ≡ child_of a (suc n))
    by None h = two h
    by (Some why) h = cc

less_than_next : (n : ℕ) → (n == suc n) ≡ false
less_than_next n = false_from_ne_true _ (λ h. let e : n ≡ suc n = eqb-true n (suc n) h in absurd (omega arith))

more_than_before : (n : ℕ) → (suc n == n) ≡ false
more_than_before n = false_from_ne_true _ (λ h. let e : suc n ≡ n = eqb-true (suc n) n h in absurd (omega arith))

-- what is known of the names of two arms
pub record AreSiblings (a one other : Name) : Type 0 where
  pub one_below : is_below a one ≡ true
  pub other_below : is_below a other ≡ true
  pub one_apart : is_prefix one other ≡ false
  pub other_apart : is_prefix other one ≡ false

-- a top action that begins later is above no action that began before
own_apart : (sees : Sees) (mine : Step → Bool) (x : OwnRun) (recent : List Event) (n : ℕ) (s : Name) → AreOwn sees mine x recent
    → is_begun (n ∷ []) recent ≡ true → is_begun s x.past ≡ true → is_prefix (n ∷ []) s ≡ false
own_apart sees mine x [] n s own h k = absurd (false≢true h)
own_apart sees mine x (e ∷ recent) n s own h k = elim (begun_cases e recent (n ∷ []) h) [
  | inl j ↦
      false_from_ne_true _ (λ above.
      let given = own.2 in
      let opening = opening_in x.lists in
      let there = begun_seen given.part s (begun_stays s (followed recent x.past) k) in
      clash j
      (begun_once opening e given.seen (n ∷ []) (given.answered, own.1, given.run)
      (ancestor_begun opening given.seen (n ∷ []) s given.run there above)))
  | inr j ↦ own_apart sees mine x recent n s own.3 j k
]

module _ {sees : Sees} where
  pub siblings : (a one other : Name) (x begun : OwnRun) → BeginArms sees a one other x begun → AreSiblings a one other
  siblings a one other x begun begins =
      let opening = opening_in x.lists in
      let n = next_number opening a begins.answer.seen in
      let (p, q) = arms_named opening a begins.answer.seen one other (sym begins.answer.answered) in
      record {
        one_below = subst (λ c. is_below a c ≡ true) (sym p) (child_below a n);
        other_below = subst (λ c. is_below a c ≡ true) (sym q) (child_below a (suc n));
        one_apart =
            subst (λ c. is_prefix one c ≡ false) (sym q)
            (subst (λ c. is_prefix c (child_of a (suc n)) ≡ false) (sym p) (children_apart a n (suc n) (less_than_next n)));
        other_apart =
            subst (λ c. is_prefix other c ≡ false) (sym p)
            (subst (λ c. is_prefix c (child_of a n) ≡ false) (sym q) (children_apart a (suc n) n (more_than_before n)));
      }

  pub begun_arms : (a s t : Name) (x begun : OwnRun) → BeginArms sees a s t x begun → begins_arms begun.past ≡ true
  begun_arms a s t x begun begins = ap (λ (w : OwnRun). begins_arms w.past) begins.after

  -- an arm began at the action's home
  pub arm_began : (a s t : Name) (x begun : OwnRun) → BeginArms sees a s t x begun → (home : ℕ) → began_at home a x.past ≡ true → (b : Name)
      → has_name (s ∷ t ∷ []) b ≡ true → began_at home b begun.past ≡ true
  arm_began a s t x begun begins home there b i =
      ap (λ (w : OwnRun). began_at home b w.past) begins.after ∙ or_left _ _ (and_from _ _ i there)

  -- so none that began in between is above one that began before
  pub top_apart : (mine : Step → Bool) (x y : OwnRun) (t s : Name) → Goes sees mine x y → Began t x y → is_begun s x.past ≡ true
      → is_prefix t s ≡ false
  top_apart mine x y t s a b k =
      subst (λ c. is_prefix c s ≡ false) (sym b.named)
      (own_apart sees mine x a.later b.number s a.own
      (subst (λ c. is_begun c a.later ≡ true) b.named
      (subst (λ recent. is_begun t recent ≡ true) (append_cancel_right b.recent a.later x.past (sym b.parts ∙ a.past)) b.begun)) k)

  -- ---- what an arm commits

  module _ (s : Name) (x y : OwnRun) (was is : Option CallFault) (work : Works sees s x y was is) where
    tops_commit_not : (b : Name) → is_begun b x.past ≡ true → (t : Name) → has_name work.tops t ≡ true → (step : Step)
        → belongs t step ≡ true → step_commits step b ≡ false
    tops_commit_not b k t i step own =
        commits_no_other t b (top_apart (works_with work.tops s) x y t b work.goes (work.began t i) k) step own

    -- work commits neither its own action nor one that is not below and began before
    pub work_commits_not_own : is_begun s x.past ≡ true → is_committed s y.past ≡ is_committed s x.past
    work_commits_not_own k =
        kept (λ step. step_commits step s) (works_with work.tops s) x y
        (λ step own.
        with_each (λ c. step_commits c s ≡ false) work.tops s step (work_commits_not s step) (λ t i h. tops_commit_not s k t i step h) own)
        work.goes

    pub work_commits_not_beside : (b : Name) → is_prefix s b ≡ false → is_begun b x.past ≡ true → is_committed b y.past ≡ is_committed b x.past
    work_commits_not_beside b out k =
        kept (λ step. step_commits step b) (works_with work.tops s) x y
        (λ step own.
        with_each (λ c. step_commits c b ≡ false) work.tops s step (λ h. commits_no_other s b out step (or_left _ _ h))
        (λ t i h. tops_commit_not b k t i step h) own)
        work.goes

pub finishes_commits_no_other : (s b : Name) → is_prefix s b ≡ false → (step : Step) → finishes s step ≡ true → step_commits step b ≡ false
finishes_commits_no_other s b out (steps.Commit c) h =
    false_from_ne_true _ (λ p.
    clash (subst (λ d. is_prefix s d ≡ true) (same_name_true s c h ∙ same_name_true c b p) (prefix_self s)) out)
finishes_commits_no_other s b out (steps.Decide c) h = absurd (false≢true h)
finishes_commits_no_other s b out _ h = refl

-- an action of another name, beside which it is
pub finishes_commits_not : (s b : Name) → same_name s b ≡ false → (step : Step) → finishes s step ≡ true → step_commits step b ≡ false
finishes_commits_not s b out (steps.Commit c) h =
    false_from_ne_true _ (λ p.
    clash (subst (λ d. same_name s d ≡ true) (same_name_true s c h ∙ same_name_true c b p) (same_name_self s)) out)
finishes_commits_not s b out (steps.Decide c) h = absurd (false≢true h)
finishes_commits_not s b out _ h = refl

-- ---- the works of both arms, as work of the action

-- no fault was kept, and none came
none_of_three : (was one other : Option CallFault) → option_or (option_or was one) other ≡ None → (was ≡ None) × (one ≡ None) × (other ≡ None)
none_of_three None None other h = (refl, refl, h)
none_of_three None (Some f) other h = cc
none_of_three (Some f) one other h = cc

some_of_three : (was one other : Option CallFault) (fault : CallFault) → option_or (option_or was one) other ≡ Some fault
    → (was ≡ Some fault) ⊎ ((one ≡ Some fault) ⊎ (other ≡ Some fault))
some_of_three (Some f) one other fault h = inl h
some_of_three None (Some f) other fault h = inr (inl h)
some_of_three None None other fault h = inr (inr h)

short_of_none : (fault : CallFault) {So : Type 0} → (None ≡ Some fault) ⊎ So → So
short_of_none fault (inl h) = cc
short_of_none fault (inr so) = so

module _ {sees : Sees} (a : Name) (begun : OwnRun) (since : List (List Event)) (one other new : OwnRun) (j : AreJoined sees begun since one other new)
    (arms : begins_arms begun.past ≡ true) (left right : Option CallFault) (u : Works sees a (started begun since) one None left)
    (v : Works sees a (started begun since) other None right) where
  abbrev start : OwnRun
  start = started begun since

  abbrev mine : Step → Bool
  mine = works_with (u.tops ++ v.tops) a

  one_wider : (step : Step) → works_with u.tops a step ≡ true → mine step ≡ true
  one_wider = with_front u.tops v.tops a

  other_wider : (step : Step) → works_with v.tops a step ≡ true → mine step ≡ true
  other_wider = with_back u.tops v.tops a

  goes : Goes sees mine begun new
  goes = joined_goes begun since one other new j (works_with u.tops a) (works_with v.tops a) mine one_wider other_wider u.goes v.goes

  crashes_not : (g : ℕ) (step : Step) → mine step ≡ true → step_crashes step g ≡ false
  crashes_not = with_crashes_not (u.tops ++ v.tops) a

  one_settled : (b : Name) → IsSettled b one → IsSettled b new
  one_settled = settled_there begun since one new j.of_one j.of_both (one_part j.merge) mine crashes_not goes

  other_settled : (b : Name) → IsSettled b other → IsSettled b new
  other_settled = settled_there begun since other new j.of_other j.of_both (other_part j.merge) mine crashes_not goes

  one_told : (g : ℕ) (b : Name) → told_since_crash g b one.past ≡ true → told_since_crash g b new.past ≡ true
  one_told = told_there begun since one new j.of_one j.of_both (one_part j.merge) mine crashes_not goes

  other_told : (g : ℕ) (b : Name) → told_since_crash g b other.past ≡ true → told_since_crash g b new.past ≡ true
  other_told = told_there begun since other new j.of_other j.of_both (other_part j.merge) mine crashes_not goes

  -- an arm's run, by steps of the action
  arm_goes : (p : Step → Bool) (arm : OwnRun) (own : Goes sees any_step start arm) → ((s : Step) → p s ≡ true → mine s ≡ true) → Goes sees p start arm
      → Goes sees mine start arm
  arm_goes p arm own f a = record {
    lists = own.lists;
    since = own.since;
    later = own.later;
    past = own.past;
    own = own_wider sees p mine start f own.later (own_at p start arm own.later a own.past);
  }

  one_short : (fault : CallFault) → left ≡ Some fault → FallsShort sees mine begun new fault
  unfolding arm_goes goes joined_goes
  one_short fault h =
      in_arm begun one new since (goes_none mine begun) arms (arm_goes (works_with u.tops a) one j.of_one one_wider u.goes)
      (short_wider (works_with u.tops a) mine start one fault one_wider (short_of_none fault (u.short fault h))) goes (one_part j.merge)
      (goes_none mine new)

  other_short : (fault : CallFault) → right ≡ Some fault → FallsShort sees mine begun new fault
  unfolding arm_goes goes joined_goes
  other_short fault h =
      in_arm begun other new since (goes_none mine begun) arms (arm_goes (works_with v.tops a) other j.of_other other_wider v.goes)
      (short_wider (works_with v.tops a) mine start other fault other_wider (short_of_none fault (v.short fault h))) goes (other_part j.merge)
      (goes_none mine new)

  all_settled : left ≡ None → right ≡ None → AllSettled begun new
  all_settled l r b fresh old = elim (begun_joined begun since one other new j b fresh) [
    | inl k ↦ one_settled b ((u.settled l).1 b k old)
    | inr k ↦ other_settled b ((v.settled r).1 b k old)
  ]

  all_told : left ≡ None → right ≡ None → AllVotersTold begun new
  all_told l r t g fresh old = elim (any_joined begun since one other new j (λ e. step_votes e.step g t) fresh) [
    | inl k ↦ one_told g t ((u.settled l).2 t g k old)
    | inr k ↦ other_told g t ((v.settled r).2 t g k old)
  ]

  pub works_joined : (was : Option CallFault) → Works sees a begun new was (option_or (option_or was left) right)
  works_joined was = record {
    tops = u.tops ++ v.tops;
    began =
        both_began u.tops v.tops begun new
        (λ t i. began_there begun since one new j.of_one j.of_both (one_part j.merge) t (u.began t i))
        (λ t i. began_there begun since other new j.of_other j.of_both (other_part j.merge) t (v.began t i));
    goes = goes;
    settled = λ h. let (w, l, r) = none_of_three was left right h in (w, all_settled l r, all_told l r);
    short = λ fault h. elim (some_of_three was left right fault h) [
      | inl k ↦ inl k
      | inr k ↦ elim k [ inl l ↦ inr (one_short fault l) | inr r ↦ inr (other_short fault r) ]
    ];
  }

  -- the arms themselves are settled, where each was told of
  module _ (x : OwnRun) (s t : Name) (home : ℕ) (was : Option CallFault) (begins : BeginArms sees a s t x begun) (there : began_at home a x.past ≡ true)
      (s_told : left ≡ None → EndedAndTold s home one) (t_told : right ≡ None → EndedAndTold t home other) where
    abbrev is : Option CallFault
    is = option_or (option_or was left) right

    began_home : (b : Name) → has_name (s ∷ t ∷ []) b ≡ true → began_at home b begun.past ≡ true
    began_home = arm_began a s t x begun begins home there

    arms_settled : is ≡ None → (b : Name) → has_name (s ∷ t ∷ []) b ≡ true → IsSettled b new
    arms_settled h b i =
        let (w, l, r) = none_of_three was left right h in
        let grows = goes_grows mine begun new goes in
        elim (or_cases (same_name s b) (has_name (t ∷ []) b) i) [
          | inl k ↦
              let (ended, told) = s_told l in
              subst (λ c. IsSettled c new) (same_name_true s b k)
              (settled_where s home begun new (began_home s (or_left _ _ (same_name_self s))) grows
              (ended_there begun since one new j.of_one j.of_both (one_part j.merge) s ended, one_told home s told))
          | inr k ↦ elim (or_cases (same_name t b) false k) [
            | inl e ↦
                let (ended, told) = t_told r in
                subst (λ c. IsSettled c new) (same_name_true t b e)
                (settled_where t home begun new (began_home t (or_right (same_name s t) _ (or_left _ _ (same_name_self t)))) grows
                (ended_there begun since other new j.of_other j.of_both (other_part j.merge) t ended, other_told home t told))
            | inr e ↦ absurd (false≢true e)
          ]
        ]

    pub works_of_arms : Works sees a x new was is
    works_of_arms =
        works_begun a (arms_of a) (s ∷ t ∷ []) x begun new was is (prefix_self a) begins.answer begins.after (works_joined was) arms_settled
