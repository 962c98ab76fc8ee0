-- Arms that ended, as work of their action, and which of its children have committed then.
use Rattle.std.proofs.Common.{Bool, Err, List, None, Ok, OnErr, Option, Result, Some, ap, false, inl, inr, refl, subst, sym, true, ℕ, ◌∙◌, ◌∷◌, [], ◌≡◌}
use mathlib.Core.Bool.{Bool-set}
use Rattle.std.proofs.Math.Logic.{∥∥₁_elim, ∥∥₁_map}
use Rattle.std.proofs.lemmas.Bool.{and_parts, false_from_ne_true, false≢true, not-true, or_left, or_right}
use Rattle.std.specs.Prelude.{OnOk}
use Rattle.std.specs.Result.{is_ok}
use Rattle.action_names.specs.Names.{Name, has_name, is_prefix, parent_of, same_name}
use Rattle.run_model.specs.declared.answer.Answer.TheVariants as answers
use Rattle.run_model.specs.declared.step.Step.TheVariants as steps
use Rattle.run_model.specs.declared.history.Event.{Event}
use Rattle.run_model.specs.Actions.{is_begun, is_committed, step_commits}
use Rattle.run_laws.proofs.Growth.{Follows, committed_stays, here}
use Rattle.run_laws.proofs.Names.{clash, same_name_self}
use Rattle.stepping.specs.Beside.{OwnRun, Sees, started}
use Rattle.service.specs.Arms.{AreJoined, any_step}
use Rattle.service.specs.Calling.{ComesToNothing}
use Rattle.service.specs.Together.{BeginArms, CommitsNoOther, EndsArm, HasRoomAgain, RunsInArm, arms_of}
use Rattle.service.specs.Transacting.{Began, EndedAndTold, Goes, Includes, Settles, Works, finishes, is_below, settles, works_in}
use Rattle.service.specs.Working.{Does, IsResultOf}
use Rattle.service.specs.declared.fault.CallFault.{CallFault}
use Rattle.service.specs.declared.place.Place.{Place}
use Rattle.service.proofs.BothArms.{AreSiblings, finishes_commits_no_other, finishes_commits_not, siblings, work_commits_not_beside, work_commits_not_own}
use Rattle.service.proofs.Concluded.{settles_commits_not}
use Rattle.service.proofs.Going.{began_within, goes_grows, goes_one, kept, prefix_self, step_kept, works_ended}
use Rattle.service.proofs.Joined.{any_joined, began_there, begins_more, committed_there, one_part, other_part}
use Rattle.service.proofs.Parts.{begun_is_uncommitted}
use Rattle.service.proofs.Undone.{work_commits_none}

-- ---- one arm

-- what is kept is one
pub some_same : {A : Type 0} {x y : A} → Some x ≡ Some y → x ≡ y
some_same e = cc

-- a result that is a value
value_so : {T E So : Type 0} (r : Result T E) → OnOk r So → is_ok r ≡ true → So
value_so (Ok x) so h = so
value_so (Err x) so h = absurd (false≢true h)

module _ {J T E : Type 0} {sees : Sees} {does : Does J T E} {comes : CallFault → E → Type 0} (at now : Place) (begun run : OwnRun)
    (before after : J) (kept_result : Option (Result T E)) (e : EndsArm sees does comes at now begun run before after kept_result) where
  abbrev arm : Name
  arm = at.action

  abbrev mid : Option CallFault
  mid = e.left.left

  pub arm_settles : Settles sees (finishes arm) e.worked run mid now.left (EndedAndTold arm at.home run)
  arm_settles =
      subst (λ h. Settles sees (finishes arm) e.worked run mid now.left (EndedAndTold arm h run)) e.home
      (subst (λ c. Settles sees (finishes c) e.worked run mid now.left (EndedAndTold c e.left.home run)) e.action e.ends.ends)

  pub arm_undone : OnErr e.result (Goes sees (settles arm) e.worked run)
  arm_undone = subst (λ c. OnErr e.result (Goes sees (settles c) e.worked run)) e.action e.ends.undone

  pub arm_committed : OnOk e.result (is_committed arm run.past ≡ true)
  arm_committed = subst (λ c. OnOk e.result (is_committed c run.past ≡ true)) e.action e.ends.committed

  -- as work of the action
  pub arm_works : (a : Name) → is_below a arm ≡ true → at.left ≡ None → ∥ Works sees a begun run None now.left ∥₁
  arm_works a below none =
      ∥∥₁_map e.works (λ work.
      works_ended a arm at.home begun e.worked run None mid now.left below (subst (λ was. Works sees arm begun e.worked was mid) none work) arm_settles)

  pub arm_told : now.left ≡ None → EndedAndTold arm at.home run
  arm_told h = let (k, told) = arm_settles.settled h in told

  -- as the work ran in it
  pub arm_ran : RunsInArm sees does comes arm begun before after e.result run
  arm_ran = record {
    worked = e.worked;
    done = e.done;
    ran = e.ran;
    ended = arm_settles.goes;
    gives = subst (λ c. IsResultOf comes (ComesToNothing sees e.worked (steps.Commit c)) e.done e.result) e.action e.ends.gives;
  }

  -- it reached what the action had reached
  pub arm_reached : (xs : List ℕ) → Includes xs at.reached.items → Includes xs now.reached.items
  arm_reached xs h n k = e.ends.reached n (e.reached n (h n k))

  -- its list has room for as many again, if it gives a value
  pub arm_room : (gave : Result T E) → kept_result ≡ Some gave → is_ok gave ≡ true → HasRoomAgain now.reached
  arm_room gave is ok = value_so e.result e.ends.room (ap (λ r. is_ok r) (some_same (sym e.is ∙ is)) ∙ ok)

  -- ---- what it commits

  -- not itself, if it is undone
  pub commits_not_self : is_begun arm begun.past ≡ true → OnErr e.result (is_committed arm run.past ≡ is_committed arm begun.past)
  commits_not_self k = by e.result arm_undone
    where
      worked_not : is_committed arm e.worked.past ≡ is_committed arm begun.past
      worked_not =
          ∥∥₁_elim e.works (Bool-set (is_committed arm e.worked.past) (is_committed arm begun.past)) (λ work.
          work_commits_not_own arm begun e.worked at.left mid work k)

      by : (r : Result T E) → OnErr r (Goes sees (settles arm) e.worked run) → OnErr r (is_committed arm run.past ≡ is_committed arm begun.past)
      by (Ok x) h = tt
      by (Err x) h = kept (λ step. step_commits step arm) (settles arm) e.worked run (settles_commits_not arm) h ∙ worked_not

  -- no action beside it that began before
  pub commits_not_beside : (b : Name) → is_prefix arm b ≡ false → is_begun b begun.past ≡ true → is_committed b run.past ≡ is_committed b begun.past
  commits_not_beside b out k =
      kept (λ step. step_commits step b) (finishes arm) e.worked run (finishes_commits_no_other arm b out) arm_settles.goes
      ∙ ∥∥₁_elim e.works (Bool-set (is_committed b e.worked.past) (is_committed b begun.past)) (λ work.
      work_commits_not_beside arm begun e.worked at.left mid work b out k)

  -- and no other child of its action
  pub commits_no_sibling : (a b : Name) → is_prefix arm a ≡ false → parent_of b ≡ a → same_name arm b ≡ false
      → ((t : Name) → Began t begun run → is_prefix t b ≡ false) → is_committed b run.past ≡ is_committed b begun.past
  commits_no_sibling a b out under differs apart =
      kept (λ step. step_commits step b) (finishes arm) e.worked run (finishes_commits_not arm b differs) arm_settles.goes
      ∙ ∥∥₁_elim e.works (Bool-set (is_committed b e.worked.past) (is_committed b begun.past)) (λ work.
      work_commits_none a arm begun e.worked at.left mid out work b under
      (λ t h. apart t (began_within t begun begun e.worked run here h (goes_grows (finishes arm) e.worked run arm_settles.goes))))

-- ---- both

-- what a result says
says_by : {T E : Type 0} (r : Result T E) (b : Bool) → OnOk r (b ≡ true) → OnErr r (b ≡ false) → b ≡ is_ok r
says_by (Ok x) b ok err = ok
says_by (Err x) b ok err = err

on_ok : {T E : Type 0} (r : Result T E) {P Q : Type 0} → (P → Q) → OnOk r P → OnOk r Q
on_ok (Ok x) f p = f p
on_ok (Err x) f p = tt

on_err : {T E : Type 0} (r : Result T E) {P Q : Type 0} → (P → Q) → OnErr r P → OnErr r Q
on_err (Ok x) f p = tt
on_err (Err x) f p = f p

-- tests that imply one another
same_if_both : (b c : Bool) → (b ≡ true → c ≡ true) → (c ≡ true → b ≡ true) → b ≡ c
same_if_both true c f g = sym (f refl)
same_if_both false true f g = g refl
same_if_both false false f g = refl

module _ {sees : Sees} (a s t : Name) (x begun : OwnRun) (begins : BeginArms sees a s t x begun) where
  abbrev kin : AreSiblings a s t
  kin = siblings a s t x begun begins

  begun_both : (b : Name) → has_name (s ∷ t ∷ []) b ≡ true → is_begun b begun.past ≡ true
  begun_both b i =
      ap (λ (w : OwnRun). is_begun b w.past) begins.after ∙ begins_more (record { step = arms_of a; answer = answers.Began (s ∷ t ∷ []) }) x.past b i

  pub one_begun : is_begun s begun.past ≡ true
  one_begun = begun_both s (or_left _ _ (same_name_self s))

  pub other_begun : is_begun t begun.past ≡ true
  other_begun = begun_both t (or_right (same_name s t) _ (or_left _ _ (same_name_self t)))

  arms_kept : (b : Name) → is_committed b begun.past ≡ is_committed b x.past
  arms_kept b = step_kept (λ step. step_commits step b) (arms_of a) (answers.Began (s ∷ t ∷ [])) x begun refl begins.after

  uncommitted : (b : Name) → has_name (s ∷ t ∷ []) b ≡ true → is_committed b begun.past ≡ false
  uncommitted b i =
      arms_kept b ∙ begun_is_uncommitted x (arms_of a) (answers.Began (s ∷ t ∷ [])) begins.answer refl b i

  pub above_not : (b : Name) → is_below a b ≡ true → is_prefix b a ≡ false
  above_not b below = not-true (is_prefix b a) (and_parts (is_prefix a b) _ below).1

  module _ (since : List (List Event)) (one other new : OwnRun) (j : AreJoined sees begun since one other new) where
    abbrev start : OwnRun
    start = started begun since

    -- what neither arm committed was not committed
    uncommitted_by : (b : Name) → is_committed b one.past ≡ false → is_committed b other.past ≡ false → is_committed b new.past ≡ false
    uncommitted_by b p q =
        false_from_ne_true _ (λ h.
        elim (any_joined begun since one other new j (λ e. step_commits e.step b) h) [ inl k ↦ clash k p | inr k ↦ clash k q ])

    pub one_says : {T E : Type 0} (gave : Result T E) → OnOk gave (is_committed s one.past ≡ true)
        → OnErr gave (is_committed s one.past ≡ is_committed s begun.past) → is_committed s other.past ≡ is_committed s begun.past
        → is_committed s new.past ≡ is_ok gave
    one_says gave ok err beside =
        let not_yet = uncommitted s (or_left _ _ (same_name_self s)) in
        says_by gave (is_committed s new.past) (on_ok gave (committed_there begun since one new j.of_one j.of_both (one_part j.merge) s) ok)
        (on_err gave (λ same. uncommitted_by s (same ∙ not_yet) (beside ∙ not_yet)) err)

    pub other_says : {T E : Type 0} (gave : Result T E) → OnOk gave (is_committed t other.past ≡ true)
        → OnErr gave (is_committed t other.past ≡ is_committed t begun.past) → is_committed t one.past ≡ is_committed t begun.past
        → is_committed t new.past ≡ is_ok gave
    other_says gave ok err beside =
        let not_yet = uncommitted t (or_right (same_name s t) _ (or_left _ _ (same_name_self t))) in
        says_by gave (is_committed t new.past) (on_ok gave (committed_there begun since other new j.of_other j.of_both (other_part j.merge) t) ok)
        (on_err gave (λ same. uncommitted_by t (beside ∙ not_yet) (same ∙ not_yet)) err)

    grows : Follows begun.past new.past
    grows = goes_grows any_step begun new j.of_both

    first : Follows x.past begun.past
    first =
        goes_grows (works_in a) x begun
        (goes_one {sees = sees} (works_in a) (arms_of a) (answers.Began (s ∷ t ∷ [])) x begun (prefix_self a) begins.answer begins.after)

    -- a child that neither arm committed is as it was
    child_kept : (b : Name) → is_committed b one.past ≡ is_committed b begun.past → is_committed b other.past ≡ is_committed b begun.past
        → is_committed b new.past ≡ is_committed b x.past
    child_kept b p q =
        same_if_both (is_committed b new.past) (is_committed b begun.past)
        (λ h.
        elim (any_joined begun since one other new j (λ e. step_commits e.step b) h) [ inl k ↦ sym p ∙ k | inr k ↦ sym q ∙ k ])
        (committed_stays b grows)
        ∙ arms_kept b

    -- what began in an arm began in between
    began_by_one : (u : Name) → Began u start one → Began u x new
    began_by_one u h =
        began_within u x begun new new first (began_there begun since one new j.of_one j.of_both (one_part j.merge) u h) here

    began_by_other : (u : Name) → Began u start other → Began u x new
    began_by_other u h =
        began_within u x begun new new first (began_there begun since other new j.of_other j.of_both (other_part j.merge) u h) here

    pub commits_no_other : ((b : Name) → parent_of b ≡ a → same_name s b ≡ false → ((u : Name) → Began u start one → is_prefix u b ≡ false)
        → is_committed b one.past ≡ is_committed b begun.past)
        → ((b : Name) → parent_of b ≡ a → same_name t b ≡ false → ((u : Name) → Began u start other → is_prefix u b ≡ false)
        → is_committed b other.past ≡ is_committed b begun.past)
        → CommitsNoOther a s t x new
    commits_no_other by_one by_other b under not_s not_t apart =
        child_kept b (by_one b under not_s (λ u h. apart u (began_by_one u h))) (by_other b under not_t (λ u h. apart u (began_by_other u h)))
