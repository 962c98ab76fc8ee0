-- Arms that began and were called off: both were aborted, and their guardian was told.
use Rattle.std.proofs.Common.{Bool, Option, [], false, inl, inr, refl, subst, true, ℕ, ◌∷◌, ◌≡◌}
use Rattle.std.proofs.lemmas.Bool.{false≢true, or_cases, or_left, or_right}
use Rattle.action_names.specs.Names.{Name, has_name, same_name}
use Rattle.run_model.specs.declared.answer.Answer.TheVariants as answers
use Rattle.run_model.specs.declared.step.Step.{Step}
use Rattle.run_model.specs.Actions.{step_commits}
use Rattle.run_laws.proofs.Names.{same_name_true}
use Rattle.stepping.specs.Beside.{OwnRun, Sees}
use Rattle.service.specs.Together.{BeginArms, arms_of, settles_both}
use Rattle.service.specs.Transacting.{CommitsNoChild, EndedAndTold, Goes, Settles, Works, began_at, settles, works_in, works_with}
use Rattle.service.specs.declared.fault.CallFault.{CallFault}
use Rattle.service.proofs.BothArms.{arm_began, siblings}
use Rattle.service.proofs.Going.{all_settled_if_none, end_crashes_not, finishes_below, goes_ended, goes_grows, goes_one, goes_told, goes_wider, kept, none_of, prefix_self, settled_where, settles_ends, settles_finishes, settles_then, settles_wider, short_in, step_kept, voters_same, with_work, work_votes_not, works_begun}
use Rattle.service.proofs.Undone.{none_committed_then, settles_commits_none}

module _ {sees : Sees} where
  -- what settles below an action is work in it
  pub works_settled : (a : Name) (p : Step → Bool) (y w : OwnRun) (was is : Option CallFault) (So : Type 0)
      → ((step : Step) → p step ≡ true → works_in a step ≡ true) → Settles sees p y w was is So → Works sees a y w was is
  works_settled a p y w was is So own h = record {
    tops = [];
    began = none_of y w;
    goes = goes_wider p (works_with [] a) y w (λ step k. with_work [] a step (own step k)) h.goes;
    settled = λ e.
        ((h.settled e).0, all_settled_if_none y w h.none, voters_same p y w (λ t g step k. work_votes_not a t g step (own step k)) h.goes);
    short = λ fault e. short_in p (works_with [] a) y w was fault (λ step k. with_work [] a step (own step k)) (h.short fault e);
  }

  -- what ended, and whose guardian was told, stays so
  pub ended_told_stays : (s t : Name) (g : ℕ) (y z : OwnRun) → Goes sees (settles t) y z → EndedAndTold s g y → EndedAndTold s g z
  ended_told_stays s t g y z a h = (
    goes_ended (settles t) y z s a h.0,
    goes_told g s (settles t) y z (λ step k. end_crashes_not t g step (settles_ends t step k)) a h.1,
  )

  -- one after the other
  pub both_settle : (s t : Name) (g : ℕ) (x y z : OwnRun) (was mid is : Option CallFault)
      → Settles sees (settles s) x y was mid (EndedAndTold s g y) → Settles sees (settles t) y z mid is (EndedAndTold t g z)
      → Settles sees (settles_both s t) x z was is (EndedAndTold s g z × EndedAndTold t g z)
  both_settle s t g x y z was mid is u v =
      settles_then (settles_both s t) x y z was mid is (EndedAndTold s g y) (EndedAndTold t g z) (EndedAndTold s g z × EndedAndTold t g z)
      (λ early late. (ended_told_stays s t g y z v.goes early, late))
      (settles_wider (settles s) (settles_both s t) x y was mid (EndedAndTold s g y) (λ step h. or_left (settles s step) (settles t step) h) u)
      (settles_wider (settles t) (settles_both s t) y z mid is (EndedAndTold t g z) (λ step h. or_right (settles s step) (settles t step) h) v)

  -- of these two, from this run on
  pub settled_as : (c d s t : Name) (g : ℕ) (z y w : OwnRun) (was is : Option CallFault) → c ≡ s → d ≡ t → z ≡ y
      → Settles sees (settles_both c d) z w was is (EndedAndTold c g w × EndedAndTold d g w)
      → Settles sees (settles_both s t) y w was is (EndedAndTold s g w × EndedAndTold t g w)
  settled_as c d s t g z y w was is p q r h =
      subst (λ v. Settles sees (settles_both s t) v w was is (EndedAndTold s g w × EndedAndTold t g w)) r
      (subst (λ e. Settles sees (settles_both s e) z w was is (EndedAndTold s g w × EndedAndTold e g w)) q
      (subst (λ e. Settles sees (settles_both e d) z w was is (EndedAndTold e g w × EndedAndTold d g w)) p h))

  module _ (a s t : Name) (home : ℕ) (x y w : OwnRun) (was is : Option CallFault) (begins : BeginArms sees a s t x y)
      (ends : Settles sees (settles_both s t) y w was is (EndedAndTold s home w × EndedAndTold t home w)) where
    settles_below : (step : Step) → settles_both s t step ≡ true → works_in a step ≡ true
    settles_below step h =
        let kin = siblings a s t x y begins in
        elim (or_cases (settles s step) (settles t step) h) [
          | inl k ↦ finishes_below a s kin.one_below step (settles_finishes s step k)
          | inr k ↦ finishes_below a t kin.other_below step (settles_finishes t step k)
        ]

    pub works_called_off : began_at home a x.past ≡ true → Works sees a x w was is
    works_called_off there =
        works_begun a (arms_of a) (s ∷ t ∷ []) x y w was is (prefix_self a) begins.answer begins.after
        (works_settled a (settles_both s t) y w was is (EndedAndTold s home w × EndedAndTold t home w) settles_below ends)
        (λ h b i.
        let (k, told) = ends.settled h in
        let (s_told, t_told) = told in
        let began = arm_began a s t x y begins home there in
        let after = goes_grows (settles_both s t) y w ends.goes in
        elim (or_cases (same_name s b) (has_name (t ∷ []) b) i) [
          | inl k ↦ settled_where b home y w (began b i) after (subst (λ c. EndedAndTold c home w) (same_name_true s b k) s_told)
          | inr k ↦ elim (or_cases (same_name t b) false k) [
            | inl e ↦ settled_where b home y w (began b i) after (subst (λ c. EndedAndTold c home w) (same_name_true t b e) t_told)
            | inr e ↦ absurd (false≢true e)
          ]
        ])

    pub none_committed_off : CommitsNoChild a x w
    none_committed_off =
        none_committed_then a x y w
        (goes_grows (works_in a) x y
        (goes_one {sees = sees} (works_in a) (arms_of a) (answers.Began (s ∷ t ∷ [])) x y (prefix_self a) begins.answer begins.after))
        (goes_grows (settles_both s t) y w ends.goes)
        (λ b under apart. step_kept (λ step. step_commits step b) (arms_of a) (answers.Began (s ∷ t ∷ [])) x y refl begins.after)
        (λ b under apart.
        kept (λ step. step_commits step b) (settles_both s t) y w
        (λ step h.
        elim (or_cases (settles s step) (settles t step) h) [ inl k ↦ settles_commits_none s b step k | inr k ↦ settles_commits_none t b step k ])
        ends.goes)
