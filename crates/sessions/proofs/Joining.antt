-- The own events of two threads that went on from one, together.
use Rattle.std.proofs.Common.{Bool, List, Option, [], ap, cond, false, length, refl, subst, suc, sym, true, ℕ, ◌++◌, ◌||◌, ◌∙◌, ◌∷◌, ◌≡◌}
use Rattle.std.proofs.lemmas.List.{append_assoc, append_cancel_right}
use Rattle.run_model.specs.declared.history.Event.{Event}
use Rattle.run_model.specs.Openings.{Opening, OpeningLists, opening_in}
use Rattle.run_model.specs.Runs.{IsRun}
use Rattle.locked_run.specs.Behind.{IsBehind}
use Rattle.stepping.specs.Beside.{IsPartOf, OwnRun, started}
use Rattle.service.specs.Arms.{AreJoined, IsMerge, any_step, of_neither, of_one, of_other}
use Rattle.service.specs.Transacting.{AreOwn, Goes}
use Rattle.sessions.specs.Sessions.{AreApart, AreBehind, AreInOrder, AreLater, GoesOnFromBoth, has_length, own_of, run_of, seen_in}
use Rattle.sessions.proofs.Own.{all_append, all_further, before_has, behind_further, has_append, later_append, later_first, own_low, own_more, own_part, own_split}

pub own_merge : (one other : List (List Event)) → AreApart one other → (past : List Event) → IsMerge (own_of one past) (own_of other past) (own_of (one ++ other) past)
own_merge one other apart [] = of_neither
own_merge one other apart (e ∷ past) =
    subst (λ b. IsMerge (cond (has_length one n) (e ∷ own_of one past) (own_of one past)) (cond (has_length other n) (e ∷ own_of other past) (own_of other past))
    (cond b (e ∷ own_of (one ++ other) past) (own_of (one ++ other) past)))
    (sym (has_append one other n)) (go (own_merge one other apart past) (has_length one n) refl (has_length other n) refl)
  where
    n : ℕ
    n = suc (length past)

    go : IsMerge (own_of one past) (own_of other past) (own_of (one ++ other) past) → (a : Bool) → has_length one n ≡ a → (b : Bool) → has_length other n ≡ b → IsMerge (cond a (e ∷ own_of one past) (own_of one past)) (cond b (e ∷ own_of other past) (own_of other past))
        (cond (a || b) (e ∷ own_of (one ++ other) past) (own_of (one ++ other) past))
    go rest true h true k = absurd (apart (length past) h k)
    go rest true h false k = of_one e rest
    go rest false h true k = of_other e rest
    go rest false h false k = rest

-- Each own event of a run was answered at its place, behind what was own before.
pub own_goes : (lists : OpeningLists) (since before own : List (List Event)) → AreLater before own → (whole past more : List Event) → whole ≡ more ++ past
    → IsRun (opening_in lists) past → AreOwn (λ own seen. Unit {0}) any_step (record { lists = lists; past = own_of before whole; since = since }) (own_of own past)
own_goes lists since before own later whole [] more is run = tt
own_goes lists since before own later whole (e ∷ past) more is run =
    go (own_goes lists since before own later whole past (more ++ e ∷ []) (is ∙ sym (append_assoc more (e ∷ []) past)) run.2)
    (has_length own (suc (length past))) refl
  where
    parts : whole ≡ (more ++ e ∷ []) ++ past
    parts = is ∙ sym (append_assoc more (e ∷ []) past)

    go : AreOwn (λ own seen. Unit {0}) any_step (record { lists = lists; past = own_of before whole; since = since }) (own_of own past) → (b : Bool) → has_length own (suc (length past)) ≡ b
        → AreOwn (λ own seen. Unit {0}) any_step (record { lists = lists; past = own_of before whole; since = since }) (cond b (e ∷ own_of own past) (own_of own past))
    go rest false has = rest
    go rest true has =
        let same : own_of before whole ≡ own_of before past = ap (own_of before) parts ∙ own_low before (more ++ e ∷ []) past (before_has before own (suc (length past)) later has) in
        let part : IsPartOf (own_of own past ++ own_of before past) past = subst (λ l. IsPartOf l past) (own_split before own later past) (own_part (before ++ own) past) in (
          refl,
          run.1,
          record {
            seen = past;
            may = tt;
            run = run.2;
            part = ∣ subst (λ l. IsPartOf (own_of own past ++ l) past) (sym same) part ∣₁;
            answered = run.0;
          },
          rest,
        )

module _ (lists : OpeningLists) (since before one other : List (List Event)) (apart : AreApart one other) (begun whole : List Event) (nested : AreBehind before begun)
    (on : IsBehind begun whole) where
  abbrev old : OwnRun
  old = record { lists = lists; past = own_of before begun; since = since }

  -- an arm's events are those of its receipts
  arm_later : (own : List (List Event)) (last : List Event) (arm : OwnRun) → arm.past ≡ own_of (before ++ own) last → AreBehind (before ++ own) last → IsBehind last whole
      → AreLater before own → (goes : Goes (λ own seen. Unit {0}) any_step (started old before) arm) → goes.later ≡ own_of own whole
  arm_later own last arm is behind further later goes =
      append_cancel_right goes.later (own_of own whole) (own_of before begun)
      (sym goes.past ∙ is ∙ sym (own_more (before ++ own) behind further) ∙ own_split before own later whole ∙ ap (λ l. own_of own whole ++ l) (own_more before nested on))

  pub joined : (first second : List Event) (arm arm_too new : OwnRun) → arm.past ≡ own_of (before ++ one) first → arm_too.past ≡ own_of (before ++ other) second
      → new ≡ record { lists = lists; past = own_of (before ++ (one ++ other)) whole; since = since } → AreBehind (before ++ one) first → AreBehind (before ++ other) second
      → IsBehind first whole → IsBehind second whole → AreLater before one → AreLater before other → IsRun (opening_in lists) whole
      → Goes (λ own seen. Unit {0}) any_step (started old before) arm → Goes (λ own seen. Unit {0}) any_step (started old before) arm_too
      → AreJoined (λ own seen. Unit {0}) old before arm arm_too new
  joined first second arm arm_too new is is_too now behind behind_too further further_too later later_too run goes goes_too =
      let later_both = later_append before one other later later_too in
      let same : own_of before whole ≡ own_of before begun = own_more before nested on in
      record {
        of_one = goes;
        of_other = goes_too;
        of_both = record {
          lists = ap (λ (w : OwnRun). w.lists) now;
          since = ap (λ (w : OwnRun). w.since) now;
          later = own_of (one ++ other) whole;
          past = ap (λ (w : OwnRun). w.past) now ∙ own_split before (one ++ other) later_both whole ∙ ap (λ l. own_of (one ++ other) whole ++ l) same;
          own =
              subst (λ l. AreOwn (λ own seen. Unit {0}) any_step (record { lists = lists; past = l; since = since }) (own_of (one ++ other) whole)) same
              (own_goes lists since before (one ++ other) later_both whole whole [] refl run);
        };
        merge =
            subst (λ l. IsMerge l goes_too.later (own_of (one ++ other) whole)) (sym (arm_later one first arm is behind further later goes))
            (subst (λ l. IsMerge (own_of one whole) l (own_of (one ++ other) whole)) (sym (arm_later other second arm_too is_too behind_too further_too later_too goes_too))
            (own_merge one other apart whole));
      }

-- ---- sessions

-- A session and those of two arms, each of which began with what the session has.
module _ (opening : Opening) (before own before_one one before_other other : List (List Event)) (last last_one last_other arms last_then : Option (List Event))
    (apart : AreApart one other) (mine : AreInOrder opening before own last) (first : AreInOrder opening before_one one last_one) (second : AreInOrder opening before_other other last_other)
    (began : before_one ≡ before ++ own) (began_too : before_other ≡ before ++ own) (with_one : GoesOnFromBoth opening last last_one arms)
    (with_both : GoesOnFromBoth opening arms last_other last_then) where
  on : IsBehind (seen_in last) (seen_in last_then)
  on = behind_further with_one.first with_both.first

  on_one : IsBehind (seen_in last_one) (seen_in last_then)
  on_one = behind_further with_one.second with_both.first

  whole_run : IsRun opening (seen_in last_then)
  whole_run = with_both.run (with_one.run mine.run first.run) second.run

  later_one : AreLater (before ++ own) one
  later_one = subst (λ l. AreLater l one) began first.later

  later_other : AreLater (before ++ own) other
  later_other = subst (λ l. AreLater l other) began_too second.later

  -- the receipts of all are in order
  pub order_joined : AreInOrder opening before (own ++ (one ++ other)) last_then
  order_joined = record {
    run = whole_run;
    before_seen = all_further before (seen_in last) (seen_in last_then) mine.before_seen on;
    own_seen =
        all_append own (one ++ other) (seen_in last_then) (all_further own (seen_in last) (seen_in last_then) mine.own_seen on)
        (all_append one other (seen_in last_then) (all_further one (seen_in last_one) (seen_in last_then) first.own_seen on_one)
        (all_further other (seen_in last_other) (seen_in last_then) second.own_seen with_both.second));
    later = later_append before own (one ++ other) mine.later (later_append before one other (later_first before own one later_one) (later_first before own other later_other));
  }

  -- and the runs of the arms are joined
  pub runs_joined : (lists lists_one lists_other : OpeningLists) → opening_in lists ≡ opening
      → Goes (λ own seen. Unit {0}) any_step (started (run_of lists before own last) (before ++ own)) (run_of lists_one before_one one last_one)
      → Goes (λ own seen. Unit {0}) any_step (started (run_of lists before own last) (before ++ own)) (run_of lists_other before_other other last_other)
      → AreJoined (λ own seen. Unit {0}) (run_of lists before own last) (before ++ own) (run_of lists_one before_one one last_one)
      (run_of lists_other before_other other last_other) (run_of lists before (own ++ (one ++ other)) last_then)
  runs_joined lists lists_one lists_other named goes goes_too =
      joined lists before (before ++ own) one other apart (seen_in last) (seen_in last_then)
      (all_append before own (seen_in last) mine.before_seen mine.own_seen) on (seen_in last_one) (seen_in last_other)
      (run_of lists_one before_one one last_one) (run_of lists_other before_other other last_other)
      (run_of lists before (own ++ (one ++ other)) last_then)
      (ap (λ l. own_of (l ++ one) (seen_in last_one)) began) (ap (λ l. own_of (l ++ other) (seen_in last_other)) began_too)
      (ap (λ l. record { lists = lists; past = own_of l (seen_in last_then); since = before }) (sym (append_assoc before own (one ++ other))))
      (subst (λ l. AreBehind (l ++ one) (seen_in last_one)) began (all_append before_one one (seen_in last_one) first.before_seen first.own_seen))
      (subst (λ l. AreBehind (l ++ other) (seen_in last_other)) began_too (all_append before_other other (seen_in last_other) second.before_seen second.own_seen))
      on_one with_both.second later_one later_other (subst (λ o. IsRun o (seen_in last_then)) (sym named) whole_run) goes goes_too
