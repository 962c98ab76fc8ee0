-- The two phases of a top action, by what each step of them came to.
use Rattle.std.proofs.Common.{Bool, Err, IfErr, List, Ok, Result, [], ap, false, inl, inr, map, refl, subst, sym, true, ℕ, ◌++◌, ◌∷◌, ◌≡◌, ◌⊎◌}
use Rattle.std.proofs.lemmas.Bool.{false≢true}
use Rattle.std.specs.Result.{IsErrAnd}
use Rattle.action_names.specs.Names.{Name}
use Rattle.committing.specs.TwoPhases.{AreTried, two_phases}
use Rattle.run_laws.proofs.Names.{same_name_self}
use Rattle.run_model.specs.declared.step.Step.{Step}
use Rattle.run_model.specs.declared.step.Step.TheVariants as steps
use Rattle.stepping.specs.Beside.{IsMadeWith, OwnRun, Sees}
use Rattle.stepping.specs.Stepping.{Leaves}
use Rattle.service.specs.Calling.{IsCall, IsDone, IsVote}
use Rattle.service.specs.Ending.{AreCutShort, ArePolled, HasHappened, HaveHappened, IsEnded, IsEndingCut, prepares, tells}
use Rattle.service.specs.Outcomes.{is_decided}
use Rattle.service.specs.Transacting.{AllVoted, CameToNothing, Concludes, ends_top, is_concluding, is_voted_down}
use Rattle.service.specs.Trying.{IsDoneBy, IsDoneIf}
use Rattle.service.specs.declared.fault.CallFault.{CallFault}
use Rattle.service.proofs.Concluded.{call_concludes, call_stopped, concluded_then, cut_stopped, cut_votes, decide_concludes, decided_voted, done_quiet, polled_conclude, polled_down, undecided}
use Rattle.service.proofs.Ended.{call_happened, close_cut, is_ended_by, poll_cut, polled_yes, tell_cut, verdict_cut, vote_happens}
use Rattle.service.proofs.Going.{short_after}

module _ {M : Type 0} (run : M → OwnRun) (sees : Sees) (leaves : Leaves M) where
  -- ---- a call that is tried

  -- a step other than a vote that happened was done
  pub call_done : (step : Step) (old new : M) → IsCall run sees leaves step IsDone old new (Ok tt) → IsCall run sees leaves step IsDoneIf old new (Ok true)
  call_done step old new call = record {
    gives = record { answer = call.gives.answer; made = call.gives.made; shows = call.gives.shows };
    why = tt;
    same = tt;
    stores = tt;
  }

  -- one that did not happen was tried with that error
  pub call_failed : (step : Step) (old new : M) (result : Result Bool CallFault) (fault : CallFault) → IsErrAnd result (λ e. e ≡ fault)
      → IsCall run sees leaves step IsDone old new (Err fault) → IsCall run sees leaves step IsDoneIf old new result
  call_failed step old new (Ok done) fault h call = absurd h
  call_failed step old new (Err e) fault h call =
      subst (λ f. IsCall run sees leaves step IsDoneIf old new (Err f)) (sym h)
      (record { gives = tt; why = call.why; same = call.same; stores = call.stores })

  -- ---- what the votes came to, and the decision behind them

  abbrev Voted : Name → List ℕ → Result Bool CallFault → M → M → Type 0
  Voted top gs (Ok true) mid new = (voted : M) × HaveHappened run sees leaves (prepares top gs) mid voted
      × IsCall run sees leaves (steps.Decide top) IsDone voted new (Ok tt)
  Voted top gs (Ok false) mid new = ArePolled run sees leaves top gs false mid new
  Voted top gs (Err fault) mid new = AreCutShort run sees leaves (prepares top gs) mid new fault
      ⊎ ((voted : M) × HaveHappened run sees leaves (prepares top gs) mid voted
      × IsCall run sees leaves (steps.Decide top) IsDone voted new (Err fault))

  -- a guardian votes no
  votes_no : (top : Name) (g : ℕ) (gs : List ℕ) (mid new : M) → IsCall run sees leaves (steps.Prepare g top) IsVote mid new (Ok false)
      → ArePolled run sees leaves top (g ∷ gs) false mid new
  votes_no top g gs mid new call = record {
    polled = g ∷ [];
    rest = gs;
    parts = refl;
    all = λ h. absurd (false≢true h);
    happened = (new, call_happened run sees leaves (steps.Prepare g top) IsVote mid new false call (vote_happens false), refl);
    no = λ _. (
      [],
      g,
      refl,
      record {
        mid = mid;
        voted = new;
        happened = refl;
        no = subst (λ a. IsMadeWith run sees leaves (steps.Prepare g top) a mid new) call.gives.shows call.gives.made;
        rest = refl;
      },
    );
  }

  -- its vote does not come about
  votes_not : (top : Name) (g : ℕ) (gs : List ℕ) (mid new : M) (fault : CallFault)
      → IsCall run sees leaves (steps.Prepare g top) IsVote mid new (Err fault) → AreCutShort run sees leaves (prepares top (g ∷ gs)) mid new fault
  votes_not top g gs mid new fault call = record {
    done = [];
    next = steps.Prepare g top;
    rest = prepares top gs;
    parts = refl;
    before = mid;
    happened = refl;
    why = call.why;
    same = call.same;
    stores = call.stores;
  }

  -- it votes yes before others
  votes_yes : (top : Name) (g : ℕ) (gs : List ℕ) (result : Result Bool CallFault) (mid next new : M)
      → HasHappened run sees leaves (steps.Prepare g top) mid next → Voted top gs result next new → Voted top (g ∷ gs) result mid new
  votes_yes top g gs (Ok true) mid next new one (voted, more, decide) = (voted, (next, one, more), decide)
  votes_yes top g gs (Ok false) mid next new one poll = record {
    polled = g ∷ poll.polled;
    rest = poll.rest;
    parts = ap (λ xs. g ∷ xs) poll.parts;
    all = λ h. absurd (false≢true h);
    happened = (next, one, poll.happened);
    no = λ h.
        let (front, x, parts, vote) = poll.no h in (
          g ∷ front,
          x,
          ap (λ xs. g ∷ xs) parts,
          record { mid = vote.mid; voted = vote.voted; happened = (next, one, vote.happened); no = vote.no; rest = vote.rest },
        );
  }
  votes_yes top g gs (Err fault) mid next new one (inl cut) = inl (record {
    done = steps.Prepare g top ∷ cut.done;
    next = cut.next;
    rest = cut.rest;
    parts = ap (λ xs. steps.Prepare g top ∷ xs) cut.parts;
    before = cut.before;
    happened = (next, one, cut.happened);
    why = cut.why;
    same = cut.same;
    stores = cut.stores;
  })
  votes_yes top g gs (Err fault) mid next new one (inr (voted, more, decide)) = inr (voted, (next, one, more), decide)

  -- ---- what the two phases came to

  abbrev pub Phases : Name → List ℕ → Result Bool CallFault → M → M → Type 0
  Phases top gs (Ok true) old new = (closed : M) × IsCall run sees leaves (steps.Close top) IsDone old closed (Ok tt)
      × (voted : M) × ArePolled run sees leaves top gs true closed voted
      × IsCall run sees leaves (steps.Decide top) IsDone voted new (Ok tt)
  Phases top gs (Ok false) old new = (closed : M) × IsCall run sees leaves (steps.Close top) IsDone old closed (Ok tt)
      × ArePolled run sees leaves top gs false closed new
  Phases top gs (Err fault) old new = IsCall run sees leaves (steps.Close top) IsDone old new (Err fault)
      ⊎ ((closed : M) × IsCall run sees leaves (steps.Close top) IsDone old closed (Ok tt)
      × (AreCutShort run sees leaves (prepares top gs) closed new fault
      ⊎ ((voted : M) × ArePolled run sees leaves top gs true closed voted
      × IsCall run sees leaves (steps.Decide top) IsDone voted new (Err fault))))

  module _ {S : Type 0} (world : S → M) where
    abbrev Tried : Step → Result Bool CallFault → S → S → Type 0
    Tried step result old new = IsCall run sees leaves step (IsDoneBy step) (world old) (world new) result

    -- a step other than a vote that was tried, as a call
    done_call : (step : Step) (old new : S) → IsCall run sees leaves step IsDoneIf (world old) (world new) (Ok true)
        → IsCall run sees leaves step IsDone (world old) (world new) (Ok tt)
    done_call step old new call = record {
      gives = record { answer = call.gives.answer; made = call.gives.made; shows = call.gives.shows };
      why = tt;
      same = tt;
      stores = tt;
    }

    failed_call : (step : Step) (old new : S) (fault : CallFault) → IsCall run sees leaves step IsDoneIf (world old) (world new) (Err fault)
        → IsCall run sees leaves step IsDone (world old) (world new) (Err fault)
    failed_call step old new fault call = record { gives = tt; why = call.why; same = call.same; stores = call.stores }

    decision : (top : Name) (result : Result Bool CallFault) (mid new : S) → AreTried Tried (steps.Decide top ∷ []) result mid new
        → Voted top [] result (world mid) (world new)
    decision top (Ok true) mid new (inl (e, call)) = absurd (false≢true (sym e))
    decision top (Ok true) mid new (inr (next, call, (e, same))) = (
      world mid,
      refl,
      subst (λ s. IsCall run sees leaves (steps.Decide top) IsDone (world mid) (world s) (Ok tt)) (sym same)
          (done_call (steps.Decide top) mid next call),
    )
    decision top (Ok false) mid new (inl (e, call)) = absurd call.gives.shows
    decision top (Ok false) mid new (inr (next, call, (e, same))) = cc
    decision top (Err fault) mid new (inl (e, call)) = inr (world mid, refl, failed_call (steps.Decide top) mid new fault call)
    decision top (Err fault) mid new (inr (next, call, (e, same))) = cc

    votes : (top : Name) (gs : List ℕ) (result : Result Bool CallFault) (mid new : S)
        → AreTried Tried (map (λ g. steps.Prepare g top) gs ++ steps.Decide top ∷ []) result mid new → Voted top gs result (world mid) (world new)
    votes top [] result mid new tried = decision top result mid new tried
    votes top (g ∷ gs) (Ok true) mid new (inl (e, call)) = absurd (false≢true (sym e))
    votes top (g ∷ gs) (Ok false) mid new (inl (e, call)) = votes_no top g gs (world mid) (world new) call
    votes top (g ∷ gs) (Err fault) mid new (inl (e, call)) = inl (votes_not top g gs (world mid) (world new) fault call)
    votes top (g ∷ gs) result mid new (inr (next, call, more)) =
        votes_yes top g gs result (world mid) (world next) (world new)
        (call_happened run sees leaves (steps.Prepare g top) IsVote (world mid) (world next) true call (vote_happens true))
        (votes top gs result next new more)

    phases : (top : Name) (gs : List ℕ) (result : Result Bool CallFault) (old new : S) → AreTried Tried (two_phases top gs) result old new
        → Phases top gs result (world old) (world new)
    phases top gs (Ok true) old new (inl (e, call)) = absurd (false≢true (sym e))
    phases top gs (Ok false) old new (inl (e, call)) = absurd call.gives.shows
    phases top gs (Err fault) old new (inl (e, call)) = inl (failed_call (steps.Close top) old new fault call)
    phases top gs (Ok true) old new (inr (next, call, more)) =
        let (voted, happened, decide) = votes top gs (Ok true) next new more in (
          world next,
          done_call (steps.Close top) old next call,
          voted,
          polled_yes run sees leaves top gs (world next) voted happened,
          decide,
        )
    phases top gs (Ok false) old new (inr (next, call, more)) =
        (world next, done_call (steps.Close top) old next call, votes top gs (Ok false) next new more)
    phases top gs (Err fault) old new (inr (next, call, more)) = inr (
      world next,
      done_call (steps.Close top) old next call,
      elim (votes top gs (Err fault) next new more) [
        | inl cut ↦ inl cut
        | inr h ↦ inr (h.0, polled_yes run sees leaves top gs (world next) h.0 h.1, h.2)
      ],
    )

  -- the states come first, so that the type of their worlds is known
  pub driven : {S : Type 0} (old new : S) (world : S → M) (top : Name) (gs : List ℕ) (result : Result Bool CallFault)
      → AreTried (Tried world) (two_phases top gs) result old new → Phases top gs result (world old) (world new)
  driven old new world top gs result tried = phases world top gs result old new tried

  -- ---- what they leave

  module _ (top : Name) (gs : List ℕ) where
    closes : (old closed : M) (r : Result (Unit {0}) CallFault) → IsCall run sees leaves (steps.Close top) IsDone old closed r
        → Concludes sees top gs (run old) (run closed) false
    closes old closed r close =
        call_concludes run sees leaves top gs (steps.Close top) IsDone old closed r (same_name_self top) refl (λ _. refl) done_quiet close

    -- it was closed, and the votes were all yes
    closed_voted : (old closed voted : M) → IsCall run sees leaves (steps.Close top) IsDone old closed (Ok tt)
        → ArePolled run sees leaves top gs true closed voted → Concludes sees top gs (run old) (run voted) false
    closed_voted old closed voted close poll =
        concluded_then top gs (run old) (run closed) (run voted) false (closes old closed (Ok tt) close)
        (polled_conclude run sees leaves top gs true closed voted poll)

    pub phases_conclude : (result : Result Bool CallFault) (old new : M) → Phases top gs result old new
        → Concludes sees top gs (run old) (run new) (is_decided result)
    phases_conclude (Ok true) old new (closed, close, voted, poll, decide) =
        concluded_then top gs (run old) (run voted) (run new) true (closed_voted old closed voted close poll)
        (decide_concludes run sees leaves top gs voted new decide)
    phases_conclude (Ok false) old new (closed, close, poll) =
        concluded_then top gs (run old) (run closed) (run new) false (closes old closed (Ok tt) close)
        (polled_conclude run sees leaves top gs false closed new poll)
    phases_conclude (Err fault) old new (inl close) = closes old new (Err fault) close
    phases_conclude (Err fault) old new (inr (closed, close, inl cut)) =
        concluded_then top gs (run old) (run closed) (run new) false (closes old closed (Ok tt) close)
        (cut_votes run sees leaves top gs closed new fault cut)
    phases_conclude (Err fault) old new (inr (closed, close, inr (voted, poll, decide))) =
        concluded_then top gs (run old) (run voted) (run new) false (closed_voted old closed voted close poll)
        (undecided run sees leaves top gs voted new fault decide)

    pub phases_voted : (result : Result Bool CallFault) (old new : M) → Phases top gs result old new → is_decided result ≡ true
        → AllVoted top gs (run new)
    phases_voted (Ok true) old new (closed, close, voted, poll, decide) e = decided_voted run sees leaves top gs true closed voted new poll refl decide
    phases_voted (Ok false) old new h e = absurd (false≢true e)
    phases_voted (Err fault) old new h e = absurd (false≢true e)

    pub phases_down : (result : Result Bool CallFault) (old new : M) → Phases top gs result old new → result ≡ Ok false
        → is_voted_down top (run new).past ≡ true
    phases_down (Ok true) old new h e = cc
    phases_down (Ok false) old new (closed, close, poll) e = polled_down run sees leaves top gs false closed new poll refl
    phases_down (Err fault) old new h e = cc

    pub phases_stopped : (result : Result Bool CallFault) (old new : M) → Phases top gs result old new
        → IfErr result (CameToNothing sees (ends_top top) is_concluding (run old) (run new))
    phases_stopped (Ok done) old new h = tt
    phases_stopped (Err fault) old new (inl close) =
        call_stopped run sees leaves (ends_top top) is_concluding (steps.Close top) IsDone old new fault (same_name_self top) refl close
    phases_stopped (Err fault) old new (inr (closed, close, inl cut)) =
        short_after (ends_top top) (run old) (run closed) (run new) fault (closes old closed (Ok tt) close).goes
        (cut_stopped run sees leaves top gs closed new fault cut)
    phases_stopped (Err fault) old new (inr (closed, close, inr (voted, poll, decide))) =
        short_after (ends_top top) (run old) (run voted) (run new) fault (closed_voted old closed voted close poll).goes
        (call_stopped run sees leaves (ends_top top) is_concluding (steps.Decide top) IsDone voted new fault (same_name_self top) refl decide)

    pub phases_cut : (old new : M) (fault : CallFault) → Phases top gs (Err fault) old new → IsEndingCut run sees leaves top gs old new fault
    phases_cut old new fault (inl close) = close_cut run sees leaves top gs old new fault close
    phases_cut old new fault (inr (closed, close, inl cut)) = poll_cut run sees leaves top gs old closed close new fault cut
    phases_cut old new fault (inr (closed, close, inr (voted, poll, decide))) =
        verdict_cut run sees leaves top gs old closed close true voted poll new fault decide

    -- ---- the end of a top action behind them

    module _ (committed : Bool) (old phased concluded : M) (both : Phases top gs (Ok committed) old phased) where
      pub abort_cut : (fault : CallFault) → (committed ≡ false → IsCall run sees leaves (steps.Abort top) IsDone phased concluded (Err fault))
          → (committed ≡ true → false ≡ true) → IsEndingCut run sees leaves top gs old concluded fault
      abort_cut fault aborts rests = by committed refl both
        where
          by : (b : Bool) → committed ≡ b → Phases top gs (Ok b) old phased → IsEndingCut run sees leaves top gs old concluded fault
          by true c h = absurd (false≢true (rests c))
          by false c (closed, close, poll) =
              verdict_cut run sees leaves top gs old closed close false phased poll concluded fault (aborts c)

      module _ (aborts : committed ≡ false → IsCall run sees leaves (steps.Abort top) IsDone phased concluded (Ok tt))
          (rests : committed ≡ true → concluded ≡ phased) (new : M) where
        pub told_cut : (fault : CallFault) → AreCutShort run sees leaves (tells top gs) concluded new fault
            → IsEndingCut run sees leaves top gs old new fault
        told_cut fault cut = by committed refl both
          where
            by : (b : Bool) → committed ≡ b → Phases top gs (Ok b) old phased → IsEndingCut run sees leaves top gs old new fault
            by true c (closed, close, voted, poll, decide) =
                tell_cut run sees leaves top gs old closed close true voted poll phased decide new fault
                (subst (λ m. AreCutShort run sees leaves (tells top gs) m new fault) (rests c) cut)
            by false c (closed, close, poll) =
                tell_cut run sees leaves top gs old closed close false phased poll concluded (aborts c) new fault cut

        pub ended : HaveHappened run sees leaves (tells top gs) concluded new → IsEnded run sees leaves top gs committed old new
        ended told = by committed refl both
          where
            by : (b : Bool) → committed ≡ b → Phases top gs (Ok b) old phased → IsEnded run sees leaves top gs committed old new
            by true c (closed, close, voted, poll, decide) =
                subst (λ b. IsEnded run sees leaves top gs b old new) (sym c)
                (is_ended_by run sees leaves top gs old closed close true voted poll phased decide new
                (subst (λ m. HaveHappened run sees leaves (tells top gs) m new) (rests c) told))
            by false c (closed, close, poll) =
                subst (λ b. IsEnded run sees leaves top gs b old new) (sym c)
                (is_ended_by run sees leaves top gs old closed close false phased poll concluded (aborts c) new told)
