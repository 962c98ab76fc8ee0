-- Steps of a transaction as calls, and how they end its top action.
use Rattle.std.proofs.Common.{Bool, Err, IfErr, List, None, Ok, Option, Result, Some, [], ap, eqb-true, false, inl, inr, refl, subst, sym, true, ℕ, ◌++◌, ◌==◌, ◌&&◌, ◌||◌, ◌∙◌, ◌∷◌, ◌≡◌, ◌⊎◌}
use Rattle.std.proofs.lemmas.Bool.{and_from, and_parts, false_from_ne_true, false≢true, or_cases, or_left, or_right}
use Rattle.std.proofs.lemmas.List.{append-nil}
use Rattle.std.specs.List.{list_all, list_any}
use Rattle.std.specs.Option.{option_or}
use Rattle.std.specs.Result.{result_err}
use Rattle.std.specs.Prelude.{if◌then◌else◌}
use Rattle.action_names.specs.Names.{Name, same_name}
use Rattle.run_model.specs.declared.answer.Answer.{Answer}
use Rattle.run_model.specs.declared.history.Event.{Event}
use Rattle.run_model.specs.declared.step.Step.{Step}
use Rattle.run_model.specs.declared.step.Step.TheVariants as steps
use Rattle.run_model.specs.Actions.{is_committed, is_ended, names_begun, step_commits}
use Rattle.run_model.specs.Openings.{opening_in}
use Rattle.run_model.specs.Runs.{is_accepted}
use Rattle.run_model.specs.Telling.{told_since_crash}
use Rattle.run_model.specs.Votes.{has_voted, step_votes}
use Rattle.run_laws.proofs.Growth.{any_stays}
use Rattle.run_laws.proofs.Names.{clash, eqb_self, same_name_self}
use Rattle.stepping.specs.Beside.{OwnRun, Sees}
use Rattle.stepping.specs.Stepping.{Leaves}
use Rattle.service.specs.Calling.{IsCall, IsDone, IsReply, IsVote, Told}
use Rattle.service.specs.Ending.{AreCutShort, ArePolled, HasHappened, HaveHappened, prepares}
use Rattle.service.specs.Transacting.{AllTold, AllVoted, CameToNothing, Concludes, EndedAndTold, EndsTop, FallsShort, Goes, Includes, NoneBegan, Settles, Works, by_itself, ends_top, finishes, has_number, is_concluding, is_settling, is_voted_down, settles, votes_no, works_in}
use Rattle.service.specs.declared.fault.CallFault.{CallFault}
use Rattle.service.proofs.Shapes.{answer_fits}
use Rattle.service.proofs.Going.{ended_stays, end_crashes_not, goes_grows, goes_none, goes_one, goes_same, goes_then, goes_told, goes_wider, kept, none_began, none_same, none_then, settles_after, settles_ends, settles_finishes, settles_then, settles_wider, short_in, short_more, short_then, step_kept, works_quiet}

-- ---- answers that begin nothing

pub done_quiet : (x : Unit {0}) (answer : Answer) → IsDone x answer → names_begun answer ≡ []
done_quiet x answer h = ap names_begun h

pub reply_quiet : (x : _) (answer : Answer) → IsReply x answer → names_begun answer ≡ []
reply_quiet x answer h = ap names_begun h

pub told_quiet : (x : ℕ) (answer : Answer) → Told x answer → names_begun answer ≡ []
told_quiet x answer h = ap names_begun h

pub vote_quiet : (x : Bool) (answer : Answer) → IsVote x answer → names_begun answer ≡ []
vote_quiet true answer h = ap names_begun h
vote_quiet false answer h = ap names_begun h

-- ---- numbers

pub has_front : (xs ys : List ℕ) → Includes xs (xs ++ ys)
has_front [] ys n h = absurd (false≢true h)
has_front (x ∷ xs) ys n h = elim (or_cases (x == n) (has_number xs n) h) [
  | inl k ↦ or_left (x == n) (has_number (xs ++ ys) n) k
  | inr k ↦ or_right (x == n) (has_number (xs ++ ys) n) (has_front xs ys n k)
]

-- what is true of all is true of each
all_at : (p : ℕ → Bool) (xs : List ℕ) (n : ℕ) → list_all p xs ≡ true → has_number xs n ≡ true → p n ≡ true
all_at p [] n h k = absurd (false≢true k)
all_at p (x ∷ xs) n h k = elim (or_cases (x == n) (has_number xs n) k) [
  | inl e ↦ subst (λ m. p m ≡ true) (eqb-true x n e) (and_parts _ _ h).0
  | inr i ↦ all_at p xs n (and_parts _ _ h).1 i
]

pub told_at : (t : Name) (gs : List ℕ) (now : OwnRun) (g : ℕ) → AllTold t gs now → has_number gs g ≡ true → told_since_crash g t now.past ≡ true
told_at t gs now g h i = all_at (λ x. told_since_crash x t now.past) gs g h i

-- ---- conclusions, one after another

module _ {sees : Sees} where
  pub concluded_same : (t : Name) (gs : List ℕ) (old new : OwnRun) → new ≡ old → Concludes sees t gs old new false
  concluded_same t gs old new e = record {
    goes = goes_same (ends_top t) old new e;
    none = none_same old new e;
    says = ap (λ (w : OwnRun). is_committed t w.past) e;
    voted = λ g out. ap (λ (w : OwnRun). has_voted g t w.past) e;
  }

  pub concluded_then : (t : Name) (gs : List ℕ) (x y z : OwnRun) (c : Bool) → Concludes sees t gs x y false → Concludes sees t gs y z c → Concludes sees t gs x z c
  concluded_then t gs x y z c u v = record {
    goes = goes_then (ends_top t) x y z u.goes v.goes;
    none = none_then x y z u.none v.none;
    says = v.says ∙ ap (λ b. c || b) u.says;
    voted = λ g out. v.voted g out ∙ u.voted g out;
  }

  -- what follows a conclusion and commits nothing
  pub concluded_after : (t : Name) (gs : List ℕ) (x y z : OwnRun) (c : Bool) → Concludes sees t gs x y c → Concludes sees t gs y z false → Concludes sees t gs x z c
  concluded_after t gs x y z c u v = record {
    goes = goes_then (ends_top t) x y z u.goes v.goes;
    none = none_then x y z u.none v.none;
    says = v.says ∙ u.says;
    voted = λ g out. v.voted g out ∙ u.voted g out;
  }

-- what settles a top action neither commits it nor votes
pub settles_commits_not : (t : Name) (step : Step) → settles t step ≡ true → step_commits step t ≡ false
settles_commits_not t (steps.Commit b) h = absurd (false≢true h)
settles_commits_not t (steps.Decide b) h = absurd (false≢true h)
settles_commits_not t _ h = refl

settles_votes_not : (t : Name) (g : ℕ) (step : Step) → settles t step ≡ true → step_votes step g t ≡ false
settles_votes_not t g (steps.Prepare h b) own = absurd (false≢true own)
settles_votes_not t g _ own = refl

module _ {sees : Sees} where
  settled_concludes : (t : Name) (gs : List ℕ) (x y : OwnRun) → Goes sees (settles t) x y → NoneBegan x y → Concludes sees t gs x y false
  settled_concludes t gs x y a n = record {
    goes = goes_wider (settles t) (ends_top t) x y (settles_ends t) a;
    none = n;
    says = kept (λ step. step_commits step t) (settles t) x y (settles_commits_not t) a;
    voted = λ g out. kept (λ step. step_votes step g t) (settles t) x y (settles_votes_not t g) a;
  }

-- ---- what is kept of faults

-- no fault was kept, and none came
nothing_left : (was : Option CallFault) {T : Type 0} (r : Result T CallFault) → option_or was (result_err r) ≡ None → was ≡ None
nothing_left None r h = refl
nothing_left (Some fault) r h = h

module _ {M : Type 0} (run : M → OwnRun) (sees : Sees) (leaves : Leaves M) where
  -- ---- calls

  pub call_goes : {T : Type 0} (p : Step → Bool) (step : Step) (Shows : T → Answer → Type 0) (old new : M) (r : Result T CallFault) → p step ≡ true
      → IsCall run sees leaves step Shows old new r → Goes sees p (run old) (run new)
  call_goes p step Shows old new (Ok x) is call = goes_one p step call.gives.answer (run old) (run new) is call.gives.made.answered call.gives.made.after
  call_goes p step Shows old new (Err e) is call = goes_same p (run old) (run new) call.same

  pub call_none : {T : Type 0} (step : Step) (Shows : T → Answer → Type 0) (old new : M) (r : Result T CallFault)
      → ((x : T) (answer : Answer) → Shows x answer → names_begun answer ≡ []) → IsCall run sees leaves step Shows old new r
      → NoneBegan (run old) (run new)
  call_none step Shows old new (Ok x) quiet call =
      none_began step call.gives.answer (run old) (run new) (quiet x call.gives.answer call.gives.shows) call.gives.made.after
  call_none step Shows old new (Err e) quiet call = none_same (run old) (run new) call.same

  -- a test of steps that fails at the call's
  call_keeps : {T : Type 0} (p : Step → Bool) (step : Step) (Shows : T → Answer → Type 0) (old new : M) (r : Result T CallFault) → p step ≡ false
      → IsCall run sees leaves step Shows old new r
      → list_any (λ (e : Event). p e.step) (run new).past ≡ list_any (λ (e : Event). p e.step) (run old).past
  call_keeps p step Shows old new (Ok x) none call =
      step_kept p step call.gives.answer (run old) (run new) none call.gives.made.after
  call_keeps p step Shows old new (Err e) none call = ap (λ (w : OwnRun). list_any (λ (e : Event). p e.step) w.past) call.same

  -- a call in an action that begins nothing
  pub call_works : {T : Type 0} (a : Name) (step : Step) (Shows : T → Answer → Type 0) (old new : M) (r : Result T CallFault)
      (left : Option CallFault) → works_in a step ≡ true → ((x : T) (answer : Answer) → Shows x answer → names_begun answer ≡ [])
      → IsCall run sees leaves step Shows old new r → Works sees a (run old) (run new) left left
  call_works a step Shows old new r left is quiet call =
      works_quiet a (run old) (run new) left (call_goes (works_in a) step Shows old new r is call) (call_none step Shows old new r quiet call)

  pub call_concludes : {T : Type 0} (t : Name) (gs : List ℕ) (step : Step) (Shows : T → Answer → Type 0) (old new : M) (r : Result T CallFault)
      → ends_top t step ≡ true → step_commits step t ≡ false → ((g : ℕ) → step_votes step g t ≡ false)
      → ((x : T) (answer : Answer) → Shows x answer → names_begun answer ≡ []) → IsCall run sees leaves step Shows old new r
      → Concludes sees t gs (run old) (run new) false
  call_concludes t gs step Shows old new r is none novote quiet call = record {
    goes = call_goes (ends_top t) step Shows old new r is call;
    none = call_none step Shows old new r quiet call;
    says = call_keeps (λ step. step_commits step t) step Shows old new r none call;
    voted = λ g out. call_keeps (λ step. step_votes step g t) step Shows old new r (novote g) call;
  }

  -- a call that came to nothing
  pub call_stopped : {T : Type 0} (p kind : Step → Bool) (step : Step) (Shows : T → Answer → Type 0) (old new : M) (fault : CallFault)
      → p step ≡ true → kind step ≡ true → IsCall run sees leaves step Shows old new (Err fault) → CameToNothing sees p kind (run old) (run new) fault
  call_stopped p kind step Shows old new fault own is call =
      by_itself (record {
        before = run old;
        first = goes_none p (run old);
        step = step;
        own = own;
        of_kind = is;
        why = call.why;
        more = goes_same p (run old) (run new) call.same;
      })

  -- a call that is to settle something, of which the first fault is kept
  pub call_settles : {T : Type 0} (p : Step → Bool) (step : Step) (Shows : T → Answer → Type 0) (old new : M) (r : Result T CallFault)
      (was : Option CallFault) (So : Type 0) → p step ≡ true → is_settling step ≡ true
      → ((x : T) (answer : Answer) → Shows x answer → names_begun answer ≡ []) → ((x : T) → r ≡ Ok x → So) → IsCall run sees leaves step Shows old new r
      → Settles sees p (run old) (run new) was (option_or was (result_err r)) So
  call_settles {T} p step Shows old new r was So own settling quiet so call = record {
    goes = call_goes p step Shows old new r own call;
    none = call_none step Shows old new r quiet call;
    settled = λ h. (nothing_left was r h, done was r refl h);
    short = λ fault h. by was r refl call fault h;
  }
    where
      done : (was : Option CallFault) (r' : Result T CallFault) → r ≡ r' → option_or was (result_err r') ≡ None → So
      done was (Ok x) e h = so x e
      done None (Err fault) e h = cc
      done (Some f) (Err fault) e h = cc

      by : (was : Option CallFault) (r' : Result T CallFault) → r ≡ r' → IsCall run sees leaves step Shows old new r' → (fault : CallFault)
          → option_or was (result_err r') ≡ Some fault → (was ≡ Some fault) ⊎ FallsShort sees p (run old) (run new) fault
      by (Some f) r' e call fault h = inl h
      by None (Ok x) e call fault h = cc
      by None (Err f) e call fault h =
          let same : f ≡ fault = cc in
          inr (subst (λ k. FallsShort sees p (run old) (run new) k) same (call_stopped p is_settling step Shows old new f own settling call))

  -- what an accepted step does
  call_happens : (step : Step) (old new : M) → IsCall run sees leaves step IsDone old new (Ok tt)
      → (answer : Answer) × ((run new).past ≡ record { step = step; answer = answer } ∷ (run old).past)
  call_happens step old new call =
      let answer = call.gives.answer in (
        answer,
        ap (λ (w : OwnRun). w.past) call.gives.made.after
            ∙ ap (λ b. if b then record { step = step; answer = answer } ∷ (run old).past else (run old).past) (ap is_accepted call.gives.shows),
      )

  pub decide_concludes : (t : Name) (gs : List ℕ) (old new : M) → IsCall run sees leaves (steps.Decide t) IsDone old new (Ok tt)
      → Concludes sees t gs (run old) (run new) true
  decide_concludes t gs old new call = record {
    goes =
        call_goes (ends_top t) (steps.Decide t) IsDone old new (Ok tt) (same_name_self t) call;
    none = call_none (steps.Decide t) IsDone old new (Ok tt) done_quiet call;
    says =
        let (answer, e) = call_happens (steps.Decide t) old new call in
        ap (λ past. is_committed t past) e ∙ or_left _ _ (same_name_self t);
    voted = λ g out. call_keeps (λ step. step_votes step g t) (steps.Decide t) IsDone old new (Ok tt) refl call;
  }

  -- a decision that did not come about
  pub undecided : (t : Name) (gs : List ℕ) (old new : M) (fault : CallFault) → IsCall run sees leaves (steps.Decide t) IsDone old new (Err fault)
      → Concludes sees t gs (run old) (run new) false
  undecided t gs old new fault call = concluded_same t gs (run old) (run new) call.same

  pub abort_ends : (t : Name) (old new : M) → IsCall run sees leaves (steps.Abort t) IsDone old new (Ok tt) → is_ended t (run new).past ≡ true
  abort_ends t old new call =
      let (answer, e) = call_happens (steps.Abort t) old new call in
      ap (λ past. is_ended t past) e ∙ or_right (is_committed t (run old).past) _ (or_left _ _ (same_name_self t))

  pub commit_ends : (t : Name) (old new : M) → IsCall run sees leaves (steps.Commit t) IsDone old new (Ok tt) → is_ended t (run new).past ≡ true
  commit_ends t old new call =
      let (answer, e) = call_happens (steps.Commit t) old new call in
      ap (λ past. is_ended t past) e ∙ or_left _ _ (or_left _ _ (same_name_self t))

  commit_commits : (a : Name) (old new : M) → IsCall run sees leaves (steps.Commit a) IsDone old new (Ok tt) → is_committed a (run new).past ≡ true
  commit_commits a old new call =
      let (answer, e) = call_happens (steps.Commit a) old new call in
      ap (λ past. is_committed a past) e ∙ or_left _ _ (same_name_self a)

  -- what was committed stays so, whether its guardian was told or not
  pub committed_then : (a : Name) (g : ℕ) (old mid new : M) (r : Result ℕ CallFault) → IsCall run sees leaves (steps.Commit a) IsDone old mid (Ok tt)
      → IsCall run sees leaves (steps.Tell g a) Told mid new r → is_committed a (run new).past ≡ true
  committed_then a g old mid new r commit tell =
      call_keeps (λ step. step_commits step a) (steps.Tell g a) Told mid new r refl tell ∙ commit_commits a old mid commit

  -- who is told is told
  tell_tells : (a : Name) (g count : ℕ) (old new : M) → IsCall run sees leaves (steps.Tell g a) Told old new (Ok count)
      → (answer : Answer) × ((run new).past ≡ record { step = steps.Tell g a; answer = answer } ∷ (run old).past)
  tell_tells a g count old new call =
      let answer = call.gives.answer in (
        answer,
        ap (λ (w : OwnRun). w.past) call.gives.made.after
            ∙ ap (λ b. if b then record { step = steps.Tell g a; answer = answer } ∷ (run old).past else (run old).past) (ap is_accepted call.gives.shows),
      )

  pub is_told : (a : Name) (g count : ℕ) (old new : M) → IsCall run sees leaves (steps.Tell g a) Told old new (Ok count)
      → told_since_crash g a (run new).past ≡ true
  is_told a g count old new call =
      let (answer, e) = tell_tells a g count old new call in
      ap (λ past. told_since_crash g a past) e
      ∙ or_right (told_since_crash g a (run old).past) _ (and_from _ _ (eqb_self g) (same_name_self a))

  -- ---- votes

  vote_concludes : (t : Name) (gs : List ℕ) (g : ℕ) (old new : M) → has_number gs g ≡ true → HasHappened run sees leaves (steps.Prepare g t) old new
      → Concludes sees t gs (run old) (run new) false
  vote_concludes t gs g old new there h =
      let at = h.made.answered in
      let (said, vote) = answer_fits (opening_in (run old).lists) (steps.Prepare g t) at.seen h.answer (sym at.answered) h.accepted in
      record {
        goes = goes_one (ends_top t) (steps.Prepare g t) h.answer (run old) (run new) (same_name_self t) at h.made.after;
        none = none_began (steps.Prepare g t) h.answer (run old) (run new) (vote_quiet said h.answer vote) h.made.after;
        says = step_kept (λ step. step_commits step t) (steps.Prepare g t) h.answer (run old) (run new) refl h.made.after;
        voted = λ x out. step_kept (λ step. step_votes step x t) (steps.Prepare g t) h.answer (run old) (run new) (another x out) h.made.after;
      }
    where
      another : (x : ℕ) → has_number gs x ≡ false → (g == x) && same_name t t ≡ false
      another x out =
          false_from_ne_true _ (λ p. clash (subst (λ y. has_number gs y ≡ true) (eqb-true g x (and_parts _ _ p).0) there) out)

  pub votes_conclude : (t : Name) (gs polled : List ℕ) (old new : M) → Includes polled gs → HaveHappened run sees leaves (prepares t polled) old new
      → Concludes sees t gs (run old) (run new) false
  votes_conclude t gs [] old new inside h = concluded_same t gs (run old) (run new) (ap run h)
  votes_conclude t gs (g ∷ polled) old new inside h =
      let (next, one, rest) = h in
      concluded_then t gs (run old) (run next) (run new) false
      (vote_concludes t gs g old next (inside g (or_left _ _ (eqb_self g))) one)
      (votes_conclude t gs polled next new (λ n k. inside n (or_right (g == n) _ k)) rest)

  -- the guardians that were polled voted
  pub polled_conclude : (t : Name) (gs : List ℕ) (said : Bool) (old new : M) → ArePolled run sees leaves t gs said old new
      → Concludes sees t gs (run old) (run new) false
  polled_conclude t gs said old new poll =
      votes_conclude t gs poll.polled old new (subst (λ xs. Includes poll.polled xs) (sym poll.parts) (has_front poll.polled poll.rest)) poll.happened

  some_votes : (t : Name) (gs all : List ℕ) (done more : List Step) (old new : M) → Includes all gs → prepares t all ≡ done ++ more
      → HaveHappened run sees leaves done old new → Concludes sees t gs (run old) (run new) false
  some_votes t gs all [] more old new inside e h = concluded_same t gs (run old) (run new) (ap run h)
  some_votes t gs [] (step ∷ done) more old new inside e h = cc
  some_votes t gs (g ∷ all) (step ∷ done) more old new inside e h =
      let (next, one, rest) = h in
      let first : step ≡ steps.Prepare g t = cc in
      let others : prepares t all ≡ done ++ more = cc in
      concluded_then t gs (run old) (run next) (run new) false
      (vote_concludes t gs g old next (inside g (or_left _ _ (eqb_self g)))
      (subst (λ s. HasHappened run sees leaves s old next) first one))
      (some_votes t gs all done more next new (λ n k. inside n (or_right (g == n) _ k)) others rest)

  pub cut_votes : (t : Name) (gs : List ℕ) (old new : M) (fault : CallFault) → AreCutShort run sees leaves (prepares t gs) old new fault
      → Concludes sees t gs (run old) (run new) false
  cut_votes t gs old new fault cut =
      concluded_then t gs (run old) (run cut.before) (run new) false
      (some_votes t gs gs cut.done (cut.next ∷ cut.rest) old cut.before (λ n h. h) cut.parts cut.happened)
      (concluded_same t gs (run cut.before) (run new) cut.same)

  next_votes : (t : Name) (all : List ℕ) (done rest : List Step) (next : Step) → prepares t all ≡ done ++ next ∷ rest
      → (ends_top t next ≡ true) × (is_concluding next ≡ true)
  next_votes t [] [] rest next e = cc
  next_votes t [] (step ∷ done) rest next e = cc
  next_votes t (g ∷ all) [] rest next e =
      let first : next ≡ steps.Prepare g t = cc in
      subst (λ s. (ends_top t s ≡ true) × (is_concluding s ≡ true)) (sym first) (same_name_self t, refl)
  next_votes t (g ∷ all) (step ∷ done) rest next e = next_votes t all done rest next cc

  -- the vote that did not come about
  pub cut_stopped : (t : Name) (gs : List ℕ) (old new : M) (fault : CallFault) → AreCutShort run sees leaves (prepares t gs) old new fault
      → CameToNothing sees (ends_top t) is_concluding (run old) (run new) fault
  cut_stopped t gs old new fault cut =
      let (own, is) = next_votes t gs cut.done cut.rest cut.next cut.parts in
      by_itself (record {
        before = run cut.before;
        first = (some_votes t gs gs cut.done (cut.next ∷ cut.rest) old cut.before (λ n h. h) cut.parts cut.happened).goes;
        step = cut.next;
        own = own;
        of_kind = is;
        why = cut.why;
        more = goes_same (ends_top t) (run cut.before) (run new) cut.same;
      })

  -- what has happened is the last event
  happened_past : (step : Step) (old new : M) (h : HasHappened run sees leaves step old new)
      → (run new).past ≡ record { step = step; answer = h.answer } ∷ (run old).past
  happened_past step old new h =
      ap (λ (w : OwnRun). w.past) h.made.after
      ∙ ap (λ b. if b then record { step = step; answer = h.answer } ∷ (run old).past else (run old).past) h.accepted

  -- a poll that did not give all votes
  pub polled_down : (t : Name) (gs : List ℕ) (said : Bool) (old new : M) → ArePolled run sees leaves t gs said old new → said ≡ false
      → is_voted_down t (run new).past ≡ true
  polled_down t gs said old new poll e =
      let (front, g, parts, vote) = poll.no e in
      ap (λ m. is_voted_down t (run m).past) vote.rest
      ∙ ap (λ (w : OwnRun). is_voted_down t w.past) vote.no.after
      ∙ or_left _ _ (same_name_self t)

  vote_votes : (t : Name) (g : ℕ) (old new : M) → HasHappened run sees leaves (steps.Prepare g t) old new → has_voted g t (run new).past ≡ true
  vote_votes t g old new h =
      ap (λ past. has_voted g t past) (happened_past (steps.Prepare g t) old new h)
      ∙ or_left _ _ (and_from _ _ (eqb_self g) (same_name_self t))

  votes_voted : (t : Name) (polled : List ℕ) (old new : M) → HaveHappened run sees leaves (prepares t polled) old new → AllVoted t polled (run new)
  votes_voted t [] old new h g i = absurd (false≢true i)
  votes_voted t (x ∷ polled) old new h g i =
      let (next, one, rest) = h in
      elim (or_cases (x == g) (has_number polled g) i) [
        | inl e ↦
            any_stays (λ (k : Event). step_votes k.step g t)
            (goes_grows (ends_top t) (run next) (run new) (votes_conclude t polled polled next new (λ n k. k) rest).goes)
            (subst (λ y. has_voted y t (run next).past ≡ true) (eqb-true x g e) (vote_votes t x old next one))
        | inr k ↦ votes_voted t polled next new rest g k
      ]

  -- all voted before the decision
  pub decided_voted : (t : Name) (gs : List ℕ) (said : Bool) (old voted new : M) → ArePolled run sees leaves t gs said old voted → said ≡ true
      → IsCall run sees leaves (steps.Decide t) IsDone voted new (Ok tt) → AllVoted t gs (run new)
  decided_voted t gs said old voted new poll e call g i =
      any_stays (λ (k : Event). step_votes k.step g t)
      (goes_grows (ends_top t) (run voted) (run new) (decide_concludes t gs voted new call).goes)
      (votes_voted t poll.polled old voted poll.happened g (subst (λ xs. has_number xs g ≡ true) all i))
    where
      all : gs ≡ poll.polled
      all = poll.parts ∙ ap (λ ys. poll.polled ++ ys) (poll.all e) ∙ append-nil poll.polled

  -- ---- the ends of subactions

  -- an action that has ended is told
  pub told_settles : (a : Name) (g : ℕ) (old new : M) (r : Result ℕ CallFault) (was : Option CallFault) → is_ended a (run old).past ≡ true
      → IsCall run sees leaves (steps.Tell g a) Told old new r
      → Settles sees (settles a) (run old) (run new) was (option_or was (result_err r)) (EndedAndTold a g (run new))
  told_settles a g old new r was ended call =
      let goes = call_goes (settles a) (steps.Tell g a) Told old new r (same_name_self a) call in
      call_settles (settles a) (steps.Tell g a) Told old new r was (EndedAndTold a g (run new)) (same_name_self a) refl told_quiet
      (λ count e. (
        ended_stays a (run old).past (run new).past (goes_grows (settles a) (run old) (run new) goes) ended,
        is_told a g count old new (subst (λ k. IsCall run sees leaves (steps.Tell g a) Told old new k) e call),
      ))
      call

  pub abort_then_told : (a : Name) (g : ℕ) (old mid new : M) (r : Result ℕ CallFault) (was : Option CallFault)
      → IsCall run sees leaves (steps.Abort a) IsDone old mid (Ok tt) → IsCall run sees leaves (steps.Tell g a) Told mid new r
      → Settles sees (settles a) (run old) (run new) was (option_or was (result_err r)) (EndedAndTold a g (run new))
  abort_then_told a g old mid new r was abort tell =
      settles_after (settles a) (run old) (run mid) (run new) was (option_or was (result_err r)) (EndedAndTold a g (run new))
      (call_goes (settles a) (steps.Abort a) IsDone old mid (Ok tt) (same_name_self a) abort)
      (call_none (steps.Abort a) IsDone old mid (Ok tt) done_quiet abort)
      (told_settles a g mid new r was (abort_ends a old mid abort) tell)

  pub unaborted : (a : Name) (g : ℕ) (old new : M) (fault : CallFault) (was : Option CallFault)
      → IsCall run sees leaves (steps.Abort a) IsDone old new (Err fault)
      → Settles sees (settles a) (run old) (run new) was (option_or was (Some fault)) (EndedAndTold a g (run new))
  unaborted a g old new fault was abort =
      call_settles (settles a) (steps.Abort a) IsDone old new (Err fault) was (EndedAndTold a g (run new)) (same_name_self a) refl done_quiet
      (λ x e. cc) abort

  pub commit_then_told : (a : Name) (g : ℕ) (old mid new : M) (r : Result ℕ CallFault) (was : Option CallFault)
      → IsCall run sees leaves (steps.Commit a) IsDone old mid (Ok tt) → IsCall run sees leaves (steps.Tell g a) Told mid new r
      → Settles sees (finishes a) (run old) (run new) was (option_or was (result_err r)) (EndedAndTold a g (run new))
  commit_then_told a g old mid new r was commit tell =
      settles_after (finishes a) (run old) (run mid) (run new) was (option_or was (result_err r)) (EndedAndTold a g (run new))
      (call_goes (finishes a) (steps.Commit a) IsDone old mid (Ok tt) (same_name_self a) commit)
      (call_none (steps.Commit a) IsDone old mid (Ok tt) done_quiet commit)
      (settles_wider (settles a) (finishes a) (run mid) (run new) was (option_or was (result_err r)) (EndedAndTold a g (run new)) (settles_finishes a)
      (told_settles a g mid new r was (commit_ends a old mid commit) tell))

  pub uncommitted_then : (a : Name) (g : ℕ) (old mid new : M) (fault : CallFault) (was is : Option CallFault)
      → IsCall run sees leaves (steps.Commit a) IsDone old mid (Err fault) → Settles sees (settles a) (run mid) (run new) was is (EndedAndTold a g (run new))
      → Settles sees (finishes a) (run old) (run new) was is (EndedAndTold a g (run new))
  uncommitted_then a g old mid new fault was is commit h =
      settles_after (finishes a) (run old) (run mid) (run new) was is (EndedAndTold a g (run new)) (goes_same (finishes a) (run old) (run mid) commit.same)
      (none_same (run old) (run mid) commit.same)
      (settles_wider (settles a) (finishes a) (run mid) (run new) was is (EndedAndTold a g (run new)) (settles_finishes a) h)

  -- what was not committed was at most aborted and told
  pub uncommitted_undone : (a : Name) (g : ℕ) (old mid new : M) (fault : CallFault) (was is : Option CallFault)
      → IsCall run sees leaves (steps.Commit a) IsDone old mid (Err fault) → Settles sees (settles a) (run mid) (run new) was is (EndedAndTold a g (run new))
      → Goes sees (settles a) (run old) (run new)
  uncommitted_undone a g old mid new fault was is commit h =
      goes_then (settles a) (run old) (run mid) (run new) (goes_same (settles a) (run old) (run mid) commit.same) h.goes

  -- ---- the end of a top action

  pub top_aborts : (t : Name) (old new : M) (r : Result (Unit {0}) CallFault) (was : Option CallFault) (committed : Bool)
      → IsCall run sees leaves (steps.Abort t) IsDone old new r
      → Settles sees (settles t) (run old) (run new) was (option_or was (result_err r)) (committed ≡ false → is_ended t (run new).past ≡ true)
  top_aborts t old new r was committed call =
      call_settles (settles t) (steps.Abort t) IsDone old new r was (committed ≡ false → is_ended t (run new).past ≡ true) (same_name_self t) refl
      done_quiet (λ x e. λ _. abort_ends t old new (subst (λ k. IsCall run sees leaves (steps.Abort t) IsDone old new k) e call)) call

  -- one guardian more
  pub one_more_told : (t : Name) (gs : List ℕ) (g : ℕ) (old mid new : M) (r : Result ℕ CallFault) (was is : Option CallFault)
      → Settles sees (settles t) (run old) (run mid) was is (AllTold t gs (run mid)) → IsCall run sees leaves (steps.Tell g t) Told mid new r
      → Settles sees (settles t) (run old) (run new) was (option_or is (result_err r)) (AllTold t (gs ++ g ∷ []) (run new))
  one_more_told t gs g old mid new r was is so_far call =
      let goes = call_goes (settles t) (steps.Tell g t) Told mid new r (same_name_self t) call in
      settles_then (settles t) (run old) (run mid) (run new) was is (option_or is (result_err r)) (AllTold t gs (run mid))
      (told_since_crash g t (run new).past ≡ true) (AllTold t (gs ++ g ∷ []) (run new))
      (λ early late. all_more (λ x. told_since_crash x t (run new).past) gs g (all_kept gs goes early) late) so_far
      (call_settles (settles t) (steps.Tell g t) Told mid new r is (told_since_crash g t (run new).past ≡ true) (same_name_self t) refl told_quiet
      (λ count e. is_told t g count mid new (subst (λ k. IsCall run sees leaves (steps.Tell g t) Told mid new k) e call)) call)
    where
      all_kept : (gs : List ℕ) → Goes sees (settles t) (run mid) (run new) → list_all (λ x. told_since_crash x t (run mid).past) gs ≡ true
          → list_all (λ x. told_since_crash x t (run new).past) gs ≡ true
      all_kept [] goes h = refl
      all_kept (x ∷ gs) goes h =
          let (this, more) = and_parts _ _ h in
          and_from _ _ (goes_told x t (settles t) (run mid) (run new) (λ step own. end_crashes_not t x step (settles_ends t step own)) goes this)
          (all_kept gs goes more)

      all_more : (p : ℕ → Bool) (gs : List ℕ) (x : ℕ) → list_all p gs ≡ true → p x ≡ true → list_all p (gs ++ x ∷ []) ≡ true
      all_more p [] x h k = and_from _ _ k refl
      all_more p (y ∷ gs) x h k = let (this, more) = and_parts _ _ h in and_from _ _ this (all_more p gs x more k)

module _ {sees : Sees} where
  pub top_ends : (t : Name) (gs : List ℕ) (w x y z : OwnRun) (was mid is : Option CallFault) (committed : Bool) → Concludes sees t gs w x committed
      → Settles sees (settles t) x y was mid (committed ≡ false → is_ended t y.past ≡ true) → Settles sees (settles t) y z mid is (AllTold t gs z)
      → EndsTop sees t gs w z was is committed
  top_ends t gs w x y z was mid is committed first next last = record {
    concludes =
        concluded_after t gs w x z committed first
        (settled_concludes t gs x z both.goes both.none);
    settled = λ h.
        let (k, so) = both.settled h in
        (k, ended_stays t y.past z.past (goes_grows (settles t) y z last.goes) (by committed refl so.0), so.1);
    short =
        short_then (ends_top t) w x z was was is first.goes (goes_wider (settles t) (ends_top t) x z (settles_ends t) both.goes) (λ fault e. inl e)
        (λ fault e. short_in (settles t) (ends_top t) x z was fault (settles_ends t) (both.short fault e));
  }
    where
      both : Settles sees (settles t) x z was is ((committed ≡ false → is_ended t y.past ≡ true) × AllTold t gs z)
      both =
          settles_then (settles t) x y z was mid is (committed ≡ false → is_ended t y.past ≡ true) (AllTold t gs z)
          ((committed ≡ false → is_ended t y.past ≡ true) × AllTold t gs z) (λ p q. (p, q)) next last

      by : (c : Bool) → committed ≡ c → (committed ≡ false → is_ended t y.past ≡ true) → is_ended t y.past ≡ true
      by true e ended =
          or_left _ _
          (kept (λ step. step_commits step t) (settles t) x y (settles_commits_not t) next.goes
          ∙ first.says
          ∙ ap (λ b. b || is_committed t w.past) e)
      by false e ended = ended e

  -- the end of a top action, by calls whose lists of guardians are the same
  pub top_ended : (t : Name) (gs polled told : List ℕ) (w x y z : OwnRun) (was mid is : Option CallFault) (committed said : Bool) → polled ≡ gs
      → told ≡ gs → said ≡ committed → Concludes sees t polled w x committed
      → Settles sees (settles t) x y was mid (said ≡ false → is_ended t y.past ≡ true) → Settles sees (settles t) y z mid is (AllTold t told z)
      → EndsTop sees t gs w z was is committed
  top_ended t gs polled told w x y z was mid is committed said p q e first next last =
      top_ends t gs w x y z was mid is committed (subst (λ xs. Concludes sees t xs w x committed) p first)
      (subst (λ b. Settles sees (settles t) x y was mid (b ≡ false → is_ended t y.past ≡ true)) e next)
      (subst (λ xs. Settles sees (settles t) y z mid is (AllTold t xs z)) q last)

  -- what comes of the vote is kept as the top action is ended
  module _ (t : Name) (x y z : OwnRun) (was mid is : Option CallFault) (Aborts Tells : Type 0) (first : Settles sees (settles t) x y was mid Aborts)
      (last : Settles sees (settles t) y z mid is Tells) where
    ended_goes : Goes sees (settles t) x z
    ended_goes = goes_then (settles t) x y z first.goes last.goes

    pub stays_down : is_voted_down t x.past ≡ true → is_voted_down t z.past ≡ true
    stays_down h = any_stays (λ (e : Event). votes_no t e.step e.answer) (goes_grows (settles t) x z ended_goes) h

    pub stays_stopped : (w : OwnRun) (r : Result Bool CallFault) → IfErr r (CameToNothing sees (ends_top t) is_concluding w x)
        → IfErr r (CameToNothing sees (ends_top t) is_concluding w z)
    stays_stopped w (Ok c) h = tt
    stays_stopped w (Err fault) h = short_more (ends_top t) w x z fault h (goes_wider (settles t) (ends_top t) x z (settles_ends t) ended_goes)
