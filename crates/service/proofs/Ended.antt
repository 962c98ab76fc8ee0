-- Ending a top action by calls: which steps happened, and what they leave.
use Rattle.std.proofs.Common.{Bool, Err, IfErr, List, None, Ok, Option, Result, Some, [], ap, drop, false, get_or, length, map, refl, subst, sym, take, true, ℕ, ◌+◌, ◌++◌, ◌<◌, ◌||◌, ◌∙◌, ◌∷◌, ◌≡◌}
use Rattle.std.proofs.lemmas.Bool.{false_from_ne_true, false≢true}
use Rattle.std.proofs.lemmas.List.{append-nil, append_assoc, map-append, take-append-drop, take_more}
use Rattle.std.specs.Result.{IsErrAnd}
use Rattle.std.specs.Prelude.{IsTrue, if◌then◌else◌}
use Rattle.action_names.specs.Names.{Name}
use Rattle.run_model.specs.declared.answer.Answer.{Answer}
use Rattle.run_model.specs.declared.answer.Refusal.{Refusal}
use Rattle.run_model.specs.declared.answer.Refusal.TheVariants as why
use Rattle.run_model.specs.declared.history.Event.{Event}
use Rattle.run_model.specs.declared.step.Step.{Step}
use Rattle.run_model.specs.declared.step.Step.TheVariants as steps
use Rattle.run_model.specs.Actions.{is_aborted, is_committed, is_ended, step_commits}
use Rattle.run_model.specs.Answers.{answer_of, outcome, refused_or}
use Rattle.run_model.specs.Openings.{Opening, opening_in}
use Rattle.run_model.specs.Refusals.{checks, first_refusal}
use Rattle.run_model.specs.Runs.{history_after, is_accepted}
use Rattle.run_laws.proofs.Accepted.{none_applies}
use Rattle.run_laws.proofs.Names.{clash, same_name_self}
use Rattle.stepping.specs.Beside.{IsAnsweredTo, IsMadeWith, OwnRun, Sees}
use Rattle.stepping.specs.Stepping.{Leaves}
use Rattle.service.specs.Calling.{IsCall, IsDone, IsVote, Told}
use Rattle.service.specs.Ending.{AreCutShort, ArePolled, HasHappened, HaveHappened, IsEnded, IsEndingCut, ending, prepares, tells, verdict}
use Rattle.service.specs.declared.fault.CallFault.{CallFault}
use Rattle.service.proofs.Parts.{ended_seen}

-- ---- answers of steps that happened

pub done_happens : (answer : Answer) → IsDone tt answer → IsTrue (is_accepted answer)
done_happens answer h = ap is_accepted h

pub told_happens : (count : ℕ) (answer : Answer) → Told count answer → IsTrue (is_accepted answer)
told_happens count answer h = ap is_accepted h

pub vote_happens : (yes : Bool) (answer : Answer) → IsVote yes answer → IsTrue (is_accepted answer)
vote_happens true answer h = ap is_accepted h
vote_happens false answer h = ap is_accepted h

-- an answer that is accepted is no refusal
none_if_accepted : (o : Option Refusal) (x : Answer) → is_accepted (refused_or o x) ≡ true → o ≡ None
none_if_accepted None x h = refl
none_if_accepted (Some reason) x h = absurd (false≢true h)

-- what aborts has not ended before
abort_unended : (opening : Opening) (top : Name) (past : List Event) → IsTrue (is_accepted (answer_of opening (steps.Abort top) past))
    → is_ended top past ≡ false
unfolding answer_of
abort_unended opening top past h =
    none_applies (checks opening (steps.Abort top) past)
    (none_if_accepted (first_refusal (checks opening (steps.Abort top) past)) (outcome opening (steps.Abort top) past) h) why.Ended

-- what a caller aborts it has not ended before
abort_unended_own : {sees : Sees} (own : OwnRun) (top : Name) (answer : Answer) → IsAnsweredTo sees own (steps.Abort top) answer
    → IsTrue (is_accepted answer) → is_ended top own.past ≡ false
abort_unended_own own top answer given accepted =
    let unended = abort_unended (opening_in own.lists) top given.seen (subst (λ a. IsTrue (is_accepted a)) given.answered accepted) in
    false_from_ne_true (is_ended top own.past) (λ k. clash (ended_seen given.part top k) unended)

-- what is so of the error that came
pub error_with : {T : Type 0} (r : Result T CallFault) (fault : CallFault) (P : CallFault → Type 0) → IsErrAnd r (λ x. x ≡ fault) → P fault → IfErr r P
error_with (Ok x) fault P h p = absurd h
error_with (Err x) fault P h p = subst P (sym h) p

neither : (s t : Bool) → (s || t) ≡ false → s ≡ false
neither true t h = h
neither false t h = refl

module _ {M : Type 0} (run : M → OwnRun) (sees : Sees) (leaves : Leaves M) where
  -- ---- calls as steps

  pub call_happened : {T : Type 0} (step : Step) (Shows : T → Answer → Type 0) (old new : M) (x : T) → IsCall run sees leaves step Shows old new (Ok x)
      → ((answer : Answer) → Shows x answer → IsTrue (is_accepted answer)) → HasHappened run sees leaves step old new
  call_happened step Shows old new x call fine = record {
    answer = call.gives.answer;
    made = call.gives.made;
    accepted = fine call.gives.answer call.gives.shows;
  }

  pub call_cut : {T : Type 0} (step : Step) (Shows : T → Answer → Type 0) (old new : M) (fault : CallFault)
      → IsCall run sees leaves step Shows old new (Err fault) → AreCutShort run sees leaves (step ∷ []) old new fault
  call_cut step Shows old new fault call = record {
    done = [];
    next = step;
    rest = [];
    parts = refl;
    before = old;
    happened = refl;
    why = call.why;
    same = call.same;
    stores = call.stores;
  }

  -- ---- steps one after another

  pub happened_then : (first more : List Step) (old mid new : M) → HaveHappened run sees leaves first old mid → HaveHappened run sees leaves more mid new
      → HaveHappened run sees leaves (first ++ more) old new
  happened_then [] more old mid new a b = subst (λ m. HaveHappened run sees leaves more m new) a b
  happened_then (step ∷ first) more old mid new a b =
      let (next, one, rest) = a in (next, one, happened_then first more next mid new rest b)

  pub one_happened : (step : Step) (old new : M) → HasHappened run sees leaves step old new → HaveHappened run sees leaves (step ∷ []) old new
  one_happened step old new h = (new, h, refl)

  -- steps that were cut short, within others
  pub cut_within : (front all behind : List Step) (first old new : M) (fault : CallFault) → HaveHappened run sees leaves front first old
      → AreCutShort run sees leaves all old new fault → AreCutShort run sees leaves (front ++ (all ++ behind)) first new fault
  cut_within front all behind first old new fault a cut = record {
    done = front ++ cut.done;
    next = cut.next;
    rest = cut.rest ++ behind;
    parts =
        ap (λ xs. front ++ (xs ++ behind)) cut.parts
        ∙ ap (λ xs. front ++ xs) (append_assoc cut.done (cut.next ∷ cut.rest) behind)
        ∙ sym (append_assoc front cut.done (cut.next ∷ (cut.rest ++ behind)));
    before = cut.before;
    happened = happened_then front cut.done first old cut.before a cut.happened;
    why = cut.why;
    same = cut.same;
    stores = cut.stores;
  }

  -- ---- what has committed

  pub keeps_committed : (a : Name) (step : Step) (answer : Answer) (old new : M) → step_commits step a ≡ false
      → IsMadeWith run sees leaves step answer old new → is_committed a (run new).past ≡ is_committed a (run old).past
  keeps_committed a step given old new none made = ap (λ (w : OwnRun). is_committed a w.past) made.after ∙ of given
    where
      by : (answer : Answer) (t : Bool)
          → is_committed a (if t then record { step = step; answer = answer } ∷ (run old).past else (run old).past) ≡ is_committed a (run old).past
      by answer true = ap (λ t. t || is_committed a (run old).past) none
      by answer false = refl

      of : (answer : Answer) → is_committed a (history_after step answer (run old).past) ≡ is_committed a (run old).past
      of answer = by answer (is_accepted answer)

  pub told_keeps : (a top : Name) (guardians : List ℕ) (old new : M) → HaveHappened run sees leaves (tells top guardians) old new
      → is_committed a (run new).past ≡ is_committed a (run old).past
  told_keeps a top [] old new h = ap (λ m. is_committed a (run m).past) h
  told_keeps a top (g ∷ guardians) old new h =
      let (next, one, rest) = h in
      told_keeps a top guardians next new rest ∙ keeps_committed a (steps.Tell g top) one.answer old next refl one.made

  -- what was decided has committed
  pub decided : (top : Name) (old new : M) → HasHappened run sees leaves (steps.Decide top) old new → is_committed top (run new).past ≡ true
  decided top old new h =
      let e : Event = record { step = steps.Decide top; answer = h.answer } in
      ap (λ (w : OwnRun). is_committed top w.past) h.made.after
      ∙ ap (λ t. is_committed top (if t then e ∷ (run old).past else (run old).past)) h.accepted
      ∙ ap (λ t. t || is_committed top (run old).past) (same_name_self top)

  -- what was aborted has not
  pub aborted : (top : Name) (old new : M) → HasHappened run sees leaves (steps.Abort top) old new → is_committed top (run new).past ≡ false
  aborted top old new h =
      keeps_committed top (steps.Abort top) h.answer old new refl h.made
      ∙ neither (is_committed top (run old).past) (is_aborted top (run old).past)
      (abort_unended_own (run old) top h.answer h.made.answered h.accepted)

  -- ---- steps for each guardian

  module _ (f : ℕ → Step) (guardians : List ℕ) (i : ℕ) (within : i < length guardians) (x : ℕ) (same : x ≡ get_or guardians i 0) where
    next_taken : take (i + 1) guardians ≡ take i guardians ++ x ∷ []
    next_taken = take_more guardians i 0 within ∙ ap (λ y. take i guardians ++ y ∷ []) (sym same)

    in_parts : guardians ≡ take (i + 1) guardians ++ drop (i + 1) guardians
    in_parts = sym (take-append-drop (i + 1) guardians)

    next_mapped : map f (take (i + 1) guardians) ≡ map f (take i guardians) ++ f x ∷ []
    next_mapped = ap (map f) next_taken ∙ map-append f (take i guardians) (x ∷ [])

    mapped_parts : map f guardians ≡ map f (take i guardians) ++ f x ∷ map f (drop (i + 1) guardians)
    mapped_parts =
        ap (map f) in_parts
        ∙ map-append f (take (i + 1) guardians) (drop (i + 1) guardians)
        ∙ ap (λ xs. xs ++ map f (drop (i + 1) guardians)) next_mapped
        ∙ append_assoc (map f (take i guardians)) (f x ∷ []) (map f (drop (i + 1) guardians))

    pub one_more : (old mid new : M) → HaveHappened run sees leaves (map f (take i guardians)) old mid → HasHappened run sees leaves (f x) mid new
        → HaveHappened run sees leaves (map f (take (i + 1) guardians)) old new
    one_more old mid new so_far one =
        subst (λ xs. HaveHappened run sees leaves xs old new) (sym next_mapped)
        (happened_then (map f (take i guardians)) (f x ∷ []) old mid new so_far (one_happened (f x) mid new one))

    pub cut_here : (old mid new : M) (fault : CallFault) → HaveHappened run sees leaves (map f (take i guardians)) old mid
        → AreCutShort run sees leaves (f x ∷ []) mid new fault → AreCutShort run sees leaves (map f guardians) old new fault
    cut_here old mid new fault so_far cut =
        subst (λ xs. AreCutShort run sees leaves xs old new fault) (sym mapped_parts)
        (cut_within (map f (take i guardians)) (f x ∷ []) (map f (drop (i + 1) guardians)) old mid new fault so_far cut)

  pub polled_yes : (top : Name) (guardians : List ℕ) (old new : M) → HaveHappened run sees leaves (prepares top guardians) old new
      → ArePolled run sees leaves top guardians true old new
  polled_yes top guardians old new happened = record {
    polled = guardians;
    rest = [];
    parts = sym (append-nil guardians);
    all = λ _. refl;
    happened = happened;
    no = λ h. absurd (false≢true (sym h));
  }

  -- ---- the ending of a top action

  module _ (top : Name) (guardians : List ℕ) (old : M) where
    pub close_cut : (new : M) (fault : CallFault) → IsCall run sees leaves (steps.Close top) IsDone old new (Err fault)
        → IsEndingCut run sees leaves top guardians old new fault
    close_cut new fault call = record {
      committed = true;
      polled = guardians;
      rest = [];
      parts = sym (append-nil guardians);
      cut =
          cut_within [] (steps.Close top ∷ []) (prepares top guardians ++ verdict true top ∷ tells top guardians) old old new fault refl
          (call_cut (steps.Close top) IsDone old new fault call);
    }

    module _ (closed : M) (close : IsCall run sees leaves (steps.Close top) IsDone old closed (Ok tt)) where
      close_happened : HaveHappened run sees leaves (steps.Close top ∷ []) old closed
      close_happened = one_happened (steps.Close top) old closed (call_happened (steps.Close top) IsDone old closed tt close done_happens)

      pub poll_cut : (new : M) (fault : CallFault) → AreCutShort run sees leaves (prepares top guardians) closed new fault
          → IsEndingCut run sees leaves top guardians old new fault
      poll_cut new fault cut = record {
        committed = true;
        polled = guardians;
        rest = [];
        parts = sym (append-nil guardians);
        cut =
            cut_within (steps.Close top ∷ []) (prepares top guardians) (verdict true top ∷ tells top guardians) old closed new fault close_happened
            cut;
      }

      module _ (all : Bool) (voted : M) (poll : ArePolled run sees leaves top guardians all closed voted) where
        voted_happened : HaveHappened run sees leaves (steps.Close top ∷ prepares top poll.polled) old voted
        voted_happened = happened_then (steps.Close top ∷ []) (prepares top poll.polled) old closed voted close_happened poll.happened

        pub verdict_cut : (new : M) (fault : CallFault) → IsCall run sees leaves (verdict all top) IsDone voted new (Err fault)
            → IsEndingCut run sees leaves top guardians old new fault
        verdict_cut new fault call = record {
          committed = all;
          polled = poll.polled;
          rest = poll.rest;
          parts = poll.parts;
          cut =
              cut_within (steps.Close top ∷ prepares top poll.polled) (verdict all top ∷ []) (tells top guardians) old voted new fault
              voted_happened (call_cut (verdict all top) IsDone voted new fault call);
        }

        module _ (concluded : M) (conclude : IsCall run sees leaves (verdict all top) IsDone voted concluded (Ok tt)) where
          concluding : HasHappened run sees leaves (verdict all top) voted concluded
          concluding = call_happened (verdict all top) IsDone voted concluded tt conclude done_happens

          abbrev front : List Step
          front = (steps.Close top ∷ prepares top poll.polled) ++ verdict all top ∷ []

          front_happened : HaveHappened run sees leaves front old concluded
          front_happened =
              happened_then (steps.Close top ∷ prepares top poll.polled) (verdict all top ∷ []) old voted concluded voted_happened
              (one_happened (verdict all top) voted concluded concluding)

          whole : front ++ tells top guardians ≡ ending all top poll.polled guardians
          whole = append_assoc (steps.Close top ∷ prepares top poll.polled) (verdict all top ∷ []) (tells top guardians)

          pub tell_cut : (new : M) (fault : CallFault) → AreCutShort run sees leaves (tells top guardians) concluded new fault
              → IsEndingCut run sees leaves top guardians old new fault
          tell_cut new fault cut = record {
            committed = all;
            polled = poll.polled;
            rest = poll.rest;
            parts = poll.parts;
            cut =
                subst (λ xs. AreCutShort run sees leaves xs old new fault) (ap (λ xs. front ++ xs) (append-nil (tells top guardians)) ∙ whole)
                (cut_within front (tells top guardians) [] old concluded new fault front_happened cut);
          }

          said : is_committed top (run concluded).past ≡ all
          said = by all concluding
            where
              by : (b : Bool) → HasHappened run sees leaves (verdict b top) voted concluded → is_committed top (run concluded).past ≡ b
              by true h = decided top voted concluded h
              by false h = aborted top voted concluded h

          pub is_ended_by : (new : M) → HaveHappened run sees leaves (tells top guardians) concluded new
              → IsEnded run sees leaves top guardians all old new
          is_ended_by new told = record {
            polled = poll.polled;
            rest = poll.rest;
            parts = poll.parts;
            all = poll.all;
            happened =
                subst (λ xs. HaveHappened run sees leaves xs old new) whole
                (happened_then front (tells top guardians) old concluded new front_happened told);
            no = λ h.
                let (before, g, last, vote) = poll.no h in (
                  before,
                  g,
                  last,
                  record {
                    mid = vote.mid;
                    voted = vote.voted;
                    happened = happened_then (steps.Close top ∷ []) (prepares top before) old closed vote.mid close_happened vote.happened;
                    no = vote.no;
                    rest =
                        subst (λ m. HaveHappened run sees leaves (steps.Abort top ∷ tells top guardians) m new) vote.rest
                        (subst (λ b. HaveHappened run sees leaves (verdict b top ∷ tells top guardians) voted new) h (concluded, concluding, told));
                  },
                );
            says = told_keeps top top guardians concluded new told ∙ said;
          }
