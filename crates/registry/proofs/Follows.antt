-- Actions and votes follow an event that was entered.
use Rattle.std.proofs.Common.{Bool, List, [], ap, cond, false, refl, subst, sym, true, ℕ, ◌∙◌, ◌∷◌, ◌≡◌}
use Rattle.std.proofs.lemmas.Bool.{false≢true}
use Rattle.action_names.specs.Names.{Name, is_top, last_of}
use Rattle.run_model.specs.declared.answer.Answer.{Answer}
use Rattle.run_model.specs.declared.answer.Answer.TheVariants.{Began, Done, VoteNo, VoteYes}
use Rattle.run_model.specs.declared.history.Event.{Event}
use Rattle.run_model.specs.declared.step.Step.{Step}
use Rattle.run_model.specs.declared.step.Step.TheVariants.{Abort, Arms, Call, Close, Commit, Crash, Decide, NestedTop, Op, Prepare, Recover, Tell, Top}
use Rattle.run_model.specs.Actions.{home_in, home_of, maker_in, names_begun}
use Rattle.run_model.specs.LocalHistories.{RegistryEvent, events_there, home_lent}
use Rattle.run_model.specs.Openings.{Opening}
use Rattle.run_model.specs.Votes.{is_yes, step_votes}
use Rattle.layer_contracts.specs.Forests.{begun_in}
use Rattle.action_forest.proofs.Still.{unmoved}
use Rattle.action_forest.specs.Events.{IsUnended, beginning, done, is_still}
use Rattle.action_forest.specs.Forests.{IsCommitmentOf, IsForest}
use Rattle.action_forest.specs.Rooms.{AreBorn, IsBeginning}
use Rattle.action_forest.specs.Trees.{trees}
use Rattle.action_forest.specs.declared.forest.Begun.{Begun}
use Rattle.action_forest.specs.declared.forest.Commitment.{Commitment}
use Rattle.two_phase.specs.Ballots.{vote}
use Rattle.two_phase.specs.declared.ballot.Ballot.{Ballot}
use Rattle.registry.specs.Following.{AreActions, AreBegun, IsEntered, MayEnd, event_after, is_ending, takes_room}
use Rattle.registry.specs.Polls.{AreBallots, AreNoted, IsVoteOn, ballot_in, is_yes_in, top_in, voter_in}
use Rattle.registry.specs.declared.actions.Actions.{Actions}
use Rattle.registry.specs.declared.ballots.Vote.{Vote}
use Rattle.registry.proofs.Asked.{Asked, asked, is_began}
use Rattle.registry.proofs.Votes.{passed}

-- the votes stay noted where the event in front is no vote
silent : (e : Event) (past : List Event) (entries : List (ℕ × Ballot)) → ((g : ℕ) (t : Name) → step_votes e.step g t ≡ false) → AreNoted past entries
    → AreNoted (e ∷ past) entries
silent e past entries none h = λ t. passed e t past (ballot_in entries t) (λ g. none g t) (h t)

-- a top action's name is its number
top_is : (t : Name) → is_top t ≡ true → t ≡ last_of t ∷ []
top_is [] h = absurd (false≢true h)
top_is (n ∷ []) h = refl
top_is (m ∷ n ∷ a) h = absurd (false≢true h)

not_began : (answer : Answer) (names : List Name) → answer ≡ Began names → is_began answer ≡ false → ⊥
not_began answer names is other = false≢true (sym other ∙ ap is_began is)

vote_not_began : (v : Bool) → is_began (cond v VoteYes VoteNo) ≡ false
vote_not_began true = refl
vote_not_began false = refl

vote_begins_none : (v : Bool) → names_begun (cond v VoteYes VoteNo) ≡ []
vote_begins_none true = refl
vote_begins_none false = refl

vote_says : (v : Bool) → is_yes (cond v VoteYes VoteNo) ≡ v
vote_says true = refl
vote_says false = refl

event_is : (s step : Step) (a answer : Answer) → s ≡ step → a ≡ answer
    → ◌≡◌ {A = Event} (record { step = s; answer = a }) (record { step = step; answer = answer })
event_is s step a answer p q = λ i. record { step = p i; answer = q i }

module _ (opening : Opening) (registry : List RegistryEvent) where
  -- who answers that names begin is as the beginning of these asks
  begins_of : (step : Step) (answer : Answer) (names : List Name) → Asked opening registry step answer → answer ≡ Began names
      → IsBeginning opening registry step names (home_in step (λ a. home_of a (events_there registry)))
  begins_of step answer names a is = of step a
    where
      renamed : (step : Step) (ns : List Name) → answer ≡ Began ns
          → IsBeginning opening registry step ns (home_in step (λ a. home_of a (events_there registry)))
          → IsBeginning opening registry step names (home_in step (λ a. home_of a (events_there registry)))
      renamed step ns h b =
          subst (λ l. IsBeginning opening registry step l (home_in step (λ a. home_of a (events_there registry)))) (ap names_begun (sym h ∙ is)) b

      of : (step : Step) → Asked opening registry step answer
          → IsBeginning opening registry step names (home_in step (λ a. home_of a (events_there registry)))
      of (Top g) a = renamed (Top g) a.0 a.1 a.2
      of (NestedTop b) a = renamed (NestedTop b) a.0 a.1 a.2
      of (Call b g) a = renamed (Call b g) a.0 a.1 a.2
      of (Arms b kinds) a = renamed (Arms b kinds) a.0 a.1 a.2
      of (Op b x wanted) a = absurd (not_began answer names is a)
      of (Commit b) a = absurd (not_began answer names is (ap is_began a.0))
      of (Close t) a = absurd (not_began answer names is (ap is_began a.0))
      of (Prepare g t) a = absurd (not_began answer names is (ap is_began a.1 ∙ vote_not_began a.0))
      of (Decide t) a = absurd (not_began answer names is (ap is_began a.0))
      of (Abort b) a = absurd (not_began answer names is (ap is_began a.0))
      of (Tell g b) a = absurd (not_began answer names is a)
      of (Crash g) a = absurd (not_began answer names is a)
      of (Recover g) a = absurd (not_began answer names is a)

  -- and its step is no vote
  begins_silent : (step : Step) (answer : Answer) (names : List Name) → Asked opening registry step answer → answer ≡ Began names → (g : ℕ) (t : Name)
      → step_votes step g t ≡ false
  begins_silent (Prepare h b) answer names a is g t = absurd (not_began answer names is (ap is_began a.1 ∙ vote_not_began a.0))
  begins_silent _ answer names a is g t = refl

  -- a step that ends or closes something and takes no room may do so, and is answered that it is done
  may_end : (step : Step) (answer : Answer) → Asked opening registry step answer → is_ending step ≡ true → (answer ≡ Done 0) × MayEnd registry step
  may_end (Close t) answer a e = a
  may_end (Decide t) answer a e = a
  may_end (Abort b) answer a e = a
  may_end _ answer a e = absurd (false≢true e)

  -- the event of a step that is done
  done_is : (e : Event) (step : Step) (stamp life : ℕ) → e.step ≡ step → e.answer ≡ Done 0 → event_after opening registry stamp e life ≡ done stamp step
  done_is e step stamp life p q = λ i. record {
    stamp = stamp;
    event = record { step = p i; answer = q i };
    begun = begun_in (record { opening = opening; registry = registry }) life (record { step = p i; answer = q i });
  }

  -- and that of one that begins names
  beginning_is : (e : Event) (names : List Name) (stamp life : ℕ) → e.answer ≡ Began names
      → event_after opening registry stamp e life ≡ beginning opening registry stamp e.step names (home_lent e.step registry) life
  beginning_is e names stamp life q = λ i. record {
    stamp = stamp;
    event = record { step = e.step; answer = q i };
    begun = begun_in (record { opening = opening; registry = registry }) life (record { step = e.step; answer = q i });
  }

  module _ (e : Event) (stamp life : ℕ) (actions : Actions) (are : AreActions opening registry actions) (entered : IsEntered opening registry e) where
    has : Asked opening registry e.step e.answer
    has = asked opening registry (trees actions.forest) e are.forest entered

    abbrev after : List RegistryEvent
    after = event_after opening registry stamp e life ∷ registry

    -- actions begin
    pub begun_follows : (new : Actions) (begun : Begun) → (names : List Name) × (e.answer ≡ Began names) × AreBegun opening registry e.step names life actions begun
        → new.ballots ≡ actions.ballots
        → ((step : Step) (names : List Name) (home life : ℕ) → IsBeginning opening registry step names home
        → AreBorn opening registry (maker_in step) home life (trees actions.forest) names begun
        → IsForest opening (beginning opening registry stamp step names home life ∷ registry) (trees new.forest))
        → AreActions opening after new
    begun_follows new begun fits ballots grows =
        let names = fits.0 in
        record {
          forest =
              subst (λ c. IsForest opening (c ∷ registry) (trees new.forest)) (sym (beginning_is e names stamp life fits.1))
              (grows e.step names (home_lent e.step registry) life (begins_of e.step e.answer names has fits.1) fits.2);
          ballots =
              subst (λ b. AreBallots (e ∷ events_there registry) b) (sym ballots)
              (silent e (events_there registry) actions.ballots.ballots.entries (begins_silent e.step e.answer names has fits.1) are.ballots);
        }

    -- a subaction commits
    pub commit_follows : (new : Actions) (commitment : Commitment) → (a : Name) × (e.step ≡ Commit a) × IsCommitmentOf (trees actions.forest) a commitment
        → new.ballots ≡ actions.ballots
        → ((a : Name) → IsCommitmentOf (trees actions.forest) a commitment → IsUnended (events_there registry) a → is_top a ≡ false
        → IsForest opening (done stamp (Commit a) ∷ registry) (trees new.forest))
        → AreActions opening after new
    commit_follows new commitment fits ballots ends =
        let a = fits.0 in
        let own = subst (λ s. Asked opening registry s e.answer) fits.1 has in
        record {
          forest =
              subst (λ c. IsForest opening (c ∷ registry) (trees new.forest)) (sym (done_is e (Commit a) stamp life fits.1 own.0))
              (ends a fits.2 own.1 own.2);
          ballots =
              subst (λ b. AreBallots (e ∷ events_there registry) b) (sym ballots)
              (silent e (events_there registry) actions.ballots.ballots.entries (λ g t. ap (λ s. step_votes s g t) fits.1) are.ballots);
        }

    -- a guardian votes
    pub vote_follows : (new : Actions) (v : Vote) → (g : ℕ) × (t : Name) × (e.step ≡ Prepare g t) × IsVoteOn g t (is_yes e.answer) v
        → trees new.forest ≡ trees actions.forest
        → ((past : List Event) → AreBallots past actions.ballots → AreBallots (vote (voter_in v) (top_in v) (is_yes_in v) ∷ past) new.ballots)
        → AreActions opening after new
    vote_follows new v fits forest notes =
        let g = fits.0 in
        let t = fits.1 in
        let own = subst (λ s. Asked opening registry s e.answer) fits.2 has in
        let yes_vote = own.0 in
        let top : top_in v ≡ t = ap (λ n. n ∷ []) fits.3.top ∙ sym (top_is t own.2) in
        let says : is_yes_in v ≡ yes_vote = fits.3.vote.1 ∙ ap is_yes own.1 ∙ vote_says yes_vote in
        let same : vote (voter_in v) (top_in v) (is_yes_in v) ≡ e =
        event_is (Prepare (voter_in v) (top_in v)) e.step (cond (is_yes_in v) VoteYes VoteNo) e.answer
        ((λ i. Prepare (fits.3.vote.0 i) (top i)) ∙ sym fits.2) (ap (λ b. cond b VoteYes VoteNo) says ∙ sym own.1) in
        record {
          forest =
              subst (λ f. IsForest opening after f) (sym forest)
              (unmoved opening registry (trees actions.forest) (event_after opening registry stamp e life) (ap names_begun own.1 ∙ vote_begins_none yes_vote)
              (ap is_still fits.2) are.forest);
          ballots = subst (λ f. AreBallots (f ∷ events_there registry) new.ballots) same (notes (events_there registry) are.ballots);
        }

    -- nothing happens, or what takes no room
    pub other_follows : (new : Actions) → (takes_room e.step ≡ false) × (names_begun e.answer ≡ []) → new.ballots ≡ actions.ballots
        → (is_ending e.step ≡ false → trees new.forest ≡ trees actions.forest)
        → (MayEnd registry e.step → IsForest opening (done stamp e.step ∷ registry) (trees new.forest))
        → AreActions opening after new
    other_follows new fits ballots stays ends = record {
      forest = of (is_ending e.step) refl;
      ballots =
          subst (λ b. AreBallots (e ∷ events_there registry) b) (sym ballots)
          (silent e (events_there registry) actions.ballots.ballots.entries (λ g t. no_vote e.step g t fits.0) are.ballots);
    }
      where
        no_vote : (step : Step) (g : ℕ) (t : Name) → takes_room step ≡ false → step_votes step g t ≡ false
        no_vote (Prepare h b) g t k = absurd (false≢true (sym k))
        no_vote _ g t k = refl

        still : (step : Step) → takes_room step ≡ false → is_ending step ≡ false → is_still step ≡ true
        still (Commit a) k l = absurd (false≢true (sym k))
        still (Close t) k l = absurd (false≢true (sym l))
        still (Decide t) k l = absurd (false≢true (sym l))
        still (Abort a) k l = absurd (false≢true (sym l))
        still _ k l = refl

        of : (b : Bool) → is_ending e.step ≡ b → IsForest opening after (trees new.forest)
        of true k =
            let may = may_end e.step e.answer has k in
            subst (λ c. IsForest opening (c ∷ registry) (trees new.forest)) (sym (done_is e e.step stamp life refl may.0)) (ends may.1)
        of false k =
            subst (λ f. IsForest opening after f) (sym (stays k))
            (unmoved opening registry (trees actions.forest) (event_after opening registry stamp e life) fits.1 (still e.step fits.0 k) are.forest)
