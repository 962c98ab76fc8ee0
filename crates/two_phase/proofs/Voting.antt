-- The votes of a history, and how a ballot follows one more.
use Rattle.std.proofs.Common.{Bool, List, Option, Some, [], ap, cond, eqb-true, false, is_none, is_some, refl, sym, true, ℕ, ◌&&◌, ◌==◌, ◌∙◌, ◌∷◌, ◌≡◌, ◌||◌}
use Rattle.std.proofs.lemmas.Bool.{eq-eqb}
use Rattle.std.specs.FinMap as map
use Rattle.std.specs.List.{list_all}
use Rattle.action_names.specs.Deps.{Deps, Entries, least_at}
use Rattle.action_names.specs.Names.{Name, same_name}
use Rattle.run_model.specs.declared.answer.Answer.{Answer}
use Rattle.run_model.specs.declared.answer.Answer.TheVariants.{VoteNo, VoteYes}
use Rattle.run_model.specs.declared.history.Event.{Event}
use Rattle.run_model.specs.declared.step.Step.{Step}
use Rattle.run_model.specs.declared.step.Step.TheVariants.{Prepare}
use Rattle.run_model.specs.Lists.{up_to}
use Rattle.run_model.specs.Visibility.{has_prepared, votes_yes}
use Rattle.run_model.specs.Votes.{has_voted, step_votes}
use Rattle.two_phase.specs.Ballots.{IsBallot, is_yes, vote, vote_of}
use Rattle.two_phase.specs.declared.ballot.Ballot.{Ballot}

-- a step that is no vote is no vote with yes
no_vote : (s : Step) (a : Answer) (g : ℕ) (t : Name) → step_votes s g t ≡ false → votes_yes s a g t ≡ false
no_vote (Prepare h b) VoteYes g t none = none
no_vote (Prepare h b) _ g t none = refl
no_vote _ a g t none = refl

neither : (a b : Bool) → (a || b) ≡ false → (a ≡ false) × (b ≡ false)
neither true b h = absurd (cc)
neither false b h = (refl, h)

-- who did not vote did not vote yes
pub unvoted : (g : ℕ) (t : Name) (past : List Event) → has_voted g t past ≡ false → has_prepared g t past ≡ false
unvoted g t [] none = refl
unvoted g t (e ∷ past) none =
    let parts = neither (step_votes e.step g t) (has_voted g t past) none in
    ap (λ b. b || has_prepared g t past) (no_vote e.step e.answer g t parts.0) ∙ unvoted g t past parts.1

same_name_self : (a : Name) → same_name a a ≡ true
same_name_self [] = refl
same_name_self (n ∷ a) = ap (λ b. b && same_name a a) (eq-eqb n n refl) ∙ same_name_self a

-- t says whether the question is of the one who votes, and s that the vote is on this top action
voted_more : (t v : Bool) (o : Option Bool) (s h : Bool) → s ≡ true → is_some o ≡ h → is_some (cond t (Some v) o) ≡ ((t && s) || h)
voted_more true v o s h e i = sym (ap (λ b. b || h) e)
voted_more false v o s h e i = i

yes_more : (t v : Bool) (own o : Option Bool) (s h : Bool) → s ≡ true → (t ≡ true → is_yes own ≡ h) → is_yes o ≡ h
    → is_yes (cond t (Some (v || is_yes own)) o) ≡ (cond v (t && s) false || h)
yes_more true true own o s h e same i = sym (ap (λ b. b || h) e)
yes_more true false own o s h e same i = same refl
yes_more false true own o s h e same i = i
yes_more false false own o s h e same i = i

vote_says : (g q : ℕ) (top : Name) (v : Bool) → votes_yes (Prepare g top) (cond v VoteYes VoteNo) q top ≡ cond v ((g == q) && same_name top top) false
vote_says g q top true = refl
vote_says g q top false = refl

-- a ballot with one more vote notes the history with that vote in front
pub noted : (g : ℕ) (top : Name) (v : Bool) (past : List Event) (before after : Ballot)
    → ((q : ℕ) → vote_of after q ≡ cond (g == q) (Some (v || is_yes (vote_of before g))) (vote_of before q))
    → IsBallot top past before → IsBallot top (vote g top v ∷ past) after
noted g top v past before after found is = record {
  voted = λ q. ap is_some (found q)
      ∙ voted_more (g == q) (v || is_yes (vote_of before g)) (vote_of before q) (same_name top top) (has_voted q top past) (same_name_self top) (is.voted q);
  prepared = λ q. ap is_yes (found q)
      ∙ yes_more (g == q) v (vote_of before g) (vote_of before q) (same_name top top) (has_prepared q top past) (same_name_self top)
      (λ e. ap (λ x. is_yes (vote_of before x)) (eqb-true g q e) ∙ is.prepared q) (is.prepared q)
      ∙ ap (λ b. b || has_prepared q top past) (sym (vote_says g q top v));
}

-- the entries of the participants, and what the ballot notes of them, say whether all prepared
pub answered : (top : Name) (past : List Event) (ballot : Ballot) (participants : Deps) (es : Entries) (n m : ℕ) (b : Bool)
    → IsBallot top past ballot → es ≡ map.entries participants → n ≡ m
    → list_all (λ g. is_none (least_at es g) || is_yes (vote_of ballot g)) (up_to n) ≡ b
    → b ≡ list_all (λ g. is_none (map.get participants g) || has_prepared g top past) (up_to m)
answered top past ballot participants es n m b is same count h =
    let found : (g : ℕ) → least_at es g ≡ map.get participants g = λ g. ap (λ xs. least_at xs g) same ∙ sym (map.get-entries participants g) in
    sym h ∙ (λ i. list_all (λ g. is_none (found g i) || is.prepared g i) (up_to (count i)))
