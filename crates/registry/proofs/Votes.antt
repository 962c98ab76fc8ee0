-- How ballots follow a history.
use Rattle.std.proofs.Common.{Bool, List, None, Option, Some, [], ap, cond, eqb-true, false, is_some, nat_eq, refl, subst, sym, true, ℕ, ◌&&◌, ◌==◌, ◌∙◌, ◌∷◌, ◌≡◌, ◌||◌}
use Rattle.std.proofs.lemmas.Bool.{eq-eqb, false≢true}
use Rattle.std.proofs.lemmas.Map.{lookup-set_value}
use Rattle.std.specs.Cmp.{nat_eq_equiv}
use Rattle.std.specs.Map.{lookup, set_value}
use Rattle.std.specs.Option.{IsSome}
use Rattle.action_names.specs.Names.{Name, same_name}
use Rattle.run_model.specs.declared.answer.Answer.{Answer}
use Rattle.run_model.specs.declared.answer.Answer.TheVariants.{VoteYes}
use Rattle.run_model.specs.declared.history.Event.{Event}
use Rattle.run_model.specs.declared.step.Step.{Step}
use Rattle.run_model.specs.declared.step.Step.TheVariants.{Prepare}
use Rattle.run_model.specs.Visibility.{has_prepared, votes_yes}
use Rattle.run_model.specs.Votes.{has_voted, step_votes}
use Rattle.two_phase.specs.Ballots.{IsBallot, vote}
use Rattle.two_phase.specs.declared.ballot.Ballot.{Ballot}
use Rattle.registry.specs.Polls.{AreNoted, IsNoted, ballot_in}

abbrev head_of : Name → ℕ
head_of [] = 0
head_of (n ∷ a) = n

abbrev pub Entries : Type 0
Entries = List (ℕ × Ballot)

-- the ballot under a number
abbrev pub under : Entries → ℕ → Option Ballot
under entries n = lookup (nat_eq n) entries

-- what is found under a number once a ballot was changed
pub found_set : (n q : ℕ) (es : Entries) (before after : Ballot) → Some before ≡ lookup (nat_eq n) es
    → lookup (nat_eq q) (set_value (nat_eq n) es after) ≡ cond (n == q) (Some after) (lookup (nat_eq q) es)
found_set n q es before after is = lookup-set_value nat_eq_equiv (nat_eq n) one q after es (subst IsSome is (some before))
  where
    one : (x y : ℕ) → nat_eq n x ≡ true → nat_eq n y ≡ nat_eq x y
    one x y e = ap (λ m. nat_eq m y) (eqb-true n x e)

    some : (b : Ballot) → IsSome (Some b)
    some b = refl

-- of a ballot that is changed under its number
module _ (old new : Entries) (n : ℕ) (before after : Ballot) (is : Some before ≡ under old n)
    (found : (q : ℕ) → under new q ≡ cond (n == q) (Some after) (under old q)) where
  -- Where the changed ballot notes the votes in front of which others stand, and the others do, all do.
  moved : (past now : List Event) → ((t : Name) → IsNoted t past (Some before) → t ≡ n ∷ [] → IsNoted t now (Some after))
      → ((t : Name) → (t ≡ n ∷ [] → ⊥) → IsNoted t past (ballot_in old t) → IsNoted t now (ballot_in old t)) → AreNoted past old → AreNoted now new
  moved past now here there h [] = there [] (λ e. absurd (cc)) (h [])
  moved past now here there h (m ∷ []) = subst (IsNoted (m ∷ []) now) (sym (found m)) (of (n == m) refl)
    where
      of : (b : Bool) → (n == m) ≡ b → IsNoted (m ∷ []) now (cond b (Some after) (under old m))
      of true e =
          let same : n ≡ m = eqb-true n m e in
          here (m ∷ []) (subst (IsNoted (m ∷ []) past) (ap (under old) (sym same) ∙ sym is) (h (m ∷ []))) (ap (λ k. k ∷ []) (sym same))
      of false e = there (m ∷ []) (differs e) (h (m ∷ []))
        where
          differs : (n == m) ≡ false → m ∷ [] ≡ n ∷ [] → ⊥
          differs e k = let same : m ≡ n = ap head_of k in absurd (false≢true (sym e ∙ eq-eqb n m (sym same)))
  moved past now here there h (k ∷ m ∷ a) = there (k ∷ m ∷ a) (λ e. absurd (cc)) (h (k ∷ m ∷ a))

  -- the ballots note what they noted where the changed one does
  pub kept : ((t : Name) (past : List Event) → IsBallot t past before → IsBallot t past after) → (past : List Event) → AreNoted past old → AreNoted past new
  kept keeps past h = moved past past (λ t noted e. keeps t past noted) (λ t e noted. noted) h

-- a step that is no vote is no vote with yes
no_vote : (s : Step) (a : Answer) (g : ℕ) (t : Name) → step_votes s g t ≡ false → votes_yes s a g t ≡ false
no_vote (Prepare h b) VoteYes g t none = none
no_vote (Prepare h b) _ g t none = refl
no_vote _ a g t none = refl

-- the votes on an action stay noted where the event in front is no vote on it
pub passed : (e : Event) (t : Name) (past : List Event) (o : Option Ballot) → ((g : ℕ) → step_votes e.step g t ≡ false) → IsNoted t past o → IsNoted t (e ∷ past) o
passed e t past None silent h = λ g. ap (λ b. b || has_voted g t past) (silent g) ∙ h g
passed e t past (Some ballot) silent h = record {
  voted = λ g. h.voted g ∙ sym (ap (λ b. b || has_voted g t past) (silent g));
  prepared = λ g. h.prepared g ∙ sym (ap (λ b. b || has_prepared g t past) (no_vote e.step e.answer g t (silent g)));
}

-- a vote is on one action alone
other_name : (a b : Name) → (b ≡ a → ⊥) → same_name a b ≡ false
other_name [] [] h = absurd (h refl)
other_name [] (n ∷ b) h = refl
other_name (m ∷ a) [] h = refl
other_name (m ∷ a) (n ∷ b) h = of (m == n) refl (same_name a b) (other_name a b)
  where
    of : (s : Bool) → (m == n) ≡ s → (t : Bool) → ((b ≡ a → ⊥) → t ≡ false) → (s && t) ≡ false
    of false e t rest = refl
    of true e t rest = rest (λ k. h (λ i. sym (eqb-true m n e) i ∷ k i))

and_false : (a : Bool) → (a && false) ≡ false
and_false true = refl
and_false false = refl

pub voted : (old new : Entries) (n g : ℕ) (agrees : Bool) (before after : Ballot) → Some before ≡ under old n
    → ((q : ℕ) → under new q ≡ cond (n == q) (Some after) (under old q))
    → ((t : Name) (past : List Event) → IsBallot t past before → IsBallot t (vote g t agrees ∷ past) after) → (past : List Event) → AreNoted past old
    → AreNoted (vote g (n ∷ []) agrees ∷ past) new
voted old new n g agrees before after is found notes past h =
    moved old new n before after is found past (vote g (n ∷ []) agrees ∷ past)
    (λ t noted same. subst (λ b. IsBallot t (vote g b agrees ∷ past) after) same (notes t past noted))
    (λ t other noted. passed (vote g (n ∷ []) agrees) t past (ballot_in old t)
    (λ q. ap (λ b. (g == q) && b) (other_name (n ∷ []) t other) ∙ and_false (g == q)) noted) h

-- the same entries note the same
pub same_entries : (old new : Entries) → new ≡ old → (past : List Event) → AreNoted past old → AreNoted past new
same_entries old new same past h [] = h []
same_entries old new same past h (m ∷ []) = subst (IsNoted (m ∷ []) past) (sym (ap (lookup (nat_eq m)) same)) (h (m ∷ []))
same_entries old new same past h (k ∷ m ∷ a) = h (k ∷ m ∷ a)

-- a ballot more, of an action on which nobody voted
pub more : (old new : Entries) (n : ℕ) (ballot : Ballot) → is_some (under old n) ≡ false
    → ((q : ℕ) → under new q ≡ cond (n == q) (Some ballot) (under old q))
    → ((t : Name) (past : List Event) → ((g : ℕ) → has_voted g t past ≡ false) → IsBallot t past ballot) → (past : List Event) → AreNoted past old
    → AreNoted past new
more old new n ballot none found fresh past h [] = h []
more old new n ballot none found fresh past h (m ∷ []) = subst (IsNoted (m ∷ []) past) (sym (found m)) (of (n == m) refl)
  where
    empty : (o : Option Ballot) → is_some o ≡ false → o ≡ None
    empty None e = refl
    empty (Some b) e = absurd (cc)

    of : (b : Bool) → (n == m) ≡ b → IsNoted (m ∷ []) past (cond b (Some ballot) (under old m))
    of true e =
        let nothing = empty (under old m) (ap (λ k. is_some (under old k)) (sym (eqb-true n m e)) ∙ none) in
        fresh (m ∷ []) past (subst (IsNoted (m ∷ []) past) nothing (h (m ∷ [])))
    of false e = h (m ∷ [])
more old new n ballot none found fresh past h (k ∷ m ∷ a) = h (k ∷ m ∷ a)
