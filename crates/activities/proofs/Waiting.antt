-- What an answer began.
use Rattle.std.proofs.Common.{List, None, [], arith, length, ◌∷◌, refl, ◌≡◌}
use Rattle.action_names.specs.Names.{Name}
use Rattle.run_model.specs.declared.answer.Answer.{Answer}
use Rattle.run_model.specs.declared.answer.Answer.TheVariants.{Began, Done, Granted, Refused, VoteNo, VoteYes, Waits}
use Rattle.run_model.specs.declared.answer.Refusal.TheVariants as refusal
use Rattle.run_model.specs.Actions.{names_begun}
use Rattle.activities.specs.Ends.{called, named_by}
use Rattle.activities.specs.Serial.{begun_by, called_by}

-- what a call began, which is one action at most
pub called_names : (a : Answer) → ((names : List Name) → a ≡ Began names → length names ≡ 1) → called (called_by a) ≡ names_begun a
called_names (Began []) f = refl
called_names (Began (a ∷ [])) f = refl
called_names (Began (a ∷ b ∷ names)) f = let h = f (a ∷ b ∷ names) refl in absurd (omega arith)
called_names (Refused refusal.Down) f = refl
called_names (Refused refusal.TooDeep) f = refl
called_names (Refused why) f = refl
called_names (Granted reply) f = refl
called_names (Waits names) f = refl
called_names VoteYes f = refl
called_names VoteNo f = refl
called_names (Done n) f = refl

-- the same of a nested top action
pub begun_names : (a : Answer) → ((names : List Name) → a ≡ Began names → length names ≡ 1) → named_by (begun_by a) ≡ names_begun a
begun_names (Began []) f = refl
begun_names (Began (a ∷ [])) f = refl
begun_names (Began (a ∷ b ∷ names)) f = let h = f (a ∷ b ∷ names) refl in absurd (omega arith)
begun_names (Refused why) f = refl
begun_names (Granted reply) f = refl
begun_names (Waits names) f = refl
begun_names VoteYes f = refl
begun_names VoteNo f = refl
begun_names (Done n) f = refl

-- an answer that began nothing
pub none_begun_by : (a : Answer) → ((names : List Name) → a ≡ Began names → ⊥) → None ≡ begun_by a
none_begun_by (Began names) n = absurd (n names refl)
none_begun_by (Granted reply) n = refl
none_begun_by (Waits names) n = refl
none_begun_by VoteYes n = refl
none_begun_by VoteNo n = refl
none_begun_by (Done m) n = refl
none_begun_by (Refused why) n = refl
