-- Clients that run one after another: each as a top action of its own, which ends before the next begins.
use Rattle.std.proofs.Common.{IsTrue, List, None, Option, Some, [], ap, arith, length, refl, subst, sym, ℕ, ◌∙◌, ◌∷◌, ◌≡◌, ◌≢◌}
use Rattle.std.proofs.lemmas.Bool.{false≢true, or_left}
use Rattle.action_names.specs.Names.{Name}
use Rattle.run_model.specs.declared.answer.Answer.{Answer}
use Rattle.run_model.specs.declared.answer.Answer.TheVariants.{Began, Done, Granted, Refused, VoteNo, VoteYes, Waits}
use Rattle.run_model.specs.declared.answer.Refusal.{Refusal}
use Rattle.run_model.specs.declared.step.Step.TheVariants.{Top}
use Rattle.run_model.specs.Actions.{next_number}
use Rattle.run_model.specs.Answers.{answer_of, refused_or}
use Rattle.run_model.specs.Refusals.{checks, first_refusal}
use Rattle.run_model.specs.Openings.{Opening, opening_in}
use Rattle.run_model.specs.Runs.{IsRun, World, history_after, world_after}
use Rattle.run_model.specs.declared.history.Event.{Event}
use Rattle.run_laws.proofs.Names.{clash, same_name_self}
use Rattle.run_laws.proofs.Runs.{run_more}
use Rattle.script_model.specs.declared.checked.Checked.{Checked}
use Rattle.script_model.specs.declared.checked.Client.{Client}
use Rattle.script_model.specs.declared.names.Gives.TheVariants as gives
use Rattle.script_model.specs.declared.statement.Statement.{Statement}
use Rattle.script_model.specs.Resolved as resolved
use Rattle.frames.specs.Bound.{Bound, nothing_bound}
use Rattle.activities.specs.Bodies.{IsBody, sizes}
use Rattle.activities.specs.Ends.{IsTopAt, named_by}
use Rattle.activities.specs.Making.{once_begun}
use Rattle.activities.specs.Serial.{after, asked, begun_by}
use Rattle.activities.proofs.ArmNames.{unless_begun}
use Rattle.activities.proofs.Resolving.{resolved_at}
use Rattle.activities.proofs.Steps.{HaveBegun, IsOpen, begins_names}

-- ---- a client's body

-- its home has objects, so its body is one of the script
pub client_body : (script : Checked) (client : Client) → IsTrue (resolved.is_resolved_client script client)
    → IsBody script (record { ints = 0; texts = 0; truths = 0 }) client.body
client_body script client h =
    resolved_at (resolved.objects_at script client.home) script gives.Anything (record { ints = 0; texts = 0; truths = 0 }) client.body h

pub body_given : (script same : Checked) (client : Client) (f : Bound) (body : List Statement)
    → IsTrue (resolved.is_resolved_client script client) → same ≡ script → f ≡ nothing_bound → body ≡ client.body → IsBody same (sizes f) body
body_given script same client f body h e n b =
    subst (λ x. IsBody x (sizes f) body) (sym e)
    (subst (λ x. IsBody script (sizes f) x) (sym b)
    (subst (λ (x : Bound). IsBody script (sizes x) client.body) (sym n) (client_body script client h)))

-- ---- its top action

-- the `top` step was made, and nothing else
pub record TopMade (home : ℕ) (old new : World) (found : Option Name) : Type 0 where
  pub top : IsTopAt home old found
  pub is_run : IsRun (opening_in new.lists) new.past
  pub left : new ≡ once_begun home found old
  pub began : HaveBegun (named_by found) old new

-- a `top` step begins one action
pub top_begins_one : (opening : Opening) (g : ℕ) (past : List Event) (names : List Name) → Began names ≡ answer_of opening (Top g) past
    → length names ≡ 1
unfolding answer_of
top_begins_one opening g past names h = go (first_refusal (checks opening (Top g) past)) h
  where
    go : (o : Option Refusal) → Began names ≡ refused_or o (Began ((next_number opening [] past ∷ []) ∷ [])) → length names ≡ 1
    go None e = let n : names ≡ (next_number opening [] past ∷ []) ∷ [] = cc in ap length n
    go (Some why) e = cc

-- or it is refused
top_refused : (w : World) (g : ℕ) (given : Answer) → given ≡ answer_of (opening_in w.lists) (Top g) w.past
    → ((names : List Name) → given ≢ Began names) → (why : Refusal) × (answer_of (opening_in w.lists) (Top g) w.past ≡ Refused why)
unfolding answer_of
top_refused w g given h none = go (first_refusal (checks (opening_in w.lists) (Top g) w.past)) h
  where
    go : (o : Option Refusal) → given ≡ refused_or o (Began ((next_number (opening_in w.lists) [] w.past ∷ []) ∷ []))
        → (why : Refusal) × (refused_or o (Began ((next_number (opening_in w.lists) [] w.past ∷ []) ∷ [])) ≡ Refused why)
    go None e = absurd (none _ e)
    go (Some why) e = (why, refl)

-- then the world is as it was
pub top_not_made : (old new : World) (g : ℕ) (given : Answer) → IsRun (opening_in old.lists) old.past → given ≡ answer_of (opening_in old.lists) (Top g) old.past
    → new ≡ world_after old (Top g) given → ((names : List Name) → given ≢ Began names) → TopMade g old new None
top_not_made old new g given r h w none =
    let same : new ≡ old = w ∙ unless_begun old (opening_in old.lists) old.past (Top g) given ((next_number (opening_in old.lists) [] old.past ∷ []) ∷ []) refl h none in
    subst (λ v. TopMade g old v None) (sym same) (record {
      top = top_refused old g given h none;
      is_run = r;
      left = refl;
      began = record {
        are_open = λ a h. absurd (false≢true h);
        before = λ a h. absurd (false≢true h);
        only = λ a h k. absurd (clash h k);
      };
    })

-- the top action has begun, and nothing else
pub top_made : (old new : World) (g : ℕ) (given : Answer) (names : List Name) (a : Name) → IsRun (opening_in old.lists) old.past
    → given ≡ answer_of (opening_in old.lists) (Top g) old.past → new ≡ world_after old (Top g) given → given ≡ Began names → names ≡ a ∷ []
    → TopMade g old new (Some a)
top_made old new g given names a r h w b n =
    let left : new ≡ world_after old (Top g) (Began (a ∷ [])) = w ∙ ap (λ x. world_after old (Top g) x) (b ∙ ap Began n) in
    let told : Began (a ∷ []) ≡ answer_of (opening_in old.lists) (Top g) old.past = sym (b ∙ ap Began n) ∙ h in
    subst (λ v. TopMade g old v (Some a)) (sym left) (record {
      top = sym told;
      is_run = subst (λ b. IsRun (opening_in old.lists) (history_after (Top g) b old.past)) (sym told) (run_more (opening_in old.lists) (Top g) old.past r);
      left = refl;
      began = begins_names old (Top g) (Began (a ∷ [])) r told;
    })

-- the world that a `top` step leaves, by what it began, at whatever run it is answered
pub top_leaves : (old new : World) (g : ℕ) (opening : Opening) (past : List Event) (answer : Answer) → answer ≡ answer_of opening (Top g) past
    → new ≡ world_after old (Top g) answer → new ≡ once_begun g (begun_by answer) old
top_leaves old new g opening past answer h w = w ∙ go answer h
  where
    none : (a : Answer) → a ≡ answer_of opening (Top g) past → ((names : List Name) → a ≢ Began names) → world_after old (Top g) a ≡ old
    none a h n = unless_begun old opening past (Top g) a ((next_number opening [] past ∷ []) ∷ []) refl h n

    go : (a : Answer) → a ≡ answer_of opening (Top g) past → world_after old (Top g) a ≡ once_begun g (begun_by a) old
    go (Began (a ∷ [])) h = refl
    go (Began []) h = let n = top_begins_one opening g past [] h in absurd (omega arith)
    go (Began (a ∷ b ∷ names)) h = let n = top_begins_one opening g past (a ∷ b ∷ names) h in absurd (omega arith)
    go (Granted reply) h = none (Granted reply) h (λ names e. cc)
    go (Waits names) h = refl
    go VoteYes h = none VoteYes h (λ names e. cc)
    go VoteNo h = none VoteNo h (λ names e. cc)
    go (Done n) h = none (Done n) h (λ names e. cc)
    go (Refused why) h = refl

-- what it began is what it was answered, or it was refused
pub top_at : (w : World) (g : ℕ) (answer : Answer) → answer ≡ asked (Top g) w → IsTopAt g w (begun_by answer)
top_at w g answer h = go answer h
  where
    go : (a : Answer) → a ≡ asked (Top g) w → IsTopAt g w (begun_by a)
    go (Began (a ∷ [])) h = sym h
    go (Began []) h = let n = top_begins_one (opening_in w.lists) g w.past [] h in absurd (omega arith)
    go (Began (a ∷ b ∷ names)) h = let n = top_begins_one (opening_in w.lists) g w.past (a ∷ b ∷ names) h in absurd (omega arith)
    go (Granted reply) h = top_refused w g (Granted reply) h (λ names e. cc)
    go (Waits names) h = top_refused w g (Waits names) h (λ more e. cc)
    go VoteYes h = top_refused w g VoteYes h (λ names e. cc)
    go VoteNo h = top_refused w g VoteNo h (λ names e. cc)
    go (Done n) h = top_refused w g (Done n) h (λ names e. cc)
    go (Refused why) h = top_refused w g (Refused why) h (λ names e. cc)

-- what a `top` step leaves, whatever it is answered
pub top_found : (w : World) (g : ℕ) → IsRun (opening_in w.lists) w.past → TopMade g w (after (Top g) w) (begun_by (asked (Top g) w))
top_found w g r = go (asked (Top g) w) refl
  where
    none : (a : Answer) → a ≡ asked (Top g) w → ((names : List Name) → a ≡ Began names → ⊥) → TopMade g w (after (Top g) w) None
    none a h n = top_not_made w (after (Top g) w) g a r h (ap (world_after w (Top g)) (sym h)) n

    go : (a : Answer) → a ≡ asked (Top g) w → TopMade g w (after (Top g) w) (begun_by a)
    go (Began (a ∷ [])) h = top_made w (after (Top g) w) g (Began (a ∷ [])) (a ∷ []) a r h (ap (world_after w (Top g)) (sym h)) refl refl
    go (Began []) h = let n = top_begins_one (opening_in w.lists) g w.past [] h in absurd (omega arith)
    go (Began (a ∷ b ∷ names)) h = let n = top_begins_one (opening_in w.lists) g w.past (a ∷ b ∷ names) h in absurd (omega arith)
    go (Granted reply) h = none (Granted reply) h (λ names e. cc)
    go (Waits names) h = none (Waits names) h (λ more e. cc)
    go VoteYes h = none VoteYes h (λ names e. cc)
    go VoteNo h = none VoteNo h (λ names e. cc)
    go (Done n) h = none (Done n) h (λ names e. cc)
    go (Refused why) h = none (Refused why) h (λ names e. cc)

pub top_is_open : (home : ℕ) (old new : World) (a : Name) → TopMade home old new (Some a) → IsOpen a new
top_is_open home old new a m = m.began.are_open a (or_left _ _ (same_name_self a))
