-- What an event asks of the store, whatever its stamp is.
use Rattle.std.proofs.Common.{List, None, Option, Some, ap, ap₂, cond, eq-eqb, false, refl, subst, sym, true, ℕ, ◌&&◌, ◌∙◌, ◌∷◌, ◌≡◌}
use Rattle.std.specs.Option.{unwrap_or}
use Rattle.std.proofs.lemmas.Bool.{false≢true}
use Rattle.action_names.specs.Names.{Name, last_of}
use Rattle.run_model.specs.declared.answer.Answer.{Answer}
use Rattle.run_model.specs.declared.answer.Answer.TheVariants.{VoteYes}
use Rattle.run_model.specs.declared.history.Event.{Event}
use Rattle.run_model.specs.declared.step.Step.{Step}
use Rattle.run_model.specs.declared.step.Step.TheVariants.{Abort, Arms, Call, Close, Commit, Crash, Decide, NestedTop, Op, Prepare, Recover, Tell, Top}
use Rattle.run_model.specs.LocalReadings.{Carried, LocalEvent, or_zero, outcome_in, says_committed, standing_here}
use Rattle.run_model.specs.Openings.{Opening}
use Rattle.run_model.specs.StableContent.{parts_by}
use Rattle.run_model.specs.Visibility.{votes_yes}
use Rattle.run_laws.proofs.Names.{same_name_self}
use Rattle.atomic_types.specs.declared.part.Part.{Part}
use Rattle.stable_store.specs.Stored.{Stored, after_bump, after_decide, after_discard, after_install, after_prepare}
use Rattle.layer_contracts.specs.Guardians.{News, stamped}
use Rattle.layer_contracts.specs.Messages.{is_operation}
use Rattle.object_laws.specs.EventLaws.{is_crash}
use Rattle.guardian_laws.specs.Stored.{after_event, asks_store}
use Rattle.run_model.specs.Votes.{is_yes}

pub stamp_alike : (opening : Opening) (g n : ℕ) (news : News) (here : List LocalEvent) (s : Stored)
    → after_event opening g (stamped n news) here s ≡ after_event opening g (stamped 0 news) here s
stamp_alike opening g n news here s = refl

abbrev event_of : ℕ → Carried → Answer → Step → LocalEvent
event_of stamp carried answer step = record { stamp = stamp; event = record { step = step; answer = answer }; carried = carried }

module _ (g : ℕ) (s : Stored) (stamp : ℕ) (carried : Carried) (answer : Answer) where
  abbrev event : Step → LocalEvent
  event step = event_of stamp carried answer step

  -- where no call is asked for, the content is to stay
  module _ (opening : Opening) (here : List LocalEvent) where
    same_content : (step : Step) → asks_store g (event step) s ≡ false → after_event opening g (event step) here s ≡ s
    same_content (Prepare h t) idle =
        ap (λ v. cond v (after_prepare (last_of t) (or_zero carried.sender) (parts_by opening g (λ x. standing_here (event (Prepare h t) ∷ here) x) t) s) s) idle
    same_content (Decide t) idle = ap (λ v. cond v (after_decide (last_of t) s) s) idle
    same_content (Tell h a) idle =
        ap (λ v. cond v (cond (says_committed (outcome_in carried.outcomes a)) (after_install (last_of a) s) (after_discard (last_of a) s)) s) idle
    same_content (Recover h) idle = ap (λ v. cond v (after_bump s) s) idle
    same_content (Top h) idle = refl
    same_content (NestedTop a) idle = refl
    same_content (Call a h) idle = refl
    same_content (Arms a kinds) idle = refl
    same_content (Op a x wanted) idle = refl
    same_content (Commit a) idle = refl
    same_content (Close a) idle = refl
    same_content (Abort a) idle = refl
    same_content (Crash h) idle = refl

pub unasked : (opening : Opening) (g : ℕ) (c : LocalEvent) (here : List LocalEvent) (s : Stored) → asks_store g c s ≡ false
    → after_event opening g c here s ≡ s
unasked opening g c here s idle = same_content g s c.stamp c.carried c.event.answer opening here c.event.step idle

-- nor does an operation
pub operation_event : (g : ℕ) (c : LocalEvent) (s : Stored) → is_operation c.event.step ≡ true → asks_store g c s ≡ false
operation_event g c s is = of c.event.step is
  where
    of : (step : Step) → is_operation step ≡ true
        → asks_store g (record { stamp = c.stamp; event = record { step = step; answer = c.event.answer }; carried = c.carried }) s ≡ false
    of (Op a x wanted) h = refl
    of _ h = absurd (false≢true h)

-- nor does a crash
pub crash_event : (g : ℕ) (c : LocalEvent) (s : Stored) → is_crash c.event.step ≡ true → asks_store g c s ≡ false
crash_event g c s is = of c.event.step is
  where
    of : (step : Step) → is_crash step ≡ true
        → asks_store g (record { stamp = c.stamp; event = record { step = step; answer = c.event.answer }; carried = c.carried }) s ≡ false
    of (Crash h) k = refl
    of _ k = absurd (false≢true k)

-- a number that may be missing, as the code reads it
pub home_is : (o : Option ℕ) → unwrap_or o 0 ≡ or_zero o
home_is None = refl
home_is (Some n) = refl

-- a yes vote asks for a record
pub vote_is : (g : ℕ) (t : Name) (step : Step) (answer : Answer) → step ≡ Prepare g t → answer ≡ VoteYes → votes_yes step answer g t ≡ true
vote_is g t step answer step_is answer_is =
    ap₂ (λ u v. votes_yes u v g t) step_is answer_is ∙ ap₂ (λ u v. u && v) (eq-eqb g g refl) (same_name_self t)

module _ (opening : Opening) (g : ℕ) (here : List LocalEvent) (s : Stored) (carried : Carried) (answer : Answer) (t : Name) (yes : answer ≡ VoteYes) where
  abbrev vote_event : Step → LocalEvent
  vote_event step = event_of 0 carried answer step

  abbrev parts_then : Step → List (ℕ × Part)
  parts_then step = parts_by opening g (λ x. standing_here (vote_event step ∷ here) x) t

  writes : after_prepare (last_of t) (or_zero carried.sender) (parts_then (Prepare g t)) s ≡ after_event opening g (vote_event (Prepare g t)) here s
  writes = ap (λ v. cond v (after_prepare (last_of t) (or_zero carried.sender) (parts_then (Prepare g t)) s) s) (sym (vote_is g t (Prepare g t) answer refl yes))

  pub vote_written : (step : Step) (last home : ℕ) (parts : List (ℕ × Part)) → step ≡ Prepare g t → last ≡ last_of t → home ≡ or_zero carried.sender
      → parts ≡ parts_then step → after_prepare last home parts s ≡ after_event opening g (vote_event step) here s
  vote_written step last home parts is last_is home_is parts_are =
      ap₂ (λ l h. after_prepare l h parts s) last_is home_is
      ∙ ap (λ ps. after_prepare (last_of t) (or_zero carried.sender) ps s) parts_are
      ∙ subst (λ st. after_prepare (last_of t) (or_zero carried.sender) (parts_then st) s ≡ after_event opening g (vote_event st) here s) (sym is) writes

-- a question to this guardian
pub vote_event_is : (e f : Event) (v g : ℕ) (t : Name) → f ≡ e → e.step ≡ Prepare v t → v ≡ g → f ≡ record { step = Prepare g t; answer = e.answer }
vote_event_is e f v g t same is own = same ∙ (λ i. record { step = (is ∙ ap (λ k. Prepare k t) own) i; answer = e.answer })

-- asks the store for a record where the answer is yes
pub asks_vote : (g : ℕ) (news : News) (t : Name) (answer : Answer) (held : Stored) → news.event ≡ record { step = Prepare g t; answer = answer }
    → asks_store g (stamped 0 news) held ≡ is_yes answer
asks_vote g news t answer held is = ap (λ e. asks_store g (stamped 0 (record news { event = e })) held) is ∙ of answer
  where
    of : (w : Answer) → votes_yes (Prepare g t) w g t ≡ is_yes w
    of VoteYes = vote_is g t (Prepare g t) VoteYes refl refl
    of _ = refl
