-- Granted operations: what the grant says of the history before it, and facts of each operation of a history.
use Rattle.std.proofs.Common.{List, [], ap, arith, eqb-true, false, filter, inl, inr, length, refl, subst, suc, sym, true, ℕ, ◌++◌, ◌∙◌, ◌∷◌, ◌≡◌, ◌≤◌, ◌⊎◌}
use Rattle.std.proofs.lemmas.Bool.{not-false}
use Rattle.action_names.specs.Names.{Name}
use Rattle.atomic_types.specs.Objects.{reply_of}
use Rattle.atomic_types.specs.declared.op.Reply.{Reply}
use Rattle.run_model.specs.declared.answer.Answer.{Answer}
use Rattle.run_model.specs.declared.answer.Answer.TheVariants.{Granted, Waits}
use Rattle.run_model.specs.declared.history.Event.{Event}
use Rattle.run_model.specs.declared.step.ObjectId.{ObjectId}
use Rattle.run_model.specs.declared.step.Step.{Step}
use Rattle.run_model.specs.declared.step.Step.TheVariants.{Op}
use Rattle.run_model.specs.Actions.{home_of, is_begun, is_done}
use Rattle.run_model.specs.Answers.{granted_or_waits, outcome}
use Rattle.run_model.specs.Keeping.{Performed, blockers, kept_on, performed, performed_by}
use Rattle.run_model.specs.Refusals.{checks}
use Rattle.run_model.specs.Openings.{Opening, first_content}
use Rattle.run_model.specs.Replay.{left_of}
use Rattle.run_model.specs.Runs.{IsRun}
use Rattle.run_model.specs.Visibility.{is_visible}
use Rattle.run_laws.specs.Laws.{Grants}
use Rattle.run_laws.proofs.Accepted.{NoneApplies, answered, checked}
use Rattle.run_laws.proofs.Each.{Each}
use Rattle.run_laws.proofs.Growth.{Follows, follows_length, here, later}
use Rattle.run_model.specs.declared.answer.Refusal.TheVariants as why
use Rattle.atomic_types.specs.Operations as op

-- the step and the answer that grant an operation
pub grant_parts : (o : Performed) (e : Event) (past : List Event) → Grants o e past
    → (e.step ≡ Op o.action o.object o.operation) × (e.answer ≡ Granted o.reply)
grant_parts o e past p = parts o.number e.step e.answer p.1
  where
    parts : (n : ℕ) (step : Step) (answer : Answer) → performed_by n step answer ≡ o ∷ []
        → (step ≡ Op o.action o.object o.operation) × (answer ≡ Granted o.reply)
    parts n (Op a x wanted) (Granted r) h =
        let made : record { number = n; action = a; object = x; operation = wanted; reply = r } ≡ o = cc in
        (ap (λ (q : Performed). Op q.action q.object q.operation) made, ap (λ (q : Performed). Granted q.reply) made)
    parts n _ _ h = cc

-- an operation is numbered by the event that granted it
pub granted_before : (o : Performed) (e : Event) (past : List Event) {now : List Event} → Grants o e past → Follows (e ∷ past) now
    → o.number ≤ length now
granted_before o e past p w = let l = follows_length w in let n = p.0 in omega arith

-- what the granting of an operation says of the history before it
pub record IsGranted (opening : Opening) (c : Name) (x : ObjectId) (wanted : op.Op) (r : Reply) (past : List Event) : Type 0 where
  pub was_begun : is_begun c past ≡ true
  pub undone : is_done c past ≡ false
  pub home : home_of c past ≡ x.guardian
  pub free : blockers c x wanted past ≡ []
  pub reply : r ≡ reply_of (left_of (first_content opening x) (kept_on x past)) wanted

-- what is granted had nobody in its way
granted_free : (opening : Opening) (x : ObjectId) (wanted : op.Op) (past : List Event) (bs : List Name) (r : Reply)
    → granted_or_waits opening x wanted past bs ≡ Granted r
    → (bs ≡ []) × (r ≡ reply_of (left_of (first_content opening x) (kept_on x past)) wanted)
granted_free opening x wanted past [] r h =
    let e : Granted (reply_of (left_of (first_content opening x) (kept_on x past)) wanted) ≡ Granted r = h in (refl, cc)
granted_free opening x wanted past (b ∷ bs) r h = absurd (let e : Waits (b ∷ bs) ≡ Granted r = h in cc)

-- what was checked before a grant
granted_facts : (opening : Opening) (c : Name) (x : ObjectId) (wanted : op.Op) (r : Reply) (past : List Event)
    → NoneApplies (checks opening (Op c x wanted) past)
    → outcome opening (Op c x wanted) past ≡ Granted r → IsGranted opening c x wanted r past
granted_facts opening c x wanted r past f a =
    let p = granted_free opening x wanted past (blockers c x wanted past) r a in
    record {
      was_begun = not-false _ (f why.NoAction);
      undone = f why.Ended;
      home = sym (eqb-true x.guardian (home_of c past) (not-false _ (f why.Elsewhere)));
      free = p.0;
      reply = p.1;
    }

-- what a grant in a run says
pub granting : (opening : Opening) (o : Performed) (e : Event) (past : List Event) → IsRun opening (e ∷ past) → Grants o e past
    → IsGranted opening o.action o.object o.operation o.reply past
granting opening o e past r p =
    let q = grant_parts o e past p in
    let P : Step → Type 0 = λ s. NoneApplies (checks opening s past) in
    granted_facts opening o.action o.object o.operation o.reply past (subst P q.0 (checked opening e past r))
    (ap (λ s. outcome opening s past) (sym q.0) ∙ sym (answered opening e past r) ∙ q.1)

-- an event grants one operation or none
pub grant_cases : (e : Event) (past : List Event)
    → (performed (e ∷ past) ≡ performed past) ⊎ ((o : Performed) × (performed (e ∷ past) ≡ o ∷ performed past) × Grants o e past)
grant_cases e past = cases (suc (length past)) e.step e.answer
  where
    cases : (n : ℕ) (step : Step) (answer : Answer) → (performed_by n step answer ++ performed past ≡ performed past)
        ⊎ ((o : Performed) × (performed_by n step answer ++ performed past ≡ o ∷ performed past)
        × ((o.number ≡ n) × (performed_by o.number step answer ≡ o ∷ [])))
    cases n (Op a x o) (Granted r) = inr (record { number = n; action = a; object = x; operation = o; reply = r }, refl, (refl, refl))
    cases n _ _ = inl refl

-- of these operations those that are visible to a at the end
abbrev pub seen_by : Name → List Event → List Performed → List Performed
seen_by a end os = filter (λ o. is_visible o.action a end) os

-- what holds of each operation at its grant holds of all
pub each_performed : (now : List Event) (P : Performed → Type 0)
    → ((o : Performed) (e : Event) (past : List Event) → Grants o e past → Follows (e ∷ past) now → P o) → Each P (performed now)
each_performed [] P f = tt
each_performed (e ∷ past) P f =
    let rest : Each P (performed past) = each_performed past P (λ o e' p' h w. f o e' p' h (later e w)) in
    let Q : List Performed → Type 0 = λ os. Each P os in
    elim (grant_cases e past) [
      | inl h ↦ subst Q (sym h) rest
      | inr h ↦ subst Q (sym h.1) (f h.0 e past h.2 here, rest)
    ]

-- what holds of all holds of one that was granted
pub at_granted : (P : Performed → Type 0) (o : Performed) (e : Event) (past : List Event) {now : List Event} → Grants o e past
    → Follows (e ∷ past) now → Each P (performed now) → P o
at_granted P o e past p here h =
    let Q : List Performed → Type 0 = λ os. Each P (os ++ performed past) in
    (subst Q (ap (λ n. performed_by n e.step e.answer) (sym p.0) ∙ p.1) h).0
at_granted P o e past p (later {now = now} k w) h = at_granted P o e past p w (behind (performed_by (suc (length now)) k.step k.answer) h)
  where
    behind : (os : List Performed) → Each P (os ++ performed now) → Each P (performed now)
    behind [] h = h
    behind (x ∷ os) h = behind os h.1
