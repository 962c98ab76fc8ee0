-- A step behind what was seen last: what it is answered, and what a session keeps of it.
use Rattle.std.proofs.Common.{Bool, List, None, Option, Some, MatchOption, [], ap, arith, cond, false, length, refl, subst, suc, sym, true, ◌++◌, ◌<◌, ◌∙◌, ◌∷◌, ◌≡◌, length-append}
use Rattle.std.proofs.Math.Logic.{∥∥₁_elim, ∥∥₁_map}
use Rattle.std.proofs.lemmas.List.{append-nil, append_assoc}
use Rattle.std.specs.Prelude.{is_some, option_to_list}
use Rattle.one_run.specs.Pieces.GoesOn.{longer, stays}
use Rattle.run_model.specs.declared.answer.Answer.{Answer}
use Rattle.run_model.specs.declared.history.Event.{Event}
use Rattle.run_model.specs.declared.step.Step.{Step}
use Rattle.run_model.specs.Answers.{answer_of}
use Rattle.run_model.specs.Openings.{Opening, OpeningLists, opening_in}
use Rattle.run_model.specs.Runs.{IsRun, history_after, is_accepted}
use Rattle.locked_run.specs.Behind.{GoesOnFrom, IsBehind}
use Rattle.runtime.specs.Answering.{IsAnsweredFrom}
use Rattle.stepping.specs.Beside.{IsAnsweredTo, IsPartOf}
use Rattle.sessions.specs.Sessions.{AreBelow, AreInOrder, own_of, run_of, seen_in}
use Rattle.sessions.proofs.Own.{all_append, all_below, all_further, behind_further, behind_nothing, behind_parts, below_more, below_prop, later_append, own_low, own_next, own_part}

-- the answer comes behind what was seen last
module _ (opening : Opening) (before own : List (List Event)) (last : Option (List Event)) (step : Step) (answer : Answer) (receipt : Option (List Event)) (seen : List Event)
    (ordered : ∥ AreInOrder opening before own last ∥₁) (given : IsAnsweredFrom opening last step answer receipt seen) where
  abbrev runs : List (List Event)
  runs = before ++ own

  abbrev past : List Event
  past = given.0.past

  abbrev e : Event
  e = record { step = step; answer = answer }

  from_last : (o : Option (List Event)) → GoesOnFrom o past → IsBehind (seen_in o) past
  from_last None on = behind_nothing past
  from_last (Some earlier) on = on

  at_behind : IsBehind (seen_in last) past
  at_behind = from_last last given.1

  below : AreBelow runs (suc (length (seen_in last)))
  below =
      ∥∥₁_elim ordered (below_prop runs (suc (length (seen_in last)))) (λ o.
      all_below runs (seen_in last) (all_append before own (seen_in last) o.before_seen o.own_seen))

  -- nothing own happened meanwhile
  same_own : own_of runs past ≡ own_of runs (seen_in last)
  same_own = let (more, is) = behind_parts at_behind in ap (own_of runs) is ∙ own_low runs more (seen_in last) below

  below_at : AreBelow runs (suc (length past))
  below_at =
      let (more, is) = behind_parts at_behind in
      let long : length past ≡ length (more ++ seen_in last) = ap length is in
      let parts = length-append more (seen_in last) in
      below_more runs (suc (length (seen_in last))) (suc (length past)) below (omega arith)

  pub answered_to : (lists : OpeningLists) → opening_in lists ≡ opening → IsAnsweredTo (λ own seen. Unit {0}) (run_of lists before own last) step answer
  answered_to lists same =
      record {
        seen = past;
        may = tt;
        run = subst (λ o. IsRun o past) (sym same) given.0.run;
        part = ∣ subst (λ l. IsPartOf l past) same_own (own_part runs past) ∣₁;
        answered = given.0.answered ∙ ap (λ (o : Opening). answer_of o step past) (sym same);
      }

  -- ---- what stands then

  accepted_run : (o : Option (List Event)) → is_some o ≡ is_accepted answer → (run : List Event) → o ≡ Some run → is_accepted answer ≡ true
  accepted_run o some run is = sym some ∙ ap is_some is

  -- the own events, once its receipt was kept, if it has one
  own_then : (o : Option (List Event)) → is_some o ≡ is_accepted answer → MatchOption o (Unit {0}) (λ run. run ≡ seen)
      → own_of (before ++ (own ++ option_to_list o)) seen ≡ history_after step answer (own_of runs (seen_in last))
  own_then None some is =
      let not : seen ≡ past = given.0.seen_after ∙ sym (ap (λ b. cond b (e ∷ past) past) some) in
      ap (λ l. own_of (before ++ l) seen) (append-nil own) ∙ ap (own_of runs) not ∙ same_own
      ∙ ap (λ b. cond b (e ∷ own_of runs (seen_in last)) (own_of runs (seen_in last))) some
  own_then (Some run) some is =
      let now : seen ≡ e ∷ past = given.0.seen_after ∙ sym (ap (λ b. cond b (e ∷ past) past) some) in
      ap (λ r. own_of (before ++ (own ++ r ∷ [])) seen) (is ∙ now) ∙ ap (λ l. own_of l seen) (sym (append_assoc before own ((e ∷ past) ∷ [])))
      ∙ ap (own_of (runs ++ (e ∷ past) ∷ [])) now ∙ own_next runs e past below_at ∙ ap (λ l. e ∷ l) same_own
      ∙ ap (λ b. cond b (e ∷ own_of runs (seen_in last)) (own_of runs (seen_in last))) some

  pub events_then : (new : List (List Event)) → new ≡ own ++ option_to_list receipt
      → own_of (before ++ new) seen ≡ history_after step answer (own_of runs (seen_in last))
  events_then new kept = ap (λ l. own_of (before ++ l) seen) kept ∙ own_then receipt given.0.accepted given.0.receipt_is

  run_after : (t : Bool) → is_accepted answer ≡ t → IsRun opening (cond t (e ∷ past) past)
  run_after true is = (given.0.answered, is, given.0.run)
  run_after false is = given.0.run

  further : (t : Bool) → IsBehind past (cond t (e ∷ past) past)
  further true = longer e refl stays
  further false = stays

  behind_seen : IsBehind (seen_in last) seen
  behind_seen = subst (IsBehind (seen_in last)) (sym given.0.seen_after) (behind_further at_behind (further (is_accepted answer)))

  -- the receipts are in order then too
  order : AreInOrder opening before own last → (o : Option (List Event)) → is_some o ≡ is_accepted answer → MatchOption o (Unit {0}) (λ run. run ≡ seen)
      → AreInOrder opening before (own ++ option_to_list o) (Some seen)
  order old None some is =
      record {
        run = subst (IsRun opening) (sym given.0.seen_after) (run_after (is_accepted answer) refl);
        before_seen = all_further before (seen_in last) seen old.before_seen behind_seen;
        own_seen = all_append own [] seen (all_further own (seen_in last) seen old.own_seen behind_seen) tt;
        later = later_append before own [] old.later tt;
      }
  order old (Some run) some is =
      let now : run ≡ e ∷ past = is ∙ given.0.seen_after ∙ sym (ap (λ b. cond b (e ∷ past) past) some) in
      let few = below_more before (suc (length (seen_in last))) (suc (length past)) (all_below before (seen_in last) old.before_seen) (let l = below_long in omega arith) in
      record {
        run = subst (IsRun opening) (sym given.0.seen_after) (run_after (is_accepted answer) refl);
        before_seen = all_further before (seen_in last) seen old.before_seen behind_seen;
        own_seen = all_append own (run ∷ []) seen (all_further own (seen_in last) seen old.own_seen behind_seen) (subst (λ r. IsBehind r seen) (sym is) stays, tt);
        later = later_append before own (run ∷ []) old.later (subst (λ r. AreBelow before (length r)) (sym now) few, tt);
      }
    where
      below_long : length (seen_in last) < suc (length past)
      below_long =
          let (more, is) = behind_parts at_behind in
          let long : length past ≡ length (more ++ seen_in last) = ap length is in
          let parts = length-append more (seen_in last) in
          omega arith

  pub ordered_then : (new : List (List Event)) → new ≡ own ++ option_to_list receipt → ∥ AreInOrder opening before new (Some seen) ∥₁
  ordered_then new kept =
      ∥∥₁_map ordered (λ old. subst (λ l. AreInOrder opening before l (Some seen)) (sym kept) (order old receipt given.0.accepted given.0.receipt_is))
