-- Clients that run one after another are as they should be, by the definition of their run.
use Rattle.std.proofs.Common.{IsTrue, List, None, Option, Some, [], ap, inl, inr, refl, subst, sym, true, ℕ, ◌++◌, ◌∙◌, ◌∷◌, ◌≡◌}
use Rattle.std.proofs.lemmas.Bool.{false≢true, or_cases, or_left}
use Rattle.std.specs.List.{cons_option}
use Rattle.action_names.specs.Names.{Name, has_name}
use Rattle.run_model.specs.declared.history.Event.{Event}
use Rattle.run_model.specs.declared.step.Step.{Step}
use Rattle.run_model.specs.declared.step.Step.TheVariants.{Top}
use Rattle.run_model.specs.Actions.{begun, is_begun, is_committed, is_ended, names_begun}
use Rattle.run_model.specs.Runs.{World}
use Rattle.run_laws.proofs.Begun.{begun_more}
use Rattle.run_laws.proofs.Names.{has_name_append, same_name_self}
use Rattle.script_model.specs.declared.checked.Client.{Client}
use Rattle.script_model.specs.declared.checked.Handler.{Handler}
use Rattle.frames.specs.Bound.{nothing_bound}
use Rattle.activities.specs.declared.client.ClientEnd.{ClientEnd}
use Rattle.activities.specs.declared.client.ClientEnd.TheVariants.{Aborted, Committed}
use Rattle.activities.specs.declared.flow.Flow.{Flow}
use Rattle.activities.specs.declared.flow.Flow.TheVariants.{Ended, Returned}
use Rattle.activities.specs.Continuing.{tops_begun, tops_by}
use Rattle.activities.specs.Ends.{AreRun, ClientRan, IsEnd, IsTopAt, commits, end_of, named, named_by, top_of}
use Rattle.activities.specs.Runs.{SerialRunsAreRun}
use Rattle.activities.specs.Serial.{Doing, Done, Ran, after, asked, begun_at, begun_by, body_done, budget, by_top, client_ran, clients_ran, run}
use Rattle.activities.specs.Making.{ClientMakes, ClientsMake, Makes}
use Rattle.activities.specs.OwnSteps.{LeavesAlone}
use Rattle.activities.proofs.Clients.{TopMade, top_found, top_is_open}
use Rattle.activities.proofs.ClientSteps.{client_makes, clients_nowhere, clients_through, named_at_end}
use Rattle.activities.proofs.Closing.{HasRun}
use Rattle.activities.proofs.Earlier.{earlier_is_left_alone}
use Rattle.activities.proofs.Going.{ended_on, ends_nowhere, ends_through}
use Rattle.activities.proofs.Leaving.{IsRunning, fresh_ends}
use Rattle.activities.proofs.Staying.{bodies_stay, run_ends}

-- ---- a client

-- a client whose top action did not begin
not_ran : (home : ℕ) (old new : World) → TopMade home old new None → ClientRan home old new (Aborted None)
not_ran home old new m = record {
  began = m.top;
  makes = m.left;
  is_end = tt;
  ended = λ a h k. absurd (false≢true (m.began.only a h k));
}

-- and says whether it has committed
said_at_end : (past : List Event) (a : Name) (flow : Flow) → commits flow ≡ is_committed a past → IsEnd past (end_of a flow)
said_at_end past a Ended h = sym h
said_at_end past a (Returned value) h = sym h
said_at_end past a _ h = sym h

-- a client whose top action has run
top_ran : (home : ℕ) (old mid new : World) (a : Name) (flow : Flow) → TopMade home old mid (Some a) → HasRun a mid new flow
    → ClientRan home old new (end_of a flow)
top_ran home old mid new a flow m h = record {
  began = subst (λ o. IsTopAt home old o) (sym (named_at_end a flow)) m.top;
  makes =
      subst (λ o. ClientMakes home o old new) (sym (named_at_end a flow))
      (subst (λ w. Makes (a ∷ []) (a ∷ []) w new) m.left h.came.went.makes);
  is_end = said_at_end new.past a flow h.told;
  ended = fresh_ends (a ∷ []) old mid new m.began h.came.went.ends h.came.ended;
}

pub client_is_run : (handlers : List Handler) (c : Client) (w : World) → IsRunning w
    → ClientRan c.home w (client_ran handlers c w).0 (client_ran handlers c w).1 × IsRunning (client_ran handlers c w).0
client_is_run handlers c w r = go (begun_by (asked (Top c.home) w)) (top_found w c.home r)
  where
    mid : World
    mid = after (Top c.home) w

    go : (found : Option Name) → TopMade c.home w mid found
        → ClientRan c.home w (by_top handlers c mid found).0 (by_top handlers c mid found).1 × IsRunning (by_top handlers c mid found).0
    go None m = (not_ran c.home w mid m, m.is_run)
    go (Some a) m =
        let start : Doing = record { world = mid; left = budget; acting = begun_at c.home a; bound = nothing_bound } in
        let came : Done = run (body_done handlers budget) (begun_at c.home a) nothing_bound c.body start in
        let h : HasRun a mid came.doing.world came.flow =
        run_ends (body_done handlers budget) (bodies_stay handlers budget) (begun_at c.home a) nothing_bound c.body start m.is_run
        (top_is_open c.home w mid a m) in
        (top_ran c.home w mid came.doing.world a came.flow m h, h.came.went.is_run)

-- ---- one client after another

-- what a `top` step began was begun
tops_are_begun : (later before : List Event) (a : Name) → has_name (tops_begun later) a ≡ true → is_begun a (later ++ before) ≡ true
tops_are_begun [] before a h = absurd (false≢true h)
tops_are_begun (e ∷ later) before a h = elim (or_cases _ _ (sym (has_name_append (tops_begun later) (tops_by e.step e.answer) a) ∙ h)) [
  | inl k ↦ begun_more e (later ++ before) a (tops_are_begun later before a k)
  | inr k ↦ has_name_append (names_begun e.answer) (begun (later ++ before)) a ∙ or_left _ _ (by e.step k)
]
  where
    by : (step : Step) → has_name (tops_by step e.answer) a ≡ true → has_name (names_begun e.answer) a ≡ true
    by (Top g) k = k
    by _ k = absurd (false≢true k)

tops_known : (old new : World) (tops : List Name) (a : Name) → ClientsMake tops old new → has_name tops a ≡ true → is_begun a new.past ≡ true
tops_known old new tops a g h =
    ap (λ l. is_begun a l) g.past ∙ tops_are_begun g.later old.past a (ap (λ l. has_name l a) g.began ∙ h)

-- what an end says stays so while the action that it names does not commit
end_stays : (old new : List Event) (end : ClientEnd) → ((a : Name) → has_name (named_by (top_of end)) a ≡ true → is_committed a new ≡ is_committed a old)
    → IsEnd old end → IsEnd new end
end_stays old new (Committed a value) same t = same a (or_left _ _ (same_name_self a)) ∙ t
end_stays old new (Aborted (Some a)) same t = same a (or_left _ _ (same_name_self a)) ∙ t
end_stays old new (Aborted None) same t = tt

-- the actions that ends name
named_first : (top : Option Name) (names : List Name) → named_by top ++ names ≡ cons_option top names
named_first None names = refl
named_first (Some a) names = refl

-- a client, and then the others
then_others : (client : Client) (clients : List Client) (old mid new : World) (end : ClientEnd) (ends : List ClientEnd)
    → ClientRan client.home old mid end → AreRun clients mid new ends → AreRun (client ∷ clients) old new (end ∷ ends)
then_others client clients old mid new end ends c a = record {
  in_turn = (mid, c, a.in_turn);
  is_run = a.is_run;
  makes =
      subst (λ l. ClientsMake l old new) (named_first (top_of end) (named ends))
      (clients_through old mid new (named_by (top_of end)) (named ends) one a.makes);
  told = (end_stays mid.past new.past end (λ b h. left.committed b (tops_known old mid (named_by (top_of end)) b one h)) c.is_end, a.told);
  ended = ends_through old mid new (λ b. still_so b) c.ended a.ended;
}
  where
    one : ClientsMake (named_by (top_of end)) old mid
    one = client_makes client.home (top_of end) old mid c.makes

    left : LeavesAlone mid new
    left = earlier_is_left_alone (named ends) mid new a.is_run a.makes

    still_so : (b : Name) → IsTrue (is_ended b mid.past) → IsTrue (is_ended b new.past)
    still_so b h = subst (λ l. IsTrue (is_ended b l)) (sym a.makes.past) (ended_on b a.makes.later mid.past h)

clients_are_run : (handlers : List Handler) (clients : List Client) (w : World) → IsRunning w
    → AreRun clients w (clients_ran handlers clients w).world (clients_ran handlers clients w).ends
clients_are_run handlers [] w r =
    record { in_turn = (refl, refl); is_run = r; makes = clients_nowhere w; told = tt; ended = ends_nowhere w }
clients_are_run handlers (c ∷ clients) w r =
    let one = client_is_run handlers c w r in
    let mid : World = (client_ran handlers c w).0 in
    let rest : Ran = clients_ran handlers clients mid in
    then_others c clients w mid rest.world (client_ran handlers c w).1 rest.ends one.0 (clients_are_run handlers clients mid one.1)

pub serial_runs_are_run : SerialRunsAreRun
serial_runs_are_run script w r = clients_are_run script.handlers script.clients w r
