-- The steps of clients, one after another.
use Rattle.std.proofs.Common.{inl, inr, IsTrue, List, None, Option, Some, [], ap, append_assoc, refl, subst, sym, ℕ, ◌++◌, ◌∙◌, ◌∷◌, ◌≡◌}
use Rattle.std.proofs.lemmas.Bool.{false≢true}
use Rattle.action_names.specs.Names.{Name, has_name}
use Rattle.run_model.specs.declared.answer.Answer.TheVariants.{Began}
use Rattle.run_model.specs.declared.history.Event.{Event}
use Rattle.run_model.specs.declared.step.Step.{Step}
use Rattle.run_model.specs.declared.step.Step.TheVariants.{Top}
use Rattle.run_model.specs.Runs.{World}
use Rattle.activities.specs.Continuing.{tops_begun, tops_by}
use Rattle.activities.specs.declared.flow.Flow.{Flow}
use Rattle.activities.specs.declared.flow.Flow.TheVariants.{Aborted, Ended, Outwards, Returned}
use Rattle.activities.specs.Ends.{ClientMade, EndTells, commits, end_of, named_by, top_of}
use Rattle.activities.specs.Making.{AreOfClients, AreOwn, ClientMakes, ClientsMake, IsKnown, IsOfClient, Makes, Tells, with_top}
use Rattle.activities.specs.OwnSteps.{IsOfAction}
use Rattle.activities.proofs.Going.{tops_append}
use Rattle.activities.proofs.Making.{begun_older, known_on, committed_parts}

pub clients_nowhere : (w : World) → ClientsMake [] w w
clients_nowhere w = record {
  same_opening = refl;
  later = [];
  past = refl;
  own = tt;
  commits = λ a h. absurd (false≢true h);
  began = refl;
}

none_of : (names : List Name) (k : List Event) (a : Name) → IsTrue (has_name [] a) → IsKnown names k a
none_of names k a h = absurd (false≢true h)

-- a step that is of clients behind some events is so behind older ones too
client_on : (k l : List Event) (step : Step) → IsOfClient l step → IsOfClient (l ++ k) step
client_on k l step h = elim h [
  | inl t ↦ inl t
  | inr o ↦ inr (o.0, λ a t. known_on [] [] k (none_of [] k) l a (o.1 a t))
]

clients_append : (k l : List Event) → AreOfClients l → AreOfClients k → AreOfClients (l ++ k)
clients_append k [] h o = o
clients_append k (e ∷ l) h o = (client_on k l e.step h.0, clients_append k l h.1 o)

-- on, and on again
pub clients_through : (x y z : World) (s t : List Name) → ClientsMake s x y → ClientsMake t y z → ClientsMake (s ++ t) x z
clients_through x y z s t m n = record {
  same_opening = n.same_opening ∙ m.same_opening;
  later = n.later ++ m.later;
  past = n.past ∙ ap (λ l. n.later ++ l) m.past ∙ sym (append_assoc n.later m.later x.past);
  own = clients_append m.later n.later n.own m.own;
  commits = λ a c. elim (committed_parts a n.later m.later c) [
    | inl d ↦ known_on [] [] m.later (none_of [] m.later) n.later a (n.commits a d)
    | inr d ↦ elim (m.commits a d) [ inl t ↦ absurd (false≢true t) | inr b ↦ inr (begun_older a n.later m.later b) ]
  ];
  began = tops_append n.later m.later ∙ ap (λ l. l ++ tops_begun n.later) m.began ∙ ap (λ l. s ++ l) n.began;
}

-- ---- one client

-- the event by which its top action began
top_event : ℕ → Name → Event
top_event home a = record { step = Top home; answer = Began (a ∷ []) }

no_tops : (names : List Name) (later : List Event) → AreOwn names later → tops_begun later ≡ []
no_tops names [] h = refl
no_tops names (e ∷ before) h = ap (λ l. l ++ tops_by e.step e.answer) (no_tops names before h.1) ∙ none_by e.step h.0.0
  where
    none_by : (step : Step) → IsOfAction step → tops_by step e.answer ≡ []
    none_by (Top g) h = absurd h
    none_by _ h = refl

module _ (home : ℕ) (a : Name) where
  -- its action began by that event
  began_there : (c : Name) → IsTrue (has_name (a ∷ []) c) → IsKnown [] (top_event home a ∷ []) c
  unfolding top_event
  began_there c h = inr h

  steps_of_client : (l : List Event) → AreOwn (a ∷ []) l → AreOfClients (l ++ top_event home a ∷ [])
  unfolding top_event
  steps_of_client [] h = (inl tt, tt)
  steps_of_client (e ∷ l) h =
      (inr (h.0.0, λ c t. known_on [] (a ∷ []) (top_event home a ∷ []) began_there l c (h.0.1 c t)), steps_of_client l h.1)

  one_client : (old new : World) → Makes (a ∷ []) (a ∷ []) (with_top home a old) new → ClientsMake (a ∷ []) old new
  unfolding top_event
  one_client old new m = record {
    same_opening = m.same_opening;
    later = m.later ++ top_event home a ∷ [];
    past = m.past ∙ sym (append_assoc m.later (top_event home a ∷ []) old.past);
    own = steps_of_client m.later m.own;
    commits = λ c h. elim (committed_parts c m.later (top_event home a ∷ []) h) [
      | inl d ↦ known_on [] (a ∷ []) (top_event home a ∷ []) began_there m.later c (m.commits c d)
      | inr d ↦ absurd (false≢true d)
    ];
    began = tops_append m.later (top_event home a ∷ []) ∙ ap (λ l. (a ∷ []) ++ l) (no_tops (a ∷ []) m.later m.own);
  }

-- what a client makes, of clients
pub client_makes : (home : ℕ) (top : Option Name) (old new : World) → ClientMakes home top old new → ClientsMake (named_by top) old new
client_makes home None old new e = subst (λ w. ClientsMake [] old w) (sym e) (clients_nowhere old)
client_makes home (Some a) old new m = one_client home a old new m

-- ---- its end

-- an end names the action that ended
pub named_at_end : (a : Name) (flow : Flow) → top_of (end_of a flow) ≡ Some a
named_at_end a Ended = refl
named_at_end a (Returned value) = refl
named_at_end a _ = refl

-- a client whose top action came to this end
pub end_made : (home : ℕ) (a : Name) (flow : Flow) (old mid new : World) → mid ≡ with_top home a old → Makes (a ∷ []) (a ∷ []) mid new
    → Tells (commits flow) a mid new → ClientMade home (end_of a flow) old new
end_made home a flow old mid new e m t = record {
  makes = subst (λ o. ClientMakes home o old new) (sym (named_at_end a flow)) (subst (λ w. Makes (a ∷ []) (a ∷ []) w new) e m);
  told = tells flow t;
}
  where
    tells : (flow : Flow) → Tells (commits flow) a mid new → EndTells home (end_of a flow) old new
    tells Ended t = t
    tells (Returned value) t = t
    tells Aborted t = subst (λ w. Makes (a ∷ []) [] w new) e t
    tells (Outwards reach) t = subst (λ w. Makes (a ∷ []) [] w new) e t
