-- What an operation leaves as it was: what the guardian was told, its lists and its roster.
use Rattle.std.proofs.Common.{Bool, List, ap, false, length, min, refl, subst, sym, true, zero-add, ℕ, ◌+◌, ◌∙◌, ◌∷◌, ◌≡◌, ◌||◌}
use Rattle.action_names.specs.Names.{Name}
use Rattle.atomic_types.specs.Operations as op
use Rattle.atomic_types.specs.declared.op.Reply.{Reply}
use Rattle.run_model.specs.declared.answer.Answer.TheVariants.{Granted}
use Rattle.run_model.specs.declared.history.Event.{Event}
use Rattle.run_model.specs.declared.step.ObjectId.{ObjectId}
use Rattle.run_model.specs.declared.step.Step.TheVariants.{Op}
use Rattle.run_model.specs.Actions.{crashes}
use Rattle.run_model.specs.LocalReadings.{LocalEvent, events_here, sent_here, told_here}
use Rattle.layer_contracts.specs.Guardians.{by_itself, stamped}
use Rattle.tellings.specs.Hearing.{AreTold}
use Rattle.tellings.specs.declared.tellings.Tellings.{Tellings}
use Rattle.orphans.specs.Knowing.{AreLists}
use Rattle.orphans.specs.Sending.{most}
use Rattle.orphans.specs.declared.lists.Lists.{Lists}
use Rattle.roster.specs.Rosters.{IsRoster}
use Rattle.roster.specs.Tables.{Table}

pub record Untouched (g : ℕ) (here : List LocalEvent) (c : LocalEvent) : Type 0 where
  pub crashes : crashes g (events_here here) ≡ crashes g (events_here (c ∷ here))
  pub told : (names : List Name) (told : Tellings) → AreTold g here names told → AreTold g (c ∷ here) names told
  pub lists : (lists : Lists) → AreLists here lists → AreLists (c ∷ here) lists
  pub roster : (t : Table) → IsRoster g here t → IsRoster g (c ∷ here) t

module _ (n : ℕ) (a : Name) (x : ObjectId) (wanted : op.Op) (r : Reply) (g : ℕ) (here : List LocalEvent) where
  abbrev granted : Event
  granted = record { step = Op a x wanted; answer = Granted r }

  or_false : (t : Bool) → (t || false) ≡ t
  or_false true = refl
  or_false false = refl

  nothing_more : (n : ℕ) → min n most ≡ min (0 + n) most
  nothing_more n = ap (λ k. min k most) (sym (zero-add n))

  by_granted : Untouched g here (stamped n (by_itself granted))
  by_granted = record {
    crashes = refl;
    told = λ names told is. record { within = is.within; since = λ b. is.since b ∙ sym (or_false (told_here g b here)); committed = is.committed; lives = is.lives };
    lists = λ lists is. record {
      crashes = is.crashes;
      aborts = is.aborts;
      counts = is.counts;
      sent_aborts = λ h life. is.sent_aborts h life ∙ nothing_more (sent_here (λ m. length m.aborts) lists.guardian h life here);
      sent_counts = λ h life. is.sent_counts h life ∙ nothing_more (sent_here (λ m. length m.counts) lists.guardian h life here);
    };
    roster = λ t is. record {
      events = record { own = is.events.own; named = is.events.named; new = is.events.new; made = is.events.made };
      guardian = is.guardian;
      crashes = is.crashes;
      down = is.down;
      indexed = is.indexed;
      found = is.found;
      home = is.home;
      life = is.life;
      maker = is.maker;
      ended = is.ended;
      closed = is.closed;
      depends = is.depends;
      unended = is.unended;
    };
  }

  pub after_operation : (e : Event) → e ≡ granted → Untouched g here (stamped n (by_itself e))
  after_operation e is = subst (λ k. Untouched g here (stamped n (by_itself k))) (sym is) by_granted
