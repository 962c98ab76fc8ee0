-- The roster of a guardian that is opened again by itself: of the time before its own history has votes and crashes alone.
use Rattle.std.proofs.Common.{List, None, Option, [], ap, false, refl, suc, sym, true, zero, ℕ, ◌+◌, ◌∙◌, ◌∷◌, ◌≡◌, add-one, Some, arith}
use Rattle.std.proofs.lemmas.Bool.{eq-eqb, false≢true}
use Rattle.action_names.specs.Names.{Name}
use Rattle.run_model.specs.Actions.{home_of, incarnation_of, is_begun, is_closed, is_ended, maker_of}
use Rattle.run_model.specs.LocalReadings.{LocalEvent, dependency_here, events_here}
use Rattle.run_model.specs.Openings.{Held}
use Rattle.run_model.specs.Reopening.{crash_before, life_before, vote_before}
use Rattle.run_model.specs.StableContent.{Prepared}
use Rattle.local_laws.proofs.Reopened.{crashed, life_before_is, votes}
use Rattle.roster.proofs.Events.{more_events, no_events}
use Rattle.roster.specs.Rosters.{AreOf, IsRoster}
use Rattle.roster.specs.Tables.{placed}

-- Of no action is anything said.
record HasNone (g : ℕ) (here : List LocalEvent) : Type 0 where
  pub events : AreOf g (events_here here)
  pub begun : (a : Name) → is_begun a (events_here here) ≡ false
  pub home : (a : Name) → home_of a (events_here here) ≡ 0
  pub life : (a : Name) → incarnation_of a (events_here here) ≡ 0
  pub maker : (a : Name) → maker_of a (events_here here) ≡ None
  pub ended : (a : Name) → is_ended a (events_here here) ≡ false
  pub closed : (a : Name) → is_closed a (events_here here) ≡ false
  pub depends : (a : Name) (h : ℕ) → dependency_here a h here ≡ None

none_at_first : (g : ℕ) → HasNone g []
none_at_first g = record {
  events = no_events g;
  begun = λ a. refl;
  home = λ a. refl;
  life = λ a. refl;
  maker = λ a. refl;
  ended = λ a. refl;
  closed = λ a. refl;
  depends = λ a h. refl;
}

none_voted : (g : ℕ) (p : Name × Prepared) (here : List LocalEvent) → HasNone g here → HasNone g (vote_before g p ∷ here)
none_voted g p here h = record {
  events = more_events g (vote_before g p).event (events_here here) h.events refl refl refl (λ a was. cc);
  begun = h.begun;
  home = h.home;
  life = h.life;
  maker = h.maker;
  ended = h.ended;
  closed = h.closed;
  depends = h.depends;
}

none_crashed : (g : ℕ) (here : List LocalEvent) → HasNone g here → HasNone g (crash_before g ∷ here)
none_crashed g here h = record {
  events = more_events g (crash_before g).event (events_here here) h.events refl refl (eq-eqb g g refl) (λ a was. cc);
  begun = h.begun;
  home = h.home;
  life = h.life;
  maker = h.maker;
  ended = h.ended;
  closed = h.closed;
  depends = h.depends;
}

none_before : (g n : ℕ) (records : List (Name × Prepared)) → HasNone g (crashed g n (votes g records))
none_before g zero [] = none_at_first g
none_before g zero (p ∷ records) = none_voted g p (votes g records) (none_before g 0 records)
none_before g (suc n) records = none_crashed g (crashed g n (votes g records)) (none_before g n records)

pub roster_reopened : (g : ℕ) (held : Held) (records : List (Name × Prepared)) (n : ℕ) (names : List Name) → n ≡ held.count + 1
    → IsRoster g (life_before g held records)
    (record { guardian = g; crashes = n; down = true; rows = []; places = λ a. None; names = names; room = 0 })
roster_reopened g held records n names counted =
    let none = none_before g (suc held.count) records in
    let is = life_before_is g held records in
    record {
      events = none.events;
      guardian = refl;
      crashes = counted ∙ add-one held.count ∙ sym is.crashes;
      down = sym is.down;
      indexed = record { within = λ a i at. absurd (none_some i at); apart = λ a b i at too. absurd (none_some i at); room = omega arith };
      found = λ a. sym (none.begun a);
      home = λ a. sym (none.home a);
      life = λ a. sym (none.life a);
      maker = λ a. sym (ap (λ m. placed (record { guardian = g; crashes = n; down = true; rows = []; places = λ b. None; names = names; room = 0 }) m) (none.maker a));
      ended = λ a. sym (none.ended a);
      closed = λ a. sym (none.closed a);
      depends = λ a h. sym (none.depends a h);
      unended = λ a was. absurd (false≢true (sym (none.begun a) ∙ was));
    }
  where
    none_some : (i : ℕ) → ◌≡◌ {A = Option ℕ} None (Some i) → ⊥
    none_some i at = cc
