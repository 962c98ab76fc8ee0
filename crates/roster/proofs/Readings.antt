-- What is read in a roster.
use Rattle.std.proofs.Common.{Bool, None, Option, Some, ap, arith, eq-eqb, eqb-true, false, ne_eqb, not, refl, sym, true, ℕ, List, [], ◌&&◌, ◌||◌, ◌==◌, ◌∙◌, ◌≡◌}
use Rattle.std.specs.Prelude.{is_some, nat_lt}
use Rattle.std.specs.FinMap as tree
use Rattle.std.proofs.lemmas.Bool.{le-ltb}
use Rattle.action_names.specs.Names.{Name}
use Rattle.run_model.specs.Actions.{crashes, home_of, incarnation_of, is_begun, is_busy, is_done, is_ended, is_gone, made_by}
use Rattle.run_model.specs.LocalReadings.{LocalEvent, dependency_here, events_here, is_at_home}
use Rattle.roster.proofs.Changed.{got_within}
use Rattle.roster.proofs.Counted.{any_counted}
use Rattle.roster.proofs.Events.{no_events}
use Rattle.roster.specs.Rosters.{IsIndexed, IsRoster}
use Rattle.roster.specs.Tables.{Table, home_at, life_at, place_of, row_at, row_of, said}
use Rattle.roster.specs.declared.entry.Row.{Row}

-- who has a place has a row
pub row_there : (t : Table) → IsIndexed t → (a : Name) → is_some (row_of t a) ≡ is_some (place_of t a)
row_there t h a = of (place_of t a) refl
  where
    of : (p : Option ℕ) → place_of t a ≡ p → is_some (row_at t p) ≡ is_some p
    of None at = refl
    of (Some i) at = got_within t.rows i (h.within a i at)

-- before anything happened
pub nothing_yet : (g : ℕ) (names : List Name)
    → IsRoster g [] (record { guardian = g; crashes = 0; down = false; rows = []; places = λ a. None; names = names; room = 0 })
nothing_yet g names = record {
  events = no_events g;
  guardian = refl;
  crashes = refl;
  down = refl;
  indexed = record { within = λ a i at. absurd (none_some i at); apart = λ a b i at too. absurd (none_some i at); room = omega arith };
  found = λ a. refl;
  home = λ a. refl;
  life = λ a. refl;
  maker = λ a. refl;
  ended = λ a. refl;
  closed = λ a. refl;
  depends = λ a h. refl;
  unended = λ a was. refl;
}
  where
    none_some : (i : ℕ) → ◌≡◌ {A = Option ℕ} None (Some i) → ⊥
    none_some i at = cc

module _ (g : ℕ) (here : List LocalEvent) (t : Table) (is : IsRoster g here t) (a : Name) where
  begun_row : is_some (row_of t a) ≡ is_begun a (events_here here)
  begun_row = row_there t is.indexed a ∙ is.found a

  pub there : (r : Option Row) → r ≡ row_of t a → (is_some r && (said (λ row. row.home) 0 r == t.guardian)) ≡ is_at_home g a here
  there r e = ap (λ o. is_some o && (said (λ row. row.home) 0 o == t.guardian)) e ∙ (λ i. begun_row i && (is.home a i == is.guardian i))

  pub done : (r : Option Row) → r ≡ row_of t a → (said (λ row. row.ended) false r || said (λ row. row.closed) false r) ≡ is_done a (events_here here)
  done r e = ap (λ o. said (λ row. row.ended) false o || said (λ row. row.closed) false o) e ∙ (λ i. is.ended a i || is.closed a i)

  pub busy : (r : Option Row) → r ≡ row_of t a → is_begun a (events_here here) ≡ true → nat_lt 0 (said (λ row. row.unended) 0 r) ≡ is_busy a (events_here here)
  busy r e was =
      ap (λ o. nat_lt 0 (said (λ row. row.unended) 0 o)) e
      ∙ ap (nat_lt 0) (is.unended a was) ∙ any_counted (λ b. not (is_ended b (events_here here))) (made_by a (events_here here))

  gone : ((home_at t a == t.guardian) && nat_lt (life_at t a) t.crashes) ≡ is_gone a (events_here here)
  gone =
      (λ i. (is.home a i == is.guardian i) && nat_lt (is.life a i) (is.crashes i))
      ∙ of (home_of a (events_here here) == g) refl
    where
      of : (b : Bool) → (home_of a (events_here here) == g) ≡ b
          → (b && nat_lt (incarnation_of a (events_here here)) (crashes g (events_here here))) ≡ is_gone a (events_here here)
      of true own = ap (λ h. nat_lt (incarnation_of a (events_here here)) (crashes h (events_here here))) (sym (eqb-true _ g own))
      of false other =
          sym (ap (nat_lt (incarnation_of a (events_here here))) (is.events.own (home_of a (events_here here)) other)
          ∙ le-ltb (incarnation_of a (events_here here)) 0 (omega arith))

  -- by the home and the life that were read
  pub gone_own : (home life : ℕ) → home ≡ home_at t a → life ≡ life_at t a → home ≡ t.guardian → nat_lt life t.crashes ≡ is_gone a (events_here here)
  gone_own home life h l own =
      ap (λ n. nat_lt n t.crashes) l
      ∙ sym (ap (λ b. b && nat_lt (life_at t a) t.crashes) (eq-eqb (home_at t a) t.guardian (sym h ∙ own)))
      ∙ gone

  pub gone_other : (home : ℕ) → home ≡ home_at t a → (home ≡ t.guardian → ⊥) → (home == t.guardian) ≡ is_gone a (events_here here)
  gone_other home h other =
      ne_eqb home t.guardian other
      ∙ sym (ap (λ b. b && nat_lt (life_at t a) t.crashes) (ne_eqb (home_at t a) t.guardian (λ e. other (h ∙ e))))
      ∙ gone

  pub depends : (r : Option Row) → r ≡ row_of t a → (h : ℕ) → said (λ row. tree.get row.depends h) None r ≡ dependency_here a h here
  depends r e h = ap (said (λ row. tree.get row.depends h) None) e ∙ is.depends a h
