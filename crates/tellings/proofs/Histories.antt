-- Tellings of a history: with more names and other room, and after an event.
use Rattle.std.proofs.Common.{Bool, List, None, Option, Some, ap, arith, eq-eqb, false, length, max, ne_eqb, not, refl, subst, sym, true, ℕ, ◌&&◌, ◌+◌, ◌∙◌, ◌∷◌, ◌≡◌, ◌≤◌, ◌||◌}
use Rattle.std.specs.Prelude.{IfSome, is_some}
use Rattle.std.proofs.lemmas.List.{length-append}
use Rattle.action_names.specs.Names.{Name}
use Rattle.places.specs.Placed.{AreMore}
use Rattle.places.specs.Rows.{row_at, row_of}
use Rattle.places.proofs.Standing.{row_more, row_same}
use Rattle.run_model.specs.Actions.{step_crashes}
use Rattle.run_model.specs.LocalReadings.{LocalEvent, brings, says_committed, told_committed_here, told_here}
use Rattle.run_model.specs.Telling.{holder_by, or_else}
use Rattle.tellings.specs.Hearing.{AreTold, IsHeard, crashes_of, heard_in, is_in, is_told_committed, told_of}
use Rattle.tellings.specs.declared.tellings.Heard.{Heard}
use Rattle.tellings.specs.declared.tellings.Tellings.{Tellings}
use Rattle.tellings.specs.declared.tellings.Told.{Told}
use Rattle.tellings.proofs.Planning.{heard_committed, heard_lives, heard_named}

-- with more names, tellings with the same rows are those of the same history
pub kept : (old new : List Name) (before after : Tellings) → AreMore old new → crashes_of after ≡ crashes_of before
    → ((i : ℕ) → row_at after.told i ≡ row_at before.told i) → length after.told ≤ max (length before.told) (length new)
    → (g : ℕ) (here : List LocalEvent) → AreTold g here old before → AreTold g here new after
kept old new before after more crashes rows within g here are = record {
  within = omega (arith, within, are.within, ap length more.behind, length-append old more.added);
  since = λ b. (λ i. is_in (crashes i) (same b i)) ∙ are.since b;
  committed = λ b. ap is_told_committed (same b) ∙ are.committed b;
  lives = λ b. subst (λ n. IfSome (told_of new after b) (λ t. t.life ≤ n)) (sym crashes)
      (subst (λ o. IfSome o (λ t. t.life ≤ before.crashes)) (sym (same b)) (are.lives b));
}
  where
    same : (b : Name) → told_of new after b ≡ told_of old before b
    same b =
        row_same new before.told after.told rows b
        ∙ ap (λ ns. row_of ns before.told b) more.behind
        ∙ row_more old more.added before.told are.within b

-- who holds by the rows is who holds in the history
pub holder_told : (names : List Name) (told : Tellings) (g : ℕ) (here : List LocalEvent) → AreTold g here names told → (b : Name)
    → holder_by (λ c. is_told_committed (told_of names told c)) b ≡ holder_by (λ c. told_committed_here c here) b
holder_told names told g here are b = λ i. holder_by (λ c. are.committed c i) b

-- who was told something by an event, or had been told, was told since the last crash
since_after : (life : ℕ) (v w : Option Told) (o : Option Bool) (told : Bool) → is_some v ≡ is_some o → IfSome v (λ t. t.life ≡ life) → is_in life w ≡ told
    → is_in life (or_else v w) ≡ (told || is_some o)
since_after life None w None told named alive was = was ∙ or_false told
  where
    or_false : (t : Bool) → t ≡ (t || false)
    or_false true = refl
    or_false false = refl
since_after life None w (Some c) told named alive was = absurd (cc)
since_after life (Some t) w None told named alive was = absurd (cc)
since_after life (Some t) w (Some c) told named alive was = eq-eqb t.life life alive ∙ or_true told
  where
    or_true : (t : Bool) → true ≡ (t || true)
    or_true true = refl
    or_true false = refl

-- a commit that the event brought, or that had been told, was told
commit_after : (v w : Option Told) (o : Option Bool) (told : Bool) → is_some v ≡ is_some o
    → (is_some o ≡ true → is_told_committed v ≡ (says_committed o || is_told_committed w)) → is_told_committed w ≡ told
    → is_told_committed (or_else v w) ≡ (says_committed o || told)
commit_after None w None told named says was = was
commit_after None w (Some c) told named says was = absurd (cc)
commit_after (Some t) w None told named says was = absurd (cc)
commit_after (Some t) w (Some c) told named says was = says refl ∙ ap (λ s. c || s) was

-- what was told in a life before was not told in this one
not_in : (life : ℕ) (o : Option Told) → IfSome o (λ t. t.life ≤ life) → is_in (life + 1) o ≡ false
not_in life None before = refl
not_in life (Some t) before = ne_eqb t.life (life + 1) (λ same. omega (arith, same, before))

-- of what is heard now, and what was told before this life's end, nothing was told after it
lives_after : (life : ℕ) (v w : Option Told) → IfSome v (λ t. t.life ≡ life) → IfSome w (λ t. t.life ≤ life) → IfSome (or_else v w) (λ t. t.life ≤ life)
lives_after life None w alive before = before
lives_after life (Some t) w alive before = omega (arith, alive)

early : (life : ℕ) (o : Option Told) → IfSome o (λ t. t.life ≤ life) → IfSome o (λ t. t.life ≤ life + 1)
early life None before = tt
early life (Some t) before = omega (arith, before)

module _ (names : List Name) (before after : Tellings) (heard : Heard)
    (values : (b : Name) → told_of names after b ≡ or_else (heard_in names heard.told.items b) (told_of names before b))
    (room : length after.told ≡ length before.told)
    (g : ℕ) (here : List LocalEvent) (c : LocalEvent) (are : AreTold g here names before) (is : IsHeard names before c.carried.outcomes heard) where
  named : (b : Name) → is_some (heard_in names heard.told.items b) ≡ is_some (brings c b)
  named b = heard_named names before c.carried.outcomes heard.told.items is b

  alive : (b : Name) → IfSome (heard_in names heard.told.items b) (λ t. t.life ≡ before.crashes)
  alive b = heard_lives names before c.carried.outcomes heard.told.items is b

  -- the commits that were ever told are those of the history with the event
  commits : (b : Name) → is_told_committed (told_of names after b) ≡ told_committed_here b (c ∷ here)
  commits b =
      ap is_told_committed (values b)
      ∙ commit_after (heard_in names heard.told.items b) (told_of names before b) (brings c b) (told_committed_here b here) (named b)
      (heard_committed names before c.carried.outcomes heard.told.items is b) (are.committed b)

  -- none of them was told after the life before the event
  none_after : (b : Name) → IfSome (told_of names after b) (λ t. t.life ≤ before.crashes)
  none_after b = subst (λ o. IfSome o (λ t. t.life ≤ before.crashes)) (sym (values b))
      (lives_after before.crashes (heard_in names heard.told.items b) (told_of names before b) (alive b) (are.lives b))

  inside : length after.told ≤ length names
  inside = omega (arith, room, are.within)

  -- after an event that is no crash
  pub heard_event : crashes_of after ≡ crashes_of before → step_crashes c.event.step g ≡ false → AreTold g (c ∷ here) names after
  heard_event crashes stays = record {
    within = inside;
    since = λ b.
        (λ i. is_in (crashes i) (values b i))
        ∙ since_after before.crashes (heard_in names heard.told.items b) (told_of names before b) (brings c b) (told_here g b here) (named b)
        (alive b) (are.since b)
        ∙ sym (ap (λ t. not t && (told_here g b here || is_some (brings c b))) stays);
    committed = commits;
    lives = λ b. subst (λ n. IfSome (told_of names after b) (λ t. t.life ≤ n)) (sym crashes) (none_after b);
  }

  -- after a crash
  pub crashed_event : crashes_of after ≡ crashes_of before + 1 → step_crashes c.event.step g ≡ true → AreTold g (c ∷ here) names after
  crashed_event crashes down = record {
    within = inside;
    since = λ b.
        ap (λ n. is_in n (told_of names after b)) crashes
        ∙ not_in before.crashes (told_of names after b) (none_after b)
        ∙ sym (ap (λ t. not t && (told_here g b here || is_some (brings c b))) down);
    committed = commits;
    lives = λ b. subst (λ n. IfSome (told_of names after b) (λ t. t.life ≤ n)) (sym crashes) (early before.crashes (told_of names after b) (none_after b));
  }
