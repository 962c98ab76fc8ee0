-- Lists of a history: after an event, and in another shape.
use Rattle.std.proofs.Common.{Bool, List, None, Option, Some, [], ap, refl, arith, cond, false, filter, length, min, suc, sym, true, ℕ, ◌+◌, ◌++◌, ◌∙◌, ◌∷◌, ◌≡◌}
use Rattle.std.proofs.lemmas.Option.{none-some}
use Rattle.action_names.specs.Names.{Name}
use Rattle.run_model.specs.Actions.{crashes, step_crashes}
use Rattle.run_model.specs.declared.history.Event.{Event}
use Rattle.run_model.specs.LocalReadings.{LocalEvent, aborted_in, aborts_here, counts_from, counts_here, events_here, is_of, learnt, raised, sent_here}
use Rattle.orphans.specs.Indexes.{with_own}
use Rattle.orphans.specs.Knowing.{AreLists, IsEmpty, IsLesson}
use Rattle.orphans.specs.Logs.{known_counts, known_names, names_of}
use Rattle.orphans.specs.Sending.{came_of, counted, most}
use Rattle.orphans.specs.declared.counts.Counts.{Counts}
use Rattle.orphans.specs.declared.lesson.Lesson.{Lesson}
use Rattle.orphans.specs.declared.lists.Lists.{Lists}
use Rattle.orphans.specs.declared.log.Log.{Log}
use Rattle.orphans.specs.declared.sent.Came.{Came}
use Rattle.orphans.specs.declared.sent.Sent.{Sent}
use Rattle.orphans.proofs.Learning.{learnt-append}
use Rattle.orphans.proofs.Sendings.{more_aborts, more_counts, none_more}

-- logs that show the same are those of the same history
pub kept : (before : Lists) (aborts : Log) (counts : Counts) (sent : Sent) → known_names aborts ≡ known_names before.aborts
    → known_counts counts ≡ known_counts before.counts → ((h life : ℕ) → came_of sent h life ≡ came_of before.sent h life)
    → (here : List LocalEvent) → AreLists here before → AreLists here (record before { aborts = aborts; counts = counts; sent = sent })
kept before aborts counts sent names raises came here are = record {
  crashes = are.crashes;
  aborts = names ∙ are.aborts;
  counts = raises ∙ are.counts;
  sent_aborts = λ h life. ap (λ c. c.aborts) (came h life) ∙ are.sent_aborts h life;
  sent_counts = λ h life. ap (λ c. c.counts) (came h life) ∙ are.sent_counts h life;
}

-- with what came the names are learnt behind those that were told, and the sender's own count behind its others
names_learnt : (aborts : List Name) (outcomes : List (Name × Bool)) (names known : List Name) → names ≡ aborts ++ aborted_in outcomes
    → learnt names known ≡ learnt aborts (learnt (aborted_in outcomes) known)
names_learnt aborts outcomes names known is = ap (λ xs. learnt xs known) is ∙ learnt-append aborts (aborted_in outcomes) known

counts_learnt : (sender : Option ℕ) (life : ℕ) (counts all known : List (ℕ × ℕ)) → all ≡ with_own sender life counts
    → raised all known ≡ counts_from sender life counts known
counts_learnt None life counts all known is = ap (λ xs. raised xs known) is
counts_learnt (Some h) life counts all known is = ap (λ xs. raised xs known) is

-- after an event that is no crash, with its news
pub learnt_event : (before : Lists) (aborts : Log) (counts : Counts) (sent : Sent) (lesson : Lesson)
    → known_names aborts ≡ learnt (names_of lesson.aborts.items) (known_names before.aborts)
    → known_counts counts ≡ raised lesson.counts.items (known_counts before.counts)
    → ((h present : ℕ) → came_of sent h present ≡ counted lesson.sender lesson.life lesson.sent_aborts lesson.sent_counts (came_of before.sent) h present)
    → (here : List LocalEvent) (c : LocalEvent) → AreLists here before → step_crashes c.event.step before.guardian ≡ false
    → IsLesson c.carried.sender c.carried.life c.carried.aborts c.carried.counts c.carried.outcomes lesson
    → AreLists (c ∷ here) (record before { aborts = aborts; counts = counts; sent = sent })
learnt_event before aborts counts sent lesson names raises came here c are stays is =
    let g = before.guardian in
    let came_by = c.carried in
    let crashed : List Event = filter (λ e. step_crashes e.step g) (events_here here) in
    let news : (h present : ℕ) → came_of sent h present ≡ counted came_by.sender came_by.life (length came_by.aborts) (length came_by.counts) (came_of before.sent) h present =
    λ h present. came h present ∙ (λ i. counted (is.from i) (is.in_life i) (is.many_aborts i) (is.many_counts i) (came_of before.sent) h present) in
    record {
      crashes = are.crashes ∙ sym (ap (λ b. length (cond b (c.event ∷ crashed) crashed)) stays);
      aborts = names ∙ names_learnt came_by.aborts came_by.outcomes (names_of lesson.aborts.items) (known_names before.aborts) is.names
          ∙ ap (λ known. learnt came_by.aborts (learnt (aborted_in came_by.outcomes) known)) are.aborts
          ∙ sym (ap (λ b. cond b [] (learnt came_by.aborts (learnt (aborted_in came_by.outcomes) (aborts_here g here)))) stays);
      counts = raises ∙ counts_learnt came_by.sender came_by.life came_by.counts lesson.counts.items (known_counts before.counts) is.raises
          ∙ ap (counts_from came_by.sender came_by.life came_by.counts) are.counts
          ∙ sym (ap (λ b. cond b [] (counts_from came_by.sender came_by.life came_by.counts (counts_here g here))) stays);
      sent_aborts = λ h present. ap (λ x. x.aborts) (news h present)
          ∙ more_aborts (is_of came_by.sender came_by.life h present) (came_of before.sent h present) (length came_by.aborts)
          (min ((came_of before.sent h present).counts + length came_by.counts) most) (sent_here (λ m. length m.aborts) g h present here) most (are.sent_aborts h present)
          ∙ sym (ap (λ b. min (cond b 0 (cond (is_of came_by.sender came_by.life h present) (length came_by.aborts) 0 + sent_here (λ m. length m.aborts) g h present here)) most) stays);
      sent_counts = λ h present. ap (λ x. x.counts) (news h present)
          ∙ more_counts (is_of came_by.sender came_by.life h present) (came_of before.sent h present) (length came_by.counts)
          (min ((came_of before.sent h present).aborts + length came_by.aborts) most) (sent_here (λ m. length m.counts) g h present here) most (are.sent_counts h present)
          ∙ sym (ap (λ b. min (cond b 0 (cond (is_of came_by.sender came_by.life h present) (length came_by.counts) 0 + sent_here (λ m. length m.counts) g h present here)) most) stays);
    }

-- so too where nothing came and nothing was counted
pub learnt_uncounted : (before : Lists) (aborts : Log) (counts : Counts) (lesson : Lesson)
    → known_names aborts ≡ learnt (names_of lesson.aborts.items) (known_names before.aborts)
    → known_counts counts ≡ raised lesson.counts.items (known_counts before.counts)
    → lesson.sent_aborts ≡ 0 → lesson.sent_counts ≡ 0
    → (here : List LocalEvent) (c : LocalEvent) → AreLists here before → step_crashes c.event.step before.guardian ≡ false
    → IsLesson c.carried.sender c.carried.life c.carried.aborts c.carried.counts c.carried.outcomes lesson
    → AreLists (c ∷ here) (record before { aborts = aborts; counts = counts })
learnt_uncounted before aborts counts lesson names raises no_aborts no_counts here c are stays is =
    learnt_event before aborts counts before.sent lesson names raises
    (λ h present. none_more (is_of lesson.sender lesson.life h present) (came_of before.sent h present) _ _ most (are.sent_aborts h present) (are.sent_counts h present)
    ∙ (λ i. counted lesson.sender lesson.life (sym no_aborts i) (sym no_counts i) (came_of before.sent) h present))
    here c are stays is

-- so too where the lesson is empty, with the lists as they are
none_counted : (sender : Option ℕ) (life aborts counts : ℕ) (came : ℕ → ℕ → Came) → sender ≡ None → (h present : ℕ)
    → came h present ≡ counted sender life aborts counts came h present
none_counted None life aborts counts came nobody h present = refl
none_counted (Some g) life aborts counts came nobody h present = absurd (none-some _ (sym nobody))

none_own : (sender : Option ℕ) (life : ℕ) (counts known : List (ℕ × ℕ)) → sender ≡ None → known ≡ raised (with_own sender life counts) known
none_own None life counts known nobody = refl
none_own (Some g) life counts known nobody = absurd (none-some _ (sym nobody))

pub learnt_nothing : (before : Lists) (lesson : Lesson) → IsEmpty lesson
    → (here : List LocalEvent) (c : LocalEvent) → AreLists here before → step_crashes c.event.step before.guardian ≡ false
    → IsLesson c.carried.sender c.carried.life c.carried.aborts c.carried.counts c.carried.outcomes lesson
    → AreLists (c ∷ here) before
learnt_nothing before lesson none here c are stays is =
    learnt_event before before.aborts before.counts before.sent lesson
    (sym (ap (λ aborts. learnt (names_of aborts) (known_names before.aborts)) none.names))
    (none_own c.carried.sender c.carried.life c.carried.counts (known_counts before.counts) (sym is.from ∙ none.nobody)
    ∙ sym (ap (λ counts. raised counts (known_counts before.counts)) is.raises))
    (none_counted lesson.sender lesson.life lesson.sent_aborts lesson.sent_counts (came_of before.sent) none.nobody)
    here c are stays is

-- after a crash, in which nothing else is left than how many there were
pub just_crashed : (lists : Lists) → known_names lists.aborts ≡ [] → known_counts lists.counts ≡ []
    → ((h life : ℕ) → came_of lists.sent h life ≡ record { aborts = 0; counts = 0 })
    → (here : List LocalEvent) (c : LocalEvent) → step_crashes c.event.step lists.guardian ≡ true → lists.crashes ≡ crashes lists.guardian (events_here (c ∷ here))
    → AreLists (c ∷ here) lists
just_crashed lists no_names no_counts none here c crashed counted =
    let g = lists.guardian in
    record {
      crashes = counted;
      aborts = no_names ∙ sym (ap (λ b. cond b [] (learnt c.carried.aborts (learnt (aborted_in c.carried.outcomes) (aborts_here g here)))) crashed);
      counts = no_counts ∙ sym (ap (λ b. cond b [] (counts_from c.carried.sender c.carried.life c.carried.counts (counts_here g here))) crashed);
      sent_aborts = λ h life. ap (λ x. x.aborts) (none h life)
          ∙ sym (ap (λ b. min (cond b 0 (cond (is_of c.carried.sender c.carried.life h life) (length c.carried.aborts) 0 + sent_here (λ m. length m.aborts) g h life here)) most) crashed);
      sent_counts = λ h life. ap (λ x. x.counts) (none h life)
          ∙ sym (ap (λ b. min (cond b 0 (cond (is_of c.carried.sender c.carried.life h life) (length c.carried.counts) 0 + sent_here (λ m. length m.counts) g h life here)) most) crashed);
    }

pub crashed_event : (before : Lists) (n : ℕ) (aborts : Log) (counts : Counts) (sent : Sent) → n ≡ before.crashes + 1 → known_names aborts ≡ []
    → known_counts counts ≡ [] → ((h life : ℕ) → came_of sent h life ≡ record { aborts = 0; counts = 0 })
    → (here : List LocalEvent) (c : LocalEvent) → AreLists here before → step_crashes c.event.step before.guardian ≡ true
    → AreLists (c ∷ here) (record before { crashes = n; aborts = aborts; counts = counts; sent = sent })
crashed_event before n aborts counts sent one_more no_names no_counts none here c are crash =
    let crashed : List Event = filter (λ e. step_crashes e.step before.guardian) (events_here here) in
    let more : n ≡ suc (length crashed) = omega (arith, one_more, are.crashes) in
    just_crashed (record before { crashes = n; aborts = aborts; counts = counts; sent = sent }) no_names no_counts none here c crash
    (more ∙ sym (ap (λ b. length (cond b (c.event ∷ crashed) crashed)) crash))
