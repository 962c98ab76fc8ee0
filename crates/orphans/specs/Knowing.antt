-- When a guardian's lists are those of its own history, and a lesson what messages brought.
use Rattle.std.specs.Prelude.{◌≡◌, ◌==◌, ◌++◌, ℕ, Bool, List, [], Option, None, if◌then◌else◌, length, min, vec_len}
use Rattle.action_names.specs.Names.{Name}
use Rattle.run_model.specs.Actions.{crashes}
use Rattle.run_model.specs.LocalReadings.{LocalEvent, aborted_in, aborts_here, counts_here, events_here, most_of, sent_here}
use Rattle.orphans.specs.Indexes.{with_own}
use Rattle.orphans.specs.Logs.{HasCountRoom, HasRoom, known_counts, known_names, names_of}
use Rattle.orphans.specs.Sending.{HasPlace, came_of, most}
use Rattle.orphans.specs.declared.lesson.Lesson.{Lesson}
use Rattle.orphans.specs.declared.lists.Lists.{Lists}

-- whose lists they are, and how often it has crashed
abbrev pub guardian_of : Lists → ℕ
guardian_of lists = lists.guardian

abbrev pub crashes_of : Lists → ℕ
crashes_of lists = lists.crashes

-- The lists are those that the guardian reads in its history; of what a sender sent, up to 2^64 - 1 entries of each
-- list are counted.
pub record AreLists (here : List LocalEvent) (lists : Lists) : Type 0 where
  pub crashes : lists.crashes ≡ crashes lists.guardian (events_here here)
  pub aborts : known_names lists.aborts ≡ aborts_here lists.guardian here
  pub counts : known_counts lists.counts ≡ counts_here lists.guardian here
  pub sent_aborts : (h life : ℕ) → (came_of lists.sent h life).aborts
      ≡ min (sent_here (λ m. length m.aborts) lists.guardian h life here) most
  pub sent_counts : (h life : ℕ) → (came_of lists.sent h life).counts
      ≡ min (sent_here (λ m. length m.counts) lists.guardian h life here) most

-- how many crashes of h the lists tell of
abbrev pub known_count : Lists → ℕ → ℕ
known_count lists h =
    if lists.guardian == h then lists.crashes else most_of (known_counts lists.counts) h

-- the lesson has this news
pub record IsLesson (sender : Option ℕ) (life : ℕ) (aborts : List Name) (counts : List (ℕ × ℕ))
    (outcomes : List (Name × Bool)) (lesson : Lesson) : Type 0 where
  pub from : lesson.sender ≡ sender
  pub in_life : lesson.life ≡ life
  pub names : names_of lesson.aborts.items ≡ aborts ++ aborted_in outcomes
  pub raises : lesson.counts.items ≡ with_own sender life counts
  pub many_aborts : lesson.sent_aborts ≡ length aborts
  pub many_counts : lesson.sent_counts ≡ length counts

-- no lists came, and no abort was told
pub record IsEmpty (lesson : Lesson) : Type 0 where
  pub nobody : lesson.sender ≡ None
  pub names : lesson.aborts.items ≡ []

-- there is room to learn what came
pub record HasLessonRoom (lists : Lists) (lesson : Lesson) : Type 0 where
  pub log : HasRoom lists.aborts (vec_len lesson.aborts)
  pub counts : HasCountRoom lists.counts (vec_len lesson.counts)
  pub place : HasPlace lists.sent

-- there is room to learn the lesson, if anything came
abbrev pub FitsLesson : Lists → Lesson → Type 0
FitsLesson lists lesson = (IsEmpty lesson → ⊥) → HasLessonRoom lists lesson
