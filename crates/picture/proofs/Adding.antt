-- What one event more adds to a layout.
use Rattle.std.proofs.Common.{◌≡◌, ℕ, suc, Bool, cond, List, [], ◌∷◌, ◌++◌, length, map, Option, Some, Result, Ok, Err, OnOk, ap, ◌∙◌}
use Rattle.std.specs.BTreeMap.{get}
use Rattle.action_names.specs.Names.{Name, has_name, name_cmp}
use Rattle.run_model.specs.declared.history.Event.{Event}
use Rattle.run_model.specs.Actions.{begins, home_in, home_of, names_begun, step_aborts, step_closes, step_commits}
use Rattle.run_model.specs.Keeping as keeping
use Rattle.picture.specs.declared.bars.Bars.{Bars}
use Rattle.picture.specs.declared.bars.Begun.{Begun}
use Rattle.picture.specs.declared.layout.Layout.{Layout}
use Rattle.picture.specs.declared.marks.Arrow.{Arrow}
use Rattle.picture.specs.declared.window.Span.{Span}
use Rattle.picture.specs.Layouts.{AreBars, AreGaps, IsLaidOut, beginning, granted, messages, of_shown, operation_of}
use Rattle.picture.specs.Windows.{is_shown}

pub on_ok : {T E P Q : Type 0} (r : Result T E) → OnOk r P → (P → Q) → OnOk r Q
on_ok (Ok x) p f = f p
on_ok (Err e) p f = tt

-- ---- bars

abbrev pub begun_at : ℕ → ℕ → Begun
begun_at home number = record { home = home; number = number }

-- the bars with one event more
pub bars_more : (old new : Bars) (e : Event) (home number : ℕ) (past : List Event) → AreBars old past → number ≡ suc (length past)
    → home ≡ home_in e.step (λ b. home_of b past)
    → ((q : Name) → get name_cmp new.begun q ≡ cond (has_name (names_begun e.answer) q) (Some (begun_at home number)) (get name_cmp old.begun q))
    → ((q : Name) → get name_cmp new.closed q ≡ cond (step_closes e.step q) (Some number) (get name_cmp old.closed q))
    → ((q : Name) → get name_cmp new.committed q ≡ cond (step_commits e.step q) (Some number) (get name_cmp old.committed q))
    → ((q : Name) → get name_cmp new.aborted q ≡ cond (step_aborts e.step q) (Some number) (get name_cmp old.aborted q))
    → AreBars new (e ∷ past)
bars_more old new e home number past are is lives begun closed committed aborted = record {
  begun = λ q.
      begun q ∙ ap (cond (begins e q) (Some (begun_at home number))) (are.begun q)
      ∙ ap (λ h. cond (begins e q) (Some (begun_at h number)) (beginning q past)) lives
      ∙ ap (λ n. cond (begins e q) (Some (begun_at (home_in e.step (λ b. home_of b past)) n)) (beginning q past)) is;
  closed = λ q. numbered (step_closes e.step q) _ _ _ (closed q) (are.closed q);
  committed = λ q. numbered (step_commits e.step q) _ _ _ (committed q) (are.committed q);
  aborted = λ q. numbered (step_aborts e.step q) _ _ _ (aborted q) (are.aborted q);
}
  where
    numbered : (t : Bool) (x y z : Option ℕ) → x ≡ cond t (Some number) y → y ≡ z → x ≡ cond t (Some (suc (length past))) z
    numbered t x y z h k = h ∙ ap (cond t (Some number)) k ∙ ap (λ n. cond t (Some n) z) is

-- ---- the whole

-- what is laid out with one event more
pub laid_more : (span : Span) (old new : Layout) (e : Event) (number : ℕ) (past : List Event) → IsLaidOut span old past → number ≡ suc (length past)
    → new.span ≡ old.span
    → map operation_of new.ticks.items ≡ map operation_of old.ticks.items ++ cond (is_shown old.span number) (granted number e past) []
    → new.arrows.items ≡ old.arrows.items ++ cond (is_shown old.span number) (messages number e past) []
    → AreBars new.bars (e ∷ past) → AreGaps new.gaps (e ∷ past)
    → IsLaidOut span new (e ∷ past)
laid_more span old new e number past laid is same ticks arrows bars gaps = record {
  shown = same ∙ laid.shown;
  bars = bars;
  ticks =
      ticks ∙ ap (λ (ops : List keeping.Performed). ops ++ cond (is_shown old.span number) (granted number e past) []) laid.ticks
      ∙ ap (λ (s : Span). of_shown span granted past ++ cond (is_shown s number) (granted number e past) []) laid.shown
      ∙ ap (λ n. of_shown span granted past ++ cond (is_shown span n) (granted n e past) []) is;
  arrows =
      arrows ∙ ap (λ (arrows : List Arrow). arrows ++ cond (is_shown old.span number) (messages number e past) []) laid.arrows
      ∙ ap (λ (s : Span). of_shown span messages past ++ cond (is_shown s number) (messages number e past) []) laid.shown
      ∙ ap (λ n. of_shown span messages past ++ cond (is_shown span n) (messages n e past) []) is;
  gaps = gaps;
}
