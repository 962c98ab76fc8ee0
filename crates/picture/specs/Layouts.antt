-- What a picture shows of a history, as events and guardians, without a drawing. A history is given with its newest
-- event first.
use Rattle.std.specs.Prelude.{ℕ, suc, Bool, ◌≡◌, List, [], ◌∷◌, ◌++◌, length, map, if◌then◌else◌, Option, Some, None}
use Rattle.std.specs.BTreeMap.{get}
use Rattle.std.specs.Ordering.{nat_cmp}
use Rattle.action_names.specs.Names.{Name, name_cmp}
use Rattle.run_model.specs.declared.step.Step.{Step}
use Rattle.run_model.specs.declared.step.Step.TheVariants.{Call, Prepare, Tell, Recover}
use Rattle.run_model.specs.declared.answer.Answer.{Answer}
use Rattle.run_model.specs.declared.answer.Answer.TheVariants.{Began, VoteYes, VoteNo, Done}
use Rattle.run_model.specs.declared.history.Event.{Event}
use Rattle.run_model.specs.Actions.{begins, home_in, home_of, step_commits, step_aborts, step_crashes, step_recovers, closing_step}
use Rattle.run_model.specs.Keeping as keeping
use Rattle.run_model.specs.Keeping.{performed_by}
use Rattle.run_model.specs.Openings.{Setup}
use Rattle.picture.specs.declared.bars.Bars.{Bars}
use Rattle.picture.specs.declared.bars.Begun.{Begun}
use Rattle.picture.specs.declared.marks.Tick.{Tick}
use Rattle.picture.specs.declared.marks.Arrow.{Arrow}
use Rattle.picture.specs.declared.marks.Message.{Message}
use Rattle.picture.specs.declared.marks.Message.TheVariants as message
use Rattle.picture.specs.declared.gaps.Gap.{Gap}
use Rattle.picture.specs.declared.gaps.Gaps.{Gaps}
use Rattle.picture.specs.declared.layout.Layout.{Layout}
use Rattle.picture.specs.declared.window.Span.{Span}
use Rattle.picture.specs.declared.window.Window.{Window}
use Rattle.picture.specs.Losses.{AreStranded}
use Rattle.picture.specs.Windows.{is_shown, span_of}

-- ---- bars

-- where the action began last, and the number of the event that began it
abbrev pub beginning : Name → List Event → Option Begun
beginning a [] = None
beginning a (e ∷ past) =
    if begins e a
    then Some (record { home = home_in e.step (λ b. home_of b past); number = suc (length past) })
    else beginning a past

-- the number of the newest event whose step passes the test
abbrev pub newest : (Step → Bool) → List Event → Option ℕ
newest p [] = None
newest p (e ∷ past) = if p e.step then Some (suc (length past)) else newest p past

abbrev pub committing_step : Name → List Event → Option ℕ
committing_step a past = newest (λ step. step_commits step a) past

abbrev pub aborting_step : Name → List Event → Option ℕ
aborting_step a past = newest (λ step. step_aborts step a) past

-- the bars are those of the history: one for each action that was begun, with its closing step, and how and when it
-- ended
pub record AreBars (bars : Bars) (past : List Event) : Type 0 where
  pub begun : (q : Name) → get name_cmp bars.begun q ≡ beginning q past
  pub closed : (q : Name) → get name_cmp bars.closed q ≡ closing_step q past
  pub committed : (q : Name) → get name_cmp bars.committed q ≡ committing_step q past
  pub aborted : (q : Name) → get name_cmp bars.aborted q ≡ aborting_step q past

-- ---- ticks and arrows

-- what the shown events give, the oldest first, where f says what the event of a number gives after a history
abbrev pub of_shown : {X : Type 0} → Span → (ℕ → Event → List Event → List X) → List Event → List X
of_shown span f [] = []
of_shown span f (e ∷ past) =
    of_shown span f past
    ++ (if is_shown span (suc (length past)) then f (suc (length past)) e past else [])

-- the operation that a tick stands for
abbrev pub operation_of : Tick → keeping.Performed
operation_of t =
    record { number = t.number; action = t.action; object = t.object; operation = t.operation; reply = t.reply }

-- the operation that the event grants
abbrev pub granted : ℕ → Event → List Event → List keeping.Performed
granted n e past = performed_by n e.step e.answer

abbrev pub arrow : ℕ → Message → ℕ → ℕ → Name → Arrow
arrow n message from to a =
    record { number = n; message = message; from = from; to = to; action = a }

-- The messages of a step with this answer, where home has the homes of actions: a call from the caller's home, a
-- prepare from the top action's home and the vote back, and a telling from the home of the action that is told.
abbrev pub messages_by : ℕ → (Name → ℕ) → Step → Answer → List Arrow
messages_by n home (Call a g) (Began (b ∷ names)) = arrow n message.Call (home a) g b ∷ []
messages_by n home (Prepare g t) VoteYes =
    arrow n message.Prepare (home t) g t ∷ arrow n message.VoteYes g (home t) t ∷ []
messages_by n home (Prepare g t) VoteNo =
    arrow n message.Prepare (home t) g t ∷ arrow n message.VoteNo g (home t) t ∷ []
messages_by n home (Tell g a) (Done count) = arrow n message.Tell (home a) g a ∷ []
messages_by n home _ _ = []

-- the messages of the event
abbrev pub messages : ℕ → Event → List Event → List Arrow
messages n e past = messages_by n (λ b. home_of b past) e.step e.answer

-- ---- gaps

-- the number of the crash since which the guardian is down
abbrev pub down_since : ℕ → List Event → Option ℕ
down_since g [] = None
down_since g (e ∷ past) =
    if step_crashes e.step g then Some (suc (length past))
    else (if step_recovers e.step g then None else down_since g past)

abbrev pub gap_from : ℕ → ℕ → Option ℕ → List Gap
gap_from g n None = []
gap_from g n (Some crash) = record { guardian = g; crash = crash; recovery = n } ∷ []

-- the gap that the step of this number ends, where down says since when guardians are down
abbrev pub gap_ended : ℕ → (ℕ → Option ℕ) → Step → List Gap
gap_ended n down (Recover g) = gap_from g n (down g)
gap_ended n down _ = []

-- the gaps that recoveries have ended, in order of the recoveries
abbrev pub ended_gaps : List Event → List Gap
ended_gaps [] = []
ended_gaps (e ∷ past) =
    ended_gaps past ++ gap_ended (suc (length past)) (λ g. down_since g past) e.step

pub record AreGaps (gaps : Gaps) (past : List Event) : Type 0 where
  pub ended : gaps.ended.items ≡ ended_gaps past
  pub down : (g : ℕ) → get nat_cmp gaps.down g ≡ down_since g past

-- ---- the layout

-- what was laid out of the history, where these events are shown
pub record IsLaidOut (span : Span) (layout : Layout) (past : List Event) : Type 0 where
  pub shown : layout.span ≡ span
  pub bars : AreBars layout.bars past
  pub ticks : map operation_of layout.ticks.items ≡ of_shown span granted past
  pub arrows : layout.arrows.items ≡ of_shown span messages past
  pub gaps : AreGaps layout.gaps past

-- the layout of a history of guardians in a window
pub record IsLayout (setup : Setup) (window : Window) (layout : Layout)
    (past : List Event) : Type 0 where
  pub guardians : layout.guardians ≡ length setup
  pub count : layout.count ≡ length past
  pub laid_out : IsLaidOut (span_of window (length past)) layout past
  pub stranded : AreStranded layout.stranded past
