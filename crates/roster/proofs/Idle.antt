-- An entry that makes nothing of a roster, or nothing of actions.
use Rattle.std.proofs.Common.{Bool, None, [], ap, arith, cond, false, refl, subst, sym, true, ◌∙◌, ◌≡◌}
use Rattle.guardian_laws.specs.Sent.{Sent}
use Rattle.run_model.specs.declared.history.Event.{Event}
use Rattle.run_model.specs.declared.step.Step.{Step}
use Rattle.run_model.specs.declared.step.Step.TheVariants.{Abort, Arms, Call, Close, Commit, Crash, Decide, NestedTop, Op, Prepare, Recover, Tell, Top}
use Rattle.run_model.specs.Actions.{maker_in, names_begun}
use Rattle.layer_contracts.specs.Messages.{is_turn}
use Rattle.roster.specs.Entries.{CanCount, ConcernsNone, FitsMade, IsMade, IsMerged}
use Rattle.roster.specs.Steps.{closed_in, ended_in, turn_in}
use Rattle.roster.specs.Tables.{Table, made_by, nothing_made, placed, written_in}
use Rattle.roster.specs.declared.entry.Birth.{Birth}
use Rattle.roster.specs.declared.entry.Entry.{Entry}
use Rattle.roster.specs.declared.entry.Turn.{Turn}
use Rattle.roster.specs.declared.roster.Roster.{Roster}

-- where nothing ends, nothing is merged
merges_none : (t : Table) (step : Step) (came : Sent) → ended_in step ≡ None → IsMerged t step came None
merges_none t (Commit a) came ends = absurd (cc)
merges_none t (Abort a) came ends = refl
merges_none t (Decide a) came ends = refl
merges_none t (Close a) came ends = refl
merges_none t (Prepare h a) came ends = refl
merges_none t (Tell h a) came ends = refl
merges_none t (Top h) came ends = refl
merges_none t (NestedTop a) came ends = refl
merges_none t (Call a h) came ends = refl
merges_none t (Arms a kinds) came ends = refl
merges_none t (Op a x wanted) came ends = refl
merges_none t (Crash h) came ends = refl
merges_none t (Recover h) came ends = refl

-- it is that of each event that concerns no row
pub idle_made : (t : Table) (e : Event) (came : Sent) → ConcernsNone e → IsMade t e came nothing_made
idle_made t e came none = record {
  ended = ap (placed t) (sym none.ended);
  closed = ap (placed t) (sym none.closed);
  merged = merges_none t e.step came none.ended;
  maker = ap (placed t) (sym none.maker);
  begun = record { names = sym none.begun; named = tt; rows = tt };
  placed = tt;
  turn = sym none.turn;
}

-- and each roster has room for it
pub idle_fits : (roster : Roster) → FitsMade roster nothing_made
idle_fits roster = record { begun = record { rows = omega (arith, roster.rows.ok.1); places = tt }; count = tt }

-- what an entry makes, where it is idle, and where it is not
pub made_idle : (entry : Entry) → entry.idle ≡ true → made_by entry ≡ nothing_made
made_idle entry idle = ap (λ (b : Bool). cond b nothing_made (written_in entry)) idle

pub made_written : (entry : Entry) → entry.idle ≡ false → made_by entry ≡ written_in entry
made_written entry busy = ap (λ (b : Bool). cond b nothing_made (written_in entry)) busy

-- ---- a crash or a recovery

turn_ends : (step : Step) → is_turn step ≡ true → (ended_in step ≡ None) × (closed_in step ≡ None) × (maker_in step ≡ None)
turn_ends (Crash h) is = (refl, refl, refl)
turn_ends (Recover h) is = (refl, refl, refl)
turn_ends (Commit a) is = absurd (cc)
turn_ends (Abort a) is = absurd (cc)
turn_ends (Decide a) is = absurd (cc)
turn_ends (Close a) is = absurd (cc)
turn_ends (Prepare h a) is = absurd (cc)
turn_ends (Tell h a) is = absurd (cc)
turn_ends (Top h) is = absurd (cc)
turn_ends (NestedTop a) is = absurd (cc)
turn_ends (Call a h) is = absurd (cc)
turn_ends (Arms a kinds) is = absurd (cc)
turn_ends (Op a x wanted) is = absurd (cc)

-- what makes nothing but a turn is that of an event which begins nothing
pub turn_made : (t : Table) (e : Event) (birth : Birth) (turn : Turn) → is_turn e.step ≡ true → names_begun e.answer ≡ [] → birth.maker ≡ None
    → turn ≡ turn_in e.step → IsMade t e [] (record nothing_made { birth = birth; turn = turn })
turn_made t e birth turn is begins maker turns =
    let ends = turn_ends e.step is in
    record {
      ended = ap (placed t) (sym ends.0);
      closed = ap (placed t) (sym ends.1);
      merged = merges_none t e.step [] ends.0;
      maker = maker ∙ ap (placed t) (sym ends.2);
      begun = record { names = sym begins; named = tt; rows = tt };
      placed = tt;
      turn = turns;
    }

-- and each roster has room for it
pub turn_fits : (roster : Roster) (birth : Birth) (turn : Turn) → birth.maker ≡ None
    → FitsMade roster (record nothing_made { birth = birth; turn = turn })
turn_fits roster birth turn maker = record {
  begun = record { rows = omega (arith, roster.rows.ok.1); places = tt };
  count = subst (λ at. CanCount roster.rows.items at 0) (sym maker) tt;
}
