-- What a step makes of actions at a guardian, and of the guardian.
use Rattle.std.specs.Prelude.{Bool, false, if◌then◌else◌, Option, Some, None}
use Rattle.action_names.specs.Names.{Name, is_top, parent_of, same_name}
use Rattle.run_model.specs.declared.step.Step.{Step}
use Rattle.run_model.specs.declared.step.Step.TheVariants.{Abort, Close, Commit, Crash, Decide, Prepare, Recover}
use Rattle.roster.specs.declared.entry.Turn.{Turn}
use Rattle.roster.specs.declared.entry.Turn.TheVariants.{Crashes, Recovers, Stays}

-- the action that the step ends
abbrev pub ended_in : Step → Option Name
ended_in (Commit a) = Some a
ended_in (Decide t) = Some t
ended_in (Abort a) = Some a
ended_in _ = None

-- the action whose closing step it is
abbrev pub closed_in : Step → Option Name
closed_in (Commit a) = Some a
closed_in (Close t) = Some t
closed_in _ = None

-- the step commits the action or prepares it
abbrev pub tells_of : Step → Name → Bool
tells_of (Commit b) a = same_name b a
tells_of (Prepare h b) a = same_name b a
tells_of _ a = false

-- the parent of an action, if it has one
abbrev pub above : Name → Option Name
above a = if is_top a then None else Some (parent_of a)

-- what becomes of the guardian that keeps the step
abbrev pub turn_in : Step → Turn
turn_in (Crash g) = Crashes
turn_in (Recover g) = Recovers
turn_in _ = Stays
