-- What is said of a script is written, or a beginning of it.
use Rattle.std.proofs.Common.{ℕ, List, [], Option, Result, Ok, Err, OnErr, take, drop, sym, take-append-drop, append-nil, inr}
use Rattle.std.specs.Io.KnownBytes.{Appends}
use Rattle.argus_engine.specs.declared.engine.Ended.{Ended}
use Rattle.argus_engine.specs.declared.engine.Ended.TheVariants.{Stopped}
use Rattle.argus_engine.specs.Judging.{BeginsFault, BeginsJudgement, IsJudged}
use Rattle.argus_engine.specs.Serving.{Writes, TakesFront}

pub front_said : (before after : Option (List ℕ)) (bytes line : List ℕ) (ended : Ended) → IsJudged bytes ended line → TakesFront before after line
    → Writes before after (BeginsJudgement bytes)
front_said before after bytes line ended judged took = (take took.0 line, took.2, inr (ended, line, judged, (drop took.0 line, sym (take-append-drop took.0 line))))

pub whole_said : (before after : Option (List ℕ)) (bytes line : List ℕ) (ended : Ended) → IsJudged bytes ended line → Appends before after line
    → Writes before after (BeginsJudgement bytes)
whole_said before after bytes line ended judged wrote = (line, wrote, inr (ended, line, judged, ([], sym (append-nil line))))

-- the line of a fault
pub front_fault : (before after : Option (List ℕ)) (bytes line : List ℕ) → IsJudged bytes Stopped line → TakesFront before after line
    → Writes before after (BeginsFault bytes)
front_fault before after bytes line judged took = (take took.0 line, took.2, inr (line, judged, (drop took.0 line, sym (take-append-drop took.0 line))))

-- what is said of an error
pub on_err : {A E P : Type 0} (result : Result A E) → P → OnErr result P
on_err (Ok a) p = tt
on_err (Err e) p = p
