use Rattle.std.proofs.Common.{refl}
use Rattle.run_model.specs.Openings.{fresh}
use Rattle.run_laws.proofs.Serving.{runs_are_served}
use Rattle.tracer.specs.Leaving.{histories_of}
use Rattle.tracer.proofs.Left.{runs_are_gathered}
use Rattle.script_engine.proofs.laws.traces_are_gathered.Goals as goal

pub returns : goal.returns
returns c = λ setup past trace traced is_trace. (
  record {
    setup = setup;
    histories = histories_of (fresh setup) past;
    is_trace = is_trace;
    begun = refl;
    gathered = runs_are_gathered (fresh setup) past traced.is_run;
    served = runs_are_served (fresh setup) past traced.is_run;
  },
  refl,
)
