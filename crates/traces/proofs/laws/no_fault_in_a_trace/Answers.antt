use Rattle.traces.proofs.OneTrace.{no_bad_line, no_lack}
use Rattle.traces.proofs.laws.no_fault_in_a_trace.Goals as goal

pub returns-clause-setup : goal.returns-clause-setup
returns-clause-setup c = no_lack

pub returns-clause-line : goal.returns-clause-line
returns-clause-line c = no_bad_line
