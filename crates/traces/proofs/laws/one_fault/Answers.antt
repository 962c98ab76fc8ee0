use Rattle.traces.proofs.OneTrace.{bad_line_behind_setup, one_bad_line}
use Rattle.traces.proofs.laws.one_fault.Goals as goal

pub returns-clause-setup : goal.returns-clause-setup
returns-clause-setup c = bad_line_behind_setup

pub returns-clause-line : goal.returns-clause-line
returns-clause-line c = one_bad_line
