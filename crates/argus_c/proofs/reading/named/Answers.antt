use Rattle.std.proofs.Common.{ℕ, List, Result, Err, Bor, ap, arith}
use Rattle.action_names.specs.Names.{Name}
use Rattle.action_names.specs.declared.name.NameFault.{NameFault}
use Rattle.run_model.proofs.Numbers.{longer_than_name, no_name}
use Rattle.argus_c.proofs.reading.named.Goals as goal

abbrev failed : NameFault → Result (Name × Bor (List ℕ)) NameFault
failed fault = Err fault

pub returns-in-Ok-clause-bad : goal.returns-in-Ok-clause-bad
returns-in-Ok-clause-bad c e a is =
    longer_than_name c.args.text.now c.in-Ok.field-0.0 c.in-Ok.field-0.1.now c.in-Ok.ensures.found (omega arith) a is.fits is.same

pub returns-in-Err-NotAName-clause-bad : goal.returns-in-Err-NotAName-clause-bad
returns-in-Err-NotAName-clause-bad c e a is =
    no_name c.args.text.now (c.in-Err-NotAName.ensures.refused (ap failed c.in-Err-NotAName.field-0-is)) a is.fits is.same
