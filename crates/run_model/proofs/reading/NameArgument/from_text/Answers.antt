use Rattle.std.proofs.Common.{ℕ, List, Result, Err, Bor, ap, arith}
use Rattle.action_names.specs.Names.{Name}
use Rattle.action_names.specs.declared.name.NameFault.{NameFault}
use Rattle.run_model.proofs.Numbers.{longer_than_name, no_name}
use Rattle.run_model.proofs.reading.NameArgument.from_text.Goals as goal

abbrev failed : NameFault → Result (Name × Bor (List ℕ)) NameFault
failed fault = Err fault

pub returns-in-Ok : goal.returns-in-Ok
returns-in-Ok c = longer_than_name c.args.text.now c.in-Ok.field-0.0 c.in-Ok.field-0.1.now c.in-Ok.ensures.found (omega arith)

pub returns-in-Err-NotAName : goal.returns-in-Err-NotAName
returns-in-Err-NotAName c = no_name c.args.text.now (c.in-Err-NotAName.ensures.refused (ap failed c.in-Err-NotAName.field-0-is))

pub returns-in-Err-TooDeep : goal.returns-in-Err-TooDeep
returns-in-Err-TooDeep c = absurd (c.in-Err-TooDeep.ensures.never_deep (ap failed c.in-Err-TooDeep.field-0-is))
