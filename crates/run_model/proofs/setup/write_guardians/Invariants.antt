use Rattle.std.proofs.Common.{◌≡◌, ◌++◌, drop}
use Rattle.run_model.specs.Documents.{guardian_data}
use Rattle.run_model.proofs.SetupTexts.{elements}
use Rattle.run_model.proofs.setup.write_guardians.Given as goal

-- with what is left to be written, the tokens are those of the whole
abbrev pub invariant-loop-objects : goal.invariant-loop-objects
invariant-loop-objects l = record {
  tokens : l.out.tokens ++ elements guardian_data (drop l.objects-index l.guardians) ≡ l.initial.out.tokens ++ elements guardian_data l.guardians;
  before : l.out.before ≡ l.initial.out.before;
}
