use Rattle.std.proofs.Common.{◌≡◌, ◌++◌, drop}
use Rattle.values.specs.Contents.{content_data}
use Rattle.run_model.proofs.SetupTexts.{elements}
use Rattle.run_model.proofs.setup.write_contents.Given as goal

-- with what is left to be written, the tokens are those of the whole
abbrev pub invariant-loop-content : goal.invariant-loop-content
invariant-loop-content l = record {
  tokens : l.out.tokens ++ elements content_data (drop l.content-index l.contents) ≡ l.initial.out.tokens ++ elements content_data l.contents;
  before : l.out.before ≡ l.initial.out.before;
}
