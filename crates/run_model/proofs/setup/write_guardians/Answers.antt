use Rattle.std.proofs.Common.{◌++◌, ◌∙◌}
use Rattle.run_model.specs.Documents.{guardian_data}
use Rattle.run_model.proofs.SetupTexts.{elements, element_more}
use Rattle.run_model.proofs.setup.write_guardians.Goals as goal

pub loop-objects-preserved : goal.loop-objects-preserved
loop-objects-preserved c =
    record {
      tokens = element_more guardian_data c.loop-objects.out.tokens c.write_tokens.new.out.tokens (c.begin_array.new.self.tokens ++ elements guardian_data c.args.guardians.now) c.args.guardians.now c.loop-objects.objects-index
          c.objects-item.result c.loop-objects-test.true c.objects-item.is c.loop-objects.invariant.tokens c.in_ok-write_tokens.ensures.ok;
      before = c.in_ok-write_tokens.ensures.before ∙ c.loop-objects.invariant.before;
    }
