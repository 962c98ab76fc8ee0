use Rattle.std.proofs.Common.{◌++◌, ◌∙◌}
use Rattle.values.specs.Contents.{content_data}
use Rattle.run_model.proofs.SetupTexts.{elements, element_more}
use Rattle.run_model.proofs.setup.write_contents.Goals as goal

pub loop-content-preserved : goal.loop-content-preserved
loop-content-preserved c =
    record {
      tokens = element_more content_data c.loop-content.out.tokens c.write_tokens.new.out.tokens (c.begin_array.new.self.tokens ++ elements content_data c.args.contents.now) c.args.contents.now c.loop-content.content-index
          c.content-item.result c.loop-content-test.true c.content-item.is c.loop-content.invariant.tokens c.in_ok-write_tokens.ensures.ok;
      before = c.in_ok-write_tokens.ensures.before ∙ c.loop-content.invariant.before;
    }
