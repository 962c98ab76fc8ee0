use Rattle.std.proofs.Common.{◌++◌, string_bytes, ap, ◌∙◌}
use Rattle.json.specs.Print.{print}
use Rattle.json.specs.Tree.{json_tokens}
use Rattle.serde_json.specs.Written.{outline}
use Rattle.serde_json.proofs.Texts.{print-outline}
use Rattle.run_model.specs.Texts.{setup_data}
use Rattle.run_model.proofs.SetupTexts.{text_read_back}
use Rattle.run_model.proofs.setup.Setup.text.Goals as goal

pub returns-clause-text : goal.returns-clause-text
returns-clause-text c =
    let d = setup_data c.args.self.now in
    let none = ap (λ ts. ts ++ json_tokens (outline d)) c.new-out.ensures.tokens in
    c.finished.ensures.text ∙ ap print (c.in_ok-write_tokens.ensures.ok ∙ none) ∙ print-outline d

pub returns-clause-read_back : goal.returns-clause-read_back
returns-clause-read_back c = λ fits.
    let d = setup_data c.args.self.now in
    let none = ap (λ ts. ts ++ json_tokens (outline d)) c.new-out.ensures.tokens in
    text_read_back (string_bytes c.finished.result) c.args.self.now (c.finished.ensures.text ∙ ap print (c.in_ok-write_tokens.ensures.ok ∙ none) ∙ print-outline d) c.finished.ensures.utf8 fits
