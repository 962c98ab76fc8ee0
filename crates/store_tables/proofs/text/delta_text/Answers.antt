use Rattle.std.proofs.Common.{◌++◌, ap, ◌∙◌}
use Rattle.json.specs.Print.{print}
use Rattle.json.specs.Tree.{json_tokens}
use Rattle.serde_json.specs.Written.{outline}
use Rattle.serde_json.proofs.Texts.{print-outline}
use Rattle.store_tables.specs.PartTexts.{delta_data}
use Rattle.store_tables.proofs.text.delta_text.Goals as goal

pub returns-clause-text : goal.returns-clause-text
returns-clause-text c =
    let d = delta_data c.args.by.now in
    let none = ap (λ ts. ts ++ json_tokens (outline d)) c.new-out.ensures.tokens in
    c.finished.ensures ∙ ap print (c.in_ok-write_delta.ensures.ok ∙ none) ∙ print-outline d
