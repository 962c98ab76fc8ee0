use Rattle.std.proofs.Common.{◌++◌, ap, refl, ◌∙◌}
use Rattle.json.specs.Print.{print}
use Rattle.json.specs.Tree.{json_tokens}
use Rattle.serde_json.specs.Written.{outline}
use Rattle.serde_json.proofs.Texts.{print-outline}
use Rattle.store_texts.specs.Texts.{lists_data, lists_of}
use Rattle.store_texts.proofs.writing.store_text.Goals as goal

pub returns-clause-text : goal.returns-clause-text
returns-clause-text c =
    let lists = lists_of c.args.kept.now in
    let none = ap (λ ts. ts ++ json_tokens (outline (lists_data lists))) c.new-out.ensures.tokens in
    record {
      lists = lists;
      fits = c.in_ok-write_content.ensures.fits;
      are = refl;
      spelled = c.finished.ensures.text ∙ ap print (c.in_ok-write_content.ensures.ok ∙ none) ∙ print-outline (lists_data lists);
    }
