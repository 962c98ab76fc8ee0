use Rattle.std.proofs.Common.{Err, Ok, OnOk, Result, ap, codes, ◌++◌, ◌∙◌, ◌≡◌}
use Rattle.json.specs.Tree.{json_tokens}
use Rattle.serde_json.specs.Data.{array}
use Rattle.serde_json.specs.Written.{outline}
use Rattle.run_model.specs.Texts.{guardians_items}
use Rattle.run_model.proofs.SetupTexts.{array_under}
use Rattle.run_model.proofs.setup.Setup.write_tokens.Goals as goal

on_ok : {A E : Type 0} {P Q : Type 0} (r : Result A E) → OnOk r P → (P → Q) → OnOk r Q
on_ok (Ok x) p f = f p
on_ok (Err e) p f = tt

pub returns-clause-ok : goal.returns-clause-ok
returns-clause-ok c =
    let e : c.deref.result.now ≡ c.args.self.now = cc in
    on_ok c.end_object.result c.end_object.ensures.ok
    (array_under (codes "guardians") (guardians_items c.args.self.now) c.args.out.now.tokens c.begin_object.new.self.tokens
    c.key.new.self.tokens c.write_guardians.new.out.tokens c.end_object.new.self.tokens c.in_ok-begin_object.ensures.ok
    c.in_ok-key.ensures.ok
    (c.in_ok-write_guardians.ensures.ok
    ∙ ap (λ gs. c.key.new.self.tokens ++ json_tokens (outline (array (guardians_items gs)))) e))
