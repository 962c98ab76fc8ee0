use Rattle.std.proofs.Common.{string_bytes, refl, ◌≢◌, rules}
use Rattle.std.proofs.lemmas.Result.{IfOk-weaker}
use Rattle.action_names.specs.Names.{Name, IsName, name_text}
use Rattle.run_model.specs.Explaining.{not_begun}
use Rattle.argus_engine.proofs.Explanations.{name_explained, no_name_explained, no_name_explained_once}
use Rattle.argus_engine.proofs.explaining.explained_lines.Goals as goal

pub returns-in_ok-explain-in-Ok-clause-explained : goal.returns-in_ok-explain-in-Ok-clause-explained
returns-in_ok-explain-in-Ok-clause-explained c =
    let past = c.args.history.now in
    let named = c.in-Ok.ensures.found in
    IfOk-weaker c.text.result _ _ (λ text written. name_explained c.args.word.now past _ (string_bytes text) named.0 named.1 written)
    (c.text.ensures _ past c.in_ok-explain-in-Ok.ensures.explained)

pub returns-in-Err-NotAName : goal.returns-in-Err-NotAName
returns-in-Err-NotAName c =
    let past = c.args.history.now in
    let none : (a : Name) → IsName a → c.args.word.now ≢ name_text a = c.in-Err-NotAName.ensures.refused (search rules) in
    let text = c.text-in-Err-NotAName.ensures not_begun past refl in
    record {
      explained = IfOk-weaker c.text-in-Err-NotAName.result _ _ (λ text written. no_name_explained c.args.word.now past (string_bytes text) none written) text;
      only = IfOk-weaker c.text-in-Err-NotAName.result _ _
          (λ text written. λ lines right. no_name_explained_once c.args.word.now past (string_bytes text) lines none written right) text;
    }
