use Rattle.std.proofs.Common.{[], ap, arith, string_bytes, sym, ◌++◌, ◌∙◌, ◌∷◌}
use Rattle.std.proofs.lemmas.Fmt.{decimal_digit}
use Rattle.std.proofs.lemmas.Str.{encode_ascii}
use Rattle.action_names.proofs.name.append_number.Goals as goal

-- the digit
pub returns-then-number-lt10-clause-ok : goal.returns-then-number-lt10-clause-ok
returns-then-number-lt10-clause-ok c =
    c.in_ok-push.ensures.bytes ∙ ap (λ t. string_bytes c.args.text.now ++ t)
    (encode_ascii c.from.result (omega (arith, c.from.ensures, c.if-number-lt10.true)) ∙ ap (λ k. k ∷ []) c.from.ensures
    ∙ sym (decimal_digit c.args.number c.if-number-lt10.true))
