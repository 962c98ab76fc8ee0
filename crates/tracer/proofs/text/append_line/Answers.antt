use Rattle.std.proofs.Common.{string_bytes, ◌∙◌, ap, ◌++◌, arith}
use Rattle.std.proofs.lemmas.Str.{encode_ascii}
use Rattle.tracer.proofs.Lines.{line_written}
use Rattle.tracer.proofs.text.append_line.Goals as goal

pub returns : goal.returns
returns c =
    line_written (string_bytes c.args.text.now) c.args.place.now c.args.performed.now _ _ _ _ _ _ _ c.in_ok-append_place.ensures
    (c.in_ok-push.ensures.bytes ∙ ap (λ t. string_bytes c.append_place.new.text ++ t) (encode_ascii 32 (omega arith)))
    c.in_ok-write_to.ensures.ok c.in_ok-append_request.ensures.ok c.in_ok-push_str.ensures.bytes c.in_ok-append_reply.ensures.ok
    (c.in_ok-push-2.ensures.bytes ∙ ap (λ t. string_bytes c.append_reply.new.text ++ t) (encode_ascii 10 (omega arith)))
