use Rattle.std.proofs.Common.{◌∷◌, length, ap, ◌∙◌, arith}
use Rattle.values.specs.Chunks.{chunked}
use Rattle.values.proofs.Joined.{same_before, if_refused}
use Rattle.values.proofs.chunks.Chunks.push_front.Goals as goal

pub returns-in_err-shorten_front-clause-err : goal.returns-in_err-shorten_front-clause-err
returns-in_err-shorten_front-clause-err c =
    if_refused c.from_residual-in_err-shorten_front.result
    (same_before c.self.inside.front.items c.self.inside.middle.items c.shorten_front.new.front.items c.shorten_front.new.middle.items c.self.inside.back.items c.in_err-shorten_front.ensures.items ∙ c.self.view_is)

pub returns-in_err-push_front-2-clause-err : goal.returns-in_err-push_front-2-clause-err
returns-in_err-push_front-2-clause-err c =
    if_refused c.from_residual-in_err-push_front-2.result
    (ap (λ xs. chunked xs c.shorten_front.new.middle.items c.self.inside.back.items) c.in_err-push_front-2.ensures.items
    ∙ same_before c.self.inside.front.items c.self.inside.middle.items c.shorten_front.new.front.items c.shorten_front.new.middle.items c.self.inside.back.items c.in_ok-shorten_front.ensures.items ∙ c.self.view_is)

pub invariant_of-self-2 : goal.invariant_of-self-2
invariant_of-self-2 c =
    let same = same_before c.self.inside.front.items c.self.inside.middle.items c.shorten_front.new.front.items c.shorten_front.new.middle.items c.self.inside.back.items c.in_ok-shorten_front.ensures.items ∙ c.self.view_is in
    let many = ap (λ xs. length xs) (ap (λ xs. chunked xs c.shorten_front.new.middle.items c.self.inside.back.items) c.in_ok-push_front-2.ensures.items ∙ ap (λ xs. c.args.value ∷ xs) same) in
    record { full = c.in_ok-shorten_front.ensures.full c.self.invariant.full; within_limit = omega (arith, many, c.requires) }

pub returns-clause-ok : goal.returns-clause-ok
returns-clause-ok c =
    ap (λ xs. chunked xs c.shorten_front.new.middle.items c.self.inside.back.items) c.in_ok-push_front-2.ensures.items
    ∙ ap (λ xs. c.args.value ∷ xs) (same_before c.self.inside.front.items c.self.inside.middle.items c.shorten_front.new.front.items c.shorten_front.new.middle.items c.self.inside.back.items c.in_ok-shorten_front.ensures.items ∙ c.self.view_is)
