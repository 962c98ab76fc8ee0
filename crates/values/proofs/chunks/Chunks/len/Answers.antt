use Rattle.std.proofs.Common.{ap, length, arith}
use Rattle.values.proofs.Joined.{many_chunked}
use Rattle.values.proofs.chunks.Chunks.len.Goals as goal

pub overflow_mul-result : goal.overflow_mul-result
overflow_mul-result c =
    let many = many_chunked c.self.inside.front.items c.self.inside.middle.items c.self.inside.back.items c.self.invariant.full in
    let few = c.self.invariant.within_limit in
    omega (arith, many, few, c.len-2.ensures, c.self.inside.middle.ok.0)

pub overflow_add-result : goal.overflow_add-result
overflow_add-result c =
    let many = many_chunked c.self.inside.front.items c.self.inside.middle.items c.self.inside.back.items c.self.invariant.full in
    let few = c.self.invariant.within_limit in
    omega (arith, many, few, c.len.ensures, c.len-2.ensures, c.self.inside.front.ok.0, c.self.inside.middle.ok.0)

pub overflow_add-result-2 : goal.overflow_add-result-2
overflow_add-result-2 c =
    let many = many_chunked c.self.inside.front.items c.self.inside.middle.items c.self.inside.back.items c.self.invariant.full in
    let few = c.self.invariant.within_limit in
    omega (arith, many, few, c.len.ensures, c.len-2.ensures, c.len-3.ensures, c.self.inside.front.ok.0, c.self.inside.middle.ok.0, c.self.inside.back.ok.0)

pub returns-clause-value : goal.returns-clause-value
returns-clause-value c =
    let many = many_chunked c.self.inside.front.items c.self.inside.middle.items c.self.inside.back.items c.self.invariant.full in
    omega (arith, many, c.len.ensures, c.len-2.ensures, c.len-3.ensures, c.self.inside.front.ok.0, c.self.inside.middle.ok.0, c.self.inside.back.ok.0, ap (λ xs. length xs) c.self.view_is)
