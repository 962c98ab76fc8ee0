use Rattle.std.proofs.Common.{◌-◌, ◌∙◌, refl, sym, subst, arith}
use Rattle.values.specs.Chunks.{AreFull}
use Rattle.values.proofs.Joined.{cut_before, is_full, many_in_part}
use Rattle.values.proofs.chunks.shorten_front.Goals as goal

pub returns-clause-items : goal.returns-clause-items
returns-clause-items c =
    let f = c.args.front.now in
    cut_before f.items c.args.middle.now.items c.in_ok-chunk_from.field-0 c.truncate.new.self.items c.push_front.new.self.items c.len-kept.result (c.len-kept.result - 256) (c.len-kept.ensures ∙ f.ok.0)
    (omega (arith, c.if-len-lt-LONG.false, c.len.ensures, c.len-kept.ensures)) refl c.in_ok-chunk_from.ensures.same c.in_ok-push_front.ensures.items c.truncate.ensures.items

pub returns-clause-full : goal.returns-clause-full
returns-clause-full c = λ full.
    let f = c.args.front.now in
    subst AreFull (sym c.in_ok-push_front.ensures.items)
    (is_full c.in_ok-chunk_from.field-0 _ c.in_ok-chunk_from.ensures.same (many_in_part f.items (c.len-kept.result - 256) (omega (arith, c.if-len-lt-LONG.false, c.len.ensures, c.len-kept.ensures, f.ok.0))) c.in_ok-chunk_from.ensures.fit, full)
