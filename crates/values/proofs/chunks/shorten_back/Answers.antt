use Rattle.std.proofs.Common.{◌∙◌, sym, subst, arith}
use Rattle.values.specs.Chunks.{AreFull}
use Rattle.values.proofs.Joined.{cut_behind, full_push, is_full, many_in_part}
use Rattle.values.proofs.chunks.shorten_back.Goals as goal

pub returns-clause-items : goal.returns-clause-items
returns-clause-items c =
    let b = c.args.back.now in
    cut_behind c.args.middle.now.items b.items c.in_ok-chunk_from.field-0 c.push_back.new.self.items c.keep_items.new.items.items c.len-2.result (c.len-2.ensures ∙ b.ok.0)
    (omega (arith, c.if-len-lt-LONG.false, c.len.ensures, c.len-2.ensures)) c.in_ok-chunk_from.ensures.same c.in_ok-push_back.ensures.items c.keep_items.ensures.items

pub returns-clause-full : goal.returns-clause-full
returns-clause-full c = λ full.
    let b = c.args.back.now in
    subst AreFull (sym c.in_ok-push_back.ensures.items)
    (full_push c.args.middle.now.items c.in_ok-chunk_from.field-0 full
    (is_full c.in_ok-chunk_from.field-0 _ c.in_ok-chunk_from.ensures.same (many_in_part b.items 0 (omega (arith, c.if-len-lt-LONG.false, c.len.ensures, b.ok.0))) c.in_ok-chunk_from.ensures.fit))
