use Rattle.std.proofs.Common.{◌≡◌, ◌*◌, ◌-◌, ◌/◌, ◌%◌, Some, option_copied, slice_get, sym, ap, ◌∙◌, arith}
use Rattle.std.proofs.lemmas.Nat.{div-add-mod', mod_below}
use Rattle.std.proofs.lemmas.Option.{slice_get_read}
use Rattle.values.proofs.Joined.{copied_item, get_middle, get_rest}
use Rattle.values.proofs.chunks.Chunks.get.Goals as goal

pub returns-in-Some : goal.returns-in-Some
returns-in-Some c =
    let m = c.self.inside.middle in
    let i = c.args.index - c.len-count.result in
    let there : slice_get m.items (i / 256) ≡ Some c.in-Some.chunk.now = slice_get_read m.items _ (i / 256) c.in-Some.chunk.now m.ok.0 (omega (arith, m.ok.0, c.in-Some.ensures.item.3.0)) c.in-Some.ensures.item.1 in
    let many : c.len-count.result ≡ _ = c.len-count.ensures ∙ c.self.inside.front.ok.0 in
    c.get-in-Some.ensures
    ∙ sym (get_middle c.self.inside.front.items m.items c.self.inside.back.items c.args.index c.len-count.result (i / 256) (i % 256) c.in-Some.chunk.now c.self.invariant.full
    many (omega (arith, c.if-index-count.false)) (div-add-mod' i 256) there (mod_below i 256 (omega arith)))
    ∙ ap (λ xs. slice_get xs c.args.index) c.self.view_is

pub returns-in-None : goal.returns-in-None
returns-in-None c =
    let m = c.self.inside.middle in
    let i = c.args.index - c.len-count.result in
    let read : option_copied c.get-in-None.result ≡ slice_get c.self.inside.back.items (i - c.len.result * 256) = copied_item c.self.inside.back.items (i - c.len.result * 256) c.get-in-None.result c.get-in-None.ensures.item in
    let chunks : c.len.result ≡ _ = c.len.ensures ∙ m.ok.0 in
    let many : c.len-count.result ≡ _ = c.len-count.ensures ∙ c.self.inside.front.ok.0 in
    read
    ∙ sym (get_rest c.self.inside.front.items m.items c.self.inside.back.items c.args.index c.len-count.result c.len.result c.self.invariant.full
    many (omega (arith, c.if-index-count.false)) chunks (omega (arith, chunks, c.in-None.ensures.item.3, div-add-mod' i 256)))
    ∙ ap (λ xs. slice_get xs c.args.index) c.self.view_is
