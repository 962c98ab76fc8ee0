use Rattle.std.proofs.Common.{◌≡◌, ◌++◌, ◌*◌, ◌-◌, ◌/◌, ◌%◌, Some, length, slice_get, slice_set, sym, ap, ◌∙◌, arith}
use Rattle.std.proofs.lemmas.Nat.{div-add-mod', mod_below}
use Rattle.std.proofs.lemmas.Option.{slice_get_read}
use Rattle.std.proofs.lemmas.Result.{on_ok_weaker, IfOk-weaker}
use Rattle.values.specs.Chunks.{joined}
use Rattle.values.proofs.Joined.{get_chunk, set_chunk, get_behind, set_behind}
use Rattle.values.proofs.chunks.store_behind.Goals as goal

pub returns-in-Some-clause-changed : goal.returns-in-Some-clause-changed
returns-in-Some-clause-changed c =
    let m = c.args.middle.now in
    let b = c.args.back.now.items in
    let i = c.args.index in
    let there : slice_get m.items (i / 256) ≡ Some c.in-Some.chunk.now = slice_get_read m.items _ (i / 256) c.in-Some.chunk.now m.ok.0 (omega (arith, m.ok.0, c.in-Some.ensures.item.3.0)) c.in-Some.ensures.item.1 in
    on_ok_weaker c.store.result
    (λ e. ap (λ x. joined (slice_set m.items (i / 256) x) ++ b) e ∙ set_chunk m.items b (i / 256) (i % 256) c.in-Some.chunk.now c.args.value.now c.requires there (mod_below i 256 (omega arith))
    ∙ ap (λ j. slice_set (joined m.items ++ b) j c.args.value.now) (div-add-mod' i 256))
    c.store.ensures.changed

pub returns-in-Some-clause-before : goal.returns-in-Some-clause-before
returns-in-Some-clause-before c =
    let m = c.args.middle.now in
    let b = c.args.back.now.items in
    let i = c.args.index in
    let there : slice_get m.items (i / 256) ≡ Some c.in-Some.chunk.now = slice_get_read m.items _ (i / 256) c.in-Some.chunk.now m.ok.0 (omega (arith, m.ok.0, c.in-Some.ensures.item.3.0)) c.in-Some.ensures.item.1 in
    IfOk-weaker c.store.result _ _
    (λ before e. e ∙ sym (get_chunk m.items b (i / 256) (i % 256) c.in-Some.chunk.now c.requires there (mod_below i 256 (omega arith))) ∙ ap (λ j. slice_get (joined m.items ++ b) j) (div-add-mod' i 256))
    c.store.ensures.before

pub returns-clause-changed : goal.returns-clause-changed
returns-clause-changed c =
    let m = c.args.middle.now in
    let b = c.args.back.now.items in
    let i = c.args.index in
    let chunks : c.len.result ≡ _ = c.len.ensures ∙ m.ok.0 in
    ap (λ xs. joined m.items ++ xs) (c.put.ensures.changed ∙ ap (λ n. slice_set b (i - n * 256) c.in_ok-copy.field-0) chunks ∙ ap (λ v. slice_set b (i - length m.items * 256) v) c.in_ok-copy.ensures.same)
    ∙ set_behind m.items b i c.args.value.now c.requires (omega (arith, c.in_default.ensures.item.3, div-add-mod' i 256))

pub returns-clause-before : goal.returns-clause-before
returns-clause-before c =
    let m = c.args.middle.now in
    let b = c.args.back.now.items in
    let i = c.args.index in
    let chunks : c.len.result ≡ _ = c.len.ensures ∙ m.ok.0 in
    c.put.ensures.before ∙ ap (λ n. slice_get b (i - n * 256)) chunks ∙ sym (get_behind m.items b i c.requires (omega (arith, c.in_default.ensures.item.3, div-add-mod' i 256)))
