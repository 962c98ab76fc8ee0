use Rattle.std.proofs.Common.{◌≡◌, ◌++◌, ◌-◌, slice_get, slice_set, sym, ap, ◌∙◌, arith}
use Rattle.std.proofs.lemmas.Result.{on_ok_weaker, IfOk-weaker}
use Rattle.values.specs.Chunks.{joined}
use Rattle.values.proofs.Joined.{get_in_front, set_in_front, get_past_front, set_past_front}
use Rattle.values.proofs.chunks.Chunks.store.Goals as goal

pub returns-then-index-count-clause-changed : goal.returns-then-index-count-clause-changed
returns-then-index-count-clause-changed c =
    let f = c.self.inside.front in
    let rest = joined c.self.inside.middle.items ++ c.self.inside.back.items in
    ap (λ xs. xs ++ rest) (c.put.ensures.changed ∙ ap (λ v. slice_set f.items c.args.index v) c.in_ok-copy.ensures.same)
    ∙ set_in_front f.items rest c.args.index c.args.value.now (omega (arith, c.if-index-count.true, c.len-count.ensures, f.ok.0)) ∙ ap (λ xs. slice_set xs c.args.index c.args.value.now) c.self.view_is

pub returns-then-index-count-clause-before : goal.returns-then-index-count-clause-before
returns-then-index-count-clause-before c =
    let f = c.self.inside.front in
    let rest = joined c.self.inside.middle.items ++ c.self.inside.back.items in
    c.put.ensures.before ∙ sym (get_in_front f.items rest c.args.index (omega (arith, c.if-index-count.true, c.len-count.ensures, f.ok.0))) ∙ ap (λ xs. slice_get xs c.args.index) c.self.view_is

pub returns-clause-changed : goal.returns-clause-changed
returns-clause-changed c =
    let f = c.self.inside.front in
    let rest = joined c.self.inside.middle.items ++ c.self.inside.back.items in
    let many : c.len-count.result ≡ _ = c.len-count.ensures ∙ f.ok.0 in
    on_ok_weaker c.store_behind.result
    (λ e. ap (λ xs. f.items ++ xs) (e ∙ ap (λ n. slice_set rest (c.args.index - n) c.args.value.now) many)
    ∙ set_past_front f.items rest c.args.index c.args.value.now (omega (arith, c.if-index-count.false, many)) ∙ ap (λ xs. slice_set xs c.args.index c.args.value.now) c.self.view_is)
    c.store_behind.ensures.changed

pub returns-clause-before : goal.returns-clause-before
returns-clause-before c =
    let f = c.self.inside.front in
    let rest = joined c.self.inside.middle.items ++ c.self.inside.back.items in
    let many : c.len-count.result ≡ _ = c.len-count.ensures ∙ f.ok.0 in
    IfOk-weaker c.store_behind.result _ _
    (λ before e. e ∙ ap (λ n. slice_get rest (c.args.index - n)) many
    ∙ sym (get_past_front f.items rest c.args.index (omega (arith, c.if-index-count.false, many))) ∙ ap (λ xs. slice_get xs c.args.index) c.self.view_is)
    c.store_behind.ensures.before
