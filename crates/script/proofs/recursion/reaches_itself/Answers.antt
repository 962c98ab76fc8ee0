use Rattle.std.proofs.Common.{◌≡◌, ◌<◌, ◌↔◌, length, true, false, get_or, refl, sym, ap, ◌∙◌, subst, arith, rules}
use Rattle.std.proofs.lemmas.List.{with_items_is, get_or_read}
use Rattle.script_model.specs.Reaching.{Reaches}
use Rattle.script.specs.Marks.{rows_of, marked}
use Rattle.script.proofs.Beginning.{reached_first, length-call_rows}
use Rattle.script.proofs.Rows.{length-rows_of, row_of, adds_at}
use Rattle.script.proofs.Spreading.{ReachedFrom, reached_more, decides_reaching}
use Rattle.script.proofs.recursion.reaches_itself.Goals as goal

pub loop-init : goal.loop-init
loop-init c =
    let v = c.in_ok-reached.reached in
    let table = c.args.table.now in
    let start = c.args.start in
    let row = row_of table start c.index-table-start.result c.requires.within c.index-table-start.is in
    let adds = adds_at (rows_of table) start c.deref.result.now c.deref_mut.result.now c.add_row.new.marks _ _ (c.deref.ensures.value ∙ row) refl c.add_row.ensures in
    let blank = c.deref_mut.ensures.value ∙ c.in_ok-reached.ensures.items_if_clones_equal (λ y h. search rules) in
    subst (ReachedFrom start (rows_of table)) (sym (with_items_is v c.add_row.new.marks (omega (arith, c.add_row.ensures.same_length, c.deref_mut.ensures.len, v.ok.0))))
    (reached_first start (rows_of table) c.deref_mut.result.now c.add_row.new.marks _ (length table) blank (sym (length-rows_of table)) adds)

pub returns : goal.returns
returns c = λ hs same.
    let table = c.args.table.now in
    let start = c.args.start in
    let marks = c.spread.new.marks in
    let before = subst (ReachedFrom start (rows_of table)) (sym c.deref_mut-in-loop.ensures.value) c.loop.invariant in
    let reached = reached_more start (rows_of table) c.deref_mut-in-loop.result.now marks c.spread.result before c.spread.ensures in
    let within : start < length hs = omega (arith, c.requires.within, length-rows_of table, ap length same, length-call_rows hs) in
    let decided = decides_reaching hs start (rows_of table) marks within same reached (c.spread.ensures.closed c.loop-test.false) in
    let kept = with_items_is c.loop.reached marks (omega (arith, c.spread.ensures.same_length, c.deref_mut-in-loop.ensures.len, c.loop.reached.ok.0)) in
    let item = subst (λ ms. c.index.result.now ≡ get_or ms start c.index.result.now) kept c.index.ensures in
    let read : c.index.result.now ≡ marked marks start = get_or_read marks start c.index.result.now (omega (arith, c.requires.within, length-rows_of table, reached.same_length)) item false in
    subst (λ b. (b ≡ true) ↔ Reaches hs start start) (sym read) decided
