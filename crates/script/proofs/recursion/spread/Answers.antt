use Rattle.std.proofs.Common.{sym, ◌∙◌, arith}
use Rattle.script.specs.Marks.{rows_of}
use Rattle.script.proofs.Rows.{length-rows_of, row_of, adds_at, spreads_is}
use Rattle.script.proofs.Spreading.{spreads_none, spreads_unmarked, spreads_grown, spreads_same, spreads_all}
use Rattle.script.proofs.recursion.spread.Goals as goal
use Rattle.script.proofs.recursion.spread.Goals.{then-marks-number+then-add_row, else-marks-number, else-marks-number-via-then-marks-number+else-add_row, else-marks-number-via-else-marks-number}

pub loop-number-init : goal.loop-number-init
loop-number-init c = spreads_none (rows_of c.args.table.now) c.args.marks.now

pub loop-number-preserved : goal.loop-number-preserved
loop-number-preserved c =
    let l = c.loop-number in
    let rows = rows_of c.args.table.now in
    let old = c.args.marks.now in
    let row = row_of c.args.table.now l.number c.index-table-number.result (omega arith) c.index-table-number.is in
    elim c.if-marks-number.branch [
      | then-marks-number+then-add_row w ↦
          let adds = adds_at rows l.number w.deref.result.now l.marks w.add_row.new.marks _ _ (w.deref.ensures.value ∙ row) w.if-add_row.true w.add_row.ensures in
          spreads_is _ rows old _ _ _ _ (spreads_grown l.number rows old l.marks _ l.grew l.invariant w.if-marks-number.true adds) w.marks-is w.grew-is
      | else-marks-number w ↦
          elim w.else-marks-number.branch [
            | else-marks-number-via-then-marks-number+else-add_row u ↦
                let adds = adds_at rows l.number u.deref.result.now l.marks u.add_row.new.marks _ _ (u.deref.ensures.value ∙ row) u.if-add_row.false u.add_row.ensures in
                spreads_is _ rows old _ _ _ _ (spreads_same l.number rows old l.marks _ l.grew l.invariant u.if-marks-number.true adds) (w.marks-is ∙ u.marks-is) w.grew-is
            | else-marks-number-via-else-marks-number u ↦
                spreads_is _ rows old _ _ _ _ (spreads_unmarked l.number rows old l.marks l.grew l.invariant u.if-marks-number.false) (w.marks-is ∙ u.marks-is) w.grew-is
          ]
    ]

pub add_row-requires : goal.add_row-requires
add_row-requires c =
    let row = c.index-table-number.result in
    let square = c.requires.square row (c.loop-number.number, omega arith, sym c.index-table-number.is) in
    omega (arith, square, c.deref.ensures.len, c.requires.as_many, c.loop-number.invariant.same_length)

pub returns : goal.returns
returns c =
    let l = c.loop-number in
    let rows = rows_of c.args.table.now in
    spreads_all l.number rows c.args.marks.now l.marks l.grew l.invariant (omega (arith, length-rows_of c.args.table.now))
