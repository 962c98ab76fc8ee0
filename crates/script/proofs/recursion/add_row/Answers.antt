use Rattle.std.proofs.Common.{arith}
use Rattle.script.proofs.Adding.{adds_none, adds_unmarked, adds_marked, adds_one, adds_row}
use Rattle.script.proofs.recursion.add_row.Goals as goal
use Rattle.script.proofs.recursion.add_row.Goals.{then-called+then-not-marks-number, else-called, else-called-via-then-called+else-not-marks-number, else-called-via-else-called}

pub loop-number-init : goal.loop-number-init
loop-number-init c = adds_none c.args.row.now c.args.marks.now

pub loop-number-preserved : goal.loop-number-preserved
loop-number-preserved c =
    let l = c.loop-number in
    let row = c.args.row.now in
    let old = c.args.marks.now in
    elim c.if-called.branch [
      | then-called+then-not-marks-number w ↦
          rw (w.marks-is, w.grew-is) (adds_one l.number row old l.marks l.grew l.invariant (omega arith) w.if-called.true w.if-not-marks-number.true)
      | else-called w ↦
          rw (w.marks-is, w.grew-is) (elim w.else-called.branch [
            | else-called-via-then-called+else-not-marks-number u ↦ adds_marked l.number row old l.marks l.grew l.invariant u.if-not-marks-number.false
            | else-called-via-else-called u ↦ adds_unmarked l.number row old l.marks l.grew l.invariant u.if-called.false
          ])
    ]

pub returns : goal.returns
returns c =
    let l = c.loop-number in
    adds_row l.number c.args.row.now c.args.marks.now l.marks l.grew l.invariant (omega arith)
