use Rattle.std.proofs.Common.{arith}
use Rattle.argus_engine.proofs.Bytes.{took_more}
use Rattle.argus_engine.proofs.reading.read_line.Goals as goal

pub loop-preserved : goal.loop-preserved
loop-preserved g c =
    let l = c.loop in
    let more = took_more (g.R.Read.remaining c.args.reader.now) (g.R.Read.remaining l.reader) (g.R.Read.remaining c.take_some.new.reader) l.line.items
    c.take_some.new.line.items c.in_ok-take_some.field-0 l.invariant.taken l.invariant.lacks c.in_ok-take_some.ensures.taken c.in-More.is in
    record {
      taken = more.0;
      lacks = more.1;
      count = search arith;
    }
