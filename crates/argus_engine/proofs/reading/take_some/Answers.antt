use Rattle.std.proofs.Common.{subst}
use Rattle.std.specs.Io.BufRead.{FillKeeps}
use Rattle.argus_engine.proofs.Bytes.{takes_some}
use Rattle.argus_engine.proofs.reading.take_some.Goals as goal

pub returns-clause-taken : goal.returns-clause-taken
returns-clause-taken g c =
    let rested = c.fill_buf.follows.lender-at-none in
    let filled =
    subst (FillKeeps _ (g.R.Read.remaining rested) (g.R.BufRead.consumable_len rested)) c.in-Ok.is c.fill_buf.follows.holds-at-none in
    let front = c.front_of-front.result in
    takes_some (g.R.Read.remaining c.args.reader.now) (g.R.Read.remaining rested) (g.R.Read.remaining c.consume.new.self)
    (g.R.BufRead.consumable_len rested) c.in-Ok.ready.now c.args.line.now.items c.extend_from_slice.new.self.items front.count front.taken front.met
    c.front_of-front.ensures.front c.in_ok-extend_from_slice.ensures.items c.in-Ok.ensures.front c.in-Ok.ensures.end filled.0 filled.1 c.consume.ensures.bytes
