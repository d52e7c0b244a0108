use Rattle.std.proofs.Common.{◌+◌, ap, ◌∙◌, arith, Ok}
use Rattle.vtl_script.specs.Inner.Reading.{LineReading, bytes_read}
use Rattle.vtl_script.proofs.ReadingLemmas.{comes_of}
use Rattle.vtl_script.proofs.line_readers.LineReader.fill.Goals as goal

pub returns-in-Some-2-clause-comes : goal.returns-in-Some-2-clause-comes
returns-in-Some-2-clause-comes g c =
    let before = c.self.inside in
    comes_of (g.R.Read.remaining c.args.reader.now) (g.R.Read.remaining c.read.new.reader) c.args.self.now
    (record {
      unread = c.read.new.self;
      bytes = before.bytes + c.in-Some.count;
      reads = before.reads + 1;
      lines = before.lines;
    }) before.buffer _ c.in-Some.count c.read.ensures.brings (ap (λ (r : LineReading). r.unread) c.self.view_is)
    (ap bytes_read (c.in_ok-read.was ∙ ap Ok c.in-Some.is))
    (omega (arith, ap (λ (r : LineReading). r.bytes) c.self.view_is))
    (omega (arith, ap (λ (r : LineReading). r.reads) c.self.view_is))
    (ap (λ (r : LineReading). r.lines) c.self.view_is)
