use Rattle.std.proofs.Common.{◌≡◌, ◌-◌, true}
use Rattle.vtl_script.specs.Inner.Reading.{shows_end}
use Rattle.vtl_script.proofs.ReadingLemmas.{IsSearched}
use Rattle.vtl_script.proofs.line_readers.LineReader.find.Given as goal

-- what came so far has no line feed in front, and nothing was read where the first bytes show the end of the line
abbrev pub invariant-loop-place : goal.invariant-loop-place
invariant-loop-place g l =
    IsSearched (g.R.Read.remaining l.fn.reader) l.fn.self (g.R.Read.remaining l.reader) l.self l.searched
    × (shows_end l.fn.self.unread ≡ true → (l.self ≡ l.fn.self) × (l.reader ≡ l.fn.reader))

abbrev pub decreases-loop-place : goal.decreases-loop-place
decreases-loop-place g l = 4294967296 - l.self.reads
