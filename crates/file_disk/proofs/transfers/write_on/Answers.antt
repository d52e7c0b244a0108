use Rattle.file_disk.proofs.TransferLemmas.{smeared_rest, crash_rest, smeared_some}
use Rattle.file_disk.proofs.transfers.write_on.Goals as goal

pub returns-then-done-bytes-clause-smeared : goal.returns-then-done-bytes-clause-smeared
returns-then-done-bytes-clause-smeared g c = λ honest.
    smeared_some c.args.at c.args.done c.args.bytes.now c.requires.done c.in-Ok.count _ _
    (c.in-Ok.ensures.writes honest).written

pub returns-then-done-bytes-clause-crash : goal.returns-then-done-bytes-clause-crash
returns-then-done-bytes-clause-crash g c = λ honest.
    crash_rest c.args.at c.args.done c.args.bytes.now c.requires.done _ _
    (c.in-Ok.ensures.writes honest).crash

pub returns-else-count-eq0-clause-smeared : goal.returns-else-count-eq0-clause-smeared
returns-else-count-eq0-clause-smeared g c = λ honest.
    smeared_some c.args.at c.args.done c.args.bytes.now c.requires.done c.in-Ok.count _ _
    (c.in-Ok.ensures.writes honest).written

pub returns-else-count-eq0-clause-crash : goal.returns-else-count-eq0-clause-crash
returns-else-count-eq0-clause-crash g c = λ honest.
    crash_rest c.args.at c.args.done c.args.bytes.now c.requires.done _ _
    (c.in-Ok.ensures.writes honest).crash

pub returns-in-Err-Interrupted-clause-smeared : goal.returns-in-Err-Interrupted-clause-smeared
returns-in-Err-Interrupted-clause-smeared g c = λ honest.
    smeared_rest c.args.at c.args.done c.args.bytes.now c.requires.done _ _
    (c.in-Err-Interrupted.ensures.writes honest).smeared

pub returns-in-Err-Interrupted-clause-crash : goal.returns-in-Err-Interrupted-clause-crash
returns-in-Err-Interrupted-clause-crash g c = λ honest.
    crash_rest c.args.at c.args.done c.args.bytes.now c.requires.done _ _
    (c.in-Err-Interrupted.ensures.writes honest).crash

pub returns-in-Err-Failed-clause-smeared : goal.returns-in-Err-Failed-clause-smeared
returns-in-Err-Failed-clause-smeared g c = λ honest.
    smeared_rest c.args.at c.args.done c.args.bytes.now c.requires.done _ _
    (c.in-Err-Failed.ensures.writes honest).smeared

pub returns-in-Err-Failed-clause-crash : goal.returns-in-Err-Failed-clause-crash
returns-in-Err-Failed-clause-crash g c = λ honest.
    crash_rest c.args.at c.args.done c.args.bytes.now c.requires.done _ _
    (c.in-Err-Failed.ensures.writes honest).crash
