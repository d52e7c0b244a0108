use Rattle.std.proofs.Common.{◌≡◌, Some}
use Rattle.clap.specs.Matches.{found_of}
use Rattle.clap.specs.Simple.{subcommand_rows_of}
use Rattle.clap.specs.Walk.{rows_of}
use Rattle.clap.specs.declared.parser.matches.ArgMatches.TheViews.{out-ArgMatches}
use Rattle.vtl_words.proofs.LineLemmas.{rows_from_parts}
use Rattle.vtl_words.proofs.reading.order_in.Goals as goal

pub returns-in-Some-clause-ok : goal.returns-in-Some-clause-ok
returns-in-Some-clause-ok c =
    let found : subcommand_rows_of c.args.matches.now
    ≡ Some (c.in-Some.found.0.now, rows_of (found_of c.in-Some.found.1.now)) =
    rows_from_parts (out-ArgMatches c.args.matches.now).subcommand _ _ c.in-Some.ensures.name
    c.in-Some.ensures.rows in
    rw found c.order_by.ensures.ok

pub returns-in-Some-clause-err : goal.returns-in-Some-clause-err
returns-in-Some-clause-err c =
    let found : subcommand_rows_of c.args.matches.now
    ≡ Some (c.in-Some.found.0.now, rows_of (found_of c.in-Some.found.1.now)) =
    rows_from_parts (out-ArgMatches c.args.matches.now).subcommand _ _ c.in-Some.ensures.name
    c.in-Some.ensures.rows in
    rw found c.order_by.ensures.err
