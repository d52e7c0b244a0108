-- A subcommand is added to a command.
use Rattle.std.proofs.Common.{◌≡◌, ◌∙◌, ap₂, Result, Ok, Err, IfOk}
use Rattle.std.specs.Result.{MatchResult}
use Rattle.std.specs.declared.alloc.AllocError.{AllocError}
use Rattle.clap.specs.Simple.{App, app_of, with_subcommand}
use Rattle.clap.specs.declared.builder.command.Command.{Command}

-- a word was added to a command, so it was made
pub word_added : (made : Result Command AllocError) (before known word after : App) → before ≡ known
    → IfOk made (λ w. app_of w ≡ word)
    → MatchResult made (λ w. after ≡ with_subcommand before (app_of w).top) (λ _. ⊥)
    → after ≡ with_subcommand known word.top
word_added (Ok w) before known word after same is makes =
    makes ∙ ap₂ (λ (one other : App). with_subcommand one other.top) same is
word_added (Err error) before known word after same is makes = absurd makes
