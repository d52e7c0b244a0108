-- Scripts of at most one host (own).
use Rattle.std.specs.Prelude.{◌≡◌, ℕ, ◌==◌, ◌≤◌, true, false, List, filter_map, None}
use Rattle.std.specs.List.{list_all, list_any}
use Rattle.vtl_script.specs.declared.lines.Line.{Line}
use Rattle.vtl_script.specs.declared.lines.ParsedLine.{ParsedLine}
use Rattle.vtl_script.specs.Parsed.{refused_line, line_in, is_move}
use Rattle.vtl_script.specs.Items.{items_to_run, commands_to_run, is_phase}

-- the commands of a script, in the order of its lines (own)
abbrev pub commands_in : List ParsedLine → List Line
commands_in parsed_list = filter_map line_in parsed_list

-- all commands are of one host (own)
pub record IsOfHost (host : ℕ) (lines : List Line) : Type 0 where
  pub least : 1 ≤ host
  pub most : host ≤ 64
  pub all : list_all (λ line. line.host == host) lines ≡ true

-- a script of one host that asks for no move (own)
pub record IsOfHostAlone (host : ℕ) (parsed_list : List ParsedLine) : Type 0 where
  pub commands : IsOfHost host (commands_in parsed_list)
  pub no_move : list_any is_move parsed_list ≡ false

-- a script of one host of which no line is refused is run line by line (own)
abbrev pub OneHostInOrder : Type 0
OneHostInOrder =
    (host : ℕ) (parsed_list : List ParsedLine) → IsOfHost host (commands_in parsed_list)
    → refused_line parsed_list ≡ None → commands_to_run (items_to_run parsed_list) ≡ commands_in parsed_list

-- where no line asks for a move, no move is run (own)
abbrev pub NoMoveIsRun : Type 0
NoMoveIsRun =
    (parsed_list : List ParsedLine) → list_any is_move parsed_list ≡ false
    → list_all is_phase (items_to_run parsed_list) ≡ true
