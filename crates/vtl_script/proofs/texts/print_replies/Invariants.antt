use Rattle.std.proofs.Common.{take}
use Rattle.vtl_script.specs.Text.{text_of}
use Rattle.vtl_script.specs.Inner.Writing.{Adds}
use Rattle.vtl_script.proofs.texts.print_replies.Given as goal

-- the text of the answers so far was added
abbrev pub invariant-loop-reply : goal.invariant-loop-reply
invariant-loop-reply g l =
    Adds (g.W.Write.contents l.fn.writer) l.fn.text (text_of (take l.reply-index l.replies))
    (g.W.Write.contents l.writer) l.text
