use Rattle.std.proofs.Common.{◌≡◌, ◌∷◌, ◌++◌, [], ◌+◌, take, ap, sym, ◌∙◌, arith}
use Rattle.std.proofs.KnownBytes.{Appends-kept}
use Rattle.std.proofs.lemmas.List.{take_more, take_all}
use Rattle.scsi_sense.specs.declared.replies.Reply.{Reply}
use Rattle.vtl_script.specs.Text.{text_of}
use Rattle.vtl_script.proofs.ReadingLemmas.{on_err}
use Rattle.vtl_script.proofs.TextLemmas.{adds_none, adds_all, part_after, part_whole, replies_more, replies_part}
use Rattle.vtl_script.proofs.texts.print_replies.Goals as goal

pub loop-reply-init : goal.loop-reply-init
loop-reply-init g c = adds_none _ _

pub loop-reply-preserved : goal.loop-reply-preserved
loop-reply-preserved g c =
    let replies = c.args.replies.now in
    let at = c.loop-reply.reply-index in
    let one : take (at + 1) replies ≡ take at replies ++ c.reply-item.result ∷ [] =
    take_more replies at c.reply-item.result c.loop-reply-test.true
    ∙ ap (λ (x : Reply). take at replies ++ x ∷ []) (sym c.reply-item.is) in
    replies_more _ _ _ c.args.text.now c.loop-reply.text c.add_reply.new.text replies at c.reply-item.result
    c.loop-reply.invariant one c.in_ok-add_reply.ensures.ok

pub returns-in_err-add_reply-clause-part : goal.returns-in_err-add_reply-clause-part
returns-in_err-add_reply-clause-part g c =
    let replies = c.args.replies.now in
    let at = c.loop-reply.reply-index in
    let one : take (at + 1) replies ≡ take at replies ++ c.reply-item.result ∷ [] =
    take_more replies at c.reply-item.result c.loop-reply-test.true
    ∙ ap (λ (x : Reply). take at replies ++ x ∷ []) (sym c.reply-item.is) in
    on_err _ _ (rw c.requires at (replies_part _ _ _ c.args.text.now c.loop-reply.text replies at c.reply-item.result
    c.loop-reply.invariant one c.in_err-add_reply.ensures.err))

pub returns-in_err-write_out-clause-part : goal.returns-in_err-write_out-clause-part
returns-in_err-write_out-clause-part g c =
    let replies = c.args.replies.now in
    let at = c.loop-reply.reply-index in
    let whole : take at replies ≡ replies = take_all at replies (omega (arith, c.loop-reply-test.false)) in
    on_err _ _ (rw (c.requires, whole) at (part_after _ _ _ c.args.text.now (text_of (take at replies))
    c.loop-reply.text c.loop-reply.invariant c.in_err-write_out.ensures.err))

pub returns-then-is_err-clause-part : goal.returns-then-is_err-clause-part
returns-then-is_err-clause-part g c =
    let replies = c.args.replies.now in
    let at = c.loop-reply.reply-index in
    let whole : take at replies ≡ replies = take_all at replies (omega (arith, c.loop-reply-test.false)) in
    part_whole _ _ _ (text_of replies)
    (rw (c.requires, whole) at (adds_all _ _ _ c.args.text.now (text_of (take at replies)) c.loop-reply.text
    c.loop-reply.invariant c.in_ok-write_out.ensures.ok)) c.flush.ensures.bytes

pub returns-clause-ok : goal.returns-clause-ok
returns-clause-ok g c =
    let replies = c.args.replies.now in
    let at = c.loop-reply.reply-index in
    let whole : take at replies ≡ replies = take_all at replies (omega (arith, c.loop-reply-test.false)) in
    let all = rw (c.requires, whole) at (adds_all _ _ _ c.args.text.now (text_of (take at replies)) c.loop-reply.text
    c.loop-reply.invariant c.in_ok-write_out.ensures.ok) in
    Appends-kept _ _ _ (text_of replies) all c.flush.ensures.bytes
