use Rattle.std.proofs.Common.{ap, ◌∙◌}
use Rattle.vtl_serve.specs.OneHost.{OneHostState}
use Rattle.vtl_serve.proofs.OneHostLemmas.{host_answered_by}
use Rattle.vtl_serve.proofs.one_host.OneHost.answer_command.Goals as goal
use Rattle.vtl_serve.proofs.one_host.OneHost.answer_command.Goals.{in-Heap-2, in-Inline-2}

pub returns : goal.returns
returns g c =
    elim c.match-cdb.branch [
      | in-Heap-2 w ↦
          host_answered_by g.D.Disk.state c.args.self.now c.match-cdb.self c.self.inside.seat
          c.command-reply.new.seat c.in-Command.host c.in-Command.drive c.in-Command.tag c.in-Command.cdb _
          c.in-Command.sent c.args.request c.command-reply.result c.in-Command.is c.requires
          (ap (λ (h : OneHostState). h.drives) w.self-is ∙ ap (λ (h : OneHostState). h.drives) c.self.view_is)
          (ap (λ (h : OneHostState). h.seat) c.self.view_is) (ap (λ (h : OneHostState). h.seat) w.self-is)
          c.as_slice.ensures c.command-reply.ensures.0
      | in-Inline-2 w ↦
          host_answered_by g.D.Disk.state c.args.self.now c.match-cdb.self c.self.inside.seat
          c.command-reply.new.seat c.in-Command.host c.in-Command.drive c.in-Command.tag c.in-Command.cdb _
          c.in-Command.sent c.args.request c.command-reply.result c.in-Command.is c.requires
          (ap (λ (h : OneHostState). h.drives) w.self-is ∙ ap (λ (h : OneHostState). h.drives) c.self.view_is)
          (ap (λ (h : OneHostState). h.seat) c.self.view_is) (ap (λ (h : OneHostState). h.seat) w.self-is)
          c.as_slice.ensures c.command-reply.ensures.0
    ]
