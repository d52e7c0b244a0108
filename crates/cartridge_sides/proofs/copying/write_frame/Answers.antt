use Rattle.std.proofs.Common.{inl, refl, [], ◌∷◌}
use Rattle.std.proofs.lemmas.Result.{err_from_is_err_and}
use Rattle.cartridge_sides.proofs.copying.write_frame.Goals as goal

pub returns-in_err-put_behind-clause-err : goal.returns-in_err-put_behind-clause-err
returns-in_err-put_behind-clause-err g c =
    let given = c.in_ok-give.ensures.ok in
    let p = err_from_is_err_and c.from_residual-in_err-put_behind.result c.from_residual-in_err-put_behind.ensures.1 in
    rw (p.1, p.2) (inl (
      record {
        cause = c.in_err-put_behind.ensures.passes.cause;
        reported = c.in_err-put_behind.ensures.passes.reported;
      },
      (given.0 ∷ [], (c.give.new.self, given.3, refl)),
    ))
