use Rattle.std.proofs.Common.{◌≡◌, ℕ, [], ◌∷◌, ◌∙◌, ap, refl, Option, Some, Bool, subst}
use Rattle.vtl_base.specs.Below.{Advances, advances_on}
use Rattle.volume_core.specs.Stores.{stores_on}
use Rattle.volume_core.specs.Medium.{volume_of}
use Rattle.drive_commands.specs.Append.{amount_of, is_warned}
use Rattle.drive_commands.specs.Execute.{is_device_fault}
use Rattle.drive_commands.specs.Inner.Appending.{refused_as}
use Rattle.drive_commands.proofs.AppendLemmas.{append_refused, append_accepted, fault_refused}
use Rattle.drive_commands.proofs.appends.append.Goals as goal

pub returns-in-Ok-clause-carries : goal.returns-in-Ok-clause-carries
returns-in-Ok-clause-carries g c =
    let state = g.M.Catalog.state in
    let old = c.args.medium.now in
    let mid = c.accept.new.self in
    let new = c.finish.new.medium in
    let change = c.args.change in
    let accepted = c.in-Ok.ensures in
    let done = c.finish.ensures in (
      record {
        made = change ∷ [];
        carries = record {
          work =
              append_accepted c.args.settles change (state old) (state mid) (state new) c.args.position.now
              c.count-position.result c.is_warned-warned.result c.finish.result
              c.requires.ready c.requires.at accepted.answer c.count-position.ensures.count
              (c.is_warned-warned.ensures ∙ ap (λ (a : Option ℕ). is_warned a (volume_of (state mid)) (record
              c.args.position.now { obj = c.count-position.result })) c.requires.amount)
              done.answer;
          advances =
              advances_on g.M.Medium.below g.met.M.Medium.moves_on old mid new (change ∷ []) []
              (is_device_fault c.finish.result) accepted.advances done.advances;
          stores = stores_on (state old) (state mid) (state new) (change ∷ []) [] accepted.stores done.stores;
        };
        counted = c.saturating_add.ensures;
      },
      refl,
    )

pub returns-in-Err-clause-carries : goal.returns-in-Err-clause-carries
returns-in-Err-clause-carries g c =
    let state = g.M.Catalog.state in
    let old = c.args.medium.now in
    let new = c.accept.new.self in
    let error = c.in-Err.refused.error in
    let refused = c.in-Err.ensures in
    let replied : c.refuse.result ≡ refused_as error (amount_of c.args.change) =
    c.refuse.ensures ∙ ap (refused_as error) c.requires.amount in
    let work =
    append_refused c.args.settles c.args.change (state old) (state new) c.args.position.now error
    c.requires.ready c.requires.at c.requires.formed c.requires.fits refused.answer in (
      record {
        made = [];
        carries = record {
          work = rw replied work;
          advances =
              rw c.refuse.ensures
              (subst (λ (fault : Bool). Advances g.M.Medium.below old [] fault new)
              (fault_refused error c.args.amount) refused.advances);
          stores = refused.stores;
        };
        counted = refl;
      },
      ap Some refused.returned,
    )
