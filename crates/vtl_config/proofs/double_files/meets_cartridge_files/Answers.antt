use Rattle.vtl_config.specs.FileNames.{both_names, is_of_both}
use Rattle.vtl_config.proofs.DoubleLemmas.{any_meets, meets_any, both_sound, both_complete}
use Rattle.vtl_config.proofs.double_files.meets_cartridge_files.Goals as goal

pub returns : goal.returns
returns c = (
  (λ found.
      any_meets (λ entry. entry.file) (is_of_both c.args.file.now) (both_names c.args.file.now)
      (both_sound c.args.file.now) c.args.cartridges.now (rw (← c.any_is_cartridge_file.ensures) found)),
  (λ meets.
      rw c.any_is_cartridge_file.ensures
      (meets_any (λ entry. entry.file) (is_of_both c.args.file.now) (both_names c.args.file.now)
      (both_complete c.args.file.now) c.args.cartridges.now meets)),
)
