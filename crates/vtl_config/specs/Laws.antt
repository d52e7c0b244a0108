-- What holds of the rules of a configuration.
use Rattle.toml.specs.Data.{Members}
use Rattle.vtl_config.specs.Configs.{IsConfig, ConfigBreaks}
use Rattle.vtl_config.specs.declared.entries.Config.{Config}
use Rattle.vtl_config.specs.declared.rules.Place.{Place}
use Rattle.vtl_config.specs.declared.rules.Rule.{Rule}

-- a table that says a configuration breaks no rule, at any place (own)
abbrev pub NothingIsBroken : Type 0
NothingIsBroken =
    (table : Members) (config : Config) → IsConfig table config → (place : Place) (rule : Rule)
    → ¬ ConfigBreaks table place rule
