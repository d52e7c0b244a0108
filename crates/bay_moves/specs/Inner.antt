pub mod Carried
pub mod Finishing
pub mod Going
pub mod Lifted
pub mod RunsOn
