-- The error of a medium whose cartridge could not be opened.
use Rattle.volume_core.specs.declared.media.MediumError.{MediumError}
use Rattle.volume_core.specs.declared.media.MediumError.TheVariants as Media
use Rattle.cartridge.specs.declared.error.CartridgeError.{CartridgeError}
use Rattle.cartridge.specs.declared.error.CartridgeError.TheVariants as Cartridges

-- a device fault and out of memory are reported as such, all else as a side that gives no volume (own)
abbrev pub wake_error_of : CartridgeError → MediumError
wake_error_of (Cartridges.Device fault) = Media.Device
wake_error_of Cartridges.NoMemory = Media.NoMemory
wake_error_of _ = Media.Unreadable
