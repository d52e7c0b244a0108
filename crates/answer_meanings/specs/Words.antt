-- The words of each condition.
use Rattle.std.specs.Prelude.{ℕ, List, codes}
use Rattle.answer_meanings.specs.declared.conditions.Condition.{Condition}
use Rattle.answer_meanings.specs.declared.conditions.Condition.TheVariants as is

-- what a condition means, in plain English (own)
abbrev pub words_of : Condition → List ℕ
words_of is.NothingToReport = codes "there is nothing to report"
words_of is.IncorrectLength = codes "the block has another length than the read"
words_of is.Filemark = codes "a filemark was reached"
words_of is.EarlyWarning = codes "all was written, and the partition is nearly full"
words_of is.Beginning = codes "the beginning of the partition was reached"
words_of is.NotPresent = codes "no cartridge is loaded"
words_of is.WriteError = codes "the device failed while pending changes were stored"
words_of is.ReadError = codes "the cartridge cannot be read: its file is damaged, or the device failed"
words_of is.Failed = codes "the medium has failed until it is loaded anew, or the reservation store until a restart"
words_of is.UnknownCommand = codes "the operation code is not known"
words_of is.WrongBlock = codes "the command block's length, one of its fields or the count of data bytes is wrong"
words_of is.WrongListLength = codes "the parameter list has a wrong length"
words_of is.WrongList = codes "a field of the parameter list is wrong"
words_of is.WrongRelease = codes "the reservation is of another type than the release"
words_of is.WrongAddress = codes "the element address is no slot's and no drive's"
words_of is.DestinationFull = codes "the destination of the move holds a cartridge"
words_of is.SourceEmpty = codes "the source of the move holds no cartridge"
words_of is.StoreFull = codes "the reservation store is full, and nothing changed"
words_of is.PowerOn = codes "not carried out: the drive was powered on"
words_of is.MediumChanged = codes "not carried out: the medium may have been changed"
words_of is.ReservationsPreempted = codes "not carried out: another host cleared the registrations and the reservation"
words_of is.RegistrationsPreempted = codes "not carried out: another host removed this host's registration"
words_of is.ReservationsReleased = codes "not carried out: another host released the reservation or changed its type"
words_of is.ModeChanged = codes "not carried out: another host changed the mode"
words_of is.EndOfData = codes "the end of data was reached"
words_of is.NoMemory = codes "memory ran out, and contents and reservations are as they were"
words_of is.NoRoom = codes "there is no room, and nothing changed"
