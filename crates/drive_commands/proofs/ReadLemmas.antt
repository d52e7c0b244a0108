-- READ, where more is known of the medium's honesty, and once what was pending is stored.
use Rattle.std.proofs.Common.{◌≡◌, ℕ, zero, suc, List, Option, None, Some, Result, Ok, Err, Bool, refl, inl, inr}
use Rattle.scsi_sense.specs.declared.replies.Reply.{Reply}
use Rattle.volume_core.specs.declared.changes.Change.{Change}
use Rattle.volume_core.specs.declared.objects.Object.{Object}
use Rattle.volume_core.specs.declared.objects.Object.TheVariants.{Block, Mark}
use Rattle.volume_core.specs.Medium.{MediumState}
use Rattle.positioning.specs.declared.positions.Pos.{Pos}
use Rattle.drive_commands.specs.declared.faults.Fault.{Fault}
use Rattle.drive_commands.specs.declared.faults.Fault.TheVariants.{NoMemory, Writing, Reading, SideFull, Saving, StoreFull}
use Rattle.drive_commands.specs.State.{Mounted, mounted}
use Rattle.drive_commands.specs.Relations.{MediumRelation}
use Rattle.drive_commands.specs.StoredFirst.{IsStored, StoredFirst}
use Rattle.drive_commands.specs.Read.{ReadWork, ReadAnswer, GivesObject, object_at}

-- what is given by an honest medium is given by one that is honest wherever it was
given_where : (H H' : Type 0) → (H → H') → (object : Option Object) (suppress : Bool) (asked : ℕ) (before : Pos)
    (reply : Reply) (now : Pos)
    → ReadAnswer H' object suppress asked before reply now → ReadAnswer H object suppress asked before reply now
given_where H H' so None suppress asked before reply now h = h
given_where H H' so (Some Mark) suppress asked before reply now h = h
given_where H H' so (Some (Block block)) suppress asked before reply now h = (
  record { given = h.0.given; bound = h.0.bound; same = λ honest. h.0.same (so honest); replied = h.0.replied },
  h.1,
)

-- the same of all that may come of giving the object at the position
pub object_where : (H H' : Type 0) → (H → H') → (suppress : Bool) (asked : ℕ) (old : Mounted)
    (answer : Result Reply Fault) (made : List Change) (new : Mounted)
    → GivesObject H' suppress asked old answer made new → GivesObject H suppress asked old answer made new
object_where H H' so suppress asked old (Ok reply) made new h =
    (h.0, h.1, given_where H H' so (object_at old) suppress asked old.position reply new.position h.2)
object_where H H' so suppress asked old (Err NoMemory) made new h = h
object_where H H' so suppress asked old (Err Reading) made new h = h
object_where H H' so suppress asked old (Err Writing) made new h = absurd h
object_where H H' so suppress asked old (Err (SideFull residue)) made new h = absurd h
object_where H H' so suppress asked old (Err Saving) made new h = absurd h
object_where H H' so suppress asked old (Err StoreFull) made new h = absurd h

-- work that is done once what was pending is stored
pub stored_first : (W : MediumRelation) (old : MediumState) (between : MediumState) (position : Pos)
    (answer : Result Reply Fault) (made : List Change) (new : Mounted)
    → IsStored old between → W (mounted between position) answer made new
    → StoredFirst W (mounted old position) answer made new
stored_first W old between position (Ok reply) made new stored work = (between, stored, work)
stored_first W old between position (Err NoMemory) made new stored work = (between, stored, work)
stored_first W old between position (Err Writing) made new stored work = inr (between, stored, work)
stored_first W old between position (Err Reading) made new stored work = (between, stored, work)
stored_first W old between position (Err (SideFull residue)) made new stored work = (between, stored, work)
stored_first W old between position (Err Saving) made new stored work = (between, stored, work)
stored_first W old between position (Err StoreFull) made new stored work = (between, stored, work)

-- one kind of work done once what was pending is stored is another, where each is
pub stored_where : (W V : MediumRelation)
    → ((old : Mounted) (answer : Result Reply Fault) (made : List Change) (new : Mounted)
    → W old answer made new → V old answer made new)
    → (old : Mounted) (answer : Result Reply Fault) (made : List Change) (new : Mounted)
    → StoredFirst W old answer made new → StoredFirst V old answer made new
stored_where W V so old (Ok reply) made new h = (h.0, h.1, so (mounted h.0 old.position) (Ok reply) made new h.2)
stored_where W V so old (Err NoMemory) made new h =
    (h.0, h.1, so (mounted h.0 old.position) (Err NoMemory) made new h.2)
stored_where W V so old (Err Writing) made new (inl h) = inl h
stored_where W V so old (Err Writing) made new (inr h) =
    inr (h.0, h.1, so (mounted h.0 old.position) (Err Writing) made new h.2)
stored_where W V so old (Err Reading) made new h =
    (h.0, h.1, so (mounted h.0 old.position) (Err Reading) made new h.2)
stored_where W V so old (Err (SideFull residue)) made new h =
    (h.0, h.1, so (mounted h.0 old.position) (Err (SideFull residue)) made new h.2)
stored_where W V so old (Err Saving) made new h =
    (h.0, h.1, so (mounted h.0 old.position) (Err Saving) made new h.2)
stored_where W V so old (Err StoreFull) made new h =
    (h.0, h.1, so (mounted h.0 old.position) (Err StoreFull) made new h.2)

-- READ of some bytes
pub read_some : (H : Type 0) (suppress : Bool) (asked : ℕ) → (asked ≡ 0 → ⊥) → (old : Mounted)
    (answer : Result Reply Fault) (made : List Change) (new : Mounted)
    → StoredFirst (GivesObject H suppress asked) old answer made new → ReadWork H suppress asked old answer made new
read_some H suppress zero some old answer made new h = absurd (some refl)
read_some H suppress (suc n) some old answer made new h = h

-- READ over a medium that is honest wherever another fact holds
pub read_where : (H H' : Type 0) → (H → H') → (suppress : Bool) (asked : ℕ) (old : Mounted)
    (answer : Result Reply Fault) (made : List Change) (new : Mounted)
    → ReadWork H' suppress asked old answer made new → ReadWork H suppress asked old answer made new
read_where H H' so suppress zero old answer made new h = h
read_where H H' so suppress (suc n) old answer made new h =
    stored_where (GivesObject H' suppress (suc n)) (GivesObject H suppress (suc n))
    (object_where H H' so suppress (suc n)) old answer made new h
