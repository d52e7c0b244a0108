-- A device as laws see it, whatever disks it is made of: one disk, and two.
use Rattle.std.specs.Prelude.{◌≤◌, ℕ, List}
use Rattle.tape_disk.specs.Disk.{DiskState, IsDisk, Keeps}
use Rattle.tape_disk.specs.Disk as Disks
use Rattle.tape_disk.specs.Moments as Moments
use Rattle.tape_disk.specs.Moments.{LeavesOnly}
use Rattle.tape_disk.specs.TwoDisks as Twos
use Rattle.tape_disk.specs.TwoDisks.{AreDisks, AreHonest, EachOfTwo, Images, KeepsDisks, MayLeave, TwoDisks, TwoLeave, failures_of}

-- A device with images of this kind: whether it is honest and obeys the laws of its kind, how often it failed, and what
-- a crash leaves, now or at a moment since (own).
pub record Device (I : Type 0) : Type 1 where
  pub State : Type 0
  pub honest : State → Type 0
  pub sound : State → Type 0
  pub failures : State → ℕ
  -- each image that a crash may leave now has P
  pub each : State → (I → Type 0) → Type 0
  -- each image that a crash might have left at some moment since the first has P
  pub leaves : State → State → (I → Type 0) → Type 0

-- The laws of a device: without a call nothing changes; two runs compose; a property can be weakened, at each moment
-- and now; what holds at each moment since holds now (own).
pub record IsDevice {I : Type 0} (device : Device I) : Type 1 where
  pub no_call : (now : device.State) (P : I → Type 0) → device.sound now → device.each now P
      → device.leaves now now P
  pub in_sequence : (a b c : device.State) (P : I → Type 0) → device.leaves a b P → device.leaves b c P
      → device.leaves a c P
  pub weakened : (a b : device.State) (P Q : I → Type 0) → device.leaves a b P → ((image : I) → P image → Q image)
      → device.leaves a b Q
  pub holds_now : (a b : device.State) (P : I → Type 0) → device.sound b → device.leaves a b P → device.each b P
  pub each_weakened : (now : device.State) (P Q : I → Type 0) → device.each now P
      → ((image : I) → P image → Q image) → device.each now Q

-- What holds after every result: honesty stays, and failures are counted (own).
pub record KeepsDevice {I : Type 0} (device : Device I) (old new : device.State) : Type 0 where
  pub stays_honest : device.honest old → device.honest new
  pub was_honest : device.honest new → device.honest old
  pub counted : device.failures old ≤ device.failures new

module _ {D : Type 0} (state : D → DiskState) where
  -- one disk, whose images are bytes (own)
  abbrev pub one_disk : Device (List ℕ)
  one_disk = record {
    State = D;
    honest = λ disk. (state disk).honest;
    sound = λ disk. IsDisk (state disk);
    failures = λ disk. (state disk).failures;
    each = λ disk P. Disks.Each (state disk) P;
    leaves = λ old new P. LeavesOnly (state old) (state new) P;
  }

  -- one disk is a device (own)
  pub one_is_device : IsDevice one_disk
  one_is_device = record {
    no_call = λ now P is_disk here. Moments.no_call (state now) P is_disk here;
    in_sequence = λ a b c P. Moments.in_sequence (state a) (state b) (state c) P;
    weakened = λ a b P Q. Moments.weakened (state a) (state b) P Q;
    holds_now = λ a b P is_disk. Moments.holds_now (state a) (state b) P is_disk;
    each_weakened = λ now P Q each means image left. means image (each image left);
  }

  -- the laws of one disk, as laws of its device
  pub one_keeps : (old new : D) → Keeps (state old) (state new) → KeepsDevice one_disk old new
  one_keeps old new keeps =
      record { stays_honest = keeps.stays_honest; was_honest = keeps.was_honest; counted = keeps.counted }

  -- where calls write nothing, what held of each image before holds at each moment of them
  pub one_rests : (old new : D) (P : List ℕ → Type 0)
      → LeavesOnly (state old) (state new) (state old).may_leave → Disks.Each (state old) P
      → LeavesOnly (state old) (state new) P
  one_rests old new P quiet shows = Moments.weakened (state old) (state new) (state old).may_leave P quiet shows

  -- two disks, whose images are pairs, one image of each (own)
  abbrev pub two_disks : Device Images
  two_disks = record {
    State = TwoDisks D;
    honest = AreHonest state;
    sound = AreDisks state;
    failures = failures_of state;
    each = EachOfTwo state;
    leaves = TwoLeave state;
  }

  -- two disks are a device (own)
  pub two_is_device : IsDevice two_disks
  two_is_device = record {
    no_call = λ now P are_disks here. Twos.two_rest_still state now P here;
    in_sequence = Twos.two_in_sequence state;
    weakened = Twos.two_weakened state;
    holds_now = Twos.two_hold_now state;
    each_weakened = Twos.each_weakened state;
  }

  -- the laws of both disks, as laws of their device
  pub two_keep : (old new : TwoDisks D) → KeepsDisks state old new → KeepsDevice two_disks old new
  two_keep old new keeps =
      record {
        stays_honest = λ honest. (keeps.0.stays_honest honest.0, keeps.1.stays_honest honest.1);
        was_honest = λ honest. (keeps.0.was_honest honest.0, keeps.1.was_honest honest.1);
        counted = Twos.counted_of_two state old new keeps;
      }

  -- where calls write nothing, what held of each pair of images before holds at each moment of them
  pub two_rest : (old new : TwoDisks D) (P : Images → Type 0) → TwoLeave state old new (MayLeave state old)
      → EachOfTwo state old P → TwoLeave state old new P
  two_rest old new P quiet shows = Twos.still_leave state old new P quiet shows
