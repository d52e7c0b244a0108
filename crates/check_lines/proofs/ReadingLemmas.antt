-- Blocks that are read one after another.
use Rattle.std.proofs.Common.{◌≡◌, ◌∙◌, ◌+◌, ◌++◌, ℕ, zero, suc, List, [], ◌∷◌, flat_map, length, take, false, Option, Some, None, Result, Ok, Err, OnOk, IfErr, refl, subst, sym, ap, arith}
use Rattle.std.specs.Prelude.{IfSome, slice_get}
use Rattle.std.proofs.lemmas.List.{append_assoc, append-nil}
use Rattle.vtl_base.specs.declared.faults.DevFault.{DevFault}
use Rattle.volume_core.specs.declared.objects.Kind.TheVariants as Kinds
use Rattle.volume_core.specs.declared.objects.Object.{Object}
use Rattle.volume_core.specs.declared.objects.Object.TheVariants.{Block, Mark}
use Rattle.volume_core.specs.Volume.{Part, block_in, kind_in, objects_of}
use Rattle.tape_disk.specs.Disk.{DiskCall, DiskState, IsDisk, Keeps}
use Rattle.tape_disk.specs.TwoDisks.{AreHonest, EachOfTwo, KeepsDisks, MayLeave, TwoDisks, TwoLeave, failures_of, two_hold_now, two_in_sequence, two_rest_still, two_weakened}
use Rattle.cartridge_sides.specs.declared.which.Which.{Which}
use Rattle.cartridge.specs.Contents.{Contents, volume_made}
use Rattle.cartridge.specs.Disks.{NoneOfTwo, ReadsSide, UnwrittenTwo}
use Rattle.cartridge.specs.State.{OpenCartridge}
use Rattle.vtl_faults.specs.declared.faults.VtlFault.{VtlFault}
use Rattle.vtl_faults.specs.declared.faults.VtlFault.TheVariants.{Words, Config, Script, Frame, Device, NoMemory}
use Rattle.check_lines.specs.Reading.{IsNotRead, IsRead, ReadsEach, length_if_block, block_lengths, block_length_at, length_in, lengths_in}

-- the lengths of one object more
pub more_lengths : (objects : List Object) (n : ℕ)
    → block_lengths (take (suc n) objects) ≡ block_lengths (take n objects) ++ length_in (slice_get objects n)
more_lengths [] zero = refl
more_lengths [] (suc n) = refl
more_lengths (o ∷ os) zero = append-nil (length_if_block o)
more_lengths (o ∷ os) (suc n) =
    ap (λ (l : List ℕ). length_if_block o ++ l) (more_lengths os n)
    ∙ sym (append_assoc (length_if_block o) (block_lengths (take n os)) (length_in (slice_get os n)))

-- the lengths of one partition more
pub more_parts : (volume : List Part) (n : ℕ)
    → lengths_in (take (suc n) volume) ≡ lengths_in (take n volume) ++ block_lengths (objects_of volume n)
more_parts [] zero = refl
more_parts [] (suc n) = refl
more_parts (p ∷ ps) zero = append-nil (block_lengths p.objects)
more_parts (p ∷ ps) (suc n) =
    ap (λ (l : List ℕ). block_lengths p.objects ++ l) (more_parts ps n)
    ∙ sym (append_assoc (block_lengths p.objects) (lengths_in (take n ps)) (block_lengths (objects_of ps n)))

module _ {D : Type 0} (effect : DiskCall → Result Unit DevFault → D → D → Type 0) (which : Which) where
  -- reads after reads
  pub reads_then : (xs ys : List ℕ) (a b c : TwoDisks D) → ReadsEach effect which xs a b → ReadsEach effect which ys b c
      → ReadsEach effect which (xs ++ ys) a c
  reads_then [] ys a b c same second = subst (λ (d : TwoDisks D). ReadsEach effect which ys d c) same second
  reads_then (x ∷ xs) ys a b c first second =
      (first.0, first.1, reads_then xs ys first.0 b c first.2 second)

  -- an object that was fetched
  pub block_read : (found : Option Object) (a b : TwoDisks D) → kind_in found ≡ Some Kinds.Block
      → IfSome (block_in found) (λ block. ReadsSide effect which (length block) a b)
      → ReadsEach effect which (length_in found) a b
  block_read None a b is reads = absurd (cc)
  block_read (Some Mark) a b is reads = absurd (cc)
  block_read (Some (Block bytes)) a b is reads = (b, reads, refl)

keeps_on : (a b c : DiskState) → Keeps a b → Keeps b c → Keeps a c
keeps_on a b c first second = record {
  stays_honest = λ honest. second.stays_honest (first.stays_honest honest);
  was_honest = λ honest. first.was_honest (second.was_honest honest);
  counted = omega (arith, first.counted, second.counted);
}

keeps_still : (a : DiskState) → Keeps a a
keeps_still a = record {
  stays_honest = λ honest. honest;
  was_honest = λ honest. honest;
  counted = omega arith;
}

module _ {D : Type 0} (state : D → DiskState) where
  pub unwritten_still : (a : TwoDisks D) → UnwrittenTwo state a a
  unwritten_still a = record {
    seen = refl;
    images = λ images left. left;
    moments = two_rest_still state a (MayLeave state a) (λ images left. left);
  }

  pub unwritten_on : (a b c : TwoDisks D) → UnwrittenTwo state a b → UnwrittenTwo state b c → UnwrittenTwo state a c
  unwritten_on a b c first second = record {
    seen = second.seen ∙ first.seen;
    images = λ images left. first.images images (second.images images left);
    moments = two_in_sequence state a b c (MayLeave state a) first.moments
        (two_weakened state b c (MayLeave state b) (MayLeave state a) second.moments first.images);
  }

  pub both_kept : (a b c : TwoDisks D) → KeepsDisks state a b → KeepsDisks state b c → KeepsDisks state a c
  both_kept a b c first second = (
    keeps_on (state a.first) (state b.first) (state c.first) first.0 second.0,
    keeps_on (state a.second) (state b.second) (state c.second) first.1 second.1,
  )

  pub none_of_both : (a b c : TwoDisks D) → NoneOfTwo state a b → NoneOfTwo state b c → NoneOfTwo state a c
  none_of_both a b c first second = (second.0 ∙ first.0, second.1 ∙ first.1)

  cause_on : (a b c : TwoDisks D) (fault : VtlFault) → NoneOfTwo state a b → IsNotRead state fault b c
      → IsNotRead state fault a c
  cause_on a b c Device none why = omega (arith, none.0, none.1, why)
  cause_on a b c NoMemory none why = none_of_both a b c none why
  cause_on a b c Words none why = absurd why
  cause_on a b c Config none why = absurd why
  cause_on a b c (Script line) none why = absurd why
  cause_on a b c (Frame number) none why = absurd why

  module _ (effect : DiskCall → Result Unit DevFault → D → D → Type 0) where
    -- nothing was to be read
    pub none_read : (held : OpenCartridge D) (lengths : List ℕ) → held.failed ≡ false
        → ReadsEach effect held.contents.which lengths held.disks held.disks
        → IsRead state effect lengths held held (Ok tt)
    none_read held lengths awake each = record {
      disks = (keeps_still (state held.disks.first), keeps_still (state held.disks.second));
      contents = refl;
      awake = awake;
      none_failed = (refl, refl);
      each = each;
      cause = tt;
      unwritten = λ honest. unwritten_still held.disks;
    }

    -- more was read
    pub read_on : (a b c : OpenCartridge D) (xs ys : List ℕ) (result : Result (Unit {0}) VtlFault)
        → IsRead state effect xs a b (Ok tt) → IsRead state effect ys b c result
        → IsRead state effect (xs ++ ys) a c result
    read_on a b c xs ys (Ok done) first second = record {
      disks = both_kept a.disks b.disks c.disks first.disks second.disks;
      contents = second.contents ∙ first.contents;
      awake = second.awake;
      none_failed = none_of_both a.disks b.disks c.disks first.none_failed second.none_failed;
      each = reads_then effect a.contents.which xs ys a.disks b.disks c.disks first.each
          (subst (λ (held : Contents). ReadsEach effect held.which ys b.disks c.disks) first.contents second.each);
      cause = tt;
      unwritten = λ honest. unwritten_on a.disks b.disks c.disks (first.unwritten honest)
          (second.unwritten (first.disks.0.stays_honest honest.0, first.disks.1.stays_honest honest.1));
    }
    read_on a b c xs ys (Err fault) first second = record {
      disks = both_kept a.disks b.disks c.disks first.disks second.disks;
      contents = second.contents ∙ first.contents;
      awake = tt;
      none_failed = tt;
      each = tt;
      cause = cause_on a.disks b.disks c.disks fault first.none_failed second.cause;
      unwritten = λ honest. unwritten_on a.disks b.disks c.disks (first.unwritten honest)
          (second.unwritten (first.disks.0.stays_honest honest.0, first.disks.1.stays_honest honest.1));
    }

    -- the fault does not depend on what was still to be read
    pub not_read : (a b : OpenCartridge D) (xs ys : List ℕ) (fault : VtlFault) → IsRead state effect xs a b (Err fault)
        → IsRead state effect ys a b (Err fault)
    not_read a b xs ys fault done = record {
      disks = done.disks;
      contents = done.contents;
      awake = tt;
      none_failed = tt;
      each = tt;
      cause = done.cause;
      unwritten = done.unwritten;
    }

    -- as many as there are
    pub as_long : (a b : OpenCartridge D) (xs ys : List ℕ) (result : Result (Unit {0}) VtlFault) → xs ≡ ys
        → IsRead state effect xs a b result → IsRead state effect ys a b result
    as_long a b xs ys result same done =
        subst (λ (lengths : List ℕ). IsRead state effect lengths a b result) same done

    -- one object of a partition more
    pub object_on : (a b c : OpenCartridge D) (part n : ℕ)
        → IsRead state effect (block_lengths (take n (objects_of (volume_made a.contents) part))) a b (Ok tt)
        → IsRead state effect (block_length_at (volume_made b.contents) part n) b c (Ok tt)
        → IsRead state effect (block_lengths (take (n + 1) (objects_of (volume_made a.contents) part))) a c (Ok tt)
    object_on a b c part n first second =
        let objects = objects_of (volume_made a.contents) part in
        let on : n + 1 ≡ suc n = omega arith in
        as_long a c (block_lengths (take n objects) ++ block_length_at (volume_made a.contents) part n)
        (block_lengths (take (n + 1) objects)) (Ok tt)
        (sym (more_lengths objects n) ∙ ap (λ (k : ℕ). block_lengths (take k objects)) (sym on))
        (read_on a b c (block_lengths (take n objects)) (block_length_at (volume_made a.contents) part n) (Ok tt) first
        (subst (λ (held : Contents). IsRead state effect (block_length_at (volume_made held) part n) b c (Ok tt))
        first.contents second))

    -- one partition more
    pub part_on : (a b c : OpenCartridge D) (n : ℕ)
        → IsRead state effect (lengths_in (take n (volume_made a.contents))) a b (Ok tt)
        → IsRead state effect (block_lengths (objects_of (volume_made b.contents) n)) b c (Ok tt)
        → IsRead state effect (lengths_in (take (n + 1) (volume_made a.contents))) a c (Ok tt)
    part_on a b c n first second =
        let volume = volume_made a.contents in
        let on : n + 1 ≡ suc n = omega arith in
        as_long a c (lengths_in (take n volume) ++ block_lengths (objects_of volume n))
        (lengths_in (take (n + 1) volume)) (Ok tt)
        (sym (more_parts volume n) ∙ ap (λ (k : ℕ). lengths_in (take k volume)) (sym on))
        (read_on a b c (lengths_in (take n volume)) (block_lengths (objects_of volume n)) (Ok tt) first
        (subst
        (λ (held : Contents). IsRead state effect (block_lengths (objects_of (volume_made held) n)) b c (Ok tt))
        first.contents second))

    -- a fault behind what was read
    pub fault_on : (a b c : OpenCartridge D) (xs ys wanted : List ℕ) (fault : VtlFault)
        → IsRead state effect xs a b (Ok tt) → IsRead state effect ys b c (Err fault)
        → IsRead state effect wanted a c (Err fault)
    fault_on a b c xs ys wanted fault first second =
        not_read a c (xs ++ ys) wanted fault (read_on a b c xs ys (Err fault) first second)

  -- where nothing is written behind a run, a crash leaves nothing new
  pub moments_on : (a b c : TwoDisks D) → ((disk : D) → (state disk).honest → IsDisk (state disk))
      → KeepsDisks state a b → AreHonest state a → TwoLeave state a b (MayLeave state a)
      → (AreHonest state b → UnwrittenTwo state b c) → TwoLeave state a c (MayLeave state a)
  moments_on a b c is_disk keeps honest first quiet =
      let held : AreHonest state b = (keeps.0.stays_honest honest.0, keeps.1.stays_honest honest.1) in
      let here : EachOfTwo state b (MayLeave state a) =
      two_hold_now state a b (MayLeave state a) (is_disk b.first held.0, is_disk b.second held.1) first in
      two_in_sequence state a b c (MayLeave state a) first
      (two_weakened state b c (MayLeave state b) (MayLeave state a) (quiet held).moments here)
