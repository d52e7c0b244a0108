-- Loaded media that are seen alike, and work that has one answer on them.
use Rattle.std.proofs.Common.{◌≡◌, List, None, Ok, true, false, not, ◌&&◌, sym, ◌∙◌, ap, subst, refl}
use Rattle.scsi_sense.specs.declared.replies.Reply.{Reply}
use Rattle.volume_core.specs.declared.changes.Change.{Change}
use Rattle.volume_core.specs.Volume.{Part}
use Rattle.volume_core.specs.Medium.{MediumState, Works}
use Rattle.positioning.specs.declared.positions.Pos.{Pos}
use Rattle.drive_commands.specs.State.{Mounted, mounted, contents_of}
use Rattle.drive_commands.specs.Relations.{MediumRelation, Idles}
use Rattle.drive_commands.specs.StoredFirst.{StoredFirst, GoesTo}
use Rattle.drive_commands.specs.Determined.{IsSureSight, Sight, sight_of, side_sight}

-- loaded media that are seen alike, at one position; where something holds, it is sure what their sides give
pub record MountedAlike (S : Type 0) (m m' : Mounted) : Type 0 where
  pub sights : sight_of m.medium ≡ sight_of m'.medium
  pub positions : m.position ≡ m'.position
  pub sure : S → IsSureSight (sight_of m.medium)

-- one reply, one list of changes, and loaded media that are seen alike
pub record Agrees (S : Type 0) (reply reply' : Reply) (made made' : List Change) (m m' : Mounted) : Type 0 where
  pub replies : reply ≡ reply'
  pub changes : made ≡ made'
  pub left : MountedAlike S m m'

-- from such media, the work has one reply, and leaves media that are seen alike
abbrev pub IsDetermined : Type 0 → MediumRelation → Type 0
IsDetermined S W =
    (old old' : Mounted) (reply reply' : Reply) (made made' : List Change) (m m' : Mounted)
    → MountedAlike S old old' → W old (Ok reply) made m → W old' (Ok reply') made' m'
    → Agrees S reply reply' made made' m m'

-- an awake medium that works, as it is seen
abbrev pub working_sight : List Part → Sight
working_sight volume = record { awake = true; volume = volume; failed = false; side = None }

-- a medium that works is seen by its volume alone
pub works_sight : (volume : List Part) (medium : MediumState) → Works volume medium
    → sight_of medium ≡ working_sight volume
works_sight volume medium h = λ i. record {
  awake = h.awake i;
  volume = h.volume_is i;
  failed = h.works i;
  side = side_sight (h.awake i && not (h.works i)) medium;
}

-- and it is sure what its side gives
pub works_sure : (volume : List Part) (medium : MediumState) → Works volume medium → IsSureSight (sight_of medium)
works_sure volume medium h = subst IsSureSight (sym (works_sight volume medium h)) refl

pub works_alike : (v v' : List Part) (t u : MediumState) → v ≡ v' → Works v t → Works v' u → sight_of t ≡ sight_of u
works_alike v v' t u e h k = works_sight v t h ∙ ap working_sight e ∙ sym (works_sight v' u k)

pub contents_alike : (S : Type 0) (m m' : Mounted) → MountedAlike S m m' → contents_of m ≡ contents_of m'
contents_alike S m m' e = ap (λ (x : Sight). x.volume) e.sights

-- what is equal to media that are seen alike is seen alike
pub alike_by : (S : Type 0) (m m' a a' : Mounted) → m ≡ a → m' ≡ a' → MountedAlike S a a' → MountedAlike S m m'
alike_by S m m' a a' h k e = record {
  sights = ap (λ (x : Mounted). sight_of x.medium) h ∙ e.sights ∙ sym (ap (λ (x : Mounted). sight_of x.medium) k);
  positions = ap (λ (x : Mounted). x.position) h ∙ e.positions ∙ sym (ap (λ (x : Mounted). x.position) k);
  sure = λ s. subst (λ (x : Mounted). IsSureSight (sight_of x.medium)) (sym h) (e.sure s);
}

-- GOOD and a position
pub goes_to : (S : Type 0) (where_to : Mounted → Pos)
    → ((m m' : Mounted) → MountedAlike S m m' → where_to m ≡ where_to m') → IsDetermined S (GoesTo where_to)
goes_to S where_to same old old' reply reply' made made' m m' e h k = record {
  replies = cc (h.0, k.0);
  changes = h.1 ∙ sym k.1;
  left =
      alike_by S m m' (record old { position = where_to old }) (record old' { position = where_to old' }) h.2 k.2
      (record { sights = e.sights; positions = same old old' e; sure = e.sure });
}

-- nothing done
pub idles : (S : Type 0) → IsDetermined S Idles
idles S old old' reply reply' made made' m m' e h k = record {
  replies = cc (h.0, k.0);
  changes = h.1 ∙ sym k.1;
  left = alike_by S m m' old old' h.2 k.2 e;
}

-- what is pending is stored, and then the work is done
pub stored_first : (S : Type 0) (W : MediumRelation) → IsDetermined S W → IsDetermined S (StoredFirst W)
stored_first S W determined old old' reply reply' made made' m m' e h k =
    let sights : sight_of h.0 ≡ sight_of k.0 =
    works_alike (contents_of old) (contents_of old') h.0 k.0 (contents_alike S old old' e) h.1.works k.1.works in
    determined (mounted h.0 old.position) (mounted k.0 old'.position) reply reply' made made' m m'
    (record { sights = sights; positions = e.positions; sure = λ s. works_sure (contents_of old) h.0 h.1.works }) h.2
    k.2
