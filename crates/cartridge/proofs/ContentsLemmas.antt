-- A side's contents with one frame more.
use Rattle.std.proofs.Common.{◌≡◌, inl, inr, ℕ, List, [], ◌∷◌, ◌++◌, sym, ◌∙◌, ap, subst}
use Rattle.tape_disk.specs.Disk.{DiskState}
use Rattle.tape_disk.specs.Moments.{LeavesOnly, weakened}
use Rattle.volume_core.specs.declared.changes.Change.{Change}
use Rattle.gate_journal.specs.Side.{Front, StandsFor}
use Rattle.gate_journal.specs.Crash.{WithOrWithout}
use Rattle.change_records.specs.Records.{spell_all}
use Rattle.cartridge.specs.Contents.{Contents, IsContents, bodies_of, with_frames}
use Rattle.cartridge.specs.Extending.{bodies_more}
use Rattle.cartridge.specs.Inner.Open.{SideGives, SideShows}

module _ (contents : Contents) (changes : List Change) where
  module _ (is : IsContents contents) (more : IsContents (with_frames contents (changes ∷ [])))
      (front : Front) (bodies : List (List ℕ)) (bodies_are : bodies ≡ bodies_of contents.frames)
      (body : List ℕ) (body_is : body ≡ spell_all changes) where
    pub is_bodies_more : bodies ++ body ∷ [] ≡ bodies_of (with_frames contents (changes ∷ [])).frames
    is_bodies_more =
        ap (λ (b : List (List ℕ) × List ℕ). b.0 ++ b.1 ∷ []) (λ k. (bodies_are k, body_is k)) ∙ sym
        (bodies_more contents changes)

    -- a side that stands for the bodies with the new one gives the contents with the frame
    pub gives_more : (image : List ℕ) → StandsFor front (bodies ++ body ∷ []) image
        → SideGives front (with_frames contents (changes ∷ [])) image
    gives_more image s = (more, subst (λ (b : List (List ℕ)). StandsFor front b image) is_bodies_more s)

    -- with or without the body, the image shows the contents or these with the frame
    either : (image : List ℕ) → WithOrWithout front bodies body image → SideShows front contents (changes ∷ []) image
    either image (inl s) = inl (is, subst (λ (b : List (List ℕ)). StandsFor front b image) bodies_are s)
    either image (inr s) = inr (gives_more image s)

    pub moments : (old new : DiskState) → LeavesOnly old new (WithOrWithout front bodies body)
        → LeavesOnly old new (SideShows front contents (changes ∷ []))
    moments old new run =
        weakened old new (WithOrWithout front bodies body) (SideShows front contents (changes ∷ [])) run either
