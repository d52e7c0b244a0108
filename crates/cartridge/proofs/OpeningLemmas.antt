-- What is recovered of a side, a body after the other.
use Rattle.std.proofs.Common.{◌≡◌, ℕ, ◌<◌, List, [], ◌∷◌, ◌++◌, length, take, map, Option, Bool, true, false, refl, sym, ◌∙◌, ap, subst, arith, length-append}
use Rattle.std.specs.Prelude.{IsTrue, slice_index_or, unwrap_or}
use Rattle.std.specs.List.{All, list_all}
use Rattle.std.proofs.lemmas.Bool.{and_from}
use Rattle.std.proofs.lemmas.List.{length-map, length-take-le}
use Rattle.std.proofs.lemmas.List.Elements.{All-head, All-nil, All-tail}
use Rattle.volume_core.specs.declared.changes.Change.{Change}
use Rattle.std.proofs.lemmas.Grind.{common_steps}
use Rattle.gate_journal.specs.declared.header.SideKind.{SideKind}
use Rattle.gate_journal.specs.declared.header.SideKind.TheVariants.{Cartridge}
use Rattle.vtl_base.specs.Limits.{is_capacity}
use Rattle.volume_core.specs.Volume.{Part, AllApply, after, are_capacities, empty_volume}
use Rattle.gate_journal.specs.Decoding.{TakesPiece}
use Rattle.gate_journal.specs.Heads.{Head}
use Rattle.gate_journal.specs.Side.{Heading, IsCount, IsHeading}
use Rattle.cartridge_sides.specs.Pairs.{gate_behind}
use Rattle.change_records.specs.Records.{IsRecord, spell_all}
use Rattle.change_records.specs.ChangesOn.{changes_on, changes_on_is}
use Rattle.object_index.specs.Places.{PlacedPart, empty_placed}
use Rattle.change_records.specs.Readers.{ReaderState}
use Rattle.object_index.specs.Indexes.{Indexes, indexes_empty}
use Rattle.cartridge.specs.Contents.{AreGood, IsBadFrame, bodies_of, changes_of, volume_made}
use Rattle.cartridge.specs.Notes.{Notes, noted_contents, with_frame}
use Rattle.cartridge.specs.Lying.{LiesIn, LiesOnSide}
use Rattle.cartridge.specs.Inner.Reading.{BehindEach, HasRead, IsBadBody, IsWithinBody, Walks, WalksTo}
use Rattle.cartridge.specs.Extending.{bodies_more, contents_more, volume_more}

module _ (index : List PlacedPart) (notes : Notes) (heading : Heading) (extents : List (ℕ × ℕ))
    (bodies : List (List ℕ)) (so_far : HasRead index notes heading extents bodies) where
  as_many : length extents ≡ length bodies
  as_many =
      so_far.is_open.counted ∙ sym (length-map notes.frames spell_all) ∙ ap (λ (b : List (List ℕ)). length b) (sym
      so_far.spelled)

  lies_there : Indexes (LiesIn bodies extents) (volume_made (noted_contents notes)) index
  lies_there =
      subst (λ (b : List (List ℕ)). Indexes (LiesIn b extents) (volume_made (noted_contents notes)) index)
      (sym so_far.spelled) so_far.is_open.lies

  -- a body that spells no changes that apply is bad
  pub refused_behind : (index' : List PlacedPart) (place : ℕ) (body : List ℕ)
      → BehindEach place body index (λ volume P. WalksTo false body volume P index')
      → IsBadBody (volume_made (noted_contents notes)) body
  refused_behind index' place body walked =
      walked (volume_made (noted_contents notes)) bodies extents as_many lies_there

  -- one that spells changes is read behind the others, with these noted
  pub read_behind : (index' : List PlacedPart) (notes' : Notes) (place : ℕ) (body : List ℕ)
      → BehindEach place body index (λ volume P. WalksTo true body volume P index')
      → notes' ≡ with_frame notes (unwrap_or (changes_on body) [])
      → HasRead index' notes' heading (extents ++ (place, length body) ∷ []) (bodies ++ body ∷ [])
  read_behind index' notes' place body walked notes_are =
      subst (λ (n : Notes). HasRead index' n heading (extents ++ (place, length body) ∷ []) (bodies ++ body ∷ []))
      (sym noted) (record {
        is_open = record {
          heading_is = so_far.is_open.heading_is;
          contents = contents_more (noted_contents notes) good.0 so_far.is_open.contents good.1.0 good.2;
          at_rest = so_far.is_open.at_rest;
          counted =
              omega (
                arith,
                so_far.is_open.counted,
                length-append extents ((place, length body) ∷ []),
                length-append notes.frames (good.0 ∷ []),
              );
          lies =
              subst
              (λ (x : List (List ℕ) × List Part). Indexes (LiesIn x.0 (extents ++ (place, length body) ∷ [])) x.1
              index') (λ i. (spelled_so i, sym (volume_more (noted_contents notes) good.0) i)) good.3;
        };
        spelled = spelled_so;
      })
    where
      good : WalksTo true body (volume_made (noted_contents notes))
          (LiesIn (bodies ++ body ∷ []) (extents ++ (place, length body) ∷ [])) index'
      good = walked (volume_made (noted_contents notes)) bodies extents as_many lies_there

      noted : notes' ≡ with_frame notes good.0
      noted =
          notes_are
          ∙ ap (λ (o : Option (List Change)). with_frame notes (unwrap_or o [])) (changes_on_is body good.0 good.1)

      spelled_so : bodies ++ body ∷ [] ≡ bodies_of (with_frame notes good.0).frames
      spelled_so =
          (λ i. so_far.spelled i ++ good.1.1 i ∷ []) ∙ sym (bodies_more (noted_contents notes) good.0)

  -- the body behind those that were read is the first bad one of a side that has it
  pub bad_frame : (head : Head) (all : List (List ℕ)) (good at : ℕ) → head.heading ≡ heading
      → bodies ≡ take good all → good < length all → at ≡ gate_behind head (take good all)
      → IsBadBody (volume_made (noted_contents notes)) (slice_index_or all good [])
      → IsBadFrame head all notes.frames at
  bad_frame head all good at same read inside at_is bad = record {
    inside = omega (arith, inside, counted);
    before =
        subst (λ (capacities : List ℕ). AreGood capacities notes.frames) capacities_are
        (record { records = so_far.is_open.contents.records; apply = so_far.is_open.contents.apply });
    spelled = sym so_far.spelled ∙ read ∙ ap (λ (n : ℕ). take n all) (sym counted);
    gate = at_is ∙ ap (λ (b : List (List ℕ)). gate_behind head b) (sym read ∙ so_far.spelled);
    bad = λ changes records is apply.
        bad changes records (ap (λ (n : ℕ). slice_index_or all n []) (sym counted) ∙ is)
        (subst (λ (capacities : List ℕ). AllApply (after (empty_volume capacities) (changes_of notes.frames)) changes)
        (sym capacities_are) apply);
  }
    where
      capacities_are : notes.heading.capacities ≡ head.heading.capacities
      capacities_are = ap (λ (h : Heading). h.capacities) (sym so_far.is_open.heading_is ∙ sym same)

      counted : length notes.frames ≡ good
      counted =
          omega (
            arith,
            inside,
            length-map notes.frames spell_all,
            ap (λ (b : List (List ℕ)). length b) (sym so_far.spelled ∙ read),
            length-take-le good all (omega (arith, inside)),
          )

-- the next bytes of a body are taken, or it is bad, by what is indexed, noted and read of a decoder
module _ {T : Type 0} (index : T → List PlacedPart) (notes : T → Notes) (reader : T → ReaderState) where
  pub piece_taken : (good : Bool) (start old new : T) (place : ℕ) (so_far bytes : List ℕ) → notes new ≡ notes old
      → IsWithinBody (index start) (notes start) (index old) (notes old) (reader old) place so_far
      → Walks good (index start) place bytes (index new) (reader new)
      → TakesPiece (λ (d : T). HasRead (index d) (notes d))
      (λ (d : T). IsBadBody (volume_made (noted_contents (notes d))))
      (λ (s d : T). IsWithinBody (index s) (notes s) (index d) (notes d) (reader d)) good start new place bytes
  piece_taken true start old new place so_far bytes same within walks = record {
    notes_same = same ∙ within.notes_same;
    walked = walks;
  }
  piece_taken false start old new place so_far bytes same within walks =
      λ heading extents bodies had more.
      refused_behind (index start) (notes start) heading extents bodies had (index new) place (bytes ++ more)
      (walks more)

-- no frame was read
pub read_none : (heading : Heading) (index : List PlacedPart) (notes : Notes) → heading.kind ≡ Cartridge
    → IsHeading heading → index ≡ map empty_placed heading.capacities
    → notes ≡ record { heading = heading; frames = []; torn = [] }
    → HasRead index notes heading [] []
read_none heading index notes kind valid index_is notes_are =
    subst (λ (x : Notes × List PlacedPart). HasRead x.1 x.0 heading [] [])
    (λ i. (sym notes_are i, sym index_is i)) (record {
      is_open = record {
        heading_is = refl;
        contents = record {
          kind = kind;
          spelled = record { heading = valid; copied = tt };
          base = refl;
          records = All-nil (All IsRecord);
          apply = tt;
          copied = omega arith;
        };
        at_rest = λ fine. refl;
        counted = refl;
        lies = indexes_empty (LiesOnSide (record { heading = heading; frames = []; torn = [] }) []) heading.capacities;
      };
      spelled = refl;
    })

all_capacities : (capacities : List ℕ) → All (λ bytes. IsTrue (is_capacity bytes)) capacities
    → IsTrue (list_all is_capacity capacities)
all_capacities [] all = refl
all_capacities (c ∷ cs) all =
    and_from (is_capacity c) (list_all is_capacity cs) (All-head (λ bytes. IsTrue (is_capacity bytes)) c cs all)
    (all_capacities cs (All-tail (λ bytes. IsTrue (is_capacity bytes)) c cs all))

-- the capacities of a cartridge's header are those of a volume
pub capacities_fit : (heading : Heading) → IsHeading heading → heading.kind ≡ Cartridge
    → IsTrue (are_capacities heading.capacities)
capacities_fit heading is kind =
    let count : IsCount Cartridge (length heading.capacities) =
    subst (λ (k : SideKind). IsCount k (length heading.capacities)) kind is.count in
    let each : IsTrue (list_all is_capacity heading.capacities) =
    all_capacities heading.capacities is.capacities in
    grind (arith, common_steps)
