-- The one text of each pair of images.
use Rattle.std.proofs.Common.{◌≡◌, ◌⊎◌, inl, inr, ℕ, suc, ◌-◌, List, [], ◌∷◌, ◌++◌, length, take, get_or, replicate, codes, refl, sym, ap, ◌∙◌, subst, arith, Option}
use Rattle.std.proofs.Math.Seq.{take-append_seam}
use Rattle.tape_disk.specs.TwoDisks.{Images}
use Rattle.gate_journal.specs.declared.header.SideKind.{SideKind}
use Rattle.gate_journal.specs.declared.header.SideKind.TheVariants.{Cartridge, Store}
use Rattle.gate_journal.specs.declared.heads.Copied.{Copied}
use Rattle.gate_journal.specs.Heads.{Head}
use Rattle.gate_journal.specs.Side.{BeginsAs, Heading, IsDamagedOf, IsName, StandsFor, digits, mark, padded, plain, spell}
use Rattle.cartridge_sides.specs.declared.which.Which.{Which}
use Rattle.cartridge_sides.specs.declared.which.Which.TheVariants.{First, Second}
use Rattle.cartridge_sides.specs.Pairs.{SideCounts}
use Rattle.pr_core.specs.declared.states.PrState.{PrState}
use Rattle.pr_core.specs.States.{power_loss}
use Rattle.cartridge.specs.Contents.{Contents, GivesContents, IsAnswered, IsBadFrameAt, IsDamagedPairAt, IsNoCartridge, volume_made}
use Rattle.aptpl_store.specs.Contents.{AreAllSavedAlike, GivesStates, IsBadStateAt, IsNoStore, IsStoreAnswered, OpensAs, latest}
use Rattle.check_lines.specs.SideText.{SideText, PrintsContents, PrintsStates, bad_record_line, cartridge_line, damaged_line, not_a_side_line, partition_lines, registrations_in, store_line}
use Rattle.check_lines.proofs.SideTextLemmas.{HasNoSpace, at_end, drive_text_no_space, symbols_no_space}

-- two names that are one have one text
one_name : (name a b : List ℕ) → HasNoSpace a → HasNoSpace b → name ≡ padded a → name ≡ padded b → a ≡ b
one_name name a b is_a is_b e f =
    sym (take-append_seam a (replicate (16 - length a) 32)) ∙ ap (take (length a)) (sym e ∙ f)
    ∙ ap (λ (n : ℕ). take n (padded b)) (sym (at_end name a is_a e) ∙ at_end name b is_b f)
    ∙ take-append_seam b (replicate (16 - length b) 32)

-- one cartridge's contents have one text
contents_once : (contents : Contents) (a b : List ℕ) → PrintsContents contents a → PrintsContents contents b → a ≡ b
contents_once contents a b one other =
    one.lines
    ∙ ap (λ (barcode : List ℕ). cartridge_line barcode (length (volume_made contents)) (length contents.frames)
    ++ partition_lines (volume_made contents))
    (one_name contents.head.heading.name one.barcode other.barcode (symbols_no_space one.barcode one.is_barcode)
    (symbols_no_space other.barcode other.is_barcode) one.named other.named)
    ∙ sym other.lines

-- the laws of cartridges and of stores, by which a pair of images has one text
pub record HaveOneAnswer : Type 0 where
  pub contents : (images : Images) (a b : Contents) → GivesContents a images → GivesContents b images → a ≡ b
  pub counts : (images : Images) (contents : Contents) → GivesContents contents images → IsNoCartridge images → ⊥
  pub whole : (images : Images) (contents : Contents) (at : ℕ)
      → GivesContents contents images → IsDamagedPairAt images at → ⊥
  pub good : (images : Images) (contents : Contents) (at : ℕ)
      → GivesContents contents images → IsBadFrameAt images at → ⊥
  pub bad_once : (images : Images) (a b : ℕ) → IsBadFrameAt images a → IsBadFrameAt images b → a ≡ b
  pub none_damaged : (images : Images) (at : ℕ) → IsNoCartridge images → IsDamagedPairAt images at → ⊥
  pub none_bad : (images : Images) (at : ℕ) → IsNoCartridge images → IsBadFrameAt images at → ⊥
  pub damaged_bad : (images : Images) (a b : ℕ) → IsDamagedPairAt images a → IsBadFrameAt images b → ⊥
  pub damaged_once : (images : Images) (a b : ℕ) → IsDamagedPairAt images a → IsDamagedPairAt images b → a ≡ b
  pub states : (image : List ℕ) (h k : Heading) (states others : List PrState)
      → GivesStates h states image → GivesStates k others image → (h ≡ k) × AreAllSavedAlike states others
  pub opens : (image : List ℕ) (h k : Heading) (one other : PrState)
      → OpensAs h one image → OpensAs k other image → (h ≡ k) × (one ≡ other)
  pub store_counts : (image : List ℕ) (h : Heading) (states : List PrState)
      → GivesStates h states image → IsNoStore image → ⊥
  pub store_whole : (image : List ℕ) (h : Heading) (states : List PrState) (at : ℕ)
      → GivesStates h states image → IsDamagedOf Store image at → ⊥
  pub store_good : (image : List ℕ) (h : Heading) (states : List PrState) (at : ℕ)
      → GivesStates h states image → IsBadStateAt image at → ⊥
  pub store_bad_once : (image : List ℕ) (a b : ℕ) → IsBadStateAt image a → IsBadStateAt image b → a ≡ b
  pub store_none_damaged : (image : List ℕ) (at : ℕ) → IsNoStore image → IsDamagedOf Store image at → ⊥
  pub store_none_bad : (image : List ℕ) (at : ℕ) → IsNoStore image → IsBadStateAt image at → ⊥
  pub store_damaged_bad : (image : List ℕ) (a b : ℕ) → IsDamagedOf Store image a → IsBadStateAt image b → ⊥
  pub store_damaged_once : (image : List ℕ) (a b : ℕ) → IsDamagedOf Store image a → IsDamagedOf Store image b → a ≡ b

-- what is printed of a pair of which a side counts; of a first image that is a store's; of any other pair
abbrev OfCartridge : Images → List ℕ → Type 0
OfCartridge images text =
    ((contents : Contents) × GivesContents contents images × PrintsContents contents text)
    ⊎ (((at : ℕ) × IsDamagedPairAt images at × (text ≡ damaged_line at))
    ⊎ ((at : ℕ) × IsBadFrameAt images at × (text ≡ bad_record_line at)))

abbrev OfStore : List ℕ → List ℕ → Type 0
OfStore image text =
    ((heading : Heading) × (states : List PrState) × GivesStates heading states image
    × PrintsStates heading states text)
    ⊎ (((at : ℕ) × IsDamagedOf Store image at × (text ≡ damaged_line at))
    ⊎ ((at : ℕ) × IsBadStateAt image at × (text ≡ bad_record_line at)))

abbrev OfNone : Images → List ℕ → Type 0
OfNone images text = IsNoCartridge images × IsNoStore images.0 × (text ≡ not_a_side_line)

sorted : (images : Images) (text : List ℕ) → SideText images text
    → OfCartridge images text ⊎ (OfStore images.0 text ⊎ OfNone images text)
sorted images text (inl gives) = inl (inl gives)
sorted images text (inr (inl gives)) = inr (inl (inl gives))
sorted images text (inr (inr (inl none))) = inr (inr none)
sorted images text (inr (inr (inr (inl (at, inl damaged, is))))) = inl (inr (inl (at, damaged, is)))
sorted images text (inr (inr (inr (inl (at, inr damaged, is))))) = inr (inl (inr (inl (at, damaged, is))))
sorted images text (inr (inr (inr (inr (at, inl bad, is))))) = inl (inr (inr (at, bad, is)))
sorted images text (inr (inr (inr (inr (at, inr bad, is))))) = inr (inl (inr (inr (at, bad, is))))

-- the fifth byte of a side is the fourth letter of its kind: `C` where a side of the pair counts, and `R` of a store
a_side_counts : (which : Which) (head : Head) (rest : List ℕ) (images : Images)
    → SideCounts which head rest images.0 images.1 → get_or images.0 4 0 ≡ 67
a_side_counts First head rest images (pair, opened, beside) =
    ap (λ (l : List ℕ). get_or l 4 0) opened.image_is
a_side_counts Second head rest images (pair, closed, opened, inl (gate, more, shut, is)) =
    ap (λ (l : List ℕ). get_or l 4 0) is
a_side_counts Second head rest images (pair, closed, opened, inr (older, more, is, lesser)) =
    ap (λ (l : List ℕ). get_or l 4 0) is.image_is

cartridge_letter : (images : Images) (text : List ℕ) → OfCartridge images text → get_or images.0 4 0 ≡ 67
cartridge_letter images text (inl (contents, gives, prints)) =
    let behind = gives.1.1 in
    a_side_counts contents.which contents.head _ images behind.3
cartridge_letter images text (inr (inl (at, (which, head, bodies, behind, each, counts, place, broken), is))) =
    a_side_counts which head _ images counts
cartridge_letter images text (inr (inr (at, (which, head, bodies, good, stands, bad), is))) =
    a_side_counts which head _ images stands.1.3

letter : (kind : SideKind) (name capacities : List ℕ) (copied : Option Copied) (pair : ℕ) (rest : List ℕ)
    → get_or (spell (record {
      head = record {
        heading = record { kind = kind; name = name; capacities = capacities };
        copied = copied;
      };
      pair = pair;
    }) [] ++ rest) 4 0
    ≡ get_or (mark kind) 3 0
letter Cartridge name capacities copied pair rest = refl
letter Store name capacities copied pair rest = refl

letter_of : (kind : SideKind) (image : List ℕ) → BeginsAs kind image → get_or image 4 0 ≡ get_or (mark kind) 3 0
letter_of kind image (front, rest, is, of_kind, spelled) =
    ap (λ (l : List ℕ). get_or l 4 0) spelled
    ∙ letter front.head.heading.kind front.head.heading.name front.head.heading.capacities front.head.copied front.pair
    rest
    ∙ ap (λ (k : SideKind). get_or (mark k) 3 0) of_kind

behind_letter : (kind : SideKind) (name capacities : List ℕ) (copied : Option Copied) (pair : ℕ)
    (bodies : List (List ℕ)) (rest : List ℕ)
    → get_or (spell (record {
      head = record {
        heading = record { kind = kind; name = name; capacities = capacities };
        copied = copied;
      };
      pair = pair;
    }) bodies ++ rest) 4 0
    ≡ get_or (mark kind) 3 0
behind_letter Cartridge name capacities copied pair bodies rest = refl
behind_letter Store name capacities copied pair bodies rest = refl

store_stands : (heading : Heading) (bodies : List (List ℕ)) (image : List ℕ) → heading.kind ≡ Store
    → StandsFor (plain heading) bodies image → get_or image 4 0 ≡ 82
store_stands heading bodies image kind stands =
    let front = plain heading in
    ap (λ (l : List ℕ). get_or l 4 0) stands.1.3
    ∙ behind_letter front.head.heading.kind front.head.heading.name front.head.heading.capacities front.head.copied
    front.pair bodies (stands.1.0 ∷ stands.1.1)
    ∙ ap (λ (k : SideKind). get_or (mark k) 3 0) kind

store_letter : (image text : List ℕ) → OfStore image text → get_or image 4 0 ≡ 82
store_letter image text (inl (heading, states, gives, prints)) = store_stands heading _ image gives.0 gives.2
store_letter image text (inr (inl (at, damaged, is))) = letter_of Store image damaged.0
store_letter image text (inr (inr (at, (heading, bodies, good, stands, bad), is))) =
    store_stands heading bodies image bad.kind stands

same_count : (states others : List PrState) → AreAllSavedAlike states others → length states ≡ length others
same_count [] [] alike = refl
same_count (state ∷ states) (other ∷ others) (one, more) = ap suc (same_count states others more)
same_count [] (other ∷ others) alike = absurd alike
same_count (state ∷ states) [] alike = absurd alike

module _ (laws : HaveOneAnswer) (images : Images) (a b : List ℕ) where
  of_cartridge : OfCartridge images a → OfCartridge images b → a ≡ b
  of_cartridge (inl (c, gives, prints)) (inl (d, gives', prints')) =
      contents_once d a b
      (subst (λ (found : Contents). PrintsContents found a) (laws.contents images c d gives gives') prints) prints'
  of_cartridge (inl (c, gives, prints)) (inr (inl (at, damaged, is))) = absurd (laws.whole images c at gives damaged)
  of_cartridge (inl (c, gives, prints)) (inr (inr (at, bad, is))) = absurd (laws.good images c at gives bad)
  of_cartridge (inr (inl (at, damaged, is))) (inl (d, gives, prints)) = absurd (laws.whole images d at gives damaged)
  of_cartridge (inr (inr (at, bad, is))) (inl (d, gives, prints)) = absurd (laws.good images d at gives bad)
  of_cartridge (inr (inl (at, damaged, is))) (inr (inl (at', damaged', is'))) =
      is ∙ ap damaged_line (laws.damaged_once images at at' damaged damaged') ∙ sym is'
  of_cartridge (inr (inl (at, damaged, is))) (inr (inr (at', bad, is'))) =
      absurd (laws.damaged_bad images at at' damaged bad)
  of_cartridge (inr (inr (at, bad, is))) (inr (inl (at', damaged, is'))) =
      absurd (laws.damaged_bad images at' at damaged bad)
  of_cartridge (inr (inr (at, bad, is))) (inr (inr (at', bad', is'))) =
      is ∙ ap bad_record_line (laws.bad_once images at at' bad bad') ∙ sym is'

  states_once : (h k : Heading) (states others : List PrState) → GivesStates h states images.0
      → GivesStates k others images.0 → PrintsStates h states a → PrintsStates k others b → a ≡ b
  states_once h k states others gives gives' prints prints' =
      let alike = laws.states images.0 h k states others gives gives' in
      let left = laws.opens images.0 h k (power_loss (latest states)) (power_loss (latest others)) (states, gives, refl)
      (others, gives', refl) in
      let names = one_name h.name prints.name prints'.name prints.has_no_space prints'.has_no_space prints.named
      (ap (λ (heading : Heading). heading.name) alike.0 ∙ prints'.named) in
      let counts = same_count states others alike.1 in
      prints.line ∙ (λ i. store_line (names i) (counts i) (registrations_in (left.1 i))) ∙ sym prints'.line

  of_store : OfStore images.0 a → OfStore images.0 b → a ≡ b
  of_store (inl (h, states, gives, prints)) (inl (k, others, gives', prints')) =
      states_once h k states others gives gives' prints prints'
  of_store (inl (h, states, gives, prints)) (inr (inl (at, damaged, is))) =
      absurd (laws.store_whole images.0 h states at gives damaged)
  of_store (inl (h, states, gives, prints)) (inr (inr (at, bad, is))) =
      absurd (laws.store_good images.0 h states at gives bad)
  of_store (inr (inl (at, damaged, is))) (inl (k, states, gives, prints)) =
      absurd (laws.store_whole images.0 k states at gives damaged)
  of_store (inr (inr (at, bad, is))) (inl (k, states, gives, prints)) =
      absurd (laws.store_good images.0 k states at gives bad)
  of_store (inr (inl (at, damaged, is))) (inr (inl (at', damaged', is'))) =
      is ∙ ap damaged_line (laws.store_damaged_once images.0 at at' damaged damaged') ∙ sym is'
  of_store (inr (inl (at, damaged, is))) (inr (inr (at', bad, is'))) =
      absurd (laws.store_damaged_bad images.0 at at' damaged bad)
  of_store (inr (inr (at, bad, is))) (inr (inl (at', damaged, is'))) =
      absurd (laws.store_damaged_bad images.0 at' at damaged bad)
  of_store (inr (inr (at, bad, is))) (inr (inr (at', bad', is'))) =
      is ∙ ap bad_record_line (laws.store_bad_once images.0 at at' bad bad') ∙ sym is'

  two_kinds : (text text' : List ℕ) → OfCartridge images text → OfStore images.0 text' → ⊥
  two_kinds text text' one other =
      let letters : 67 ≡ 82 = sym (cartridge_letter images text one) ∙ store_letter images.0 text' other in
      omega (arith, letters)

  no_cartridge : (text text' : List ℕ) → OfCartridge images text → OfNone images text' → ⊥
  no_cartridge text text' (inl (c, gives, prints)) none = laws.counts images c gives none.0
  no_cartridge text text' (inr (inl (at, damaged, is))) none = laws.none_damaged images at none.0 damaged
  no_cartridge text text' (inr (inr (at, bad, is))) none = laws.none_bad images at none.0 bad

  no_store : (text text' : List ℕ) → OfStore images.0 text → OfNone images text' → ⊥
  no_store text text' (inl (h, states, gives, prints)) none = laws.store_counts images.0 h states gives none.1
  no_store text text' (inr (inl (at, damaged, is))) none = laws.store_none_damaged images.0 at none.1 damaged
  no_store text text' (inr (inr (at, bad, is))) none = laws.store_none_bad images.0 at none.1 bad

  same_text : OfCartridge images a ⊎ (OfStore images.0 a ⊎ OfNone images a)
      → OfCartridge images b ⊎ (OfStore images.0 b ⊎ OfNone images b) → a ≡ b
  same_text (inl one) (inl other) = of_cartridge one other
  same_text (inl one) (inr (inl other)) = absurd (two_kinds a b one other)
  same_text (inl one) (inr (inr other)) = absurd (no_cartridge a b one other)
  same_text (inr (inl one)) (inl other) = absurd (two_kinds b a other one)
  same_text (inr (inl one)) (inr (inl other)) = of_store one other
  same_text (inr (inl one)) (inr (inr other)) = absurd (no_store a b one other)
  same_text (inr (inr one)) (inl other) = absurd (no_cartridge b a other one)
  same_text (inr (inr one)) (inr (inl other)) = absurd (no_store b a other one)
  same_text (inr (inr one)) (inr (inr other)) = one.2 ∙ sym other.2

  pub one_text : SideText images a → SideText images b → a ≡ b
  one_text one other = same_text (sorted images a one) (sorted images b other)

-- contents of a cartridge have their text
some_lines : (contents : Contents) (images : Images) → GivesContents contents images
    → (text : List ℕ) × SideText images text
some_lines contents images gives =
    let named : IsName Cartridge contents.head.heading.name =
    subst (λ (kind : SideKind). IsName kind contents.head.heading.name) gives.0.kind gives.0.spelled.heading.name in (
      cartridge_line named.0 (length (volume_made contents)) (length contents.frames)
          ++ partition_lines (volume_made contents),
      inl (
        contents,
        gives,
        record { barcode = named.0; is_barcode = named.1; named = named.2; lines = refl },
      ),
    )

-- states of a store have theirs
some_line : (heading : Heading) (states : List PrState) (images : Images) → GivesStates heading states images.0
    → (text : List ℕ) × SideText images text
some_line heading states images gives =
    let named : IsName Store heading.name =
    subst (λ (kind : SideKind). IsName kind heading.name) gives.0 gives.2.0.begins.head.heading.name in (
      store_line (codes "DRIVE" ++ digits named.0) (length states) (registrations_in (power_loss (latest states))),
      inr (inl (
        heading,
        states,
        gives,
        record {
          name = codes "DRIVE" ++ digits named.0;
          has_no_space = drive_text_no_space named.0;
          named = named.3;
          line = refl;
        },
      )),
    )

-- each pair of images has a text
pub some_text : (images : Images) → IsAnswered images → IsStoreAnswered images.0 → (text : List ℕ) × SideText images
    text
some_text images (inl (contents, gives)) other = some_lines contents images gives
some_text images (inr (inr (inl (at, damaged)))) other =
    (damaged_line at, inr (inr (inr (inl (at, inl damaged, refl)))))
some_text images (inr (inr (inr (at, bad)))) other =
    (bad_record_line at, inr (inr (inr (inr (at, inl bad, refl)))))
some_text images (inr (inl none)) (inl (heading, states, gives)) = some_line heading states images gives
some_text images (inr (inl none)) (inr (inl neither)) =
    (not_a_side_line, inr (inr (inl (none, neither, refl))))
some_text images (inr (inl none)) (inr (inr (inl (at, damaged)))) =
    (damaged_line at, inr (inr (inr (inl (at, inr damaged, refl)))))
some_text images (inr (inl none)) (inr (inr (inr (at, bad)))) =
    (bad_record_line at, inr (inr (inr (inr (at, inr bad, refl)))))
