-- Bytes that begin with a front, part by part.
use Rattle.std.proofs.Common.{◌≡◌, ℕ, ◌+◌, ◌-◌, ◌*◌, ◌≤◌, ◌<◌, List, [], ◌∷◌, ◌++◌, length, get_or, take, drop, refl, sym, ◌∙◌, ap, subst, arith, append_assoc, length-append, take-append-drop}
use Rattle.std.specs.Prelude.{IsTrue, Option, None, Some, slice_range}
use Rattle.std.proofs.lemmas.List.{append-nil, drop-drop, drop_more, get_or-drop, get_or-take, get_or_append_left, length-take-le, take_at}
use Rattle.std.proofs.lemmas.List.Elements.{All-nil}
use Rattle.vtl_base.specs.Limits.{is_capacity}
use Rattle.gate_journal.specs.declared.fronts.ParsedFront.{ParsedFront}
use Rattle.gate_journal.specs.declared.header.SideKind.{SideKind}
use Rattle.gate_journal.specs.declared.reading.ReadFront.{ReadFront}
use Rattle.gate_journal.specs.declared.header.SideKind.TheVariants.{Cartridge, Store}
use Rattle.gate_journal.specs.declared.heads.Copied.{Copied}
use Rattle.gate_journal.specs.declared.heads.ParsedHead.{ParsedHead}
use Rattle.gate_journal.specs.Heads.{ParsesHead, count_byte, spell_side_head}
use Rattle.gate_journal.specs.Side.{OPEN, Front, Heading, IsCount, IsFront, IsName, IsNotOurs, IsPairGate, heading_of, mark, plain, spell_front, start}
use Rattle.gate_journal.specs.Inner.Found.{front_read}
use Rattle.gate_journal.specs.Inner.Fronts.{behind_start, count_there, front_as, front_is, front_there, length_front, length_start, letter_is, pair_there, plain_front, sized_by, store_is_plain}
use Rattle.gate_journal.specs.Inner.Heads.{count_in, is_copy}
use Rattle.gate_journal.specs.Inner.HeadsRead.{count_again}
use Rattle.gate_journal.specs.Inner.Reading.{BeginsWithFront, ParsesFront, copied_size, heading_parsed, kind_by_letter, numbers_of, size_behind}

-- the letter of the mark decides the kind
letter_parses : (kind : SideKind) → kind_by_letter (get_or (mark kind) 3 0) ≡ kind
letter_parses Cartridge = refl
letter_parses Store = refl

start_of : (kind : SideKind) (pair : ℕ) (head rest : List ℕ) →
    take 10 (start OPEN kind pair ++ head ++ rest) ≡ start OPEN kind pair
start_of Cartridge pair head rest = refl
start_of Store pair head rest = refl

letter_in : (kind : SideKind) (pair : ℕ) (rest : List ℕ) →
    get_or (start OPEN kind pair ++ rest) 4 0 ≡ get_or (mark kind) 3 0
letter_in Cartridge pair rest = refl
letter_in Store pair rest = refl

module _ (bytes : List ℕ) where
  -- bytes shorter than any front
  pub none_short : length bytes < 27 → BeginsWithFront bytes → ⊥
  none_short few w = absurd (omega (
    arith,
    few,
    length_front w.0 w.2,
    ap length w.3,
    length-append (spell_front w.0) w.1,
  ))

  kind_decoded : (w : BeginsWithFront bytes) → kind_by_letter (get_or bytes 4 0) ≡ w.0.head.heading.kind
  kind_decoded w = ap kind_by_letter (letter_is w.0 w.1 bytes w.3) ∙ letter_parses w.0.head.heading.kind

  -- the parts of a front
  reads : (w : BeginsWithFront bytes) → front_as w.0.head.heading.kind (is_copy w.0.head.copied) bytes ≡ w.0
  reads w =
      ap (λ (l : List ℕ). front_as w.0.head.heading.kind (is_copy w.0.head.copied) l) w.3 ∙ front_is w.0 w.1 w.2

  pub name_parsed : (w : BeginsWithFront bytes) → take 16 (drop 11 bytes) ≡ w.0.head.heading.name
  name_parsed w = ap (λ (l : List ℕ). take 16 l) (sym (drop-drop 1 10 bytes))
      ∙ ap (λ (f : Front). f.head.heading.name) (reads w)

  count_parsed : (w : BeginsWithFront bytes) →
      count_in (is_copy w.0.head.copied) (get_or (drop 10 bytes) 0 0) ≡ length w.0.head.heading.capacities
  count_parsed w =
      ap (λ (n : ℕ). count_in (is_copy w.0.head.copied) n) (get_or-drop 10 bytes 0 0 ∙ count_there w.0 w.1 bytes w.3)
      ∙ count_again w.0.head.copied (length w.0.head.heading.capacities)

  capacities_parsed : (w : BeginsWithFront bytes) (end : ℕ) → end ≡ 27 + 8 * length w.0.head.heading.capacities →
      numbers_of (slice_range bytes 27 end) ≡ w.0.head.heading.capacities
  capacities_parsed w end there =
      let width : end - 27 ≡ 8 * count_in (is_copy w.0.head.copied) (get_or (drop 10 bytes) 0 0) =
      omega (arith, there, count_parsed w) in
      ap (λ (n : ℕ). numbers_of (take n (drop 27 bytes))) width
      ∙ ap (λ (l : List ℕ). numbers_of (take (8 * count_in (is_copy w.0.head.copied) (get_or (drop 10 bytes) 0 0)) l))
      (sym (drop-drop 17 10 bytes))
      ∙ ap (λ (f : Front). f.head.heading.capacities) (reads w)

  -- the ten bytes of a front
  pub begun_of : (kind : SideKind) → kind ≡ kind_by_letter (get_or bytes 4 0) → BeginsWithFront bytes →
      take 10 bytes ≡ start OPEN kind (get_or bytes 9 0)
  begun_of kind tells w =
      let f = w.0 in
      let head = spell_side_head f.head in
      let pair : get_or bytes 9 0 ≡ f.pair =
      ap (λ (l : List ℕ). get_or l 9 0) w.3 ∙ pair_there f.head.heading.kind f.pair head w.1 in
      let same : kind ≡ f.head.heading.kind = tells ∙ kind_decoded w in
      ap (λ (l : List ℕ). take 10 l) w.3 ∙ start_of f.head.heading.kind f.pair head w.1
      ∙ (λ i. start OPEN (sym same i) (sym pair i))

  -- bytes that begin with the ten bytes of a side
  module _ (kind : SideKind) (begins : take 10 bytes ≡ start OPEN kind (get_or bytes 9 0)) where
    whole : bytes ≡ start OPEN kind (get_or bytes 9 0) ++ drop 10 bytes
    whole = sym (take-append-drop 10 bytes) ∙ ap (λ (l : List ℕ). l ++ drop 10 bytes) begins

    kind_is : (w : BeginsWithFront bytes) → w.0.head.heading.kind ≡ kind
    kind_is w =
        sym (kind_decoded w)
        ∙ ap kind_by_letter (ap (λ (l : List ℕ). get_or l 4 0) whole
        ∙ letter_in kind (get_or bytes 9 0) (drop 10 bytes)) ∙ letter_parses kind

    behind : (w : BeginsWithFront bytes) → drop 10 bytes ≡ spell_side_head w.0.head ++ w.1
    behind w = ap (λ (l : List ℕ). drop 10 l) w.3
        ∙ behind_start w.0.head.heading.kind w.0.pair (spell_side_head w.0.head) w.1

  -- a cartridge's front, given what was read from its head
  module _ (begins : take 10 bytes ≡ start OPEN Cartridge (get_or bytes 9 0)) where
    pub front_parsed : (head : ParsedHead) → ParsesHead (drop 10 bytes) (Some head) →
        ParsesFront bytes (Some (record {
          kind = Cartridge;
          pair = get_or bytes 9 0;
          copied = head.copied;
          size = 10 + head.size;
        }))
    front_parsed parsed (h, rest, kind, ok, is, same) =
        let pair = get_or bytes 9 0 in
        let f : Front = record { head = h; pair = pair } in
        let any : (k : SideKind) → k ≡ Cartridge → IsPairGate k pair =
        λ k e. subst (λ (k : SideKind). IsPairGate k pair) (sym e) tt in (
          f,
          rest,
          record { head = ok; pair = any h.heading.kind kind },
          whole Cartridge begins ∙ (λ i. start OPEN (sym kind i) pair ++ is i)
              ∙ sym (append_assoc (start OPEN h.heading.kind pair) (spell_side_head h) rest),
          record {
            kind = sym kind;
            pair = refl;
            copied = same.1;
            size = omega (
              arith,
              same.0,
              length_start h.heading.kind pair,
              length-append (start OPEN h.heading.kind pair) (spell_side_head h),
            );
          },
        )

    pub headless : ParsesHead (drop 10 bytes) None → BeginsWithFront bytes → ⊥
    headless never w = never (w.0.head, w.1, kind_is Cartridge begins w, w.2.head, behind Cartridge begins w)

  -- a store's front
  module _ (begins : take 10 bytes ≡ start OPEN Store (get_or bytes 9 0)) (some : 27 ≤ length bytes) where
    abbrev name : List ℕ
    name = take 16 (drop 11 bytes)

    plain_is : (w : BeginsWithFront bytes) → w.0 ≡ plain w.0.head.heading
    plain_is w = store_is_plain w.0 w.2 (kind_is Store begins w)

    pub pair_shut : BeginsWithFront bytes → get_or bytes 9 0 ≡ 0
    pair_shut w =
        ap (λ (l : List ℕ). get_or l 9 0) w.3
        ∙ pair_there w.0.head.heading.kind w.0.pair (spell_side_head w.0.head) w.1
        ∙ ap (λ (f : Front). f.pair) (plain_is w)

    pub none_counted : BeginsWithFront bytes → get_or bytes 10 0 ≡ 0
    none_counted w =
        count_there w.0 w.1 bytes w.3
        ∙ ap (λ (c : Option Copied). count_byte c (length w.0.head.heading.capacities))
        (ap (λ (f : Front). f.head.copied) (plain_is w))
        ∙ subst (λ (k : SideKind). IsCount k (length w.0.head.heading.capacities)) (kind_is Store begins w)
        w.2.head.heading.count

    pub named : (w : BeginsWithFront bytes) → IsName Store name
    named w =
        subst (λ (l : List ℕ). IsName Store l) (sym (name_parsed w))
        (subst (λ (k : SideKind). IsName k w.0.head.heading.name) (kind_is Store begins w) w.2.head.heading.name)

    pub store_shown : get_or bytes 9 0 ≡ 0 → get_or bytes 10 0 ≡ 0 → IsName Store name →
        ParsesFront bytes (Some (record { kind = Store; pair = get_or bytes 9 0; copied = None; size = 27 }))
    store_shown shut none ok =
        let heading : Heading = record { kind = Store; name = name; capacities = [] } in
        let f : Front = plain heading in
        let well : IsFront f =
        plain_front heading (record { name = ok; count = refl; capacities = All-nil (λ n. IsTrue (is_capacity n)) }) in
        let two : 0 ∷ name ≡ (0 ∷ name ++ []) ++ [] = sym (append-nil (0 ∷ name)) ∙ sym (append-nil (0 ∷ name ++ [])) in
        let head : drop 10 bytes ≡ spell_side_head f.head ++ drop 27 bytes =
        drop_more bytes 10 0 (omega (arith, some))
        ∙ (λ i. none i ∷ sym (take-append-drop 16 (drop 11 bytes)) i)
        ∙ ap (λ (l : List ℕ). 0 ∷ name ++ l) (drop-drop 16 11 bytes)
        ∙ ap (λ (l : List ℕ). l ++ drop 27 bytes) two in (
          f,
          drop 27 bytes,
          well,
          whole Store begins ∙ (λ i. start OPEN Store (shut i) ++ head i)
              ∙ sym (append_assoc (start OPEN Store 0) (spell_side_head f.head) (drop 27 bytes)),
          record { kind = refl; pair = shut; copied = refl; size = omega (arith, length_front f well) },
        )

-- the heading in the bytes is that of the front
pub heading_is_parsed : (bytes : List ℕ) (parsed : ParsedFront) (w : ParsesFront bytes (Some parsed)) →
    heading_parsed parsed bytes ≡ w.0.head.heading
heading_is_parsed bytes parsed (f, rest, ok, is, same) =
    let w : BeginsWithFront bytes = (f, rest, ok, is) in
    let cut : copied_size parsed.copied ≡ copied_size f.head.copied = ap copied_size same.copied in
    let end : parsed.size - copied_size parsed.copied ≡ 27 + 8 * length f.head.heading.capacities =
    omega (arith, cut, same.size, length_front f ok) in
    λ i. record {
      kind = same.kind i;
      name = name_parsed bytes w i;
      capacities = capacities_parsed bytes w (parsed.size - copied_size parsed.copied) end i;
    }

-- a front in memory is the one that was read
module _ (bytes : List ℕ) (parsed : ParsedFront) (read : ReadFront) (w : ParsesFront bytes (Some parsed))
    (heading : heading_of read.header ≡ heading_parsed parsed bytes) (copied : read.copied ≡ parsed.copied)
    (pair : read.pair ≡ parsed.pair) where
  same_read : front_read read ≡ w.0
  same_read = λ i. record {
    head = record { heading = (heading ∙ heading_is_parsed bytes parsed w) i; copied = (copied ∙ w.4.copied) i };
    pair = (pair ∙ w.4.pair) i;
  }

  pub read_well : IsFront (front_read read)
  read_well = subst IsFront (sym same_read) w.2

  pub read_start : read.start ≡ parsed.size → read.start ≡ length (spell_front (front_read read))
  read_start start = start ∙ w.4.size ∙ ap (λ (f : Front). length (spell_front f)) (sym same_read)

  pub read_begins : (seen rest : List ℕ) → seen ≡ bytes ++ rest →
      (more : List ℕ) × (seen ≡ spell_front (front_read read) ++ more)
  read_begins seen rest is = (
    w.1 ++ rest,
    is ∙ ap (λ (l : List ℕ). l ++ rest) w.3 ∙ append_assoc (spell_front w.0) w.1 rest
        ∙ ap (λ (f : Front). spell_front f ++ (w.1 ++ rest)) (sym same_read),
  )

-- an image that begins with such bytes is ours only if they begin with a front
module _ (image bytes rest : List ℕ) (sized : length bytes ≡ 27 + size_behind (get_or bytes 10 0))
    (begins : image ≡ bytes ++ rest) where
  pub no_front : (BeginsWithFront bytes → ⊥) → IsNotOurs image
  no_front never f more ok is =
      let ours = is ∙ ap (λ (l : List ℕ). l ++ more) (append-nil (spell_front f)) in
      let byte : get_or image 10 0 ≡ get_or bytes 10 0 =
      ap (λ (l : List ℕ). get_or l 10 0) begins ∙ get_or_append_left bytes rest 0 10 (omega (arith, sized)) in
      let long : length bytes ≡ length (spell_front f) =
      sized ∙ ap (λ (n : ℕ). 27 + size_behind n) (sym byte) ∙ sym (sized_by f more image ok ours) in
      never (
        f,
        [],
        ok,
        sym (take_at bytes rest (length (spell_front f)) long)
            ∙ ap (λ (l : List ℕ). take (length (spell_front f)) l) (sym begins)
            ∙ front_there f more image ok ours ∙ sym (append-nil (spell_front f)),
      )

-- the front of a buffer is as long as the byte of its count says
pub front_sized : (buffer : List ℕ) (len : ℕ) → len ≡ 27 + size_behind (get_or buffer 10 0) → len ≤ length buffer →
    length (take len buffer) ≡ 27 + size_behind (get_or (take len buffer) 10 0)
front_sized buffer len parsed fits =
    length-take-le len buffer fits ∙ parsed
    ∙ ap (λ (n : ℕ). 27 + size_behind n) (sym (get_or-take len buffer 10 0 (omega (arith, parsed))))
