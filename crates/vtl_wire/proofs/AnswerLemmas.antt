-- The bytes determine an answer.
use Rattle.std.proofs.Common.{◌≡◌, ℕ, zero, suc, ◌-◌, ◌<◌, ◌^◌, List, [], ◌∷◌, ◌++◌, length, Option, None, Some, IfSome, refl, sym, ap, ◌∙◌, subst, arith, append_assoc, take, drop}
use Rattle.std.specs.Prelude.{◌≢◌, IsTrue, flat_map, replicate}
use Rattle.std.specs.List.{All}
use Rattle.std.specs.Int.{from_be_bytes, to_be_bytes, w32}
use Rattle.std.proofs.lemmas.List.{take_at, drop_at}
use Rattle.std.proofs.lemmas.List.Elements.{All-head, All-tail}
use Rattle.std.proofs.lemmas.Nat.{from_be_bytes-to_be_bytes_4}
use Rattle.vtl_base.specs.declared.limits.TheConstants.{MAX_BARCODE}
use Rattle.vtl_base.specs.Barcode.{IsBarcode, is_symbol}
use Rattle.scsi_sense.specs.declared.replies.Reply.{Reply}
use Rattle.scsi_sense.specs.declared.replies.Status.{Status}
use Rattle.scsi_sense.specs.declared.replies.Status.TheVariants.{Good, Check, Conflict}
use Rattle.scsi_sense.specs.declared.sense_data.Sense.{Sense}
use Rattle.scsi_sense.specs.Replies.{status_code}
use Rattle.scsi_sense.specs.SenseData.{sense_bytes}
use Rattle.vtl_wire.specs.declared.answers.Answer.{Answer}
use Rattle.vtl_wire.specs.declared.answers.Answer.TheVariants.{Command, Move, Inventory}
use Rattle.vtl_wire.specs.declared.answers.Entry.{Entry}
use Rattle.vtl_wire.specs.declared.frames.FrameKind.TheVariants as kinds
use Rattle.vtl_wire.specs.declared.headers.Header.{Header}
use Rattle.vtl_wire.specs.Answers.{IsAnswer, IsEntry, IsSense, frame_of_answer, sense_front, spell_answer, spell_barcode, spell_entry}
use Rattle.vtl_wire.specs.Frames.{IsHeader, header_of}
use Rattle.vtl_wire.proofs.EntryLemmas.{entries_long, length-barcode, padded_all}
use Rattle.vtl_wire.proofs.FrameLemmas.{one_frame}
use Rattle.vtl_wire.proofs.SenseLemmas.{one_sense}

one_status : (a b : Status) → status_code a ≡ status_code b → a ≡ b
one_status Good Good e = refl
one_status Good Check e = absurd (omega (arith, e))
one_status Good Conflict e = absurd (omega (arith, e))
one_status Check Good e = absurd (omega (arith, e))
one_status Check Check e = refl
one_status Check Conflict e = absurd (omega (arith, e))
one_status Conflict Good e = absurd (omega (arith, e))
one_status Conflict Check e = absurd (omega (arith, e))
one_status Conflict Conflict e = refl

-- a byte that a barcode may have
abbrev pub IsSymbol : ℕ → Type 0
IsSymbol byte = IsTrue (is_symbol byte)

pub no_space : IsTrue (is_symbol 32) → ⊥
no_space holds = absurd (cc)

pub no_zero : IsTrue (is_symbol 0) → ⊥
no_zero holds = absurd (cc)

-- bytes with spaces behind them, among which is no space
one_padded : (a b : List ℕ) (n m : ℕ) → All IsSymbol a
    → All IsSymbol b → a ++ replicate n 32 ≡ b ++ replicate m 32 → a ≡ b
one_padded [] [] n m all all' same = refl
one_padded [] (y ∷ ys) zero m all all' same = absurd (cc)
one_padded [] (y ∷ ys) (suc n) m all all' same =
    let e : 32 ≡ y = cc in
    absurd (no_space (subst (λ (s : ℕ). IsTrue (is_symbol s)) (sym e) (All-head IsSymbol y ys all')))
one_padded (x ∷ xs) [] n zero all all' same = absurd (cc)
one_padded (x ∷ xs) [] n (suc m) all all' same =
    let e : x ≡ 32 = cc in
    absurd (no_space (subst (λ (s : ℕ). IsTrue (is_symbol s)) e (All-head IsSymbol x xs all)))
one_padded (x ∷ xs) (y ∷ ys) n m all all' same =
    let e : x ≡ y = cc in
    let rest : xs ++ replicate n 32 ≡ ys ++ replicate m 32 = cc in
    let l = one_padded xs ys n m (All-tail IsSymbol x xs all) (All-tail IsSymbol y ys all') rest in
    λ i. e i ∷ l i

no_name : (b : List ℕ) → IsBarcode b → spell_barcode None ≡ spell_barcode (Some b) → ⊥
no_name [] is same = omega (arith, is.some)
no_name (y ∷ ys) is same =
    let e : 0 ≡ y = cc in
    no_zero (subst (λ (s : ℕ). IsTrue (is_symbol s)) (sym e) (All-head IsSymbol y ys is.symbols))

one_barcode : (a b : Option (List ℕ)) → IfSome a IsBarcode → IfSome b IsBarcode
    → spell_barcode a ≡ spell_barcode b → a ≡ b
one_barcode None None is is' same = refl
one_barcode None (Some b) is is' same = absurd (no_name b is' same)
one_barcode (Some a) None is is' same = absurd (no_name a is (sym same))
one_barcode (Some a) (Some b) is is' same =
    ap Some (one_padded a b (MAX_BARCODE - length a) (MAX_BARCODE - length b) is.symbols is'.symbols
    (sym (padded_all a is.short) ∙ same ∙ padded_all b is'.short))

one_number : (n m : ℕ) → n < 2 ^ 32 → m < 2 ^ 32 → to_be_bytes w32 n ≡ to_be_bytes w32 m → n ≡ m
one_number n m fits fits' same =
    sym (from_be_bytes-to_be_bytes_4 n fits) ∙ ap (from_be_bytes w32) same ∙ from_be_bytes-to_be_bytes_4 m fits'

pub one_entry : (a b : Entry) (x y : List ℕ) → IsEntry a → IsEntry b → spell_entry a ++ x ≡ spell_entry b ++ y
    → (a ≡ b) × (x ≡ y)
one_entry a b x y is is' same =
    let first = to_be_bytes w32 a.address in
    let first' = to_be_bytes w32 b.address in
    let name = spell_barcode a.barcode in
    let name' = spell_barcode b.barcode in
    let long : length name ≡ 16 = length-barcode a.barcode in
    let long' : length name' ≡ 16 = length-barcode b.barcode in
    let joined : first ++ (name ++ x) ≡ first' ++ (name' ++ y) =
    sym (append_assoc first name x) ∙ same ∙ append_assoc first' name' y in
    let address : a.address ≡ b.address =
    one_number a.address b.address is.address is'.address
    (sym (take_at first (name ++ x) 4 refl) ∙ ap (take 4) joined ∙ take_at first' (name' ++ y) 4 refl) in
    let behind : name ++ x ≡ name' ++ y =
    sym (drop_at first (name ++ x) 4 refl) ∙ ap (drop 4) joined ∙ drop_at first' (name' ++ y) 4 refl in
    let barcode : a.barcode ≡ b.barcode =
    one_barcode a.barcode b.barcode is.barcode is'.barcode
    (sym (take_at name x 16 long) ∙ ap (take 16) behind ∙ take_at name' y 16 long') in (
      λ i. record { address = address i; barcode = barcode i },
      sym (drop_at name x 16 long) ∙ ap (drop 16) behind ∙ drop_at name' y 16 long',
    )

pub no_entries : (b : Entry) (rest : List ℕ) → [] ≡ spell_entry b ++ rest → ⊥
no_entries b rest same = absurd (cc)

one_entries : (a b : List Entry) → All IsEntry a → All IsEntry b
    → flat_map spell_entry a ≡ flat_map spell_entry b → a ≡ b
one_entries [] [] all all' same = refl
one_entries [] (y ∷ ys) all all' same = absurd (no_entries y (flat_map spell_entry ys) same)
one_entries (x ∷ xs) [] all all' same = absurd (no_entries x (flat_map spell_entry xs) (sym same))
one_entries (x ∷ xs) (y ∷ ys) all all' same =
    let first = one_entry x y (flat_map spell_entry xs) (flat_map spell_entry ys) (All-head IsEntry x xs all)
    (All-head IsEntry y ys all') same in
    let rest = one_entries xs ys (All-tail IsEntry x xs all) (All-tail IsEntry y ys all') first.1 in
    λ i. first.0 i ∷ rest i

length-sense : (sense : Sense) → length (sense_bytes sense) ≡ 18
length-sense sense = refl

one_sense_front : (a b : Option Sense) → IfSome a IsSense → IfSome b IsSense → sense_front a ≡ sense_front b → a ≡ b
one_sense_front None None is is' same = refl
one_sense_front None (Some b) is is' same = absurd (cc)
one_sense_front (Some a) None is is' same = absurd (cc)
one_sense_front (Some a) (Some b) is is' same = ap Some (one_sense a b is is' same)

-- a status and the length of sense data are of one byte
status_small : (status : Status) → status_code status < 2 ^ 8
status_small Good = omega arith
status_small Check = omega arith
status_small Conflict = omega arith

sense_small : (sense : Option Sense) → length (sense_front sense) < 2 ^ 8
sense_small None = omega arith
sense_small (Some sense) = omega (arith, length-sense sense)

-- the numbers of an answer's header are of their width
pub answer_numbers : (answer : Answer) → IsAnswer answer → IsHeader (header_of (frame_of_answer answer))
answer_numbers (Command host reply tag) ok = record {
  host = omega (arith, ok.1.1);
  detail = status_small reply.status;
  front = sense_small reply.sense;
  payload = omega (arith, ok.0.bytes);
  tag = ok.1.3;
}
answer_numbers (Move reply tag) ok = record {
  host = omega arith;
  detail = status_small reply.status;
  front = sense_small reply.sense;
  payload = omega (arith, ok.0.bytes);
  tag = ok.1.1;
}
answer_numbers (Inventory entries tag) ok = record {
  host = omega arith;
  detail = omega arith;
  front = omega arith;
  payload = omega (arith, ok.0, entries_long entries);
  tag = ok.1.1;
}

-- status, sense data and bytes determine a reply
one_reply : (a b : Reply) → IfSome a.sense IsSense → IfSome b.sense IsSense
    → status_code a.status ≡ status_code b.status → sense_front a.sense ≡ sense_front b.sense → a.bytes ≡ b.bytes
    → a ≡ b
one_reply a b is is' status sense bytes = λ i. record {
  status = one_status a.status b.status status i;
  sense = one_sense_front a.sense b.sense is is' sense i;
  bytes = bytes i;
}

differ : (one other : Header) → one ≡ other → one.kind ≢ other.kind → ⊥
differ one other same apart = apart (ap (λ (h : Header). h.kind) same)

command_moves : kinds.Command ≢ kinds.Move
command_moves e = absurd (cc)

command_inventory : kinds.Command ≢ kinds.Inventory
command_inventory e = absurd (cc)

move_inventory : kinds.Move ≢ kinds.Inventory
move_inventory e = absurd (cc)

one_of_frames : (one other : Answer) → IsAnswer one → IsAnswer other
    → header_of (frame_of_answer one) ≡ header_of (frame_of_answer other)
    → (frame_of_answer one).front ≡ (frame_of_answer other).front
    → (frame_of_answer one).payload ≡ (frame_of_answer other).payload → one ≡ other
one_of_frames (Command h r t) (Command h' r' t') ok ok' header front payload =
    let reply = one_reply r r' ok.1.2 ok'.1.2 (ap (λ (x : Header). x.detail) header) front payload in
    λ i. Command (header i).host (reply i) (header i).tag
one_of_frames (Move r t) (Move r' t') ok ok' header front payload =
    let reply = one_reply r r' ok.1.0 ok'.1.0 (ap (λ (x : Header). x.detail) header) front payload in
    λ i. Move (reply i) (header i).tag
one_of_frames (Inventory e t) (Inventory e' t') ok ok' header front payload =
    let entries = one_entries e e' ok.1.0 ok'.1.0 payload in
    λ i. Inventory (entries i) (header i).tag
one_of_frames (Command h r t) (Move r' t') ok ok' header front payload = absurd (differ _ _ header command_moves)
one_of_frames (Command h r t) (Inventory e' t') ok ok' header front payload =
    absurd (differ _ _ header command_inventory)
one_of_frames (Move r t) (Command h' r' t') ok ok' header front payload =
    absurd (differ _ _ (sym header) command_moves)
one_of_frames (Move r t) (Inventory e' t') ok ok' header front payload = absurd (differ _ _ header move_inventory)
one_of_frames (Inventory e t) (Command h' r' t') ok ok' header front payload =
    absurd (differ _ _ (sym header) command_inventory)
one_of_frames (Inventory e t) (Move r' t') ok ok' header front payload =
    absurd (differ _ _ (sym header) move_inventory)

-- no answer's spelling begins another's
pub one_answer : (one other : Answer) (x y : List ℕ) → IsAnswer one → IsAnswer other
    → spell_answer one ++ x ≡ spell_answer other ++ y → (one ≡ other) × (x ≡ y)
one_answer one other x y ok ok' same =
    let frames = one_frame (frame_of_answer one) (frame_of_answer other) x y (answer_numbers one ok)
    (answer_numbers other ok') same in
    (one_of_frames one other ok ok' frames.0 frames.1 frames.2, frames.3)
