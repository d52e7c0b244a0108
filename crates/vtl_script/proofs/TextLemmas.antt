-- Text that is written in pieces.
use Rattle.std.proofs.Common.{◌≡◌, ℕ, ◌+◌, ◌-◌, ◌≤◌, ◌==◌, ◌/◌, ◌%◌, slice_index, Bool, true, false, List, [], ◌∷◌, ◌++◌, length, take, drop, Option, refl, sym, ap, ◌∙◌, arith, append_assoc, take-append-drop, take_all, length-drop}
use Rattle.std.proofs.lemmas.Bool.Decides.{nat_tests}
use Rattle.std.proofs.lemmas.List.{append-nil, length-append, length-take, take-append-le}
use Rattle.std.proofs.KnownBytes.{Appends-kept, Appends-nil, Appends-trans}
use Rattle.std.proofs.Math.Seq.{take-add, take-append-add, take-append_seam, take-length}
use Rattle.std.specs.Io.{StartsWith}
use Rattle.std.proofs.lemmas.Grind.{flat_map-append}
use Rattle.std.specs.Io.KnownBytes.{Appends, Keeps}
use Rattle.hex.specs.Hex.{encode_with, encode_lower, lower_digits}
use Rattle.scsi_sense.specs.declared.replies.Reply.{Reply}
use Rattle.vtl_script.specs.Text.{hex_word, reply_text, text_of, AppendsPart}
use Rattle.vtl_script.specs.Inner.Writing.{Adds}

-- nothing was added
pub adds_none : (known : Option (List ℕ)) (held : List ℕ) → Adds known held [] known held
adds_none known held = record { written = []; same = sym (append-nil held); appended = Appends-nil known }

-- one text was added, and then another
pub adds_on : (before during now : Option (List ℕ)) (held mid left first second : List ℕ)
    → Adds before held first during mid → Adds during mid second now left
    → Adds before held (first ++ second) now left
adds_on before during now held mid left first second one two = record {
  written = one.written ++ two.written;
  same =
      append_assoc one.written two.written left ∙ ap (λ (xs : List ℕ). one.written ++ xs) two.same
      ∙ sym (append_assoc one.written mid second) ∙ ap (λ (xs : List ℕ). xs ++ second) one.same
      ∙ append_assoc held first second;
  appended = Appends-trans before during now one.written two.written one.appended two.appended;
}

-- all that was held is written
pub adds_all : (before during now : Option (List ℕ)) (held more left : List ℕ) → Adds before held more during left
    → Appends during now left → Appends before now (held ++ more)
adds_all before during now held more left one wrote = rw (← one.same)
    (Appends-trans before during now one.written left one.appended wrote)

-- the first bytes of a text are a beginning of it
pub starts_part : (text : List ℕ) (at : ℕ) → StartsWith text (take at text)
starts_part text at =
    ap (take (length (take at text))) (sym (take-append-drop at text)) ∙ take-append_seam (take at text) (drop at text)

starts_more : (front text part : List ℕ) → StartsWith text part → StartsWith (front ++ text) (front ++ part)
starts_more front text part starts =
    ap (λ (n : ℕ). take n (front ++ text)) (length-append front part) ∙ take-append-add front text (length part)
    ∙ ap (λ (xs : List ℕ). front ++ xs) starts

starts_longer : (text more part : List ℕ) → StartsWith text part → StartsWith (text ++ more) part
starts_longer text more part starts =
    let long = length-take (length part) text in
    let same = ap length starts in
    let within : length part ≤ length text = omega (arith, long, same) in
    take-append-le (length part) text more within ∙ starts

-- some of a text was written
pub record IsWritten (before now : Option (List ℕ)) (text : List ℕ) (at : ℕ) : Type 0 where
  pub within : at ≤ length text
  pub written : Appends before now (take at text)

pub written_more : (before mid now : Option (List ℕ)) (text : List ℕ) (at count : ℕ)
    → count ≤ length (take (length text - at) (drop at text)) → IsWritten before mid text at
    → Appends mid now (take count (take (length text - at) (drop at text))) → IsWritten before now text (at + count)
written_more before mid now text at count fits so more =
    let within = so.within in
    let long = length-drop at text in
    let all : take (length text - at) (drop at text) ≡ drop at text = take_all (length text - at) (drop at text)
    (omega (arith, long)) in
    let room = rw all at fits in
    record {
      within = omega (arith, long, room, within);
      written = rw (take-add at count text)
          (Appends-trans before mid now (take at text) (take count (drop at text)) so.written (rw all at more));
    }

pub written_same : (before mid now : Option (List ℕ)) (text : List ℕ) (at : ℕ)
    → IsWritten before mid text at → Keeps mid now → IsWritten before now text at
written_same before mid now text at so keeps = record {
  within = so.within;
  written = Appends-kept before mid now (take at text) so.written keeps;
}

pub written_all : (before now : Option (List ℕ)) (text : List ℕ) (at : ℕ) → at ≡ length text
    → IsWritten before now text at → Appends before now text
written_all before now text at all so = rw (all, take-length text) at so.written

pub written_part : (before now : Option (List ℕ)) (text : List ℕ) (at : ℕ)
    → IsWritten before now text at → AppendsPart before now text
written_part before now text at so = (take at text, starts_part text at, so.written)

-- one text was added, and the next was written in part
pub part_behind : (before during now : Option (List ℕ)) (held mid first second : List ℕ)
    → Adds before held first during mid → AppendsPart during now (mid ++ second)
    → AppendsPart before now (held ++ (first ++ second))
part_behind before during now held mid first second one part =
    let all : held ++ (first ++ second) ≡ one.written ++ (mid ++ second) =
    sym (append_assoc held first second) ∙ ap (λ (xs : List ℕ). xs ++ second) (sym one.same)
    ∙ append_assoc one.written mid second in (
      one.written ++ part.0,
      rw all (starts_more one.written (mid ++ second) part.0 part.1),
      Appends-trans before during now one.written part.0 one.appended part.2,
    )

-- a beginning of a text is one of a longer text
pub part_longer : (before now : Option (List ℕ)) (held first second : List ℕ) → AppendsPart before now (held ++ first)
    → AppendsPart before now (held ++ (first ++ second))
part_longer before now held first second part = (
  part.0,
  rw (← append_assoc held first second) (starts_longer (held ++ first) second part.0 part.1),
  part.2,
)

-- a text was added, and what is held now was written in part
pub part_after : (before during now : Option (List ℕ)) (held more mid : List ℕ) → Adds before held more during mid
    → AppendsPart during now mid → AppendsPart before now (held ++ more)
part_after before during now held more mid one part = rw (← one.same) (
  one.written ++ part.0,
  starts_more one.written mid part.0 part.1,
  Appends-trans before during now one.written part.0 one.appended part.2,
)

-- all was written, and what follows keeps it
pub part_whole : (before mid now : Option (List ℕ)) (text : List ℕ) → Appends before mid text → Keeps mid now
    → AppendsPart before now text
part_whole before mid now text all keeps = (text, take-length text, Appends-kept before mid now text all keeps)

-- where there is no byte, no word is added
pub word_none : (bytes : List ℕ) (none : Bool) → none ≡ (length bytes == 0) → none ≡ true → hex_word bytes ≡ []
word_none [] none is so = refl
word_none (x ∷ xs) none is so = absurd (grind (arith, nat_tests, is, so))

-- and where there is one, a space and the digits
pub word_some : (bytes : List ℕ) (none : Bool) → none ≡ (length bytes == 0) → none ≡ false
    → hex_word bytes ≡ (32 ∷ []) ++ encode_lower bytes
word_some [] none is so = absurd (cc)
word_some (x ∷ xs) none is so = refl

-- the digits of one piece and then of another
pub encode-append : (t xs ys : List ℕ) → encode_with t (xs ++ ys) ≡ encode_with t xs ++ encode_with t ys
unfolding encode_with
encode-append t [] ys = refl
encode-append t (x ∷ xs) ys =
    ap (λ (zs : List ℕ). slice_index t (x / 16) ∷ slice_index t (x % 16) ∷ zs) (encode-append t xs ys)

-- the digits of the first bytes were added, and the rest is left
pub record AreAdded (before : Option (List ℕ)) (held bytes : List ℕ) (now : Option (List ℕ)) (left rest : List ℕ)
    : Type 0 where
  pub done : List ℕ
  pub are : bytes ≡ done ++ rest
  pub adds : Adds before held (encode_lower done) now left

pub added_none : (known : Option (List ℕ)) (held bytes : List ℕ) → AreAdded known held bytes known held bytes
unfolding encode_with
added_none known held bytes = record { done = []; are = refl; adds = adds_none known held }

pub added_more : (before during now : Option (List ℕ)) (held bytes mid left rest piece behind : List ℕ)
    → AreAdded before held bytes during mid rest → rest ≡ piece ++ behind
    → Adds during mid (encode_lower piece) now left → AreAdded before held bytes now left behind
added_more before during now held bytes mid left rest piece behind so is adds = record {
  done = so.done ++ piece;
  are =
      so.are ∙ ap (λ (xs : List ℕ). so.done ++ xs) is ∙ sym (append_assoc so.done piece behind);
  adds = rw (encode-append lower_digits so.done piece)
      (adds_on before during now held mid left (encode_lower so.done) (encode_lower piece) so.adds adds);
}

pub added_part : (before during now : Option (List ℕ)) (held bytes mid rest piece behind : List ℕ)
    → AreAdded before held bytes during mid rest → rest ≡ piece ++ behind
    → AppendsPart during now (mid ++ encode_lower piece) → AppendsPart before now (held ++ encode_lower bytes)
added_part before during now held bytes mid rest piece behind so is part =
    let all : encode_lower bytes ≡ encode_lower so.done ++ (encode_lower piece ++ encode_lower behind) =
    ap encode_lower (so.are ∙ ap (λ (xs : List ℕ). so.done ++ xs) is)
    ∙ encode-append lower_digits so.done (piece ++ behind)
    ∙ ap (λ (xs : List ℕ). encode_lower so.done ++ xs) (encode-append lower_digits piece behind) in
    rw all (part_behind before during now held mid (encode_lower so.done) (encode_lower piece ++ encode_lower behind)
    so.adds (part_longer during now mid (encode_lower piece) (encode_lower behind) part))

-- the text of one answer more was added
pub replies_more : (before during now : Option (List ℕ)) (held mid left : List ℕ) (replies : List Reply) (at : ℕ)
    (reply : Reply) → Adds before held (text_of (take at replies)) during mid
    → take (at + 1) replies ≡ take at replies ++ reply ∷ [] → Adds during mid (reply_text reply) now left
    → Adds before held (text_of (take (at + 1) replies)) now left
replies_more before during now held mid left replies at reply so one adds = rw (
  one,
  flat_map-append reply_text (take at replies) (reply ∷ []),
  append-nil (reply_text reply),
) (adds_on before during now held mid left (text_of (take at replies)) (reply_text reply) so adds)

-- it was written in part
pub replies_part : (before during now : Option (List ℕ)) (held mid : List ℕ) (replies : List Reply) (at : ℕ)
    (reply : Reply) → Adds before held (text_of (take at replies)) during mid
    → take (at + 1) replies ≡ take at replies ++ reply ∷ [] → AppendsPart during now (mid ++ reply_text reply)
    → AppendsPart before now (held ++ text_of replies)
replies_part before during now held mid replies at reply so one part =
    let more : text_of (take (at + 1) replies) ≡ text_of (take at replies) ++ reply_text reply =
    ap text_of one ∙ flat_map-append reply_text (take at replies) (reply ∷ [])
    ∙ ap (λ (xs : List ℕ). text_of (take at replies) ++ xs) (append-nil (reply_text reply)) in
    let all : text_of replies ≡ text_of (take (at + 1) replies) ++ text_of (drop (at + 1) replies) =
    ap text_of (sym (take-append-drop (at + 1) replies))
    ∙ flat_map-append reply_text (take (at + 1) replies) (drop (at + 1) replies) in
    rw (all, more) (part_longer before now held (text_of (take at replies) ++ reply_text reply)
    (text_of (drop (at + 1) replies))
    (part_behind before during now held mid (text_of (take at replies)) (reply_text reply) so part))
