-- Frames one after another: bytes have one reading.
use Rattle.std.proofs.Common.{◌≡◌, ◌⊎◌, inl, inr, ⊎_elim, ℕ, zero, suc, ◌≤◌, ◌+◌, List, [], ◌∷◌, ◌++◌, length, take, drop, refl, sym, ◌∙◌, ap, subst, arith, append_assoc, length-append}
use Rattle.std.specs.List.{All, flat_map}
use Rattle.std.specs.Int.{to_be_bytes, w32}
use Rattle.std.proofs.lemmas.List.{take_at, drop_at}
use Rattle.std.proofs.lemmas.List.Elements.{All-nil, All-cons, All-head, All-tail}
use Rattle.byteorder.specs.Endian.{big_from}
use Rattle.byteorder.specs.Numbers.{big_number-reads_back}
use Rattle.gate_journal.specs.Side.{OPEN, IsBody, frame, BeginsWithFrame}
use Rattle.gate_journal.specs.Inner.Deciding.{Decidable, below, both, same}

pub length-frame : (body : List ℕ) → length (frame body) ≡ 5 + length body
length-frame body = omega (arith, length-append (to_be_bytes w32 (length body)) body)

-- no frame with a further byte follows, and some byte follows unless no frame came before (own)
abbrev pub NoMoreFrames : List (List ℕ) → List ℕ → Type 0
NoMoreFrames bodies rest = (BeginsWithFrame rest → ⊥) × ((bodies ≡ []) ⊎ ((x : ℕ) × (xs : List ℕ) × (rest ≡ x ∷ xs)))

module _ (body : List ℕ) (ok : IsBody body) (rest : List ℕ) where
  regrouped : frame body ++ rest ≡ OPEN ∷ (to_be_bytes w32 (length body) ++ (body ++ rest))
  regrouped = simp append_assoc

  -- the length that follows the gate
  pub length_parsed : big_from 0 4 (drop 1 (frame body ++ rest)) ≡ length body
  length_parsed =
      ap (λ (l : List ℕ). big_from 0 4 (drop 1 l)) regrouped
      ∙ big_number-reads_back 4 (length body) (body ++ rest) (omega (arith, ok.1))

  pub body_parsed : take (length body) (drop 5 (frame body ++ rest)) ≡ body
  body_parsed = ap (λ (l : List ℕ). take (length body) (drop 5 l)) regrouped ∙ take_at body rest (length body) refl

  pub rest_parsed : drop (5 + length body) (frame body ++ rest) ≡ rest
  rest_parsed = drop_at (frame body) rest (5 + length body) (length-frame body)

pub same_frame : (a b x y : List ℕ) → IsBody a → IsBody b → frame a ++ x ≡ frame b ++ y → (a ≡ b) × (x ≡ y)
same_frame a b x y oka okb e =
    let long : length a ≡ length b =
    sym (length_parsed a oka x) ∙ ap (λ (l : List ℕ). big_from 0 4 (drop 1 l)) e ∙ length_parsed b okb y in
    let one : a ≡ b =
    sym (body_parsed a oka x) ∙ ap (λ (l : List ℕ). take (length a) (drop 5 l)) e
    ∙ ap (λ (n : ℕ). take n (drop 5 (frame b ++ y))) long
    ∙ body_parsed b okb y in (
      one,
      sym (rest_parsed a oka x) ∙ ap (λ (l : List ℕ). drop (5 + length a) l) e
          ∙ ap (λ (n : ℕ). drop (5 + n) (frame b ++ y)) long ∙ rest_parsed b okb y,
    )

some_front : (xs : List ℕ) (y : ℕ) (ys : List ℕ) → (z : ℕ) × (zs : List ℕ) × (xs ++ y ∷ ys ≡ z ∷ zs)
some_front [] y ys = (y, ys, refl)
some_front (x ∷ xs) y ys = (x, xs ++ y ∷ ys, refl)

-- where bytes begin with a frame and more frames, an end follows later
frame_goes_on : (x : List ℕ) (bs : List (List ℕ)) (r s : List ℕ) → IsBody x → NoMoreFrames (x ∷ bs) r →
    flat_map frame (x ∷ bs) ++ r ≡ s → BeginsWithFrame s
frame_goes_on x bs r s ok (none, inl e) is = absurd (cc)
frame_goes_on x bs r s ok (none, inr (y, ys, e)) is =
    let more = some_front (flat_map frame bs) y ys in (
      x,
      more.0,
      more.1,
      ok,
      sym is ∙ append_assoc (frame x) (flat_map frame bs) r
          ∙ ap (λ (l : List ℕ). frame x ++ l) (ap (λ (l : List ℕ). flat_map frame bs ++ l) e ∙ more.2),
    )

ends_tail : (x : List ℕ) (bs : List (List ℕ)) (r : List ℕ) → NoMoreFrames (x ∷ bs) r → NoMoreFrames bs r
ends_tail x bs r (none, inl e) = absurd (cc)
ends_tail x bs r (none, inr w) = (none, inr w)

pub one_end : (bs cs : List (List ℕ)) (r s : List ℕ) → All IsBody bs → All IsBody cs →
    flat_map frame bs ++ r ≡ flat_map frame cs ++ s → NoMoreFrames bs r → NoMoreFrames cs s → (bs ≡ cs) × (r ≡ s)
one_end [] [] r s okb okc e endb endc = (refl, e)
one_end (x ∷ bs) [] r s okb okc e endb endc = absurd (endc.0 (frame_goes_on x bs r s (All-head IsBody x bs okb) endb e))
one_end [] (y ∷ cs) r s okb okc e endb endc =
    absurd (endb.0 (frame_goes_on y cs s r (All-head IsBody y cs okc) endc (sym e)))
one_end (x ∷ bs) (y ∷ cs) r s okb okc e endb endc =
    let split = same_frame x y (flat_map frame bs ++ r) (flat_map frame cs ++ s) (All-head IsBody x bs okb)
    (All-head IsBody y cs okc)
    (sym (append_assoc (frame x) (flat_map frame bs) r) ∙ e ∙ append_assoc (frame y) (flat_map frame cs) s) in
    let others = one_end bs cs r s (All-tail IsBody x bs okb) (All-tail IsBody y cs okc) split.1
    (ends_tail x bs r endb) (ends_tail y cs s endc) in
    (λ i. split.0 i ∷ others.0 i, others.1)

-- the only body and the only rest that the bytes can begin with (own)
abbrev pub parsed_length : List ℕ → ℕ
parsed_length bytes = big_from 0 4 (drop 1 bytes)

abbrev parsed_body : List ℕ → List ℕ
parsed_body bytes = take (parsed_length bytes) (drop 5 bytes)

abbrev parsed_rest : List ℕ → List ℕ
parsed_rest bytes = drop (5 + parsed_length bytes) bytes

module _ (bytes : List ℕ) (w : BeginsWithFrame bytes) where
  pub is_length : parsed_length bytes ≡ length w.0
  is_length = ap (λ (l : List ℕ). parsed_length l) w.4 ∙ length_parsed w.0 w.3 (w.1 ∷ w.2)

  is_body : parsed_body bytes ≡ w.0
  is_body = ap (λ (n : ℕ). take n (drop 5 bytes)) is_length ∙ ap (λ (l : List ℕ). take (length w.0) (drop 5 l)) w.4
      ∙ body_parsed w.0 w.3 (w.1 ∷ w.2)

  is_rest : parsed_rest bytes ≡ w.1 ∷ w.2
  is_rest = ap (λ (n : ℕ). drop (5 + n) bytes) is_length ∙ ap (λ (l : List ℕ). drop (5 + length w.0) l) w.4
      ∙ rest_parsed w.0 w.3 (w.1 ∷ w.2)

  is_whole : frame (parsed_body bytes) ++ parsed_rest bytes ≡ bytes
  is_whole = (λ i. frame (is_body i) ++ is_rest i) ∙ sym w.4

found : (bytes body rest : List ℕ) → IsBody body → frame body ++ rest ≡ bytes →
    ((w : BeginsWithFrame bytes) → rest ≡ w.1 ∷ w.2) → Decidable (BeginsWithFrame bytes)
found bytes body [] ok is unless = inr (λ w. let e : [] ≡ w.1 ∷ w.2 = unless w in cc)
found bytes body (x ∷ xs) ok is unless = inl (body, x, xs, ok, sym is)

pub begins : (bytes : List ℕ) → Decidable (BeginsWithFrame bytes)
begins bytes = elim (both (both (below 1 (length (parsed_body bytes))) (below (length (parsed_body bytes)) 8388608))
    (same (frame (parsed_body bytes) ++ parsed_rest bytes) bytes)) [
      | inl w ↦ found bytes (parsed_body bytes) (parsed_rest bytes) w.0 w.1 (is_rest bytes)
      | inr never ↦ inr (λ w. never (subst (λ (l : List ℕ). IsBody l) (sym (is_body bytes w)) w.3, is_whole bytes w))
    ]

abbrev pub Read : List ℕ → Type 0
Read bytes =
    (bodies : List (List ℕ)) × (rest : List ℕ) × All IsBody bodies × (bytes ≡ flat_map frame bodies ++ rest)
    × NoMoreFrames bodies rest

one_more : (bytes : List ℕ) (w : BeginsWithFrame bytes) → Read (w.1 ∷ w.2) → Read bytes
one_more bytes w r = (
  w.0 ∷ r.0,
  r.1,
  All-cons IsBody w.0 r.0 w.3 r.2,
  w.4 ∙ ap (λ (l : List ℕ). frame w.0 ++ l) r.3 ∙ sym (append_assoc (frame w.0) (flat_map frame r.0) r.1),
  (
    r.4.0,
    inr (⊎_elim (λ (none : r.0 ≡ []).
        (w.1, w.2, sym (r.3 ∙ ap (λ (l : List (List ℕ)). flat_map frame l ++ r.1) none))) (λ some. some) r.4.1),
  ),
)

read_within : (n : ℕ) (bytes : List ℕ) → length bytes ≤ n → Read bytes
read_within zero bytes short = elim (begins bytes) [
  | inr never ↦ ([], bytes, All-nil IsBody, refl, (never, inl refl))
  | inl w ↦ absurd (omega (arith, short, ap length w.4, length-append (frame w.0) (w.1 ∷ w.2)))
]
read_within (suc n) bytes short = elim (begins bytes) [
  | inr never ↦ ([], bytes, All-nil IsBody, refl, (never, inl refl))
  | inl w ↦ one_more bytes w (read_within n (w.1 ∷ w.2)
      (omega (arith, short, ap length w.4, length-append (frame w.0) (w.1 ∷ w.2), length-frame w.0)))
]

pub read : (bytes : List ℕ) → Read bytes
read bytes = read_within (length bytes) bytes (omega arith)
