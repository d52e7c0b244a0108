-- Bodies that were given, and are on the disk as frames.
use Rattle.std.proofs.Common.{◌≡◌, inl, inr, ℕ, ◌+◌, List, [], ◌∷◌, ◌++◌, length, take, refl, sym, ◌∙◌, ap, subst, arith, append_assoc}
use Rattle.std.specs.Prelude.{Result, Ok, Err, OnOk}
use Rattle.std.specs.List.{flat_map}
use Rattle.std.proofs.lemmas.List.{append-nil, length-append}
use Rattle.std.proofs.lemmas.List.Elements.{All-append, All-cons, All-nil}
use Rattle.std.proofs.lemmas.List.Concat.{flat_map-append}
use Rattle.vtl_base.specs.declared.faults.DevFault.{DevFault}
use Rattle.tape_disk.specs.Disk.{DiskState, Only}
use Rattle.gate_journal.specs.Answers.{NoneFailed}
use Rattle.gate_journal.specs.Heads.{Head, base_of, spell_side_head}
use Rattle.gate_journal.specs.Side.{CLOSED, frame}
use Rattle.cartridge_sides.specs.Copying.{GivesAll, HasCopied, HasFrames, IsCopyBody, NotCopied, WasGiven}

frames_push : (bodies : List (List ℕ)) (body : List ℕ) →
    flat_map frame (bodies ++ body ∷ []) ≡ flat_map frame bodies ++ frame body
frames_push bodies body = flat_map-append frame bodies (body ∷ [])
    ∙ ap (λ (l : List ℕ). flat_map frame bodies ++ l) (append-nil (frame body))

module _ {S : Type 0} (gives : S → List ℕ → S → Type 0) where
  -- bodies that were given, and others after them
  pub gives_then : (old mid new : S) (bodies more : List (List ℕ)) → GivesAll gives old bodies mid →
      GivesAll gives mid more new → GivesAll gives old (bodies ++ more) new
  gives_then old mid new [] more same gave = subst (λ x. GivesAll gives x more new) same gave
  gives_then old mid new (body ∷ bodies) more (next, first, rest) gave =
      (next, first, gives_then next mid new bodies more rest gave)

  -- one more frame
  pub frames_more : (count : ℕ) (bodies : List (List ℕ)) (body : List ℕ) (at end : ℕ) (s0 s1 s2 : S)
      (d0 d1 d2 : DiskState) → (d0.honest → d1.honest) → HasFrames gives count bodies at s0 s1 d0 d1 →
      WasGiven gives body at end s1 s2 d1 d2 → HasFrames gives (count + 1) (bodies ++ body ∷ []) end s0 s2 d0 d2
  frames_more count bodies body at end s0 s1 s2 d0 d1 d2 on so_far next = record {
    gave = gives_then s0 s1 s2 bodies (body ∷ []) so_far.gave (s2, next.gave, refl);
    count_is = omega (arith, length-append bodies (body ∷ []), so_far.count_is);
    each = All-append IsCopyBody bodies (body ∷ []) so_far.each
        (All-cons IsCopyBody body [] next.short (All-nil IsCopyBody));
    none_failed = next.none_failed ∙ so_far.none_failed;
    written = λ h.
        let before = so_far.written h in
        let after = next.written (on h) in (
          after ∙ ap (λ (l : List ℕ). l ++ frame body) before.0
              ∙ append_assoc d0.seen (flat_map frame bodies) (frame body)
              ∙ ap (λ (l : List ℕ). d0.seen ++ l) (sym (frames_push bodies body)),
          omega (arith, next.end_is, before.1, ap length after, length-append d1.seen (frame body)),
        );
  }

  -- a copy that was begun is not written
  pub not_since : (fails : S → DevFault → S → Type 0) (fault : DevFault) (bodies : List (List ℕ)) (s0 s1 s2 : S)
      (d0 d1 d2 : DiskState) → NoneFailed d0 d1 → GivesAll gives s0 bodies s1 →
      NotCopied gives fails fault s1 s2 d1 d2 → NotCopied gives fails fault s0 s2 d0 d2
  not_since fails fault bodies s0 s1 s2 d0 d1 d2 none gave (inl (is, (more, given))) = inl (
    record { cause = omega (arith, none, is.cause); reported = is.reported },
    (bodies ++ more, gives_then s0 s1 s2 bodies more gave given),
  )
  not_since fails fault bodies s0 s1 s2 d0 d1 d2 none gave (inr (nor, (more, mid, given, failed))) =
      inr (nor ∙ none, (bodies ++ more, mid, gives_then s0 s1 mid bodies more gave given, failed))

  -- the head, the frames and a closed gate are a copy
  pub all_copied : (head : Head) (end : ℕ) (s0 s1 : S) (d0 d1 d2 d3 : DiskState) → (d0.honest → d1.honest) →
      (d1.honest → d2.honest) → NoneFailed d0 d1 →
      (d0.honest → d1.seen ≡ take 10 d0.seen ++ spell_side_head head) → (bodies : List (List ℕ)) →
      HasFrames gives (base_of head) bodies end s0 s1 d1 d2 → (r : Result Unit DevFault) →
      OnOk r (NoneFailed d2 d3) →
      (d2.honest → OnOk r ((d3.seen ≡ d2.seen ++ 0 ∷ []) × Only d3.seen d3.may_leave)) →
      OnOk r (HasCopied gives head s0 s1 d0 d3)
  all_copied head end s0 s1 d0 d1 d2 d3 on then none begun bodies frames (Err fault) nor sure = tt
  all_copied head end s0 s1 d0 d1 d2 d3 on then none begun bodies frames (Ok done) nor sure = (
    bodies,
    frames.gave,
    record {
      count_is = frames.count_is;
      each = frames.each;
      none_failed = nor ∙ frames.none_failed ∙ none;
      written = λ h.
          let last = sure (then (on h)) in (
            last.0 ∙ ap (λ (l : List ℕ). l ++ CLOSED ∷ []) ((frames.written (on h)).0
                ∙ ap (λ (l : List ℕ). l ++ flat_map frame bodies) (begun h))
                ∙ append_assoc (take 10 d0.seen ++ spell_side_head head) (flat_map frame bodies) (CLOSED ∷ [])
                ∙ append_assoc (take 10 d0.seen) (spell_side_head head) (flat_map frame bodies ++ CLOSED ∷ []),
            last.1,
          );
    },
  )
