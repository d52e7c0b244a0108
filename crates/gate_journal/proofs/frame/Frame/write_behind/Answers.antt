use Rattle.std.proofs.Common.{rules, ◌≡◌, ℕ, ◌++◌, ◌∷◌, List, [], length, drop, ◌∙◌, ap, arith, length-append}
use Rattle.std.specs.Int.{to_be_bytes, w32}
use Rattle.std.specs.Prelude.{vec_capacity, vec_len}
use Rattle.gate_journal.specs.Followed.{followed}
use Rattle.gate_journal.specs.Side.{CLOSED}
use Rattle.gate_journal.specs.Spelled.{SpelledBody}
use Rattle.gate_journal.specs.Inner.Writing.{tail_of}
use Rattle.gate_journal.proofs.FollowedLemmas.{followed_behind, has_length, has_room}
use Rattle.gate_journal.proofs.frame.Frame.write_behind.Goals as goal

pub write_frame-written-requires-clause-room : goal.write_frame-written-requires-clause-room
write_frame-written-requires-clause-room g c =
    let parts = g.P.BodyParts.parts c.args.parts.now in
    let bytes = c.self.inside.bytes in
    let size = to_be_bytes w32 c.size_with-size.result in
    let counted : vec_len bytes ≡ length bytes.items = search rules in
    let room = has_room bytes.items parts (vec_capacity bytes) (rw (← c.self.view_is) at c.requires.fits)
    (rw (← c.self.view_is) at c.requires.body.0) (λ h. omega (arith, counted, c.self.invariant.0 h))
    (λ h. omega (arith, counted, c.self.invariant.1 (omega (arith, counted, h)))) in
    omega (
      arith,
      room,
      ap (λ (l : List ℕ). length (followed l parts)) c.put_size.ensures.bytes,
      ap (λ (l : List ℕ). length l) (followed_behind size (drop 4 bytes.items) parts),
      length-append size (followed (drop 4 bytes.items) parts),
      c.put_size.ensures.room,
    )

pub put_size-requires : goal.put_size-requires
put_size-requires g c =
    let bytes = c.self.inside.bytes in
    let counted : vec_len bytes ≡ length bytes.items = search rules in
    has_length bytes.items (g.P.BodyParts.parts c.args.parts.now) (vec_capacity bytes)
    (rw (← c.self.view_is) at c.requires.fits) (rw (← c.self.view_is) at c.requires.body.0)
    (λ h. omega (arith, counted, c.self.invariant.0 h))
    (λ h. omega (arith, counted, c.self.invariant.1 (omega (arith, counted, h))))

pub write_frame-written-requires-clause-bound : goal.write_frame-written-requires-clause-bound
write_frame-written-requires-clause-bound g c =
    let parts = g.P.BodyParts.parts c.args.parts.now in
    let body = drop 4 c.self.inside.bytes.items in
    let size = to_be_bytes w32 c.size_with-size.result in
    omega (
      arith,
      c.requires.room,
      ap (λ (s : SpelledBody). length (followed s.body parts)) c.self.view_is,
      ap (λ (l : List ℕ). length (followed l parts)) c.put_size.ensures.bytes,
      ap (λ (l : List ℕ). length l) (followed_behind size body parts),
      length-append size (followed body parts),
    )

pub returns-clause-any_moment : goal.returns-clause-any_moment
returns-clause-any_moment g c =
    let parts = g.P.BodyParts.parts c.args.parts.now in
    let body = drop 4 c.self.inside.bytes.items in
    let sized : c.size_with-size.result ≡ length (followed body parts) =
    omega (
      arith,
      c.size_with-size.ensures,
      ap (λ (s : SpelledBody). length (followed s.body parts)) c.self.view_is,
    ) in
    let tail_is : followed c.put_size.new.bytes.items parts ++ CLOSED ∷ [] ≡ tail_of (followed body parts) =
    ap (λ (l : List ℕ). l ++ CLOSED ∷ [])
    (ap (λ (l : List ℕ). followed l parts) c.put_size.ensures.bytes
    ∙ followed_behind (to_be_bytes w32 c.size_with-size.result) body parts)
    ∙ ap (λ (n : ℕ). to_be_bytes w32 n ++ followed body parts ++ CLOSED ∷ []) sized in
    rw (← c.self.view_is) (λ h. rw tail_is at (c.write_frame-written.ensures.any_moment h))

pub returns-clause-opened : goal.returns-clause-opened
returns-clause-opened g c =
    let parts = g.P.BodyParts.parts c.args.parts.now in
    let body = drop 4 c.self.inside.bytes.items in
    let sized : c.size_with-size.result ≡ length (followed body parts) =
    omega (
      arith,
      c.size_with-size.ensures,
      ap (λ (s : SpelledBody). length (followed s.body parts)) c.self.view_is,
    ) in
    let tail_is : followed c.put_size.new.bytes.items parts ++ CLOSED ∷ [] ≡ tail_of (followed body parts) =
    ap (λ (l : List ℕ). l ++ CLOSED ∷ [])
    (ap (λ (l : List ℕ). followed l parts) c.put_size.ensures.bytes
    ∙ followed_behind (to_be_bytes w32 c.size_with-size.result) body parts)
    ∙ ap (λ (n : ℕ). to_be_bytes w32 n ++ followed body parts ++ CLOSED ∷ []) sized in
    rw (← c.self.view_is) (λ h. rw tail_is at (c.write_frame-written.ensures.opened h))
