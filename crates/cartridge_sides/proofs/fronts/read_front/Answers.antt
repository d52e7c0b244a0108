use Rattle.std.proofs.Common.{◌≡◌, ◌+◌, ◌-◌, ◌≤◌, inl, inr, ℕ, length, take, sym, ◌∙◌, ap, arith}
use Rattle.std.specs.Prelude.{slice_range}
use Rattle.std.proofs.lemmas.Bool.{cases_lt}
use Rattle.std.proofs.lemmas.List.{length-take, length-take-le, take_all, take_at}
use borrow.Rule.Slice.PartMut.{post_of}
use Rattle.gate_journal.specs.Reads.{reads_one}
use Rattle.cartridge_sides.proofs.fronts.read_front.Goals as goal

pub returns-clause-front : goal.returns-clause-front
returns-clause-front g c = λ h.
    let seen = (g.D.Disk.state c.args.disk.now).seen in
    let read = c.read_at.new.buffer in
    let n : ℕ = c.front_len-len.result in
    let bytes = c.args.bytes.now in
    let size : c.len.result ≡ length seen = c.len.ensures.length h in
    let few : n ≤ length bytes = elim (cases_lt c.len.result 71) [
      | inl less ↦ omega (arith, less, c.front_len-len.ensures.all less, c.requires)
      | inr more ↦ omega (arith, c.front_len-len.ensures.front more, c.requires)
    ] in
    let part : length (take n bytes) ≡ n = length-take-le n bytes few in
    let sized : length read ≡ n = omega (arith, c.read_at.auto.buffer, part) in
    let there : read ≡ slice_range seen 0 (0 + n) =
    c.in_ok-read_at.ensures.bytes h ∙ ap (λ (k : ℕ). slice_range seen 0 (0 + k)) part in
    let here : read ≡ take n seen =
    there ∙ (let e : 0 + n - 0 ≡ n = omega arith in ap (λ (k : ℕ). take k seen) e) in
    take_at read (post_of 0 n bytes) n sized ∙ here ∙ elim (cases_lt c.len.result 71) [
      | inl less ↦
          let all = c.front_len-len.ensures.all less in
          take_all n seen (omega (arith, all, size)) ∙ sym (take_all 71 seen (omega (arith, less, size)))
      | inr more ↦ let e = c.front_len-len.ensures.front more in ap (λ (k : ℕ). take k seen) e
    ]

pub returns-in_err-read_at-clause-reads : goal.returns-in_err-read_at-clause-reads
returns-in_err-read_at-clause-reads g c =
    let part = length-take c.front_len-len.result c.args.bytes.now in
    reads_one g.D.Disk.effect _ _ _ _ (omega (arith, part, c.requires)) (_, c.read_at.ensures.effect)

pub returns-clause-reads : goal.returns-clause-reads
returns-clause-reads g c =
    let part = length-take c.front_len-len.result c.args.bytes.now in
    reads_one g.D.Disk.effect _ _ _ _ (omega (arith, part, c.requires)) (_, c.read_at.ensures.effect)
