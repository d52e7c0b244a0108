-- A round, from what each of its threads has done.
use Rattle.std.proofs.Common.{◌≡◌, ◌&&◌, ◌⊎◌, inl, inr, not, ℕ, Bool, true, false, List, ◌++◌, Option, Result, Ok, Err, length, take, drop, refl, sym, ◌∙◌, subst}
use Rattle.std.proofs.Math.Seq.{take-append_seam}
use Rattle.vtl_wire.specs.declared.answers.Answer.{Answer}
use Rattle.vtl_wire.specs.declared.faults.WireFault.{WireFault}
use Rattle.vtl_wire.specs.declared.faults.WireFault.TheVariants.{BadFrame, ReadFault, WriteFault, NoMemory}
use Rattle.vtl_wire.specs.declared.requests.Request.{Request}
use Rattle.vtl_hosts.specs.declared.hosts.HostEnd.{HostEnd}
use Rattle.vtl_hosts.specs.declared.reading.Break.{Break}
use Rattle.vtl_hosts.specs.declared.reading.Break.TheVariants.{Ended, Again, Next}
use Rattle.vtl_hosts.specs.Rounds.{Given, WritesCut, WritesWhole}
use Rattle.vtl_hosts.specs.Turns.{ReadsNoCommand}
use Rattle.vtl_hosts.specs.Inner.Hosts.{AreHostsDone}
use Rattle.vtl_hosts.specs.Inner.Idle.{AreIdle, RunsRound, servers_of}
use Rattle.vtl_hosts.specs.Inner.Looks.{LeavesAt, LooksAll}
use Rattle.vtl_hosts.specs.Inner.Reading.{ReadingEnds, ReadsRound}
use Rattle.vtl_hosts.specs.Inner.Rings.{Answers, Requests}
use Rattle.vtl_hosts.specs.Inner.Writing.{WritesAll, WritesGiven}
use Rattle.vtl_hosts.proofs.RoundHostLemmas.{all_answered, idle_again, owes, some_answered}

-- what a call left of all of a vector
pub refilled : {X : Type 0} (n : ℕ) (xs ys : List X) → length xs ≡ n → take n (xs ++ drop (length xs) ys) ≡ xs
refilled n xs ys same =
    subst (λ (k : ℕ). take k (xs ++ drop (length xs) ys) ≡ xs) same (take-append_seam xs (drop (length xs) ys))

-- a write failed, or all answers that were given on were written and some host is owed one
part_of : (before now : Option (List ℕ)) (failed empty : Bool) (given : List Given) (Owed : Type 0)
    → false ≡ (not failed && empty) → WritesGiven before false now failed given → (empty ≡ false → Owed)
    → WritesCut before now given ⊎ (WritesWhole before now given × Owed)
part_of before now true empty given Owed is wrote owed = inl wrote
part_of before now false false given Owed is wrote owed = inr (wrote, owed refl)
part_of before now false true given Owed is wrote owed = absurd (cc)

both_so : (failed empty : Bool) → true ≡ (not failed && empty) → (failed ≡ false) × (empty ≡ true)
both_so false empty is = (refl, sym is)
both_so true empty is = absurd (cc)

module _ {S G : Type 0} (serves : S → Request → Answer → S → Type 0) (takes : G → Request → Bool)
    (answers_so : G → Request → Answer → G → Type 0) where
  -- what was read behind the commands
  no_command : (desk : G) (count count' : ℕ) (left left' : Option (List ℕ)) (read : Result Break WireFault)
      → ReadingEnds (takes desk) count left count' left' read → ReadsNoCommand serves takes answers_so desk left left'
  no_command desk count count' left left' (Ok Ended) ends = inr (inl ends)
  no_command desk count count' left left' (Ok Again) ends = inl ends.0
  no_command desk count count' left left' (Ok (Next request)) ends =
      inr (inr (inr (inr (inr (record {
        request = request;
        read = ends.0;
        alone = record { taken = ends.1; host = ends.2 };
      })))))
  no_command desk count count' left left' (Err (BadFrame number)) ends = inr (inr (inl ends.1))
  no_command desk count count' left left' (Err ReadFault) ends = inr (inr (inr (inl ends)))
  no_command desk count count' left left' (Err WriteFault) ends = absurd ends
  no_command desk count count' left left' (Err NoMemory) ends = inr (inr (inr (inr (inl ends))))

  pub round_runs : (hosts hosts' hosts'' : List (HostEnd S)) (requests requests' requests'' : List Requests)
      (answers answers' answers'' : List Answers) (desk : G) (count count' : ℕ)
      (left left' before now : Option (List ℕ)) (read : Result Break WireFault) (failed empty whole : Bool)
      → AreIdle hosts requests answers → AreHostsDone serves hosts hosts'
      → WritesAll answers before false answers' now failed
      → ReadsRound (takes desk) count requests left count' requests' left' read
      → LooksAll hosts' requests' answers' hosts'' requests'' answers'' empty
      → (empty ≡ false → LeavesAt hosts'' answers'')
      → whole ≡ (not failed && empty)
      → RunsRound serves takes answers_so count (record { hosts = servers_of hosts; desk = desk }) left before count'
      (record { hosts = servers_of hosts''; desk = desk }) left' now read whole
  round_runs hosts hosts' hosts'' requests requests' requests'' answers answers' answers'' desk count count' left left'
      before now read failed empty true idle done wrote reads looks leaves is =
      let so = both_so failed empty is in (
        reads.behind,
        record {
          commands = reads.read.commands;
          given = wrote.given;
          read = reads.read.read;
          spelled = reads.read.spelled;
          taken = reads.read.taken;
          hosts =
              all_answered serves hosts hosts' hosts'' requests requests' requests'' answers answers' answers''
              reads.read.commands wrote.given empty idle done reads.read.dealt wrote.taken looks so.1;
          written =
              subst (λ (f : Bool). WritesGiven before false now f wrote.given) so.0 wrote.written;
        },
        subst (λ (n : ℕ). ReadingEnds (takes desk) n reads.behind count' left' read) reads.read.counted reads.ended,
      )
  round_runs hosts hosts' hosts'' requests requests' requests'' answers answers' answers'' desk count count' left left'
      before now read failed empty false idle done wrote reads looks leaves is = (
        reads.behind,
        record {
          commands = reads.read.commands;
          given = wrote.given;
          read = reads.read.read;
          spelled = reads.read.spelled;
          taken = reads.read.taken;
          hosts =
              some_answered serves hosts hosts' hosts'' requests requests' requests'' answers answers' answers''
              reads.read.commands wrote.given empty idle done reads.read.dealt wrote.taken looks;
          written = part_of before now failed empty wrote.given _ is wrote.written
              (λ some. owes serves hosts hosts' hosts'' requests requests' requests'' answers answers' answers''
              reads.read.commands wrote.given empty idle done reads.read.dealt wrote.taken looks (leaves some));
        },
        no_command desk reads.counted count' reads.behind left' read reads.ended,
      )

  pub round_idle : (hosts hosts' hosts'' : List (HostEnd S)) (requests requests' requests'' : List Requests)
      (answers answers' answers'' : List Answers) (desk : G) (count count' : ℕ)
      (left left' before now : Option (List ℕ)) (read : Result Break WireFault) (failed empty whole : Bool)
      → AreIdle hosts requests answers → AreHostsDone serves hosts hosts'
      → WritesAll answers before false answers' now failed
      → ReadsRound (takes desk) count requests left count' requests' left' read
      → LooksAll hosts' requests' answers' hosts'' requests'' answers'' empty
      → whole ≡ (not failed && empty) → whole ≡ true → AreIdle hosts'' requests'' answers''
  round_idle hosts hosts' hosts'' requests requests' requests'' answers answers' answers'' desk count count' left left'
      before now read failed empty whole idle done wrote reads looks is so =
      idle_again serves hosts hosts' hosts'' requests requests' requests'' answers answers' answers''
      reads.read.commands wrote.given empty idle done reads.read.dealt wrote.taken looks
      (both_so failed empty (sym so ∙ is)).1
