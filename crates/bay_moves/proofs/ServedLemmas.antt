-- The answers of each drive of a library to its commands of some lines.
use Rattle.std.proofs.Common.{◌≡◌, ◌≢◌, ℕ, ◌==◌, Bool, true, false, List, [], ◌∷◌, ◌++◌, Option, None, Some, is_some, cond, filter, flat_map, length, map, refl, sym, ap, ◌∙◌, subst, arith}
use Rattle.std.proofs.lemmas.Bool.{eqb-false, eqb-true}
use Rattle.std.proofs.lemmas.List.{map-append}
use Rattle.std.specs.List.{list_all}
use Rattle.tape_disk.specs.Disk.{DiskState}
use Rattle.scsi_sense.specs.declared.replies.Reply.{Reply}
use Rattle.drive_commands.specs.Execute.{Answers}
use Rattle.drive_commands.specs.Run.{Serves}
use Rattle.drive_commands.specs.Work.{Request}
use Rattle.tape_buffer.specs.Moves.{buffer_below}
use Rattle.tape_buffer.specs.State.{state_of}
use Rattle.aptpl_store.specs.Kept.{store_below, store_kept}
use Rattle.vtl_script.specs.declared.lines.Line.{Line}
use Rattle.vtl_script.specs.declared.items.Item.{Item}
use Rattle.vtl_script.specs.declared.items.Item.TheVariants.{Phase, Move}
use Rattle.vtl_script.specs.Items.{commands_to_run, is_phase}
use Rattle.bay_moves.specs.Commands.{Commands}
use Rattle.bay_moves.specs.Elements.{BayState, HeldState, bay_at}
use Rattle.bay_moves.specs.Moves.{KeepsBays}
use Rattle.bay_moves.specs.OneHost.{beside, requests_at}
use Rattle.drive_commands.specs.Events.{Event, OfLibrary}
use Rattle.bay_moves.specs.Runs.{AnswersEvents, events_of, line_event, line_request}

-- two lookups of one value are the same
pub found_same : {X : Type 0} (x y : X) → Some x ≡ Some y → x ≡ y
found_same {X} x y is = ap (λ (found : Option X). value found) is
  where
    value : Option X → X
    value None = x
    value (Some other) = other

-- items without moves are their commands
pub orders_are : (items : List Item) → list_all is_phase items ≡ true
    → flat_map events_of items ≡ map line_event (commands_to_run items)
orders_are [] all = refl
orders_are (Phase lines ∷ items) all =
    ap (λ (rest : List (Event OfLibrary)). map line_event lines ++ rest) (orders_are items all)
    ∙ sym (map-append line_event lines (commands_to_run items))
orders_are (Move from to ∷ items) all = absurd (cc)

module _ {D : Type 0} (state : D → DiskState) where
  -- the drive of this number, from this state, answered its own of these lines
  pub record ServedAt
      (number : ℕ) (lines : List Line) (replies : List Reply) (bay : BayState D) (held : HeldState D) : Type
      0 where
    pub left : BayState D
    pub is : bay_at held.bays number ≡ Some left
    pub serves :
        Serves (state_of state) (buffer_below state) store_kept (store_below state) bay
        (requests_at number lines) (beside number lines replies) left

  -- a command to this drive, or to another, and then more
  one_more : (number : ℕ) (line : Line) (lines : List Line) (reply : Reply) (replies : List Reply) (bay : BayState D)
      (old mid new : HeldState D) (test : Bool) → (line.drive == number) ≡ test
      → Commands state line.drive (line_request line) old reply mid → bay_at old.bays number ≡ Some bay
      → ((next : BayState D) → bay_at mid.bays number ≡ Some next → ServedAt number lines replies next new)
      → ServedAt number (line ∷ lines) (reply ∷ replies) bay new
  one_more number line lines reply replies bay old mid new true here commands is more =
      let same : line.drive ≡ number = eqb-true line.drive number here in
      let first : commands.bay ≡ bay =
      found_same commands.bay bay (sym commands.is ∙ ap (λ (n : ℕ). bay_at old.bays n) same ∙ is) in
      let rest =
      more commands.left (ap (λ (n : ℕ). bay_at mid.bays n) (sym same) ∙ commands.now.bays.here) in
      let own = filter (λ line. line.drive == number) lines in
      let told = beside number lines replies in
      record {
        left = rest.left;
        is = rest.is;
        serves = subst (λ (b : Bool). Serves (state_of state) (buffer_below state) store_kept (store_below state) bay
            (map line_request (cond b (line ∷ own) own)) (cond b (reply ∷ told) told) rest.left)
            (sym here) (
              commands.left,
              subst (λ (b : BayState D). Answers (state_of state) (buffer_below state) store_kept
                  (store_below state) b (line_request line) reply commands.left) first commands.step,
              rest.serves,
            );
      }
  one_more number line lines reply replies bay old mid new false here commands is more =
      let apart : number ≢ line.drive = λ same. eqb-false line.drive number here (sym same) in
      let rest = more bay (commands.now.bays.elsewhere number apart ∙ is) in
      let own = filter (λ line. line.drive == number) lines in
      let told = beside number lines replies in
      record {
        left = rest.left;
        is = rest.is;
        serves = subst (λ (b : Bool). Serves (state_of state) (buffer_below state) store_kept (store_below state) bay
            (map line_request (cond b (line ∷ own) own)) (cond b (reply ∷ told) told) rest.left)
            (sym here) rest.serves;
      }

  pub served_at : (number : ℕ) (bay : BayState D) (old new : HeldState D) (lines : List Line) (replies : List Reply)
      → AnswersEvents state old (map line_event lines) replies new → bay_at old.bays number ≡ Some bay
      → ServedAt number lines replies bay new
  served_at number bay old new [] [] ran is =
      record { left = bay; is = ap (λ (held : HeldState D). bay_at held.bays number) ran ∙ is; serves = refl }
  served_at number bay old new (line ∷ lines) (reply ∷ replies) ran is =
      one_more number line lines reply replies bay old ran.0 new (line.drive == number) refl ran.1 is
      (λ next there. served_at number next ran.0 new lines replies ran.2 there)
  served_at number bay old new [] (reply ∷ replies) ran is = absurd ran
  served_at number bay old new (line ∷ lines) [] ran is = absurd ran

  -- each command has one reply
  pub counted : (old new : HeldState D) (lines : List Line) (replies : List Reply)
      → AnswersEvents state old (map line_event lines) replies new → length replies ≡ length lines
  counted old new [] [] ran = refl
  counted old new (line ∷ lines) (reply ∷ replies) ran =
      let rest = counted ran.0 new lines replies ran.2 in omega (arith, rest)
  counted old new [] (reply ∷ replies) ran = absurd ran
  counted old new (line ∷ lines) [] ran = absurd ran

  -- a drive that is not configured got no command
  none_more : (number : ℕ) (line : Line) (rest : List Line) (reply : Reply) (old mid : HeldState D) (test : Bool)
      → (line.drive == number) ≡ test → Commands state line.drive (line_request line) old reply mid
      → bay_at old.bays number ≡ None → (bay_at mid.bays number ≡ None → rest ≡ [])
      → cond test (line ∷ rest) rest ≡ []
  none_more number line rest reply old mid true here commands none more =
      let same : line.drive ≡ number = eqb-true line.drive number here in
      let both : Some commands.bay ≡ None =
      sym commands.is ∙ ap (λ (n : ℕ). bay_at old.bays n) same ∙ none in
      absurd (cc)
  none_more number line rest reply old mid false here commands none more =
      let apart : number ≢ line.drive = λ same. eqb-false line.drive number here (sym same) in
      more (commands.now.bays.elsewhere number apart ∙ none)

  pub none_asked : (number : ℕ) (old new : HeldState D) (lines : List Line) (replies : List Reply)
      → AnswersEvents state old (map line_event lines) replies new → bay_at old.bays number ≡ None
      → filter (λ line. line.drive == number) lines ≡ []
  none_asked number old new [] [] ran none = refl
  none_asked number old new (line ∷ lines) (reply ∷ replies) ran none =
      none_more number line (filter (λ line. line.drive == number) lines) reply old ran.0 (line.drive == number) refl
      ran.1 none (λ there. none_asked number ran.0 new lines replies ran.2 there)
  none_asked number old new [] (reply ∷ replies) ran none = absurd ran
  none_asked number old new (line ∷ lines) [] ran none = absurd ran

  -- the same drives are configured after a command
  pub commands_keep : (number : ℕ) (request : Request) (old : HeldState D) (reply : Reply) (new : HeldState D)
      → Commands state number request old reply new → KeepsBays old new
  commands_keep number request old reply new commands other = by (other == number) refl
    where
      by : (test : Bool) → (other == number) ≡ test
          → is_some (bay_at new.bays other) ≡ is_some (bay_at old.bays other)
      by true here =
          let same : other ≡ number = eqb-true other number here in
          ap (λ (n : ℕ). is_some (bay_at new.bays n)) same
          ∙ ap (λ (found : Option (BayState D)). is_some found) commands.now.bays.here
          ∙ sym (ap (λ (found : Option (BayState D)). is_some found) commands.is)
          ∙ sym (ap (λ (n : ℕ). is_some (bay_at old.bays n)) same)
      by false here =
          ap (λ (found : Option (BayState D)). is_some found)
          (commands.now.bays.elsewhere other (eqb-false other number here))
