-- Bytes that come from a reader.
use Rattle.std.proofs.Common.{◌≡◌, ℕ, ◌+◌, ◌≤◌, true, false, nat_lt, List, [], ◌++◌, length, take, drop, Option, Some, None, Result, Ok, Err, OnErr, IfErr, ◌⊎◌, inl, inr, position, refl, sym, ap, ◌∙◌, subst, arith, append_assoc, length-drop, length-take-le, ◌==◌}
use Rattle.std.proofs.lemmas.Bool.Decides.{nat_tests}
use Rattle.std.proofs.lemmas.List.{drop_at, take-append-le, take_all, drop-append-le, length-append}
use Rattle.std.proofs.Math.Seq.{take-add}
use Rattle.std.specs.Io.KnownBytes.{Consumes}
use Rattle.vtl_script.specs.declared.faults.ScriptFault.{ScriptFault}
use Rattle.vtl_script.specs.declared.faults.ScriptFault.TheVariants.{ReadFault, NoMemory}
use Rattle.vtl_script.specs.Runs.{TakesWithin}
use Rattle.vtl_script.specs.Inner.Reading.{LineReading, part, shows_end, BringsBytes, Comes}

-- what holds anyway holds at an error
pub on_err : {T E : Type 0} (r : Result T E) (P : Type 0) → P → OnErr r P
on_err (Ok x) P p = tt
on_err (Err e) P p = p

-- an error is one
pub err_same : {T E : Type 0} (r : Result T E) (a b : E) → r ≡ Err a → r ≡ Err b → a ≡ b
err_same r a b h k = cc

-- a result is one
pub ok_other : {T E : Type 0} (r : Result T E) (x : T) (e : E) → r ≡ Ok x → r ≡ Err e → ⊥
ok_other r x e h k = absurd (cc)

pub consumes_in_place : (left left' : Option (List ℕ)) (n : ℕ) (front part rest : List ℕ) (at : ℕ) → length front ≡ at
    → n ≤ length part → Consumes left left' (take n part)
    → Consumes left left' (take n (drop at (front ++ (part ++ rest))))
consumes_in_place left left' n front part rest at long fits read =
    subst (Consumes left left') (sym
    (ap (take n) (drop_at front (part ++ rest) at long) ∙ take-append-le n part rest fits)) read

-- two readings in a row
pub consumes_on : (a b c : Option (List ℕ)) (first second : List ℕ) → Consumes a b first → Consumes b c second
    → Consumes a c (first ++ second)
consumes_on None b c first second h k = tt
consumes_on (Some xs) None c first second h k = absurd h
consumes_on (Some xs) (Some ys) None first second h k = absurd k
consumes_on (Some xs) (Some ys) (Some zs) first second h k = h ∙ ap (λ (rest : List ℕ). first ++ rest) k
    ∙ sym (append_assoc first second zs)

pub consumes_none : (a : Option (List ℕ)) → Consumes a a []
consumes_none None = tt
consumes_none (Some xs) = refl

-- so many bytes were put behind those that fill a buffer up to a place
pub brings_behind : (left left' : Option (List ℕ)) (start filled count : ℕ) (old now : List ℕ)
    → part start filled now ≡ old → start ≤ filled → filled + count ≤ length now
    → Consumes left left' (take count (drop filled now))
    → BringsBytes left old left' (part start (filled + count) now) count
brings_behind left left' start filled count old now same order within taken =
    let long : length (take filled now) ≡ filled = length-take-le filled now (omega (arith, within)) in
    let rest = length-drop filled now in
    record {
      read = take count (drop filled now);
      taken = taken;
      unread = ap (drop start) (take-add filled count now)
          ∙ drop-append-le start (take filled now) (take count (drop filled now)) (omega (arith, long, order))
          ∙ ap (λ (xs : List ℕ). xs ++ take count (drop filled now)) same;
      count_is = length-take-le count (drop filled now) (omega (arith, rest, within));
    }

-- what a buffer was brought comes to what is unread
pub comes_of : (left left' : Option (List ℕ)) (old new : LineReading) (buffer : List ℕ) (some count : ℕ)
    → BringsBytes left buffer left' new.unread some → buffer ≡ old.unread → some ≡ count → new.bytes ≡ old.bytes + count
    → old.reads ≤ new.reads → new.lines ≡ old.lines → Comes left old left' new
comes_of left left' old new buffer some count brings same is bytes reads lines = record {
  read = brings.read;
  taken = brings.taken;
  unread = brings.unread ∙ ap (λ (xs : List ℕ). xs ++ brings.read) same;
  bytes = omega (arith, bytes, is, brings.count_is);
  reads = reads;
  lines = lines;
}

pub comes_on : (a b c : Option (List ℕ)) (old mid new : LineReading) → Comes a old b mid → Comes b mid c new
    → Comes a old c new
comes_on a b c old mid new first second = record {
  read = first.read ++ second.read;
  taken = consumes_on a b c first.read second.read first.taken second.taken;
  unread = second.unread ∙ ap (λ (xs : List ℕ). xs ++ second.read) first.unread
      ∙ append_assoc old.unread first.read second.read;
  bytes = omega (arith, first.bytes, second.bytes, length-append first.read second.read);
  reads = omega (arith, first.reads, second.reads);
  lines = second.lines ∙ first.lines;
}

-- what came has no line feed in its first bytes
pub record IsSearched (left : Option (List ℕ)) (old : LineReading) (left' : Option (List ℕ)) (new : LineReading)
    (searched : ℕ) : Type 0 where
  pub comes : Comes left old left' new
  pub within : searched ≤ length new.unread
  pub none : position (λ byte. byte == 10) (take searched new.unread) ≡ None

-- more came behind bytes that have no line feed
pub searched_on : (a b c : Option (List ℕ)) (old mid new : LineReading) (s : ℕ) → Comes a old b mid
    → position (λ byte. byte == 10) mid.unread ≡ None → s ≡ length mid.unread → Comes b mid c new
    → IsSearched a old c new s
searched_on a b c old mid new s first none all second = record {
  comes = comes_on a b c old mid new first second;
  within = omega (arith, all, ap length second.unread, length-append mid.unread second.read);
  none = rw (
    second.unread,
    all,
    take-append-le (length mid.unread) mid.unread second.read (omega arith),
    take_all
        (length mid.unread) mid.unread (omega arith),
  ) none;
}

shows_not : (unread : List ℕ) → position (λ byte. byte == 10) unread ≡ None → length unread ≤ 2200000
    → shows_end unread ≡ false
shows_not unread none short =
    let fits : nat_lt 2200000 (length unread) ≡ false = grind (arith, nat_tests) in
    rw (none, fits) refl

-- bytes that do not show where the first line ends are not the first bytes, where those did
pub not_shown : (old now : LineReading) → position (λ byte. byte == 10) now.unread ≡ None → length now.unread ≤ 2200000
    → (shows_end old.unread ≡ true → now ≡ old) → shows_end old.unread ≡ true → ⊥
not_shown old now none short same shows =
    let other : shows_end now.unread ≡ false = shows_not now.unread none short in
    let shown : shows_end now.unread ≡ true = ap (λ (r : LineReading). shows_end r.unread) (same shows) ∙ shows in
    absurd (cc)

-- what came is within the limit of bytes
pub takes_comes : (left left' : Option (List ℕ)) (old new : LineReading) → Comes left old left' new
    → new.bytes ≤ 2147483648 → TakesWithin left old.bytes left'
takes_comes left left' old new comes within = (comes.read, comes.taken, omega (arith, comes.bytes, within))

-- a fault that is none of reading
pub past_of : (left left' : Option (List ℕ)) (bytes : ℕ) (fault : ScriptFault)
    → (fault ≡ ReadFault) ⊎ ((fault ≡ NoMemory) × TakesWithin left bytes left') → (fault ≡ ReadFault → ⊥)
    → TakesWithin left bytes left'
past_of left left' bytes fault (inl is) other = absurd (other is)
past_of left left' bytes fault (inr (is, takes)) other = takes

pub past_anyway : {T : Type 0} (left left' : Option (List ℕ)) (bytes : ℕ) (result : Result T ScriptFault)
    → TakesWithin left bytes left' → IfErr result (λ fault. (fault ≡ ReadFault → ⊥) → TakesWithin left bytes left')
past_anyway left left' bytes (Ok done) takes = tt
past_anyway left left' bytes (Err fault) takes = λ other. takes

-- what was taken, and then more
pub takes_on : (a b c : Option (List ℕ)) (bytes mid : ℕ) (read : List ℕ) → Consumes a b read → mid ≡ bytes + length read
    → TakesWithin b mid c → TakesWithin a bytes c
takes_on a b c bytes mid read taken is more = (
  read ++ more.0,
  consumes_on a b c read more.0 taken more.1,
  let within = more.2 in omega (arith, is, within, length-append read more.0),
)
