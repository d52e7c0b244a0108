-- The hosts and drives of commands.
use Rattle.std.proofs.Common.{◌≡◌, ℕ, Bool, true, false, List, [], ◌∷◌, Option, Some, None, refl, sym, ap, ◌∙◌, nat_lt, filter, filter_map, flat_map, ◌==◌, ◌&&◌, nat_le, if◌then◌else◌, cond, slice_index, codes, bytes_eq}
use Rattle.std.specs.List.{list_all, range_with_len}
use Rattle.std.proofs.lemmas.List.Folds.{list_all-append}
use Rattle.vtl_script.specs.declared.lines.Line.{Line}
use Rattle.vtl_script.specs.declared.lines.ParsedLine.{ParsedLine}
use Rattle.vtl_script.specs.declared.lines.ParsedLine.TheVariants.{Nothing, PhaseEnd, Refused}
use Rattle.vtl_script.specs.Lines.{only_if, host_of, drive_of, bytes_of, decimal_of, parsed_command, command_in, data_of, parse_command, parsed_move, parse_move, parse_order, parse_fields, line_fields}
use Rattle.vtl_script.specs.Parsed.{parsed_line, line_in}
use Rattle.vtl_script.specs.Items.{has_host, by_host}

-- a number that passes does
passed : (passes : ℕ → Bool) (n : ℕ) (b : Bool) (number : ℕ) → passes n ≡ b → (if b then Some n else None) ≡ Some number
    → passes number ≡ true
passed passes n true number is some = let same : n ≡ number = cc in ap passes (sym same) ∙ is
passed passes n false number is some = absurd (cc)

only_passes : (passes : ℕ → Bool) (o : Option ℕ) (number : ℕ) → only_if passes o ≡ Some number → passes number ≡ true
only_passes passes None number some = absurd (cc)
only_passes passes (Some n) number some = passed passes n (passes n) number refl some

-- every command that is parsed passes
abbrev AllPass : (Line → Bool) → (ℕ → Bool) → Type 0
AllPass p is_configured =
    (from to : List ℕ) (host drive : ℕ) (cdb sent : List ℕ) → host_of from ≡ Some host
    → drive_of is_configured to ≡ Some drive
    → p (record { host = host; drive = drive; cdb = cdb; sent = sent }) ≡ true

pass_command : (p : Line → Bool) (o d : Option ℕ) (c s : Option (List ℕ))
    → ((host drive : ℕ) (cdb sent : List ℕ) → o ≡ Some host → d ≡ Some drive
    → p (record { host = host; drive = drive; cdb = cdb; sent = sent }) ≡ true)
    → list_all p (filter_map line_in (parsed_command o d c s ∷ [])) ≡ true
pass_command p (Some host) (Some drive) (Some cdb) (Some sent) is = rw (is host drive cdb sent refl refl) refl
pass_command p None d c s is = refl
pass_command p (Some host) None c s is = refl
pass_command p (Some host) (Some drive) None s is = refl
pass_command p (Some host) (Some drive) (Some cdb) None is = refl

pass_fields : (p : Line → Bool) (is_configured : ℕ → Bool) → AllPass p is_configured
    → (host drive cdb : List ℕ) (o : Option (List ℕ))
    → list_all p (filter_map line_in (command_in is_configured host drive cdb o ∷ [])) ≡ true
pass_fields p is_configured all host drive cdb None = refl
pass_fields p is_configured all host drive cdb (Some sent) =
    pass_command p (host_of host) (drive_of is_configured drive) (bytes_of cdb) (bytes_of sent)
    (λ h n c s is_host is_drive. all host drive h n c s is_host is_drive)

pass_if : (p : Line → Bool) (b : Bool) (first second : ParsedLine) → list_all p (filter_map line_in (first ∷ [])) ≡ true
    → list_all p (filter_map line_in (second ∷ [])) ≡ true
    → list_all p (filter_map line_in ((if b then first else second) ∷ [])) ≡ true
pass_if p true first second h k = h
pass_if p false first second h k = k

pass_with : (p : Line → Bool) (is_configured : ℕ → Bool) → AllPass p is_configured
    → (first : List ℕ) (rest : List (List ℕ))
    → list_all p (filter_map line_in (parse_command is_configured first rest ∷ [])) ≡ true
pass_with p is_configured all first [] = pass_if p (bytes_eq first (codes "--")) PhaseEnd Refused refl refl
pass_with p is_configured all first (drive ∷ []) = refl
pass_with p is_configured all first (drive ∷ cdb ∷ rest) = pass_fields p is_configured all first drive cdb
    (data_of rest)

pass_moved : (p : Line → Bool) (from to : Option ℕ) → list_all p (filter_map line_in (parsed_move from to ∷ [])) ≡ true
pass_moved p (Some from) (Some to) = refl
pass_moved p (Some from) None = refl
pass_moved p None to = refl

pass_move : (p : Line → Bool) (fields : List (List ℕ)) → list_all p (filter_map line_in (parse_move fields ∷ [])) ≡ true
pass_move p [] = refl
pass_move p (from ∷ []) = refl
pass_move p (from ∷ to ∷ []) = pass_moved p (decimal_of from) (decimal_of to)
pass_move p (from ∷ to ∷ other ∷ fields) = refl

pass_by : (p : Line → Bool) (is_configured : ℕ → Bool) → AllPass p is_configured → (fields : List (List ℕ))
    → list_all p (filter_map line_in (parse_fields is_configured fields ∷ [])) ≡ true
pass_by p is_configured all [] = refl
pass_by p is_configured all (first ∷ rest) =
    pass_if p (slice_index first 0 == 35) Nothing (parse_order is_configured first rest) refl
    (pass_if p (bytes_eq first (codes "move")) (parse_move rest) (parse_command is_configured first rest)
    (pass_move p rest) (pass_with p is_configured all first rest))

pass_line : (p : Line → Bool) (is_configured : ℕ → Bool) → AllPass p is_configured → (count : ℕ) (line : List ℕ)
    → list_all p (filter_map line_in (parsed_line is_configured count line ∷ [])) ≡ true
pass_line p is_configured all count line =
    pass_if p (nat_lt 2200000 count) Refused (parse_fields is_configured (line_fields line)) refl
    (pass_by p is_configured all (line_fields line))

-- the host of a command is one
pub hosts_of : (is_configured : ℕ → Bool) (count : ℕ) (line : List ℕ) (parsed : ParsedLine)
    → parsed ≡ parsed_line is_configured count line → list_all has_host (filter_map line_in (parsed ∷ [])) ≡ true
hosts_of is_configured count line parsed is =
    rw is (pass_line has_host is_configured
    (λ from to host drive cdb sent is_host is_drive.
    only_passes (λ number. nat_le 1 number && nat_le number 64) (decimal_of from) host is_host) count line)

second_of : (a b : Bool) → (a && b) ≡ true → b ≡ true
second_of true b h = h
second_of false b h = absurd (cc)

-- the drive of a command is configured
pub drives_of : (is_configured : ℕ → Bool) (count : ℕ) (line : List ℕ) (parsed : ParsedLine)
    → parsed ≡ parsed_line is_configured count line
    → list_all (λ line. is_configured line.drive) (filter_map line_in (parsed ∷ [])) ≡ true
drives_of is_configured count line parsed is =
    rw is (pass_line (λ line. is_configured line.drive) is_configured
    (λ from to host drive cdb sent is_host is_drive.
    second_of (nat_le 1 drive && nat_le drive 16) (is_configured drive)
    (only_passes (λ number. (nat_le 1 number && nat_le number 16) && is_configured number) (decimal_of to) drive
    is_drive))
    count line)

-- the commands of a phase pass in the order of their turns too
ands : (a b : Bool) → (a && b) ≡ true → (a ≡ true) × (b ≡ true)
ands true b h = (refl, h)
ands false b h = absurd (cc)

all_chosen : (p : Line → Bool) (line : Line) (kept : List Line) (b : Bool) → p line ≡ true → list_all p kept ≡ true
    → list_all p (cond b (line ∷ kept) kept) ≡ true
all_chosen p line kept true one rest = rw (one, rest) refl
all_chosen p line kept false one rest = rest

all_filter : (p q : Line → Bool) (lines : List Line) → list_all p lines ≡ true → list_all p (filter q lines) ≡ true
all_filter p q [] all = refl
all_filter p q (line ∷ lines) all =
    let both = ands (p line) (list_all p lines) all in
    all_chosen p line (filter q lines) (q line) both.0 (all_filter p q lines both.1)

all_flat : (p : Line → Bool) (f : ℕ → List Line) (ns : List ℕ) → ((n : ℕ) → list_all p (f n) ≡ true)
    → list_all p (flat_map f ns) ≡ true
all_flat p f [] all = refl
all_flat p f (n ∷ ns) all = list_all-append p (f n) (flat_map f ns) ∙ rw (all n, all_flat p f ns all) refl

pub all_by_host : (p : Line → Bool) (lines : List Line) → list_all p lines ≡ true → list_all p (by_host lines) ≡ true
unfolding by_host
all_by_host p lines all =
    all_flat p (λ host. filter (λ line. line.host == host) lines) (range_with_len 1 64)
    (λ host. all_filter p (λ line. line.host == host) lines all)
