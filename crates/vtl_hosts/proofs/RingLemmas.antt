-- What went through the rings of all hosts.
use Rattle.std.proofs.Common.{◌≡◌, ◌≢◌, ◌⊎◌, inl, inr, ◌<◌, ◌+◌, nat_eq, ℕ, Bool, true, false, List, [], ◌∷◌, ◌++◌, length, get_or, set, refl, sym, ap, ◌∙◌, subst, arith}
use Rattle.std.specs.Prelude.{if◌then◌else◌}
use Rattle.std.specs.List.{All}
use Rattle.std.proofs.lemmas.Bool.{cases_eq}
use Rattle.std.proofs.lemmas.Bool.Decides.{nat_tests}
use Rattle.std.proofs.lemmas.List.{append-nil, get_or-set_other, get_or-set_same, length-set}
use Rattle.std.proofs.lemmas.List.Elements.{All-append, All-nil, All-push, filter-append}
use Rattle.rtrb.specs.Ring.{SameConsumer, SameProducer, received, sent}
use Rattle.vtl_wire.specs.declared.answers.Answer.{Answer}
use Rattle.vtl_wire.specs.declared.requests.Request.{Request}
use Rattle.vtl_hosts.specs.Rounds.{Given, host_in, of_host, of_place}
use Rattle.vtl_hosts.specs.Inner.Rings.{Answers, Deals, Requests, TakesAnswers}
use Rattle.vtl_hosts.proofs.HostLemmas.{added_on, consumer_on, consumer_same, producer_on, producer_same}

test_is : (a b : ℕ) → a ≡ b → nat_eq a b ≡ true
test_is a b same = grind (arith, nat_tests)

test_not : (a b : ℕ) → a ≢ b → nat_eq a b ≡ false
test_not a b other = grind (arith, nat_tests)

-- ---- the commands of a host, and the answers of a place

pub host_append : (host : ℕ) (xs ys : List Request) → of_host host (xs ++ ys) ≡ of_host host xs ++ of_host host ys
host_append host xs ys = filter-append (λ (request : Request). nat_eq (host_in request) host) xs ys

host_one : (host : ℕ) (request : Request) (test : Bool) → nat_eq (host_in request) host ≡ test
    → of_host host (request ∷ []) ≡ (if test then request ∷ [] else [])
host_one host request test is = ap (λ (b : Bool). if b then request ∷ [] else []) is

pub host_same : (host : ℕ) (request : Request) → host_in request ≡ host → of_host host (request ∷ []) ≡ request ∷ []
host_same host request is = host_one host request true (test_is (host_in request) host is)

pub host_other : (host : ℕ) (request : Request) → host_in request ≢ host → of_host host (request ∷ []) ≡ []
host_other host request other = host_one host request false (test_not (host_in request) host other)

pub place_append : (place : ℕ) (xs ys : List Given)
    → of_place place (xs ++ ys) ≡ of_place place xs ++ of_place place ys
place_append place [] ys = refl
place_append place (x ∷ xs) ys = put_first x.answer (of_place place xs) (of_place place ys) _ (place_append place xs ys)
    (nat_eq x.place place)
  where
    put_first : (a : Answer) (first rest all : List Answer) → all ≡ first ++ rest → (test : Bool)
        → (if test then a ∷ all else all) ≡ (if test then a ∷ first else first) ++ rest
    put_first a first rest all is true = ap (λ (l : List Answer). a ∷ l) is
    put_first a first rest all is false = is

place_one : (place : ℕ) (one : Given) (test : Bool) → nat_eq one.place place ≡ test
    → of_place place (one ∷ []) ≡ (if test then one.answer ∷ [] else [])
place_one place one test is = ap (λ (b : Bool). if b then one.answer ∷ [] else []) is

pub place_same : (place : ℕ) (one : Given) → one.place ≡ place → of_place place (one ∷ []) ≡ one.answer ∷ []
place_same place one is = place_one place one true (test_is one.place place is)

pub place_other : (place : ℕ) (one : Given) → one.place ≢ place → of_place place (one ∷ []) ≡ []
place_other place one other = place_one place one false (test_not one.place place other)

-- ---- a row of which one place was changed

pub changed_at : {T : Type 0} (R : ℕ → T → T → Type 0) (old : List T) (at : ℕ) (new : T) → at < length old
    → ((k : ℕ) (d : T) → k ≢ at → R k (get_or old k d) (get_or old k d))
    → ((d : T) → R at (get_or old at d) new)
    → (k : ℕ) (d : T) → k < length old → R k (get_or old k d) (get_or (set old at new) k d)
changed_at {T = T} R old at new within others here k d less = by (cases_eq k at)
  where
    by : (k ≡ at) ⊎ (k ≡ at → ⊥) → R k (get_or old k d) (get_or (set old at new) k d)
    by (inl same) =
        subst (λ (i : ℕ). R i (get_or old i d) (get_or (set old at new) i d)) (sym same)
        (subst (λ (t : T). R at (get_or old at d) t) (sym (get_or-set_same old at new d within)) (here d))
    by (inr other) =
        subst (λ (t : T). R k (get_or old k d) t) (sym (get_or-set_other old at k new d other)) (others k d other)

-- ---- requests that were dealt

none_added : {X : Type 0} (a b xs : List X) → b ≡ a → xs ≡ [] → b ≡ a ++ xs
none_added a b xs same none = same ∙ sym (ap (λ (l : List _). a ++ l) none ∙ append-nil a)

pub deals_none : (rings : List Requests) → Deals rings rings []
deals_none rings = record {
  long = refl;
  same = λ k d less. producer_same (get_or rings k d);
  each = λ k d less. none_added (sent (get_or rings k d)) (sent (get_or rings k d)) (of_host (k + 1) []) refl refl;
}

pub deals_one : (rings : List Requests) (place : ℕ) (ring new : Requests) (request : Request)
    → place < length rings → host_in request ≡ place + 1
    → ((d : Requests) → get_or rings place d ≡ ring)
    → SameProducer ring new → sent new ≡ sent ring ++ request ∷ []
    → Deals rings (set rings place new) (request ∷ [])
deals_one rings place ring new request within host here same put = record {
  long = length-set rings place new;
  same =
      changed_at (λ (k : ℕ) (a b : Requests). SameProducer a b) rings place new within
      (λ k d other. producer_same (get_or rings k d))
      (λ d. subst (λ (r : Requests). SameProducer r new) (sym (here d)) same);
  each =
      changed_at (λ (k : ℕ) (a b : Requests). sent b ≡ sent a ++ of_host (k + 1) (request ∷ [])) rings place new within
      (λ k d other. none_added (sent (get_or rings k d)) (sent (get_or rings k d)) (of_host (k + 1) (request ∷ [])) refl
      (host_other (k + 1) request (λ is. other (omega (arith, is, host)))))
      (λ d. subst (λ (r : Requests). sent new ≡ sent r ++ of_host (place + 1) (request ∷ [])) (sym (here d))
      (put ∙ ap (λ (l : List Request). sent ring ++ l) (sym (host_same (place + 1) request host))));
}

pub deals_on : (old mid new : List Requests) (first rest : List Request) → Deals old mid first → Deals mid new rest
    → Deals old new (first ++ rest)
deals_on old mid new first rest one two = record {
  long = two.long ∙ one.long;
  same = λ k d less.
      producer_on (get_or old k d) (get_or mid k d) (get_or new k d) (one.same k d less)
      (two.same k d (omega (arith, less, one.long)));
  each = λ k d less.
      added_on (sent (get_or old k d)) (sent (get_or mid k d)) (sent (get_or new k d)) (of_host (k + 1) first)
      (of_host (k + 1) rest) (one.each k d less) (two.each k d (omega (arith, less, one.long)))
      ∙ ap (λ (l : List Request). sent (get_or old k d) ++ l) (sym (host_append (k + 1) first rest));
}

-- ---- answers that were taken

pub takes_none : (rings : List Answers) → TakesAnswers rings rings []
takes_none rings = record {
  long = refl;
  same = λ k d less. consumer_same (get_or rings k d);
  each = λ k d less.
      none_added (received (get_or rings k d)) (received (get_or rings k d)) (of_place k []) refl refl;
  others = All-nil (λ (one : Given). one.place < length rings);
}

pub takes_one : (rings : List Answers) (place : ℕ) (ring new : Answers) (answer : Answer)
    → place < length rings
    → ((d : Answers) → get_or rings place d ≡ ring)
    → SameConsumer ring new → received new ≡ received ring ++ answer ∷ []
    → TakesAnswers rings (set rings place new) (record { place = place; answer = answer } ∷ [])
takes_one rings place ring new answer within here same put =
    let one : Given = record { place = place; answer = answer } in
    record {
      long = length-set rings place new;
      same =
          changed_at (λ (k : ℕ) (a b : Answers). SameConsumer a b) rings place new within
          (λ k d other. consumer_same (get_or rings k d))
          (λ d. subst (λ (r : Answers). SameConsumer r new) (sym (here d)) same);
      each =
          changed_at (λ (k : ℕ) (a b : Answers). received b ≡ received a ++ of_place k (one ∷ [])) rings place new
          within
          (λ k d other. none_added (received (get_or rings k d)) (received (get_or rings k d)) (of_place k (one ∷ []))
          refl
          (place_other k one (λ is. other (sym is))))
          (λ d. subst (λ (r : Answers). received new ≡ received r ++ of_place place (one ∷ [])) (sym (here d))
          (put ∙ ap (λ (l : List Answer). received ring ++ l) (sym (place_same place one refl))));
      others = All-push (λ (g : Given). g.place < length rings) [] one (All-nil (λ (g : Given). g.place < length rings))
          within;
    }

-- nothing was taken of one ring
pub takes_idle : (rings : List Answers) (place : ℕ) (ring new : Answers)
    → place < length rings
    → ((d : Answers) → get_or rings place d ≡ ring)
    → SameConsumer ring new → received new ≡ received ring
    → TakesAnswers rings (set rings place new) []
takes_idle rings place ring new within here same put = record {
  long = length-set rings place new;
  same =
      changed_at (λ (k : ℕ) (a b : Answers). SameConsumer a b) rings place new within
      (λ k d other. consumer_same (get_or rings k d))
      (λ d. subst (λ (r : Answers). SameConsumer r new) (sym (here d)) same);
  each =
      changed_at (λ (k : ℕ) (a b : Answers). received b ≡ received a ++ of_place k []) rings place new within
      (λ k d other. none_added (received (get_or rings k d)) (received (get_or rings k d)) (of_place k []) refl refl)
      (λ d. subst (λ (r : Answers). received new ≡ received r ++ of_place place []) (sym (here d))
      (none_added (received ring) (received new) (of_place place []) put refl));
  others = All-nil (λ (g : Given). g.place < length rings);
}

pub takes_on : (old mid new : List Answers) (first rest : List Given) → TakesAnswers old mid first
    → TakesAnswers mid new rest
    → TakesAnswers old new (first ++ rest)
takes_on old mid new first rest one two = record {
  long = two.long ∙ one.long;
  same = λ k d less.
      consumer_on (get_or old k d) (get_or mid k d) (get_or new k d) (one.same k d less)
      (two.same k d (omega (arith, less, one.long)));
  each = λ k d less.
      added_on (received (get_or old k d)) (received (get_or mid k d)) (received (get_or new k d)) (of_place k first)
      (of_place k rest) (one.each k d less) (two.each k d (omega (arith, less, one.long)))
      ∙ ap (λ (l : List Answer). received (get_or old k d) ++ l) (sym (place_append k first rest));
  others =
      All-append (λ (g : Given). g.place < length old) first rest one.others
      (subst (λ (n : ℕ). All (λ (g : Given). g.place < n) rest) one.long two.others);
}
