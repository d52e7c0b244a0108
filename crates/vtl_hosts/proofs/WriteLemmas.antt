-- What is written of the hosts' answers.
use Rattle.std.proofs.Common.{◌≡◌, ◌<◌, ℕ, Bool, true, false, List, [], ◌∷◌, ◌++◌, Option, length, get_or, set, refl, sym, ap, ◌∙◌, subst, append_assoc}
use Rattle.std.proofs.lemmas.List.{append-nil}
use Rattle.std.proofs.lemmas.List.Concat.{flat_map-append}
use Rattle.std.proofs.lemmas.List.Elements.{All-append, All-nil, All-push}
use Rattle.std.proofs.KnownBytes.{Appends-nil, Appends-trans}
use Rattle.std.specs.Io.KnownBytes.{Appends}
use Rattle.vtl_wire.specs.Answers.{FitsAnswer, spell_answer}
use Rattle.vtl_wire.specs.Serving.{WritesFront}
use Rattle.vtl_hosts.specs.Rounds.{Given, WritesWhole, spell_given}
use Rattle.vtl_hosts.specs.Inner.Rings.{Answers}
use Rattle.vtl_hosts.specs.Inner.Writing.{WritesAll, WritesUnlessFailed, WritesGiven, WritesNext}
use Rattle.vtl_hosts.proofs.RingLemmas.{takes_idle, takes_none, takes_on, takes_one}

-- answers that were written whole, and then more
whole_on : (before mid now : Option (List ℕ)) (first second : List Given) → WritesWhole before mid first
    → WritesWhole mid now second → WritesWhole before now (first ++ second)
whole_on before mid now first second one two = (
  All-append (λ (g : Given). FitsAnswer g.answer) first second one.0 two.0,
  subst (Appends before now) (sym (flat_map-append (λ (g : Given). spell_answer g.answer) first second))
      (Appends-trans before mid now (spell_given first) (spell_given second) one.1 two.1),
)

-- these answers, and then more
given_on : (before mid now : Option (List ℕ)) (f g h : Bool) (first second : List Given)
    → WritesGiven before f mid g first → WritesGiven mid g now h second
    → WritesGiven before f now h (first ++ second)
given_on before mid now false false false first second one two = whole_on before mid now first second one two
given_on before mid now false false true first second one two = record {
  whole = first ++ two.whole;
  cut = two.cut;
  others = two.others;
  given_are =
      ap (λ (l : List Given). first ++ l) two.given_are
      ∙ sym (append_assoc first two.whole (two.cut ∷ two.others));
  between = two.between;
  written = whole_on before mid two.between first two.whole one two.written;
  part = two.part;
}
given_on before mid now false true true first second one two = record {
  whole = one.whole;
  cut = one.cut;
  others = one.others ++ second;
  given_are =
      ap (λ (l : List Given). l ++ second) one.given_are
      ∙ append_assoc one.whole (one.cut ∷ one.others) second;
  between = one.between;
  written = one.written;
  part = subst (λ (o : Option (List ℕ)). WritesFront one.between o one.cut.answer) (sym two) one.part;
}
given_on before mid now false true false first second one two = absurd two
given_on before mid now true true true first second one two = two ∙ one
given_on before mid now true true false first second one two = absurd two
given_on before mid now true false h first second one two = absurd one

whole_none : (before : Option (List ℕ)) → WritesWhole before before []
whole_none before = (All-nil (λ (g : Given). FitsAnswer g.answer), Appends-nil before)

-- no answers
given_none : (before : Option (List ℕ)) (f : Bool) → WritesGiven before f before f []
given_none before false = whole_none before
given_none before true = refl

-- one answer
given_one : (before now : Option (List ℕ)) (f g : Bool) (one : Given) → WritesUnlessFailed before f now g one.answer
    → WritesGiven before f now g (one ∷ [])
given_one before now false false one wrote = (
  All-push (λ (g : Given). FitsAnswer g.answer) [] one (All-nil (λ (g : Given). FitsAnswer g.answer)) wrote.0,
  subst (Appends before now) (sym (append-nil (spell_answer one.answer))) wrote.1,
)
given_one before now false true one wrote = record {
  whole = [];
  cut = one;
  others = [];
  given_are = refl;
  between = before;
  written = whole_none before;
  part = wrote;
}
given_one before now true true one wrote = wrote
given_one before now true false one wrote = absurd wrote

pub writes_none : (rings : List Answers) (before : Option (List ℕ)) (failed : Bool)
    → WritesAll rings before failed rings before failed
writes_none rings before failed =
    record { given = []; taken = takes_none rings; written = given_none before failed }

pub writes_on : (old mid new : List Answers) (before between now : Option (List ℕ)) (f g h : Bool)
    → WritesAll old before f mid between g → WritesAll mid between g new now h → WritesAll old before f new now h
writes_on old mid new before between now f g h one two = record {
  given = one.given ++ two.given;
  taken = takes_on old mid new one.given two.given one.taken two.taken;
  written = given_on before between now f g h one.given two.given one.written two.written;
}

-- what came of one ring
pub writes_one : (rings : List Answers) (place : ℕ) (ring new : Answers) (before now : Option (List ℕ)) (f g : Bool)
    (some : Bool)
    → place < length rings → ((d : Answers) → get_or rings place d ≡ ring)
    → WritesNext ring before f new now g some
    → WritesAll rings before f (set rings place new) now g
writes_one rings place ring new before now f g true within here one = record {
  given = record { place = place; answer = one.0 } ∷ [];
  taken = takes_one rings place ring new one.0 within here one.1 one.2;
  written = given_one before now f g (record { place = place; answer = one.0 }) one.3;
}
writes_one rings place ring new before now f g false within here one = record {
  given = [];
  taken = takes_idle rings place ring new within here one.0 one.1;
  written =
      subst (λ (o : Option (List ℕ)). WritesGiven before f o g []) (sym one.2)
      (subst (λ (b : Bool). WritesGiven before f before b []) (sym one.3) (given_none before f));
}
