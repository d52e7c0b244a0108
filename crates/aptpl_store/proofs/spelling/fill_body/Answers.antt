use Rattle.std.proofs.Common.{◌≡◌, ◌+◌, ◌-◌, ◌++◌, ℕ, List, [], ◌∷◌, length, take, sym, ◌∙◌, ap, subst, arith, length-append}
use Rattle.std.specs.Prelude.{None, count_by, is_some}
use Rattle.std.specs.List.{All}
use Rattle.std.proofs.Math.ListN.{get_or}
use Rattle.std.proofs.lemmas.List.{append-nil, take_all}
use Rattle.std.proofs.lemmas.List.Elements.{All-more, All-nil}
use Rattle.aptpl_store.specs.Spelling.{IsKey, aptpl_byte, holder_byte, registration, type_byte}
use Rattle.aptpl_store.specs.Inner.Decoded.{nexuses_from, registrations_of}
use Rattle.aptpl_store.proofs.SpellingLemmas.{nexuses_none, registrations_all, registrations_none, registration_short, spelled_more}
use Rattle.aptpl_store.proofs.spelling.fill_body.Goals as goal

pub loop-number-init : goal.loop-number-init
loop-number-init c =
    let state = c.args.state.now in
    let items : c.extend_reserved.new.self.body ≡ aptpl_byte state.aptpl ∷ type_byte state.reservation
    ∷ holder_byte state.reservation ∷ count_by is_some state.keys ∷ [] =
    c.extend_reserved.ensures.body
    ∙ (λ i. ap (λ f. f.body) c.clear.ensures i ++ c.aptpl_byte.ensures i ∷ c.type_byte.ensures i
    ∷ c.holder_byte.ensures i ∷ c.registered.ensures i ∷ []) in
    record {
      few = omega arith;
      room = omega (arith, c.extend_reserved.ensures.room, ap (λ f. f.room) c.clear.ensures);
      short = omega (arith, ap (λ (l : List ℕ). length l) items);
      keys = All-nil IsKey;
      spelled =
          ap (λ (l : List ℕ). l ++ registrations_of state (nexuses_from 1)) items
          ∙ ap (λ (l : List ℕ). aptpl_byte state.aptpl ∷ type_byte state.reservation ∷ holder_byte state.reservation
          ∷ count_by is_some state.keys ∷ l) (sym (registrations_all state));
    }

pub loop-number-preserved : goal.loop-number-preserved
loop-number-preserved c =
    let state = c.args.state.now in
    let inv = c.loop-number.invariant in
    let n = c.loop-number.number in
    let body = c.push_registration.ensures.body in
    let key = get_or state.keys (n - 1) None in
    let next : n - 1 + 1 ≡ n + 1 - 1 = omega arith in
    record {
      few = omega arith;
      room = omega (arith, inv.room, c.push_registration.ensures.room);
      short =
          omega (
            arith,
            inv.short,
            registration_short key n,
            ap (λ (l : List ℕ). length l) body,
            length-append c.loop-number.frame.body (registration key n),
          );
      keys =
          subst (λ (count : ℕ). All IsKey (take count state.keys)) next
          (All-more IsKey state.keys (n - 1) None (omega (arith, c.requires.sound.all)) inv.keys
          c.push_registration.ensures.key);
      spelled =
          ap (λ (l : List ℕ). l ++ registrations_of state (nexuses_from (n + 1))) body
          ∙ spelled_more state n c.loop-number.frame.body _ (omega arith) (omega arith) inv.spelled;
    }

pub returns-clause-body : goal.returns-clause-body
returns-clause-body c =
    let state = c.args.state.now in
    let end : 65 ≡ c.loop-number.number = omega arith in
    sym (append-nil c.loop-number.frame.body)
    ∙ ap (λ (l : List ℕ). c.loop-number.frame.body ++ l)
    (sym (ap (registrations_of state) nexuses_none ∙ registrations_none state))
    ∙ ap (λ (n : ℕ). c.loop-number.frame.body ++ registrations_of state (nexuses_from n)) end
    ∙ c.loop-number.invariant.spelled

pub returns-clause-savable : goal.returns-clause-savable
returns-clause-savable c =
    let state = c.args.state.now in
    record {
      sound = c.requires.sound;
      keys =
          subst (All IsKey)
          (take_all (c.loop-number.number - 1) state.keys (omega (arith, c.requires.sound.all)))
          c.loop-number.invariant.keys;
    }
