-- What a crash leaves while steps are made. An event is a run of calls of the device, with the steps that it makes.
use Rattle.std.specs.Prelude.{◌≡◌, ◌⊎◌, ◌≤◌, ◌<◌, ℕ, zero, suc, List, [], ◌∷◌, ◌++◌, take, refl}
use Rattle.std.proofs.Common.{◌∙◌, ap, subst, sym, arith}
use mathlib.Core.Path.{path_j, subst_refl}
use Rattle.accepted_changes.specs.Device.{Device, IsDevice, KeepsDevice}
use Rattle.accepted_changes.specs.Core.{Rules, Core, CoreStep, Accept, Store, Safe, Ack, Fault, Stick, Tell, Stop, Rebase, AllMayCome, AllStepTo, IsPrefix, MayCome, accepted_in}

module _ (rules : Rules) where
  -- the image gives what is safe, or what is stored (own)
  abbrev pub ShowsCore : Core rules.Base rules.Item → rules.Image → Type 0
  ShowsCore core image =
      rules.gives core.base (take core.safe core.accepted) image
      ⊎ rules.gives core.base (take core.stored core.accepted) image

  -- the image gives what is safe or stored after some of these steps, from the first on (own)
  abbrev pub ShowsBetween : Core rules.Base rules.Item → List (CoreStep rules.Item) → rules.Image → Type 0
  ShowsBetween old steps image =
      (count : ℕ) × (between : Core rules.Base rules.Item)
      × AllStepTo rules old (take count steps) between × ShowsCore between image

  steps_on : (a b c : Core rules.Base rules.Item) (first second : List (CoreStep rules.Item))
      → AllStepTo rules a first b → AllStepTo rules b second c → AllStepTo rules a (first ++ second) c
  steps_on a b c [] second one two = subst (λ (x : Core rules.Base rules.Item). AllStepTo rules x second c) one two
  steps_on a b c (step ∷ steps) second one two = (one.0, one.1, steps_on one.0 b c steps second one.2 two)

  -- steps that may come in two runs may come in both together
  may_come_on : (failed : Type 0) (a b c : Core rules.Base rules.Item) (first second : List (CoreStep rules.Item))
      (one : AllStepTo rules a first b) (two : AllStepTo rules b second c) → AllMayCome rules failed a first b one
      → AllMayCome rules failed b second c two
      → AllMayCome rules failed a (first ++ second) c (steps_on a b c first second one two)
  unfolding steps_on
  may_come_on failed a b c [] second one two may then_ =
      path_j (λ (x : Core rules.Base rules.Item) (same : b ≡ x). AllMayCome rules failed x second c
      (subst (λ (x : Core rules.Base rules.Item). AllStepTo rules x second c) same two))
      (subst (AllMayCome rules failed b second c)
      (sym (subst_refl (λ (x : Core rules.Base rules.Item). AllStepTo rules x second c) two)) then_) one
  may_come_on failed a b c (step ∷ steps) second one two may then_ =
      (may.0, may_come_on failed one.0 b c steps second one.2 two may.1 then_)

  -- what may come in a call may come in a longer run
  step_comes_so : (failed more : Type 0) → (failed → more) → (core : Core rules.Base rules.Item)
      (step : CoreStep rules.Item) → MayCome rules failed core step → MayCome rules more core step
  step_comes_so failed more so core (Accept item) may = tt
  step_comes_so failed more so core (Store count) may = tt
  step_comes_so failed more so core Safe may = tt
  step_comes_so failed more so core Ack may = tt
  step_comes_so failed more so core Fault may = so may
  step_comes_so failed more so core Stick may = so may
  step_comes_so failed more so core Tell may = tt
  step_comes_so failed more so core (Stop kept) may = may
  step_comes_so failed more so core Rebase may = may

  may_come_so : (failed more : Type 0) → (failed → more) → (a b : Core rules.Base rules.Item)
      (steps : List (CoreStep rules.Item)) (leads : AllStepTo rules a steps b)
      → AllMayCome rules failed a steps b leads → AllMayCome rules more a steps b leads
  may_come_so failed more so a b [] leads may = tt
  may_come_so failed more so a b (step ∷ steps) leads may =
      (step_comes_so failed more so a step may.0, may_come_so failed more so leads.0 b steps leads.2 may.1)

  accepted_on : (first second : List (CoreStep rules.Item))
      → accepted_in (first ++ second) ≡ accepted_in first ++ accepted_in second
  accepted_on [] second = refl
  accepted_on (Accept item ∷ steps) second = ap (λ (l : List rules.Item). item ∷ l) (accepted_on steps second)
  accepted_on (Store count ∷ steps) second = accepted_on steps second
  accepted_on (Safe ∷ steps) second = accepted_on steps second
  accepted_on (Ack ∷ steps) second = accepted_on steps second
  accepted_on (Fault ∷ steps) second = accepted_on steps second
  accepted_on (Stick ∷ steps) second = accepted_on steps second
  accepted_on (Tell ∷ steps) second = accepted_on steps second
  accepted_on (Stop kept ∷ steps) second = accepted_on steps second
  accepted_on (Rebase ∷ steps) second = accepted_on steps second

  -- a core that some of the first steps lead to is reached by some of both
  in_first : (a b : Core rules.Base rules.Item) (n : ℕ) (first second : List (CoreStep rules.Item))
      → AllStepTo rules a (take n first) b → (k : ℕ) × AllStepTo rules a (take k (first ++ second)) b
  in_first a b n [] second run = (0, ends n run)
    where
      ends : (n : ℕ) → AllStepTo rules a (take n []) b → b ≡ a
      ends zero run = run
      ends (suc n) run = run
  in_first a b zero (step ∷ steps) second run = (0, run)
  in_first a b (suc n) (step ∷ steps) second run =
      let rest = in_first run.0 b n steps second run.2 in (suc rest.0, (run.0, run.1, rest.1))

  in_second : (a b c : Core rules.Base rules.Item) (n : ℕ) (first second : List (CoreStep rules.Item))
      → AllStepTo rules a first b → AllStepTo rules b (take n second) c
      → (k : ℕ) × AllStepTo rules a (take k (first ++ second)) c
  in_second a b c n [] second one run =
      (n, subst (λ (x : Core rules.Base rules.Item). AllStepTo rules x (take n second) c) one run)
  in_second a b c n (step ∷ steps) second one run =
      let rest = in_second one.0 b c n steps second one.2 run in (suc rest.0, (one.0, one.1, rest.1))

module _ (rules : Rules) (device : Device rules.Image) where
  -- An event: its steps, which accept exactly these items and each of which may come in a call, and what a crash leaves
  -- at any moment since its start (own).
  pub record IsEvent (disk disk' : device.State) (old new : Core rules.Base rules.Item) (made : List rules.Item)
      : Type 0 where
    pub steps : List (CoreStep rules.Item)
    pub leads : AllStepTo rules old steps new
    pub may_come : AllMayCome rules (device.failures disk < device.failures disk') old steps new leads
    pub accepts : accepted_in steps ≡ made
    pub moments : device.leaves disk disk' (ShowsBetween rules old steps)

  -- From old to new exactly these items were accepted. Where the device is honest and its images were those of the old
  -- core, steps lead to the new core, and its images are those of the new one. At each moment between, they are those
  -- of a core between (own).
  pub record CoreMoves (disk disk' : device.State) (old new : Core rules.Base rules.Item) (made : List rules.Item)
      : Type 0 where
    pub keeps : KeepsDevice device disk disk'
    pub goes : device.honest disk → device.each disk (ShowsCore rules old)
        → IsEvent disk disk' old new made × device.each disk' (ShowsCore rules new)

  -- nothing is done
  pub keeps_nowhere : (disk : device.State) → KeepsDevice device disk disk
  keeps_nowhere disk = record { stays_honest = λ h. h; was_honest = λ h. h; counted = omega arith }

  keeps_on : (a b c : device.State) → KeepsDevice device a b → KeepsDevice device b c → KeepsDevice device a c
  keeps_on a b c first second =
      record {
        stays_honest = λ h. second.stays_honest (first.stays_honest h);
        was_honest = λ h. first.was_honest (second.was_honest h);
        counted = omega (arith, first.counted, second.counted);
      }

module _ (rules : Rules) (device : Device rules.Image) (laws : IsDevice device) where
  -- two events, one after another, are one
  pub events_on : (d0 d1 d2 : device.State) → device.failures d0 ≤ device.failures d1
      → device.failures d1 ≤ device.failures d2
      → (a b c : Core rules.Base rules.Item) (first second : List rules.Item)
      → IsEvent rules device d0 d1 a b first → IsEvent rules device d1 d2 b c second
      → IsEvent rules device d0 d2 a c (first ++ second)
  events_on d0 d1 d2 rose then_ a b c first second one two =
      let failed = device.failures d0 < device.failures d2 in
      let both = ShowsBetween rules a (one.steps ++ two.steps) in
      record {
        steps = one.steps ++ two.steps;
        leads = steps_on rules a b c one.steps two.steps one.leads two.leads;
        may_come =
            may_come_on rules failed a b c one.steps two.steps one.leads two.leads
            (may_come_so rules (device.failures d0 < device.failures d1) failed (λ f. omega (arith, f, then_)) a b
            one.steps one.leads one.may_come)
            (may_come_so rules (device.failures d1 < device.failures d2) failed (λ f. omega (arith, f, rose)) b c
            two.steps two.leads two.may_come);
        accepts = accepted_on rules one.steps two.steps ∙ (λ i. one.accepts i ++ two.accepts i);
        moments =
            laws.in_sequence d0 d1 d2 both
            (laws.weakened d0 d1 (ShowsBetween rules a one.steps) both one.moments
            (λ image s. let on = in_first rules a s.1 s.0 one.steps two.steps s.2 in (on.0, s.1, on.1, s.3)))
            (laws.weakened d1 d2 (ShowsBetween rules b two.steps) both two.moments
            (λ image s.
            let on = in_second rules a b s.1 s.0 one.steps two.steps one.leads s.2 in (on.0, s.1, on.1, s.3)));
      }

  -- where nothing is done, nothing is accepted
  pub core_moves_nowhere : (disk : device.State) (core : Core rules.Base rules.Item)
      → (device.honest disk → device.sound disk) → CoreMoves rules device disk disk core core []
  core_moves_nowhere disk core is_sound =
      record {
        keeps = keeps_nowhere rules device disk;
        goes = λ honest shows. (
          record {
            steps = [];
            leads = refl;
            may_come = tt;
            accepts = refl;
            moments =
                laws.no_call disk (ShowsBetween rules core []) (is_sound honest)
                (laws.each_weakened disk (ShowsCore rules core) (ShowsBetween rules core []) shows
                (λ image s. (0, core, refl, s)));
          },
          shows,
        );
      }

  -- two runs, one after another, accept the items of both
  pub core_moves_on : (d0 d1 d2 : device.State) (a b c : Core rules.Base rules.Item) (first second : List rules.Item)
      → CoreMoves rules device d0 d1 a b first → CoreMoves rules device d1 d2 b c second
      → CoreMoves rules device d0 d2 a c (first ++ second)
  core_moves_on d0 d1 d2 a b c first second one two =
      record {
        keeps = keeps_on rules device d0 d1 d2 one.keeps two.keeps;
        goes = λ honest shows.
            let left = one.goes honest shows in
            let right = two.goes (one.keeps.stays_honest honest) left.1 in (
              events_on d0 d1 d2 one.keeps.counted two.keeps.counted a b c first second left.0 right.0,
              right.1,
            );
      }

module _ (rules : Rules) where
  -- An image gives all that was acknowledged in the old core: some of the steps lead to a core, and the image gives the
  -- first `kept` items accepted in it, which begin with what was acknowledged. The base is that of the old core (own).
  pub record GivesAcknowledged (old : Core rules.Base rules.Item) (steps : List (CoreStep rules.Item))
      (image : rules.Image) : Type 0 where
    pub count : ℕ
    pub between : Core rules.Base rules.Item
    pub leads : AllStepTo rules old (take count steps) between
    pub kept : ℕ
    pub acknowledged : IsPrefix old.accepted (take kept between.accepted)
    pub gives : rules.gives old.base (take kept between.accepted) image
