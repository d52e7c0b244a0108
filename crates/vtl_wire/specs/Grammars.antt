-- Frames of one direction, and what an input spells of them (own).
use Rattle.std.specs.Prelude.{◌≡◌, ◌≢◌, ◌⊎◌, ℕ, ◌+◌, List, [], ◌++◌, length, flat_map, Option}
use Rattle.std.specs.List.{All}
use Rattle.std.specs.Io.KnownBytes.{IsAtEnd}

-- frames of one direction, requests or answers: which of them have a spelling, and what it is (own)
pub record Grammar (T : Type 0) : Type 1 where
  pub has : T → Type 0
  pub spell : T → List ℕ

-- the bytes spell these frames, in this order, and nothing more (own)
abbrev pub SpellsFrames : {T : Type 0} → Grammar T → List ℕ → List T → Type 0
SpellsFrames grammar bytes frames = All grammar.has frames × (bytes ≡ flat_map grammar.spell frames)

-- the bytes begin with the spelling of some frame (own)
abbrev pub BeginsWith : {T : Type 0} → Grammar T → List ℕ → Type 0
BeginsWith {T} grammar bytes =
    (frame : T) × (rest : List ℕ) × grammar.has frame × (bytes ≡ grammar.spell frame ++ rest)

-- The frame of this number, from 1 on, is refused: the bytes begin with the spellings of the frames before it. What is
-- behind these is not nothing, and begins with no frame's spelling (own).
pub record IsFrameRefused {T : Type 0} (grammar : Grammar T) (bytes : List ℕ) (number : ℕ) : Type 0 where
  pub frames : List T
  pub rest : List ℕ
  pub spelled : All grammar.has frames
  pub begins : bytes ≡ flat_map grammar.spell frames ++ rest
  pub number_is : number ≡ length frames + 1
  pub some : rest ≢ []
  pub bad : BeginsWith grammar rest → ⊥

-- these bytes begin with no frame: they are as many as are looked at, and don't however they go on; or the input ended
-- with them (own)
abbrev pub BeginNone : {T : Type 0} → Grammar T → (List ℕ → Type 0) → List ℕ → Option (List ℕ) → Type 0
BeginNone grammar IsLookedAt read left' =
    (IsLookedAt read × ((more : List ℕ) → BeginsWith grammar (read ++ more) → ⊥))
    ⊎ (IsAtEnd left' × (BeginsWith grammar read → ⊥))

-- no frame's spelling begins another's: what begins with two of them begins with one, and the rest is one too (own)
abbrev pub NoneBeginsAnother : {T : Type 0} → Grammar T → Type 0
NoneBeginsAnother {T} grammar =
    (one other : T) (x y : List ℕ) → grammar.has one → grammar.has other
    → grammar.spell one ++ x ≡ grammar.spell other ++ y → (one ≡ other) × (x ≡ y)

-- bytes spell at most one list of frames (own)
abbrev pub OneList : {T : Type 0} → Grammar T → Type 0
OneList {T} grammar =
    (bytes : List ℕ) (frames others : List T) → SpellsFrames grammar bytes frames → SpellsFrames grammar bytes others
    → frames ≡ others

-- at most one frame of an input is refused (own)
abbrev pub OneRefused : {T : Type 0} → Grammar T → Type 0
OneRefused grammar =
    (bytes : List ℕ) (number other : ℕ) → IsFrameRefused grammar bytes number → IsFrameRefused grammar bytes other
    → number ≡ other

-- no frame of an input that spells frames is refused (own)
abbrev pub NoneRefused : {T : Type 0} → Grammar T → Type 0
NoneRefused {T} grammar =
    (bytes : List ℕ) (frames : List T) (number : ℕ) → SpellsFrames grammar bytes frames
    → IsFrameRefused grammar bytes number → ⊥
