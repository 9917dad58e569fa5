-- When two rooms agree, differ or are unknown to each other: statements (proofs/Honest.antt). Unknown is never agreement.
use Rattle.std.specs.Prelude.{ℕ, ◌≤◌, ◌<◌, ◌⊎◌, ◌≡◌, ℤ, pos, nat_abs, ◌-ℤ◌, Ok, Err}
use Rattle.paper.specs.declared.Missing.{Missing}
use Rattle.paper.specs.Answers.{refusal}
use Rattle.formula.specs.Answers.{TemperatureAnswer, ChannelAnswer}
use Rattle.compensation.specs.declared.Reading.{Reading}
use Rattle.compensation.specs.Compensation.{Answer}
use Rattle.rooms.specs.Compared.{Whole}
use Rattle.rooms.specs.Exact.{heat}
use Rattle.rooms.specs.declared.Verdict.{Verdict}
use Rattle.rooms.specs.declared.Verdict.TheVariants.{Agree, Differ, Unknown}
use Rattle.rooms.specs.declared.Verdicts.{Verdicts}
use Rattle.rooms.specs.declared.Tolerances.{Tolerances}

-- ---- which value a channel has, and that it has none

pub record Channel (C : Type 0) : Type 1 where
  pub has : C → ℤ → Type 0
  pub lacks : C → Type 0

abbrev pub wholes : Channel Whole
wholes = record { has = λ c value. c ≡ Ok value; lacks = λ c. (m : Missing) × (c ≡ Err m) }

-- the hundredths, whatever the fine temperature
abbrev pub temperatures : Channel TemperatureAnswer
temperatures = record { has = λ c value. (fine : ℤ) × (c ≡ Ok (heat value fine)); lacks = λ c. (m : Missing) × (c ≡ Err m) }

-- a pressure or a humidity
abbrev pub levels : Channel ChannelAnswer
levels = record { has = λ c value. (n : ℕ) × (c ≡ Ok n) × (value ≡ pos n); lacks = λ c. (m : Missing) × (c ≡ Err m) }

-- ---- two channels of any kind

module _ {C : Type 0} (k : Channel C) where
  -- both have a value, and they are so far apart
  pub record Apart (one two : C) (distance : ℕ) : Type 0 where
    pub first : ℤ
    pub second : ℤ
    pub one_has : k.has one first
    pub two-has : k.has two second
    pub distance_is : nat_abs (first -ℤ second) ≡ distance

  -- a verdict is agree exactly where both have a value and they differ by at most the tolerance, differ exactly where both have one and they
  -- don't, unknown exactly where one has none
  pub record Honest (one two : C) (tolerance : ℕ) (verdict : Verdict) : Type 0 where
    pub agrees : verdict ≡ Agree → (distance : ℕ) × Apart one two distance × (distance ≤ tolerance)
    pub agree : {distance : ℕ} → Apart one two distance → distance ≤ tolerance → verdict ≡ Agree
    pub differs : verdict ≡ Differ → (distance : ℕ) × Apart one two distance × (tolerance < distance)
    pub differ : {distance : ℕ} → Apart one two distance → tolerance < distance → verdict ≡ Differ
    pub is-unknown : verdict ≡ Unknown → k.lacks one ⊎ k.lacks two
    pub unknown : k.lacks one ⊎ k.lacks two → verdict ≡ Unknown

  -- and a channel beside itself agrees where it has a value, and is unknown where it has none
  pub record WithItself (one : C) (verdict : Verdict) : Type 0 where
    pub agree : {value : ℤ} → k.has one value → verdict ≡ Agree
    pub unknown : k.lacks one → verdict ≡ Unknown

pub record HonestChannels (compared : Whole → Whole → ℕ → Verdict) : Type 0 where
  pub honest : (one two : Whole) (tolerance : ℕ) → Honest wholes one two tolerance (compared one two tolerance)
  pub symmetric : (one two : Whole) (tolerance : ℕ) → compared one two tolerance ≡ compared two one tolerance
  pub itself : (one : Whole) (tolerance : ℕ) → WithItself wholes one (compared one one tolerance)

-- nothing else is honest
abbrev pub OnlyHonest : (Whole → Whole → ℕ → Verdict) → Type 0
OnlyHonest compared =
    (other : Whole → Whole → ℕ → Verdict) → HonestChannels other →
    (one two : Whole) (tolerance : ℕ) → other one two tolerance ≡ compared one two tolerance

-- ---- two rooms, channel by channel

pub record HonestReadings (r s : Reading) (t : Tolerances) (v : Verdicts) : Type 0 where
  pub temperature : Honest temperatures r.temperature s.temperature t.temperature v.temperature
  pub pressure : Honest levels r.pressure s.pressure t.pressure v.pressure
  pub humidity : Honest levels r.humidity s.humidity t.humidity v.humidity

pub record ReadingWithItself (r : Reading) (v : Verdicts) : Type 0 where
  pub temperature : WithItself temperatures r.temperature v.temperature
  pub pressure : WithItself levels r.pressure v.pressure
  pub humidity : WithItself levels r.humidity v.humidity

abbrev pub all_unknown : Verdicts
all_unknown = record { temperature = Unknown; pressure = Unknown; humidity = Unknown }

pub record HonestRooms (compared : Answer → Answer → Tolerances → Verdicts) : Type 0 where
  pub honest : (r s : Reading) (t : Tolerances) → HonestReadings r s t (compared (Ok r) (Ok s) t)
  pub itself : (r : Reading) (t : Tolerances) → ReadingWithItself r (compared (Ok r) (Ok r) t)
  -- one that is refused whole is unknown to every room, itself too
  pub refused : (n : ℕ) (two : Answer) (t : Tolerances) → compared (Err (refusal n)) two t ≡ all_unknown
  pub symmetric : (one two : Answer) (t : Tolerances) → compared one two t ≡ compared two one t
