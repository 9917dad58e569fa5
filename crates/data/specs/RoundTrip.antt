-- The layout, both ways: what is laid out is taken out again, and what is taken out is laid out again (proofs/RoundTrip.antt).
use Rattle.std.specs.Prelude.{ℕ, ◌*◌, ◌/◌, ◌<◌, ◌≡◌, List, [], ◌∷◌}
use Rattle.paper.specs.Registers as reg
use Rattle.data.specs.declared.Counts.{Counts}
use Rattle.data.specs.Counts.{counts_of, laid}

-- counts of 20, 20 and 16 bits
pub record InRange (c : Counts) : Type 0 where
  pub temperature : c.temperature < reg.count20
  pub pressure : c.pressure < reg.count20
  pub humidity : c.humidity < reg.count16

-- in range, the counts of laid bytes are the counts
abbrev pub LaidThenCounted : Type 0
LaidThenCounted = (c : Counts) → InRange c → counts_of (laid c.temperature c.pressure c.humidity) ≡ c

-- each of the list is a byte
abbrev pub AreBytes : List ℕ → Type 0
AreBytes [] = Unit {0}
AreBytes (b ∷ bs) = (b < 256) × AreBytes bs

-- a byte with its low nibble 0
abbrev pub high_nibble : ℕ → ℕ
high_nibble b = b / 16 * 16

module _ (b0 b1 b2 b3 b4 b5 b6 b7 : ℕ) where
  abbrev pub eight : List ℕ
  eight = b0 ∷ b1 ∷ b2 ∷ b3 ∷ b4 ∷ b5 ∷ b6 ∷ b7 ∷ []

  -- the counts of eight bytes are in range; laid out, they are those bytes, but that the low nibbles of 0xF9 and 0xFC are 0
  pub record CountedThenLaid : Type 0 where
    pub in-range : InRange (counts_of eight)
    pub laid-are :
        let c = counts_of eight in
        laid c.temperature c.pressure c.humidity ≡ b0 ∷ b1 ∷ high_nibble b2 ∷ b3 ∷ b4 ∷ high_nibble b5 ∷ b6 ∷ b7 ∷ []
