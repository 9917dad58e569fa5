-- A day worked out: the bytes of K1 and K2 with humidity skipped, with a code above 7, and with temperature skipped (proofs/Examples.antt).
use Rattle.std.specs.Prelude.{ℕ, ◌≡◌, List, [], ◌∷◌, ◌++◌, ℤ, pos, replicate, take}
use Rattle.paper.specs.Numbers as no
use Rattle.day.specs.Day.{day}

-- the chip of K1 and K2, with a block two of zeros
abbrev one : List ℕ
one =
    0x70 ∷ 0x6B ∷ 0x43 ∷ 0x67 ∷ 0x18 ∷ 0xFC ∷ 0x7D ∷ 0x8E ∷ 0x43 ∷ 0xD6 ∷ 0xD0 ∷ 0x0B ∷ 0x27
    ∷ 0x0B ∷ 0x8C ∷ 0x00 ∷ 0xF9 ∷ 0xFF ∷ 0x8C ∷ 0x3C ∷ 0xF8 ∷ 0xC6 ∷ 0x70 ∷ 0x17 ∷ 0x00 ∷ 0x4B ∷ []

abbrev two : List ℕ
two = replicate 7 0

abbrev taken : ℕ → ℕ → ℕ → List ℕ
taken t p h = 0x65 ∷ 0x5A ∷ 0xC0 ∷ 0x7E ∷ 0xED ∷ 0x00 ∷ 0 ∷ 0 ∷ t ∷ p ∷ h ∷ []

abbrev readings : List ℕ
readings = taken 1 1 0 ++ (taken 1 8 1 ++ taken 0 1 1)

abbrev lent : ℕ → List ℤ
lent n = replicate n (pos 99)

pub record Worked : Type 0 where
  pub three :
      day one two readings (lent 24)
      ≡ (
        no.done,
        pos 0 ∷ pos 0 ∷ pos 2508 ∷ pos 128422 ∷ pos 0 ∷ pos 25767233 ∷ pos 10 ∷ pos 0
            ∷ pos 7 ∷ pos 7 ∷ pos 0 ∷ pos 0 ∷ pos 7 ∷ pos 0 ∷ pos 7 ∷ pos 0
            ∷ pos 0 ∷ pos 10 ∷ pos 0 ∷ pos 0 ∷ pos 11 ∷ pos 0 ∷ pos 11 ∷ pos 0 ∷ [],
      )
  pub none : day one two [] [] ≡ (no.done, [])
  pub cut : day one two (take 32 readings) (lent 24) ≡ (no.wrong_length, lent 24)
  pub unequal : day one two readings (lent 23) ≡ (no.wrong_length, lent 23)
  pub wrong-block : day two two readings (lent 24) ≡ (no.wrong_length, lent 24)
