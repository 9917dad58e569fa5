-- Why the layout goes both ways: each is arithmetic on one channel's bytes.
use Prim.Native.Nat.{ℕ, ◌*◌, ◌/◌, ◌%◌, ◌<◌}
use mathlib.Core.Path.{◌≡◌}
use native.Mathlib.Omega.{arith}
use Rattle.data.specs.declared.Counts.{Counts}
use Rattle.data.specs.Counts.{counts_of, laid, twenty_bits, sixteen_bits}
use Rattle.data.specs.RoundTrip.{LaidThenCounted, AreBytes, CountedThenLaid, eight}

twenty-back : (n : ℕ) → n < 1048576 → twenty_bits (n / 4096 % 256) (n / 16 % 256) (n % 16 * 16) ≡ n
twenty-back n h = omega arith

sixteen-back : (n : ℕ) → n < 65536 → sixteen_bits (n / 256 % 256) (n % 256) ≡ n
sixteen-back n h = omega arith

same-counts : (a b : Counts) → a.temperature ≡ b.temperature → a.pressure ≡ b.pressure → a.humidity ≡ b.humidity → a ≡ b
same-counts a b t p h = rw (t, p, h)

pub laid-then-counted : LaidThenCounted
laid-then-counted c r =
    same-counts (counts_of (laid c.temperature c.pressure c.humidity)) c
    (twenty-back c.temperature r.temperature)
    (twenty-back c.pressure r.pressure)
    (sixteen-back c.humidity r.humidity)

module _ (high middle low : ℕ) (h : high < 256) (m : middle < 256) (l : low < 256) where
  abbrev n : ℕ
  n = twenty_bits high middle low

  twenty-fits : n < 1048576
  twenty-fits = omega arith

  high_is : n / 4096 % 256 ≡ high
  high_is = omega arith

  middle-is : n / 16 % 256 ≡ middle
  middle-is = omega arith

  low-is : n % 16 * 16 ≡ low / 16 * 16
  low-is = omega arith

module _ (high low : ℕ) (h : high < 256) (l : low < 256) where
  abbrev k : ℕ
  k = sixteen_bits high low

  sixteen-fits : k < 65536
  sixteen-fits = omega arith

  upper_is : k / 256 % 256 ≡ high
  upper_is = omega arith

  lower-is : k % 256 ≡ low
  lower-is = omega arith

pub counted-then-laid : (b0 b1 b2 b3 b4 b5 b6 b7 : ℕ) → AreBytes (eight b0 b1 b2 b3 b4 b5 b6 b7) → CountedThenLaid b0 b1 b2 b3 b4 b5 b6 b7
counted-then-laid b0 b1 b2 b3 b4 b5 b6 b7 (h0, (h1, (h2, (h3, (h4, (h5, (h6, (h7, _)))))))) =
    record {
      in-range = record { temperature = twenty-fits b3 b4 b5 h3 h4 h5; pressure = twenty-fits b0 b1 b2 h0 h1 h2; humidity = sixteen-fits b6 b7 h6 h7 };
      laid-are = rw (
        high_is b0 b1 b2 h0 h1 h2,
        middle-is b0 b1 b2 h0 h1 h2,
        low-is b0 b1 b2 h0 h1 h2,
        high_is b3 b4 b5 h3 h4 h5,
        middle-is b3 b4 b5 h3 h4 h5,
        low-is b3 b4 b5 h3 h4 h5,
        upper_is b6 b7 h6 h7,
        lower-is b6 b7 h6 h7,
      );
    }
