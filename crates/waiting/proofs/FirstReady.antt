-- `polled` finds the first ready byte, and whatever does so is `polled`.
use Prim.Native.Nat.{ℕ, zero, suc, ◌+◌, ◌*◌, ◌/◌, ◌%◌, ◌≤◌, ◌<◌}
use native.Mathlib.Omega.{arith}
use lib.Dec.{ltb}
use lib.ListN.{length, get_or, take}
use lib.Seq.{get_or-take, length-take-le}
use borrow.Author.Tests.{ltb-true, ltb-false, lt-ltb, le-ltb}
use mathlib.Core.Bool.{Bool, true, false}
use mathlib.Core.List.{List, [], ◌∷◌}
use mathlib.Core.Path.{◌≡◌, sym, ◌∙◌}
use Rattle.laws.specs.Choices.{pick}
use Rattle.laws.specs.Tests as tests
use Rattle.paper.specs.Answers.{Answer, given}
use Rattle.paper.proofs.Answers.{same_number, same-values}
use Rattle.waiting.specs.Polling.{is_ready, first_ready, limit, place, never, polled}
use Rattle.waiting.specs.FirstReady.{ByBits, Found, NeverReady, FindsFirst}

-- ---- a ready byte

pub by_bits : ByBits is_ready
by_bits high running middle copying r m c =
    let byte = high * 16 + running * 8 + middle * 2 + copying in
    let bit3 : byte / 8 % 2 ≡ running = omega arith in
    let bit0 : byte % 2 ≡ copying = omega arith in
    rw (bit3, bit0)

-- ---- the first ready byte of a list

first-within : (s : List ℕ) → first_ready s ≤ length s
unfolding first_ready
first-within [] = omega arith
first-within (b ∷ s) = pick (λ n. n ≤ suc (length s)) (is_ready b) (λ e. omega arith) (λ e. omega (arith, first-within s))

first-is-ready : (s : List ℕ) → first_ready s < length s → is_ready (get_or s (first_ready s) 0) ≡ true
unfolding first_ready
first-is-ready [] h = absurd (omega arith)
first-is-ready (b ∷ s) h =
    pick (λ n. n < suc (length s) → is_ready (get_or (b ∷ s) n 0) ≡ true) (is_ready b)
    (λ e g. e) (λ e g. first-is-ready s (omega arith)) h

earlier-is-not : (s : List ℕ) (k : ℕ) → k < first_ready s → is_ready (get_or s k 0) ≡ false
unfolding first_ready
earlier-is-not [] k h = absurd (omega arith)
earlier-is-not (b ∷ s) zero h = pick (λ n. 0 < n → is_ready b ≡ false) (is_ready b) (λ e g. absurd (omega arith)) (λ e g. e) h
earlier-is-not (b ∷ s) (suc k) h =
    pick (λ n. suc k < n → is_ready (get_or s k 0) ≡ false) (is_ready b)
    (λ e g. absurd (omega arith)) (λ e g. earlier-is-not s k (omega arith)) h

-- ---- among the bytes polled

module _ (status : List ℕ) (allowance : ℕ) where
  abbrev polled_bytes : List ℕ
  polled_bytes = take (limit status allowance) status

  as_many : length polled_bytes ≡ limit status allowance
  as_many = length-take-le (limit status allowance) status (omega arith)

  same_byte : (k : ℕ) → k < limit status allowance → get_or polled_bytes k 0 ≡ get_or status k 0
  same_byte k h = get_or-take (limit status allowance) status k 0 h

  place-is-ready : place status allowance < limit status allowance → is_ready (get_or status (place status allowance) 0) ≡ true
  place-is-ready h = rw (same_byte (place status allowance) h) at (first-is-ready polled_bytes (rw as_many h))

  before-place : (k : ℕ) → k < place status allowance → is_ready (get_or status k 0) ≡ false
  before-place k h =
      let g : k < limit status allowance = omega (arith, first-within polled_bytes, as_many) in
      rw (same_byte k g) at (earlier-is-not polled_bytes k h)

-- ---- the two answers

place_found : (status : List ℕ) (allowance at polls : ℕ) → polled status allowance ≡ given (at ∷ polls ∷ []) → Found status allowance at polls
unfolding polled
place_found status allowance at polls =
    pick (λ (answer : Answer). answer ≡ given (at ∷ polls ∷ []) → Found status allowance at polls)
    (ltb (place status allowance) (limit status allowance))
    (λ e a.
    let h : place status allowance < limit status allowance = ltb-true _ _ e in
    let v = same-values a in
    let p : place status allowance ≡ at = cc in
    let q : place status allowance + 1 ≡ polls = cc in
    record {
      counted = omega arith;
      there = omega arith;
      allowed = omega arith;
      ready = rw p at (place-is-ready status allowance h);
      first = rw p at (before-place status allowance);
    })
    (λ e a. absurd (omega (arith, same_number a)))

never-none : (status : List ℕ) (allowance polls : ℕ) → polled status allowance ≡ never polls → NeverReady status allowance polls
unfolding polled
never-none status allowance polls =
    pick (λ (answer : Answer). answer ≡ never polls → NeverReady status allowance polls)
    (ltb (place status allowance) (limit status allowance))
    (λ e a. absurd (omega (arith, same_number a)))
    (λ e a.
    let h : limit status allowance ≤ place status allowance = ltb-false _ _ e in
    let v = same-values a in
    let q : limit status allowance ≡ polls = cc in
    record { counted = sym q; none = λ k g. before-place status allowance k (omega arith) })

-- ---- and back: the first ready byte has one place

both_ways : {b : Bool} → b ≡ true → b ≡ false → ⊥
both_ways p q = tests.never (sym q ∙ p)

module _ (status : List ℕ) (allowance at polls : ℕ) (f : Found status allowance at polls) where
  same_place : place status allowance ≡ at
  same_place =
      let early : place status allowance < at → ⊥ = λ h. both_ways (place-is-ready status allowance (omega arith)) (f.first _ h) in
      let late : at < place status allowance → ⊥ = λ h. both_ways f.ready (before-place status allowance at h) in
      omega arith

  found-place : polled status allowance ≡ given (at ∷ polls ∷ [])
  unfolding polled
  found-place =
      let h : at < limit status allowance = omega arith in
      rw (same_place, lt-ltb at (limit status allowance) h, f.counted)

none_never : (status : List ℕ) (allowance polls : ℕ) → NeverReady status allowance polls → polled status allowance ≡ never polls
unfolding polled
none_never status allowance polls n =
    let found : place status allowance < limit status allowance → ⊥ = λ h. both_ways (place-is-ready status allowance h) (n.none _ (omega arith)) in
    rw (le-ltb (place status allowance) (limit status allowance) (omega arith), n.counted)

pub finds-first : FindsFirst polled
finds-first =
    record { place_found = place_found; found-place = found-place; never-none = never-none; none_never = none_never }

-- so one that always refuses, or always answers a place, does not
pub only-polled : (other : List ℕ → ℕ → Answer) → FindsFirst other → (status : List ℕ) (allowance : ℕ) → other status allowance ≡ polled status allowance
unfolding polled
only-polled other f status allowance =
    pick (λ (answer : Answer). other status allowance ≡ answer) (ltb (place status allowance) (limit status allowance))
    (λ e. f.found-place _ _ _ _ (place_found status allowance _ _ (rw e)))
    (λ e. f.none_never _ _ _ (never-none status allowance _ (rw e)))
