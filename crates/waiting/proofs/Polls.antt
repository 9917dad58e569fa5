-- What polling keeps: that the first ready place among the bytes polled is as many places on as polls were made.
use Prim.Native.Nat.{ℕ, suc, ◌+◌, ◌≤◌, ◌<◌}
use native.Mathlib.Numerals.{add-one}
use native.Mathlib.Omega.{arith}
use borrow.Author.Tests.{lt-ltb, le-ltb}
use lib.ListN.{length, get_or, take, drop, drop_of_length-le}
use lib.Seq.{drop-cons, get_or-take, length-take-le}
use mathlib.Core.Bool.{true, false}
use mathlib.Core.List.{List, [], ◌∷◌}
use mathlib.Core.Path.{◌≡◌, ap}
use Rattle.paper.specs.Answers.{given}
use Rattle.waiting.specs.Polling as polling
use Rattle.waiting.specs.Polling.{is_ready, first_ready, place, never, polled}

pub record Polling (status : List ℕ) (allowance limit polls : ℕ) : Type 0 where
  pub limited : limit ≡ polling.limit status allowance
  pub within : polls ≤ limit
  pub ahead : place status allowance ≡ polls + first_ready (drop polls (take limit status))

module _ (status : List ℕ) (allowance limit polls : ℕ) (w : Polling status allowance limit polls) where
  as_many : length (take limit status) ≡ limit
  as_many = length-take-le limit status (omega arith)

  next : polls < limit → drop polls (take limit status) ≡ get_or status polls 0 ∷ drop (polls + 1) (take limit status)
  next h =
      let g : polls < length (take limit status) = rw as_many h in
      rw (add-one, drop-cons (take limit status) polls 0 g, get_or-take limit status polls 0 h)

  pub at-end : limit ≤ polls → never polls ≡ polled status allowance
  unfolding first_ready polled
  at-end h =
      let g : length (take limit status) ≤ polls = rw as_many h in
      let p : place status allowance ≡ polls = omega (arith, w.ahead, ap first_ready (drop_of_length-le (take limit status) g)) in
      let q : polls ≡ polling.limit status allowance = omega arith in
      rw (le-ltb (place status allowance) (polling.limit status allowance) (omega arith), q)

  pub at_ready : polls < limit → is_ready (get_or status polls 0) ≡ true → given (polls ∷ (polls + 1) ∷ []) ≡ polled status allowance
  unfolding first_ready polled
  at_ready h e =
      let f : first_ready (drop polls (take limit status)) ≡ 0 = rw (next h, e) in
      let p : place status allowance ≡ polls = omega (arith, w.ahead) in
      rw (lt-ltb (place status allowance) (polling.limit status allowance) (omega arith), p)

  pub at_other : polls < limit → is_ready (get_or status polls 0) ≡ false → Polling status allowance limit (polls + 1)
  unfolding first_ready
  at_other h e =
      let f : first_ready (drop polls (take limit status)) ≡ suc (first_ready (drop (polls + 1) (take limit status))) = rw (next h, e) in
      record { limited = w.limited; within = omega arith; ahead = omega (arith, w.ahead) }
