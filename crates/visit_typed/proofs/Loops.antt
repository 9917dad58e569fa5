-- Digits and decimals, one character on and at their end.
use Rattle.std.proofs.Common.{ℕ, suc, ◌+◌, ◌-◌, ◌≤◌, ◌<◌, arith, List, length, get_or, drop, drop_of_length-le, Option, Some, None, unwrap_or, ◌≡◌}
use Rattle.laws.specs.Rest.{rest}
use Rattle.visit_typed.specs.declared.digits.Digits.{Digits}
use Rattle.visit_typed.specs.Typed.{digit, with_digit, digits_on, digit_at, past, part_on}

module _ (text : List ℕ) (value at : ℕ) (whole : Digits) (inv : digits_on value (drop at text) at ≡ whole) where
  module _ (d : Option ℕ) (h : at < length text) (e : d ≡ digit (get_or text at 0)) where
    pub digits-stop : d ≡ None → record { value = value; end = at } ≡ whole
    unfolding digits_on
    digits-stop t = rw (rest text at h, ← e, t) at inv

    pub digits-on : (n : ℕ) {v : ℕ} → d ≡ Some n → v ≡ with_digit value n → digits_on v (drop (at + 1) text) (at + 1) ≡ whole
    unfolding digits_on
    digits-on n t f = rw f (rw (rest text at h, ← e, t) at inv)

  pub digits-end : at ≡ length text → record { value = value; end = length text } ≡ whole
  unfolding digits_on
  digits-end h =
      let l : length text ≤ at = omega arith in
      rw (drop_of_length-le text l, h) at inv

module _ (text : List ℕ) (places done value at : ℕ) (whole : Digits) (inv : part_on text (places - done) value at ≡ whole) where
  pub part-on :
      {d : Option ℕ} {u v next : ℕ} → done < places → d ≡ digit_at text at → u ≡ unwrap_or d 0 → v ≡ with_digit value u → next ≡ past d at
      → part_on text (places - (done + 1)) v next ≡ whole
  unfolding part_on
  part-on h e f g i =
      let k : places - done ≡ suc (places - (done + 1)) = omega arith in
      rw (i, g, f, e) (rw k at inv)

  pub part_end : places ≤ done → record { value = value; end = at } ≡ whole
  unfolding part_on
  part_end h =
      let k : places - done ≡ 0 = omega arith in
      rw k at inv
