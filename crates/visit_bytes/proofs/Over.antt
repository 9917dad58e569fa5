-- Bytes laid after bytes are both laid in one.
use Prim.Native.Nat.{ℕ, ◌+◌, ◌≤◌}
use mathlib.Core.List.{List, ◌++◌, append_assoc}
use mathlib.Core.Path.{◌≡◌, refl, sym, ap, ◌∙◌}
use native.Mathlib.Omega.{arith}
use lib.ListN.{length, take, drop, length-append}
use lib.Seq.{take_at, drop_at, length-take-le, drop-drop}
use Rattle.std.specs.Prelude.{Ok, Err}
use Rattle.visit.specs.declared.Slot.{Slot}
use Rattle.visit.specs.Steps.{Answer}
use Rattle.visit_bytes.specs.Bytes.{answer_bytes, answer_size, slot_bytes, slot_size, value_bytes}
use Rattle.visit_bytes.specs.Laid.{over}
use Rattle.visit.specs.Tags as tag

pub over-then : (a b : List ℕ) (at next : ℕ) (lent : List ℕ) → next ≡ at + length a → next + length b ≤ length lent
    → over b next (over a at lent) ≡ over (a ++ b) at lent
unfolding over
over-then a b at next lent n r =
    let t : length (take at lent) ≡ at = length-take-le at lent (omega arith) in
    let front : length (take at lent ++ a) ≡ next = length-append (take at lent) a ∙ omega arith in
    let all : take at lent ++ (a ++ drop (at + length a) lent) ≡ (take at lent ++ a) ++ drop next lent =
    rw (n) (sym (append_assoc (take at lent) a (drop (at + length a) lent))) in
    let e₁ : take next (take at lent ++ (a ++ drop (at + length a) lent)) ≡ take at lent ++ a =
    ap (take next) all ∙ take_at (take at lent ++ a) (drop next lent) next front in
    let e₂ : drop next (take at lent ++ (a ++ drop (at + length a) lent)) ≡ drop next lent =
    ap (drop next) all ∙ drop_at (take at lent ++ a) (drop next lent) next front in
    let e₃ : drop (next + length b) (take at lent ++ (a ++ drop (at + length a) lent)) ≡ drop (next + length b) lent =
    sym (drop-drop (length b) next (take at lent ++ (a ++ drop (at + length a) lent)))
    ∙ ap (drop (length b)) e₂ ∙ drop-drop (length b) next lent in
    let s : at + length (a ++ b) ≡ next + length b = ap (λ (m : ℕ). at + m) (length-append a b) ∙ omega arith in
    rw (e₁, e₃, s) (append_assoc (take at lent) a (b ++ drop (next + length b) lent)
    ∙ ap (λ (l : List ℕ). take at lent ++ l) (sym (append_assoc a b (drop (next + length b) lent))))

pub answer-length : (tagged : ℕ) (a : Answer) → length (answer_bytes tagged a) ≡ answer_size a
answer-length tagged (Ok v) = refl
answer-length tagged (Err a) = refl

module _ (s : Slot) (at m n : ℕ) (lent one two three four : List ℕ) where
  -- four fields, each after the one before
  pub slot-over : at + slot_size s ≤ length lent → m ≡ answer_size s.temperature → n ≡ answer_size s.pressure
      → one ≡ over (value_bytes tag.time s.time) at lent
      → two ≡ over (answer_bytes tag.temperature s.temperature) (at + 7) one
      → three ≡ over (answer_bytes tag.pressure s.pressure) (at + 7 + m) two
      → four ≡ over (answer_bytes tag.humidity s.humidity) (at + 7 + m + n) three
      → four ≡ over (slot_bytes s) at lent
  unfolding slot_bytes
  slot-over r em en e₁ e₂ e₃ e₄ =
      let v = value_bytes tag.time s.time in
      let b = answer_bytes tag.temperature s.temperature in
      let d = answer_bytes tag.pressure s.pressure in
      let f = answer_bytes tag.humidity s.humidity in
      let lt : length b ≡ answer_size s.temperature = answer-length tag.temperature s.temperature in
      let lp : length d ≡ answer_size s.pressure = answer-length tag.pressure s.pressure in
      let lh : length f ≡ answer_size s.humidity = answer-length tag.humidity s.humidity in
      let l₁ : length (v ++ b) ≡ 7 + length b = length-append v b in
      let l₂ : length ((v ++ b) ++ d) ≡ length (v ++ b) + length d = length-append (v ++ b) d in
      let s₁ : two ≡ over (v ++ b) at lent = e₂ ∙ ap (over b (at + 7)) e₁ ∙ over-then v b at (at + 7) lent refl (omega arith) in
      let s₂ : three ≡ over ((v ++ b) ++ d) at lent =
      e₃ ∙ ap (over d (at + 7 + m)) s₁ ∙ over-then (v ++ b) d at (at + 7 + m) lent (omega arith) (omega arith) in
      let s₃ : four ≡ over (((v ++ b) ++ d) ++ f) at lent =
      e₄ ∙ ap (over f (at + 7 + m + n)) s₂
      ∙ over-then ((v ++ b) ++ d) f at (at + 7 + m + n) lent (omega arith) (omega arith) in
      s₃ ∙ ap (λ (bytes : List ℕ). over bytes at lent) (append_assoc (v ++ b) d f ∙ append_assoc v b (d ++ f))
