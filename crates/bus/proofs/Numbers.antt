-- A number is 0 exactly where every check holds, and by the number a lent buffer is written or not.
use mathlib.Core.Path.{◌≡◌, refl, ap, sym, ◌∙◌}
use mathlib.Core.Bool.{Bool, true, false}
use mathlib.Core.List.{List, [], ◌∷◌, ◌++◌}
use Prim.Native.Nat.{ℕ, ◌≤◌}
use native.Mathlib.Omega.{arith}
use lib.Dec.{eqb, leb}
use lib.ListN.{length, take, drop}
use lib.Seq.{take-append_seam}
use borrow.Author.Tests.{leb-true, le-leb, eq-eqb, ne_eqb, eqb-true, eqb-false}
use Rattle.std.specs.Prelude.{Result, Ok, Err}
use Rattle.laws.specs.Choices.{pick}
use Rattle.paper.specs.Numbers as no
use Rattle.paper.specs.declared.Refusal.{Refusal}
use Rattle.paper.specs.Answers.{Answer, given, refused}
use Rattle.bus.specs.declared.Bus.{Bus}
use Rattle.bus.specs.declared.Device.{Device}
use Rattle.paper.specs.Registers.{is_writable, is_readable}
use Rattle.bus.specs.Pairs.{are_pairs, every}
use Rattle.bus.specs.Devices.{is_device}
use Rattle.bus.specs.Lent.{check, checked, laid_over, handed}
use Rattle.bus.specs.Writing.{pairs_number, encode_number, decode_number, is_shaped, body, means_writable}
use Rattle.bus.specs.Reading.{read_number}

holds : (test : Bool) (number next : ℕ) → (number ≡ no.done → ⊥) → check test number next ≡ no.done → (test ≡ true) × (next ≡ no.done)
holds true number next h e = (refl, e)
holds false number next h e = absurd (h e)

-- ---- pairs

pub record Sendable (test : ℕ → Bool) (pairs : List ℕ) (needed room : ℕ) : Type 0 where
  pub pairwise : are_pairs pairs ≡ true
  pub tested : every test pairs ≡ true
  pub roomy : needed ≤ room

module _ (test : ℕ → Bool) (pairs : List ℕ) (needed room : ℕ) where
  pub pairs-hold : pairs_number test pairs needed room ≡ no.done → Sendable test pairs needed room
  unfolding pairs_number
  pairs-hold e =
      let (a, next) = holds (are_pairs pairs) no.pairs_outside (check (every test pairs) no.address_not_allowed (check (leb needed room) no.buffer_too_short no.done)) (λ z. omega arith) e in
      let (b, last) = holds (every test pairs) no.address_not_allowed (check (leb needed room) no.buffer_too_short no.done) (λ z. omega arith) next in
      let (d, _) = holds (leb needed room) no.buffer_too_short no.done (λ z. omega arith) last in
      record { pairwise = a; tested = b; roomy = leb-true needed room d }

  pub pairs-pass : Sendable test pairs needed room → pairs_number test pairs needed room ≡ no.done
  unfolding pairs_number
  pairs-pass s = rw (s.pairwise, s.tested, le-leb needed room s.roomy)

-- ---- each way

module _ (device : Device) (pairs : List ℕ) (needed room : ℕ) where
  pub encode-holds : encode_number device pairs needed room ≡ no.done → (is_device device ≡ true) × Sendable is_writable pairs needed room
  unfolding encode_number
  encode-holds e =
      let (a, next) = holds (is_device device) no.address_not_allowed (pairs_number is_writable pairs needed room) (λ z. omega arith) e in
      (a, pairs-hold is_writable pairs needed room next)

  pub encode-passes : is_device device ≡ true → Sendable is_writable pairs needed room → encode_number device pairs needed room ≡ no.done
  unfolding encode_number
  encode-passes a s = rw (a) (pairs-pass is_writable pairs needed room s)

module _ (bus : Bus) (bytes : List ℕ) (needed room : ℕ) where
  pub decode-holds : decode_number bus bytes needed room ≡ no.done → (is_shaped bus bytes ≡ true) × Sendable (means_writable bus) (body bus bytes) needed room
  unfolding decode_number
  decode-holds e =
      let (a, next) = holds (is_shaped bus bytes) no.wrong_shape (pairs_number (means_writable bus) (body bus bytes) needed room) (λ z. omega arith) e in
      (a, pairs-hold (means_writable bus) (body bus bytes) needed room next)

  pub decode-passes : is_shaped bus bytes ≡ true → Sendable (means_writable bus) (body bus bytes) needed room → decode_number bus bytes needed room ≡ no.done
  unfolding decode_number
  decode-passes a s = rw (a) (pairs-pass (means_writable bus) (body bus bytes) needed room s)

pub read-holds : (device : Device) (register needed room : ℕ) → read_number device register needed room ≡ no.done → (is_device device ≡ true) × (needed ≤ room)
unfolding read_number
read-holds device register needed room e =
    let (a, next) = holds (is_device device) no.address_not_allowed (check (is_readable register) no.address_not_allowed (check (leb needed room) no.buffer_too_short no.done)) (λ z. omega arith) e in
    let (b, last) = holds (is_readable register) no.address_not_allowed (check (leb needed room) no.buffer_too_short no.done) (λ z. omega arith) next in
    let (d, _) = holds (leb needed room) no.buffer_too_short no.done (λ z. omega arith) last in
    (a, leb-true needed room d)

-- ---- what a check answers says of its number

pub checked-ok : (number : ℕ) → Ok tt ≡ checked number → number ≡ no.done
checked-ok number = pick (λ (answer : Result Unit Refusal). Ok tt ≡ answer → number ≡ no.done) (eqb number no.done) (λ e a. eqb-true number no.done e) (λ e a. cc)

pub checked-err : (number : ℕ) (why : Refusal) → Err why ≡ checked number → (number ≡ no.done → ⊥) × (why.number ≡ number)
checked-err number why =
    pick (λ (answer : Result Unit Refusal). Err why ≡ answer → (number ≡ no.done → ⊥) × (why.number ≡ number)) (eqb number no.done)
    (λ e a. cc) (λ e a. (eqb-false number no.done e, cc))

-- ---- by the number

-- where no check failed, it is 0
pub done : {answer : Result Unit Refusal} {number : ℕ} → answer ≡ checked number → answer ≡ Ok tt → number ≡ no.done
done {number = number} e a = checked-ok number (sym a ∙ e)

-- and where one did, nothing is written
pub refusing :
    {answer : Result Unit Refusal} {why : Refusal} (number : ℕ) (values bytes lent : List ℕ) → answer ≡ checked number → answer ≡ Err why →
    (refused why.number, lent) ≡ handed number values bytes lent
unfolding handed
refusing {why = why} number values bytes lent e a =
    let (h, n) = checked-err number why (sym a ∙ e) in rw (n, ne_eqb number no.done h)

-- where it is 0, the bytes are
pub handing :
    {n number : ℕ} {x : List ℕ} (values bytes lent : List ℕ) → number ≡ no.done → n ≡ length bytes → x ≡ laid_over bytes lent →
    (given (values ++ n ∷ []), x) ≡ handed number values bytes lent
unfolding handed
handing {number = number} values bytes lent z p q = rw (eq-eqb number no.done z, p, q)

-- and what an answer that was given says of the number and of the buffer
module _ (number : ℕ) (values bytes lent values' lent' : List ℕ) where
  pub record Written : Type 0 where
    pub done : number ≡ no.done
    pub given-values : (values ++ length bytes ∷ []) ≡ values'
    pub front : take (length bytes) lent' ≡ bytes

  pub handed-back : handed number values bytes lent ≡ (given values', lent') → Written
  unfolding handed
  handed-back =
      pick (λ (outcome : Answer × List ℕ). outcome ≡ (given values', lent') → Written) (eqb number no.done)
      (λ e o.
      let l : laid_over bytes lent ≡ lent' = ap (λ (outcome : Answer × List ℕ). outcome.1) o in
      record {
        done = eqb-true number no.done e;
        given-values = ap (λ (outcome : Answer × List ℕ). outcome.0.values) o;
        front = rw (← l) (take-append_seam bytes (drop (length bytes) lent));
      })
      (λ e o. absurd (eqb-false number no.done e (ap (λ (outcome : Answer × List ℕ). outcome.0.number) o)))
