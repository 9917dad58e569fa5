-- A row that ends in an S.
use Rattle.std.specs.Prelude.{ℕ, ◌-◌, ◌≤◌, ◌<◌, ◌≢◌, List, ◌≡◌, true, false, length, get_or}
use Rattle.std.proofs.Common.{arith, eq-eqb, ne_eqb}
use Rattle.bench_command.specs.Table.{is_open}

pub is : (row : List ℕ) → 1 ≤ length row → get_or row (length row - 1) 0 ≡ 83 → true ≡ is_open row
unfolding is_open
is row h e = rw (ne_eqb (length row) 0 (λ z. omega arith), eq-eqb (get_or row (length row - 1) 0) 83 e)

pub is_not : (row : List ℕ) → 1 ≤ length row → get_or row (length row - 1) 0 ≢ 83 → false ≡ is_open row
unfolding is_open
is_not row h e = rw (ne_eqb (length row) 0 (λ z. omega arith), ne_eqb (get_or row (length row - 1) 0) 83 e)

pub is_empty : (row : List ℕ) → length row < 1 → false ≡ is_open row
unfolding is_open
is_empty row h = let e : length row ≡ 0 = omega arith in rw (eq-eqb (length row) 0 e)
