-- The rows of the table tried one after another.
use Rattle.std.specs.Prelude.{ℕ, ◌+◌, ◌≤◌, ◌<◌, Bool, true, false, ◌||◌, List, ◌∷◌, ◌≡◌, length, get_or, drop}
use Rattle.std.proofs.Common.{add-one, drop-cons, drop_of_length-le}
use denote.Bor.{Bor}
use Rattle.bench_command.specs.declared.commands.Command.{Command}
use Rattle.bench_command.specs.Table.{fits, is_of, asked_by, refused, tried, as_rows, make_of}

module _ (rows : List (Bor (List ℕ) × Command)) (i : ℕ) (line : List ℕ) (words : ℕ) (named : Bool) (lent : List ℕ) where
  pub over : length rows ≤ i → (refused named, lent) ≡ tried (as_rows (drop i rows)) line words named lent
  unfolding tried
  over h = rw (drop_of_length-le rows h)

  module _ (none : Bor (List ℕ) × Command) (h : i < length rows) where
    here : drop i rows ≡ get_or rows i none ∷ drop (i + 1) rows
    here = rw (add-one, drop-cons rows i none)

    pub asks :
        true ≡ is_of (get_or rows i none).0.now line words
        → asked_by (make_of (get_or rows i none).1) (get_or rows i none).0.now line lent ≡ tried (as_rows (drop i rows)) line words named lent
    unfolding tried
    asks f = rw (here, ← f)

    pub goes_on :
        false ≡ is_of (get_or rows i none).0.now line words
        → tried (as_rows (drop (i + 1) rows)) line words (named || fits (get_or rows i none).0.now line) lent
        ≡ tried (as_rows (drop i rows)) line words named lent
    unfolding tried
    goes_on f = rw (here, ← f)
