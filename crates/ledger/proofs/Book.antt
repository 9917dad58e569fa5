-- The machine's part in the ledger, with counts that are not cut: what each happening enters into it.
use Prim.Native.Nat.{ℕ, ◌+◌, ◌-◌, ◌≤◌}
use mathlib.Core.Path.{◌≡◌, refl}
use mathlib.Core.Bool.{Bool, true, false, not, cond, ◌&&◌, and-not_self}
use native.Mathlib.Omega.{arith}
use lib.Dec.{eqb}
use borrow.Author.Tests.{ne_eqb, not-false, eqb-true}
use Rattle.kinds.specs.declared.Kind.{Kind}
use Rattle.machine.specs.declared.Codes.{Codes}
use Rattle.machine.specs.declared.Ledger.{Ledger}
use Rattle.ledger.specs.Happening.{Happening, began, finished, lost, opened, gave, closed, changed}
use Rattle.ledger.specs.Device.{zero_codes}
use Rattle.ledger.specs.Bytes.{data_bytes}
use Rattle.ledger.specs.History.{Measurement, no_measurement, bit}

-- burst: one is open; read: the shown one was delivered
pub record Book : Type 0 where
  pub burst : Bool
  pub codes : Codes
  pub shown : Measurement
  pub read : Bool
  pub waiting : Measurement
  pub ledger : Ledger

abbrev pub nonzero : ℕ → Bool
nonzero n = not (eqb n 0)

pub nonzero-pos : (n : ℕ) → 1 ≤ n → nonzero n ≡ true
nonzero-pos n l = rw (ne_eqb n 0 (λ e. omega arith))

pub nonzero-zero : (n : ℕ) → nonzero n ≡ false → n ≡ 0
nonzero-zero n e = eqb-true n 0 (not-false (eqb n 0) e)

abbrev pub some : Measurement → Bool
some c = nonzero c.number

abbrev pub unread : Book → Bool
unread b = some b.shown && not b.read

-- the waiting one, or else the shown one
abbrev pub latest : Book → Measurement
latest b = cond (some b.waiting) b.waiting b.shown

-- the running conversion, with its bytes by the codes that it began with
abbrev pub made : Kind → Book → ℕ → ℕ → ℕ → Measurement
made kind b x y z = record { number = b.ledger.begun; codes = b.codes; bytes = data_bytes kind b.codes x y z }

-- ---- the counts

abbrev pub counts : ℕ → ℕ → ℕ → ℕ → ℕ → Ledger
counts b d o a s = record { begun = b; delivered = d; overwritten = o; abandoned = a; standing = s }

pub same-ledger : {b b' d d' o o' a a' s s' : ℕ} → b ≡ b' → d ≡ d' → o ≡ o' → a ≡ a' → s ≡ s' → counts b d o a s ≡ counts b' d' o' a' s'
same-ledger p q r s t = cc

abbrev pub begins : Ledger → Ledger
begins l = counts (l.begun + 1) l.delivered l.overwritten l.abandoned (l.standing + 1)

abbrev pub delivers : ℕ → Ledger → Ledger
delivers n l = counts l.begun (l.delivered + n) l.overwritten l.abandoned (l.standing - n)

abbrev pub overwrites : ℕ → Ledger → Ledger
overwrites n l = counts l.begun l.delivered (l.overwritten + n) l.abandoned (l.standing - n)

abbrev pub abandons : Ledger → Ledger
abandons l = counts l.begun l.delivered l.overwritten (l.abandoned + l.standing) 0

-- ---- the entries

abbrev pub fresh : Kind → Book
fresh kind = record { burst = false; codes = zero_codes; shown = no_measurement kind; read = false; waiting = no_measurement kind; ledger = counts 0 0 0 0 0 }

abbrev relatched : Codes → Book → Book
relatched c b = record { burst = b.burst; codes = c; shown = b.shown; read = b.read; waiting = b.waiting; ledger = b.ledger }

-- g: the burst gave all of the data bytes; c: the codes that are latched after it
abbrev pub enter : {kind : Kind} → Happening kind → Bool → Codes → Book → Book
enter began g c b = record { burst = b.burst; codes = c; shown = b.shown; read = b.read; waiting = b.waiting; ledger = begins b.ledger }
enter {kind} (finished x y z) g c b =
    cond b.burst
    (record { burst = true; codes = c; shown = b.shown; read = b.read; waiting = made kind b x y z; ledger = overwrites (bit (some b.waiting)) b.ledger })
    (record { burst = false; codes = c; shown = made kind b x y z; read = false; waiting = no_measurement kind; ledger = overwrites (bit (unread b)) b.ledger })
enter {kind} lost g c b = record { burst = false; codes = c; shown = no_measurement kind; read = false; waiting = no_measurement kind; ledger = abandons b.ledger }
enter (opened i) g c b = record { burst = true; codes = c; shown = b.shown; read = b.read; waiting = b.waiting; ledger = b.ledger }
enter (gave v) g c b = relatched c b
enter (changed x) g c b = relatched c b
enter {kind} closed true c b = record {
  burst = false;
  codes = c;
  shown = latest b;
  read = not (some b.waiting) && some b.shown;
  waiting = no_measurement kind;
  ledger = delivers (bit (unread b)) b.ledger;
}
enter {kind} closed false c b = record {
  burst = false;
  codes = c;
  shown = latest b;
  read = not (some b.waiting) && b.read;
  waiting = no_measurement kind;
  ledger = overwrites (bit (some b.waiting && unread b)) b.ledger;
}

-- what a happening asks: u, a conversion is running; o, a burst is open
abbrev pub Asks : {kind : Kind} → Happening kind → Bool → Bool → Type 0
Asks began u o = u ≡ false
Asks (finished x y z) u o = u ≡ true
Asks lost u o = Unit {0}
Asks (opened i) u o = o ≡ false
Asks (gave v) u o = o ≡ true
Asks (changed x) u o = Unit {0}
Asks closed u o = o ≡ true

-- is one running after it
abbrev pub runs : {kind : Kind} → Happening kind → Bool → Bool
runs began u = true
runs (finished x y z) u = false
runs lost u = false
runs (opened i) u = u
runs (gave v) u = u
runs (changed x) u = u
runs closed u = u

-- ---- what is unread after a close: the one that waited; after a partial one, if none waited, what was unread

pub unread-whole : (kind : Kind) (c : Codes) (b : Book) → bit (unread (enter {kind = kind} closed true c b)) ≡ bit (some b.waiting)
unread-whole kind c b = at (some b.waiting) refl
  where
    at : (w : Bool) → some b.waiting ≡ w → bit (unread (enter {kind = kind} closed true c b)) ≡ bit (some b.waiting)
    at true e = rw (e, e)
    at false e = rw (e, and-not_self)

pub unread-partial : (kind : Kind) (c : Codes) (b : Book) → bit (some b.waiting && unread b) + bit (unread (enter {kind = kind} closed false c b)) ≡ bit (some b.waiting) + bit (unread b)
unread-partial kind c b = at (some b.waiting) refl
  where
    at : (w : Bool) → some b.waiting ≡ w → bit (some b.waiting && unread b) + bit (unread (enter {kind = kind} closed false c b)) ≡ bit (some b.waiting) + bit (unread b)
    at true e = rw (e, e) (omega arith)
    at false e = rw e
