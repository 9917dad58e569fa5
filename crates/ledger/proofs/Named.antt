-- The book's numbers are those of the conversions that the history has running, waiting and shown, and of no other.
use Prim.Native.Nat.{ℕ, suc, ◌≤◌}
use mathlib.Core.Path.{◌≡◌, refl, sym, ap, ◌∙◌}
use mathlib.Core.Bool.{Bool, true, false, not, cond, ◌&&◌, false≢true, true≢false}
use mathlib.Core.List.{List, [], ◌∷◌}
use native.Mathlib.Omega.{arith}
use lib.Dec.{eqb}
use borrow.Author.Tests.{eqb-true, eq-eqb, ne_eqb}
use Rattle.kinds.specs.declared.Kind.{Kind}
use Rattle.machine.specs.declared.Codes.{Codes}
use Rattle.ledger.specs.Happening.{Happening, began, finished, lost, opened, gave, closed, changed}
use Rattle.ledger.specs.History.{begun_in, open_in, whole_in, waits_in, Measurement, no_measurement, bit}
use Rattle.ledger.proofs.Fate.{Fate, Unbegun, Running, Waiting, Unread, Read, Delivered, Overwritten, Abandoned, every, move, fate}
use Rattle.ledger.proofs.Book.{Book, nonzero, nonzero-pos, some, latest, made, fresh, enter, Asks, runs}
use Rattle.ledger.proofs.Right.{Right}

-- u: one is running; n: the number begun; v: the waiting one; s: the shown one
abbrev pub Named : Bool → ℕ → Measurement → Measurement → ℕ → Fate → Type 0
Named u n v s k Unbegun = Unit {0}
Named u n v s k Running = (u ≡ true) × (k ≡ n)
Named u n v s k Waiting = (some v ≡ true) × (k ≡ v.number)
Named u n v s k Unread = k ≡ s.number
Named u n v s k Read = k ≡ s.number
Named u n v s k Delivered = Unit {0}
Named u n v s k Overwritten = Unit {0}
Named u n v s k Abandoned = Unit {0}

pub record Names {kind : Kind} (u : Bool) (b : Book) (h : List (Happening kind)) : Type 0 where
  pub named : (k : ℕ) → Named u (begun_in h) b.waiting b.shown k (fate h k)
  pub run_at : u ≡ true → fate h (begun_in h) ≡ Running
  pub wait-at : some b.waiting ≡ true → fate h b.waiting.number ≡ Waiting
  pub shown-at : some b.shown ≡ true → fate h b.shown.number ≡ cond b.read Read Unread
  pub wait-le : b.waiting.number ≤ begun_in h
  pub shown-le : b.shown.number ≤ begun_in h
  pub none_read : some b.shown ≡ false → b.read ≡ false

pub names_fresh : (kind : Kind) → Names {kind = kind} false (fresh kind) []
names_fresh kind = record {
  named = λ k. tt;
  run_at = λ e. absurd (false≢true e);
  wait-at = λ e. absurd (false≢true e);
  shown-at = λ e. absurd (false≢true e);
  wait-le = omega arith;
  shown-le = omega arith;
  none_read = λ e. refl;
}

-- a new beginning moves no conversion begun before
old : {kind : Kind} (h : List (Happening kind)) (k : ℕ) → k ≤ begun_in h → fate (began ∷ h) k ≡ fate h k
old h k l = rw (ne_eqb k (suc (begun_in h)) (λ e. omega arith))

latest-le : {kind : Kind} (u : Bool) (b : Book) (h : List (Happening kind)) → Names u b h → (latest b).number ≤ begun_in h
latest-le u b h p = at (some b.waiting) refl
  where
    at : (w : Bool) → some b.waiting ≡ w → (latest b).number ≤ begun_in h
    at true e = rw e p.wait-le
    at false e = rw e p.shown-le

-- a shown conversion, read or not: while a burst is open, and at a close with none waiting
shown-stays : (kind : Kind) (x y z : ℕ) (g w n t : Bool) → move {kind = kind} (finished x y z) true g w n (cond t Read Unread) ≡ cond t Read Unread
shown-stays kind x y z g w n true = refl
shown-stays kind x y z g w n false = refl

shown-closes : (kind : Kind) (o g n t : Bool) → move {kind = kind} closed o g false n (cond t Read Unread) ≡ cond (cond g true t) Read Unread
shown-closes kind o true n true = refl
shown-closes kind o true n false = refl
shown-closes kind o false n true = refl
shown-closes kind o false n false = refl

module _ (kind : Kind) (n : ℕ) (v s : Measurement) (k : ℕ) where
  named-began : (t : Bool) → (t ≡ true → k ≡ suc n) → (q : Fate) → Named false n v s k q → Named true (suc n) v s k (cond t Running q)
  named-began true e = λ q m. (refl, e refl)
  named-began false e = every (λ q. Named false n v s k q → Named true (suc n) v s k q)
      (λ m. m) (λ m. absurd (false≢true m.0)) (λ m. m) (λ m. m) (λ m. m) (λ m. m) (λ m. m) (λ m. m)

  named-finished : (x y z : ℕ) (o g w t u : Bool) (c : Measurement) → some c ≡ true → n ≡ c.number → (q : Fate) → Named u n v s k q
      → Named false n (cond o c (no_measurement kind)) (cond o s c) k (move {kind = kind} (finished x y z) o g w t q)
  named-finished x y z true g w t u c f e = every (λ q. Named u n v s k q → Named false n c s k (move {kind = kind} (finished x y z) true g w t q))
      (λ m. tt) (λ m. (f, m.1 ∙ e)) (λ m. tt) (λ m. m) (λ m. m) (λ m. tt) (λ m. tt) (λ m. tt)
  named-finished x y z false g w t u c f e = every (λ q. Named u n v s k q → Named false n (no_measurement kind) c k (move {kind = kind} (finished x y z) false g w t q))
      (λ m. tt) (λ m. m.1 ∙ e) (λ m. tt) (λ m. tt) (λ m. tt) (λ m. tt) (λ m. tt) (λ m. tt)

  named-lost : (o g w t : Bool) (q : Fate) → Named false n (no_measurement kind) (no_measurement kind) k (move {kind = kind} lost o g w t q)
  named-lost o g w t = every (λ q. Named false n (no_measurement kind) (no_measurement kind) k (move {kind = kind} lost o g w t q)) tt tt tt tt tt tt tt tt

  named-closed : (o g w t u : Bool) → some v ≡ w → (q : Fate) → Named u n v s k q → Named u n (no_measurement kind) (cond w v s) k (move {kind = kind} closed o g w t q)
  named-closed o true true t u e = every (λ q. Named u n v s k q → Named u n (no_measurement kind) v k (move {kind = kind} closed o true true t q))
      (λ m. tt) (λ m. m) (λ m. m.1) (λ m. tt) (λ m. tt) (λ m. tt) (λ m. tt) (λ m. tt)
  named-closed o false true t u e = every (λ q. Named u n v s k q → Named u n (no_measurement kind) v k (move {kind = kind} closed o false true t q))
      (λ m. tt) (λ m. m) (λ m. m.1) (λ m. tt) (λ m. tt) (λ m. tt) (λ m. tt) (λ m. tt)
  named-closed o true false t u e = every (λ q. Named u n v s k q → Named u n (no_measurement kind) s k (move {kind = kind} closed o true false t q))
      (λ m. tt) (λ m. m) (λ m. absurd (true≢false (sym m.0 ∙ e))) (λ m. m) (λ m. m) (λ m. tt) (λ m. tt) (λ m. tt)
  named-closed o false false t u e = every (λ q. Named u n v s k q → Named u n (no_measurement kind) s k (move {kind = kind} closed o false false t q))
      (λ m. tt) (λ m. m) (λ m. absurd (true≢false (sym m.0 ∙ e))) (λ m. m) (λ m. m) (λ m. tt) (λ m. tt) (λ m. tt)

pub names-enter : {kind : Kind} (x : Happening kind) (u : Bool) (c : Codes) (b : Book) (h : List (Happening kind)) → Asks x u b.burst → Right u b h → Names u b h
    → Names (runs x u) (enter x (whole_in h) c b) (x ∷ h)
names-enter {kind} began u c b h a r p = record {
  named = λ k. named-began kind (begun_in h) b.waiting b.shown k (eqb k (suc (begun_in h))) (eqb-true k (suc (begun_in h))) (fate h k) (rw a at (p.named k));
  run_at = λ e. rw (eq-eqb (suc (begun_in h)) (suc (begun_in h)) refl);
  wait-at = λ e. old h b.waiting.number p.wait-le ∙ p.wait-at e;
  shown-at = λ e. old h b.shown.number p.shown-le ∙ p.shown-at e;
  wait-le = omega (arith, p.wait-le);
  shown-le = omega (arith, p.shown-le);
  none_read = p.none_read;
}
names-enter {kind} (finished x y z) u c b h a r p = at b.burst refl
  where
    one : nonzero b.ledger.begun ≡ true
    one = nonzero-pos b.ledger.begun (omega (arith, r.begun-is, r.begun-some, ap bit a))

    moves : (o : Bool) → open_in h ≡ o → (k : ℕ)
        → Named false (begun_in h) (cond o (made kind b x y z) (no_measurement kind)) (cond o b.shown (made kind b x y z)) k (fate (finished x y z ∷ h) k)
    moves o e k = rw e
        (named-finished kind (begun_in h) b.waiting b.shown k x y z o (whole_in h) (waits_in h) (eqb k (suc (begun_in h))) u (made kind b x y z) one (sym r.begun-is) (fate h k) (p.named k))

    at : (o : Bool) → b.burst ≡ o → Names false (enter {kind = kind} (finished x y z) (whole_in h) c b) (finished x y z ∷ h)
    at true e =
        let o : open_in h ≡ true = sym r.open_is ∙ e in
        rw (e, enter) (record {
          named = moves true o;
          run_at = λ q. absurd (false≢true q);
          wait-at = λ q. rw (o, r.begun-is, p.run_at a);
          shown-at = λ q. rw (o, p.shown-at q) (shown-stays kind x y z (whole_in h) (waits_in h) (eqb b.shown.number (suc (begun_in h))) b.read);
          wait-le = omega (arith, r.begun-is);
          shown-le = p.shown-le;
          none_read = p.none_read;
        })
    at false e =
        let o : open_in h ≡ false = sym r.open_is ∙ e in
        rw (e, enter) (record {
          named = moves false o;
          run_at = λ q. absurd (false≢true q);
          wait-at = λ q. absurd (false≢true q);
          shown-at = λ q. rw (o, r.begun-is, p.run_at a);
          wait-le = omega arith;
          shown-le = omega (arith, r.begun-is);
          none_read = λ q. refl;
        })
names-enter {kind} lost u c b h a r p = record {
  named = λ k. named-lost kind (begun_in h) (no_measurement kind) (no_measurement kind) k (open_in h) (whole_in h) (waits_in h) (eqb k (suc (begun_in h))) (fate h k);
  run_at = λ e. absurd (false≢true e);
  wait-at = λ e. absurd (false≢true e);
  shown-at = λ e. absurd (false≢true e);
  wait-le = omega arith;
  shown-le = omega arith;
  none_read = λ e. refl;
}
names-enter (opened i) u c b h a r p = record {
  named = p.named;
  run_at = p.run_at;
  wait-at = p.wait-at;
  shown-at = p.shown-at;
  wait-le = p.wait-le;
  shown-le = p.shown-le;
  none_read = p.none_read;
}
names-enter (gave v) u c b h a r p = record {
  named = p.named;
  run_at = p.run_at;
  wait-at = p.wait-at;
  shown-at = p.shown-at;
  wait-le = p.wait-le;
  shown-le = p.shown-le;
  none_read = p.none_read;
}
names-enter (changed x) u c b h a r p = record {
  named = p.named;
  run_at = p.run_at;
  wait-at = p.wait-at;
  shown-at = p.shown-at;
  wait-le = p.wait-le;
  shown-le = p.shown-le;
  none_read = p.none_read;
}
names-enter {kind} closed u c b h a r p = at (whole_in h) refl
  where
    moves : (g : Bool) → whole_in h ≡ g → (k : ℕ) → Named u (begun_in h) (no_measurement kind) (latest b) k (fate (closed ∷ h) k)
    moves g e k = rw (e, ← r.waits-is)
        (named-closed kind (begun_in h) b.waiting b.shown k (open_in h) g (some b.waiting) (eqb k (suc (begun_in h))) u refl (fate h k) (p.named k))

    -- whole: what was shown is read; partial: it is as it was
    shows : (g f : Bool) → whole_in h ≡ g → (some b.shown ≡ true → cond g true b.read ≡ f) → (w : Bool) → some b.waiting ≡ w → some (latest b) ≡ true
        → fate (closed ∷ h) (latest b).number ≡ cond (not (some b.waiting) && f) Read Unread
    shows g f e q true w s = rw (w, p.wait-at w)
    shows g f e q false w s =
        let t : some b.shown ≡ true = rw w at s in
        rw (w, p.shown-at t, ← r.waits-is, w, e, ← q t) (shown-closes kind (open_in h) g (eqb b.shown.number (suc (begun_in h))) b.read)

    idle : (f : Bool) → (some b.shown ≡ false → f ≡ false) → (w : Bool) → some b.waiting ≡ w → some (latest b) ≡ false → not (some b.waiting) && f ≡ false
    idle f q true w s = rw w
    idle f q false w s = rw w (q (rw w at s))

    at : (g : Bool) → whole_in h ≡ g → Names u (enter {kind = kind} closed (whole_in h) c b) (closed ∷ h)
    at true e = rw (e, enter) (record {
      named = moves true e;
      run_at = λ q. rw (p.run_at q);
      wait-at = λ q. absurd (false≢true q);
      shown-at = shows true (some b.shown) e sym (some b.waiting) refl;
      wait-le = omega arith;
      shown-le = latest-le u b h p;
      none_read = idle (some b.shown) (λ q. q) (some b.waiting) refl;
    })
    at false e = rw (e, enter) (record {
      named = moves false e;
      run_at = λ q. rw (p.run_at q);
      wait-at = λ q. absurd (false≢true q);
      shown-at = shows false b.read e (λ _. refl) (some b.waiting) refl;
      wait-le = omega arith;
      shown-le = latest-le u b h p;
      none_read = idle b.read p.none_read (some b.waiting) refl;
    })
