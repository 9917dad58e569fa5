-- The book is right about the history: its counts are the tally's, and what it shows and has waiting are the conversions that the history says.
use Prim.Native.Nat.{◌+◌, ◌≤◌}
use mathlib.Core.Path.{◌≡◌, refl, sym, ap, ap₂, ◌∙◌}
use mathlib.Core.Bool.{Bool, true, false, cond, false≢true}
use mathlib.Core.List.{List, [], ◌∷◌}
use native.Mathlib.Omega.{arith}
use Rattle.kinds.specs.declared.Kind.{Kind}
use Rattle.machine.specs.declared.Codes.{Codes}
use Rattle.ledger.specs.Happening.{Happening, began, finished, lost, opened, gave, closed, changed}
use Rattle.ledger.specs.History.{begun_in, codes_in, open_in, whole_in, waits_in, Measurement, last_finished, shown_by, bit}
use Rattle.ledger.proofs.Tally.{Counts, counts, same, add, one_runs, flow, total, total-none, total-flow, total-began, counted, adds-up}
use Rattle.ledger.proofs.Book.{Book, nonzero, nonzero-pos, some, unread, latest, fresh, enter, Asks, runs, unread-whole, unread-partial}

-- the conversion that is shown, in a burst or not
abbrev shown_now : {kind : Kind} → List (Happening kind) → Measurement
shown_now h = cond (open_in h) (shown_by h) (last_finished h)

-- u: one is running
abbrev kept : Bool → Book → Counts
kept u b = counts b.ledger.delivered b.ledger.overwritten b.ledger.abandoned (bit u) (bit (some b.waiting)) (bit (unread b))

pub record Right {kind : Kind} (u : Bool) (b : Book) (h : List (Happening kind)) : Type 0 where
  pub begun-is : b.ledger.begun ≡ begun_in h
  pub begun-some : bit u ≤ begun_in h
  pub codes-is : u ≡ true → b.codes ≡ codes_in h
  pub open_is : b.burst ≡ open_in h
  pub waits-is : some b.waiting ≡ waits_in h
  pub shown-is : b.shown ≡ shown_now h
  pub latest-is : latest b ≡ last_finished h
  pub counts-are : total h ≡ kept u b
  pub standing-is : b.ledger.standing ≡ bit u + bit (some b.waiting) + bit (unread b)

pub right-fresh : (kind : Kind) → Right {kind = kind} false (fresh kind) []
right-fresh kind = record {
  begun-is = refl;
  begun-some = omega arith;
  codes-is = λ e. absurd (false≢true e);
  open_is = refl;
  waits-is = refl;
  shown-is = refl;
  latest-is = refl;
  counts-are = total-none kind;
  standing-is = refl;
}

-- where no burst is open nothing waits
pub none-waits : {kind : Kind} (h : List (Happening kind)) → open_in h ≡ false → waits_in h ≡ false
none-waits [] e = refl
none-waits (began ∷ h) e = none-waits h e
none-waits (finished x y z ∷ h) e = e
none-waits (lost ∷ h) e = refl
none-waits (opened i ∷ h) e = refl
none-waits (gave v ∷ h) e = none-waits h e
none-waits (changed c ∷ h) e = none-waits h e
none-waits (closed ∷ h) e = refl

-- the counts add up
pub right-sum : {kind : Kind} (u : Bool) (b : Book) (h : List (Happening kind)) → Right u b h
    → b.ledger.delivered + b.ledger.overwritten + b.ledger.abandoned + b.ledger.standing ≡ b.ledger.begun
right-sum u b h r =
    let c = counted h in
    let t = r.counts-are in
    omega (
      arith,
      c.delivered-is ∙ ap (λ (x : Counts). x.delivered) t,
      c.overwritten-is ∙ ap (λ (x : Counts). x.overwritten) t,
      c.abandoned-is ∙ ap (λ (x : Counts). x.abandoned) t,
      c.standing-is ∙ ap (λ (x : Counts). x.running + x.waiting + x.unread) t,
      r.standing-is,
      adds-up h,
      r.begun-is,
    )

partial-flow : (kind : Kind) (o u : Bool) (c : Codes) (b : Book) → flow {kind = kind} closed o false (some b.waiting) (kept u b) ≡ kept u (enter {kind = kind} closed false c b)
partial-flow kind o u c b = at (some b.waiting) refl
  where
    at : (w : Bool) → some b.waiting ≡ w → flow {kind = kind} closed o false (some b.waiting) (kept u b) ≡ kept u (enter {kind = kind} closed false c b)
    at true e = rw (e, e)
    at false e = rw e (same refl (omega arith) refl refl refl (omega arith))

-- c: the codes that are latched after it
pub right-enter : {kind : Kind} (x : Happening kind) (u : Bool) (c : Codes) (b : Book) (h : List (Happening kind)) → (runs x u ≡ true → c ≡ codes_in (x ∷ h)) → Asks x u b.burst → Right u b h
    → Right (runs x u) (enter x (whole_in h) c b) (x ∷ h)
right-enter began u c b h q a r = record {
  begun-is = omega (arith, r.begun-is);
  begun-some = omega arith;
  codes-is = q;
  open_is = r.open_is;
  waits-is = r.waits-is;
  shown-is = r.shown-is;
  latest-is = r.latest-is;
  counts-are =
      total-began h ∙ ap (add one_runs) r.counts-are
      ∙ same (omega arith) (omega arith) (omega arith) (omega (arith, ap bit a)) (omega arith) (omega arith);
  standing-is = omega (arith, ap bit a, r.standing-is);
}
right-enter {kind} (finished x y z) u c b h q a r = at b.burst refl
  where
    one : nonzero b.ledger.begun ≡ true
    one = nonzero-pos b.ledger.begun (omega (arith, r.begun-is, r.begun-some, ap bit a))

    flown : (o : Bool) → b.burst ≡ o → total (finished x y z ∷ h) ≡ flow {kind = kind} (finished x y z) o (whole_in h) (waits_in h) (kept u b)
    flown o e = total-flow (finished x y z) h refl ∙ ap₂ (λ o t. flow {kind = kind} (finished x y z) o (whole_in h) (waits_in h) t) (sym r.open_is ∙ e) r.counts-are

    at : (o : Bool) → b.burst ≡ o → Right false (enter {kind = kind} (finished x y z) (whole_in h) c b) (finished x y z ∷ h)
    at true e = rw (e, enter) (record {
      begun-is = r.begun-is;
      begun-some = omega arith;
      codes-is = q;
      open_is = sym e ∙ r.open_is;
      waits-is = one ∙ sym e ∙ r.open_is;
      shown-is = r.shown-is ∙ rw (← r.open_is, e);
      latest-is = rw one (cc (r.begun-is, r.codes-is a));
      counts-are = flown true e ∙ same refl refl refl refl (rw (a, one)) refl;
      standing-is = omega (arith, r.standing-is, ap bit a, ap bit one);
    })
    at false e =
        let idle : some b.waiting ≡ false = r.waits-is ∙ none-waits h (sym r.open_is ∙ e) in
        rw (e, enter) (record {
          begun-is = r.begun-is;
          begun-some = omega arith;
          codes-is = q;
          open_is = sym e ∙ r.open_is;
          waits-is = sym e ∙ r.open_is;
          shown-is = rw (← r.open_is, e) (cc (r.begun-is, r.codes-is a));
          latest-is = cc (r.begun-is, r.codes-is a);
          counts-are = flown false e ∙ same refl (omega (arith, ap bit idle)) refl refl refl (rw (a, one));
          standing-is = rw one (omega (arith, r.standing-is, ap bit idle, ap bit a));
        })
right-enter {kind} lost u c b h q a r = record {
  begun-is = r.begun-is;
  begun-some = omega arith;
  codes-is = q;
  open_is = refl;
  waits-is = refl;
  shown-is = refl;
  latest-is = refl;
  counts-are = total-flow lost h refl ∙ ap (flow {kind = kind} lost (open_in h) (whole_in h) (waits_in h)) r.counts-are ∙ same refl refl (omega (arith, r.standing-is)) refl refl refl;
  standing-is = refl;
}
right-enter (opened i) u c b h q a r = record {
  begun-is = r.begun-is;
  begun-some = r.begun-some;
  codes-is = q;
  open_is = refl;
  waits-is = r.waits-is ∙ none-waits h (sym r.open_is ∙ a);
  shown-is = r.shown-is ∙ rw (← r.open_is, a);
  latest-is = r.latest-is;
  counts-are = total-flow (opened i) h refl ∙ r.counts-are;
  standing-is = r.standing-is;
}
right-enter (gave v) u c b h q a r = record {
  begun-is = r.begun-is;
  begun-some = r.begun-some;
  codes-is = q;
  open_is = r.open_is;
  waits-is = r.waits-is;
  shown-is = r.shown-is;
  latest-is = r.latest-is;
  counts-are = total-flow (gave v) h refl ∙ r.counts-are;
  standing-is = r.standing-is;
}
right-enter (changed x) u c b h q a r = record {
  begun-is = r.begun-is;
  begun-some = r.begun-some;
  codes-is = q;
  open_is = r.open_is;
  waits-is = r.waits-is;
  shown-is = r.shown-is;
  latest-is = r.latest-is;
  counts-are = total-flow (changed x) h refl ∙ r.counts-are;
  standing-is = r.standing-is;
}
right-enter {kind} closed u c b h q a r = at (whole_in h) refl
  where
    flown : (g : Bool) → whole_in h ≡ g → total (closed ∷ h) ≡ flow {kind = kind} closed (open_in h) g (some b.waiting) (kept u b)
    flown g e = total-flow closed h refl ∙ rw (e, ← r.waits-is) (ap (flow {kind = kind} closed (open_in h) g (some b.waiting)) r.counts-are)

    at : (g : Bool) → whole_in h ≡ g → Right u (enter {kind = kind} closed (whole_in h) c b) (closed ∷ h)
    at true e = rw (e, enter) (record {
      begun-is = r.begun-is;
      begun-some = r.begun-some;
      codes-is = q;
      open_is = refl;
      waits-is = refl;
      shown-is = r.latest-is;
      latest-is = r.latest-is;
      counts-are = flown true e ∙ same refl refl refl refl refl (sym (unread-whole kind c b));
      standing-is = omega (arith, r.standing-is, unread-whole kind c b);
    })
    at false e = rw (e, enter) (record {
      begun-is = r.begun-is;
      begun-some = r.begun-some;
      codes-is = q;
      open_is = refl;
      waits-is = refl;
      shown-is = r.latest-is;
      latest-is = r.latest-is;
      counts-are = flown false e ∙ partial-flow kind (open_in h) u c b;
      standing-is = omega (arith, r.standing-is, unread-partial kind c b);
    })
