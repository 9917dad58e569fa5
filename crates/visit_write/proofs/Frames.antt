-- The bytes that the steps from a place on add, in one list: each step puts its own before those of the steps after it.
use Prim.Native.Nat.{ℕ, ◌+◌, ◌/◌, ◌%◌, ◌≤◌, ◌<◌}
use mathlib.Core.List.{List, [], ◌∷◌, ◌++◌, append_assoc, append-nil}
use mathlib.Core.Path.{◌≡◌, refl, sym, ap, ◌∙◌}
use native.Mathlib.Nat.{mod-eq_of_lt}
use native.Mathlib.Omega.{arith}
use lib.ListN.{length, length-append}
use Rattle.visit.specs.Steps.{Answer}
use Rattle.std.specs.Prelude.{Ok, Err}
use Rattle.visit.specs.declared.Place.{Place}
use Rattle.visit.specs.declared.Place.TheVariants as place
use Rattle.visit.specs.declared.Stage.TheVariants as stage
use Rattle.visit.specs.declared.Slot.{Slot as SlotOf}
use Rattle.visit.specs.declared.Step.{Step}
use Rattle.visit.specs.declared.Step.TheVariants.{Open, Slot, Close, Stray}
use Rattle.visit.specs.Tree.{tag_of}
use Rattle.visit.specs.Writer.{Frames, step_bytes, framed_onto, frames, bytes_of, checked, fine}
use Rattle.visit.specs.Writer.{answer_bytes as written_bytes}
use Rattle.visit_bytes.specs.Bytes.{answer_bytes, slot_bytes, header_bytes, lead, answer_size, slot_size, size}
use Rattle.visit_bytes.proofs.Over.{answer-length}
use Rattle.visit_write.specs.Walk.{size_of}
use Rattle.visit_write.proofs.Sound.{InByte, Small, none-outer}

abbrev pub joined : List (List ℕ) → List ℕ
joined [] = []
joined (b ∷ bs) = b ++ joined bs

abbrev pub unrolled : Frames → List ℕ
unrolled f = f.inner ++ joined f.outer

-- ---- how many

written-length : (p : Place) (a : Answer) → length (written_bytes p a) ≡ answer_size a
written-length p (Ok v) = refl
written-length p (Err a) = refl

pub slot-length : (v : SlotOf) → length (step_bytes v) ≡ slot_size v
slot-length v =
    let a = written_bytes place.Temperature v.temperature in
    let b = written_bytes place.Pressure v.pressure in
    let d = written_bytes place.Humidity v.humidity in
    omega (
      arith,
      length-append a (b ++ d),
      length-append b d,
      written-length place.Temperature v.temperature,
      written-length place.Pressure v.pressure,
      written-length place.Humidity v.humidity,
    )

framed-length : (body : List ℕ) (outer : List (List ℕ)) → length (unrolled (framed_onto body outer)) ≡ 3 + length (body ++ joined outer)
framed-length body [] = omega arith
framed-length body (b ∷ bs) = omega (arith, ap length (append_assoc body b (joined bs)))

pub unrolled-length : (ss : List Step) → length (unrolled (frames ss)) ≡ size_of ss
unfolding frames size_of
unrolled-length [] = refl
unrolled-length (Open ∷ ss) = framed-length (frames ss).inner (frames ss).outer ∙ ap (λ (n : ℕ). 3 + n) (unrolled-length ss)
unrolled-length (Slot v ∷ ss) =
    ap length (append_assoc (step_bytes v) (frames ss).inner (joined (frames ss).outer))
    ∙ length-append (step_bytes v) (unrolled (frames ss))
    ∙ omega (arith, slot-length v, unrolled-length ss)
unrolled-length (Close ∷ ss) = omega (arith, unrolled-length ss)
unrolled-length (Stray ∷ ss) = omega (arith, unrolled-length ss)

pub inner-most : (ss : List Step) → length (frames ss).inner ≤ size_of ss
inner-most ss = omega (arith, unrolled-length ss, length-append (frames ss).inner (joined (frames ss).outer))

-- ---- a step's own

written_same : (p : Place) (a : Answer) → InByte a → written_bytes p a ≡ answer_bytes (tag_of p) a
written_same p (Ok v) h = refl
written_same p (Err a) h = rw (mod-eq_of_lt h)

slot_same : (v : SlotOf) → Small (Slot v) → step_bytes v ≡ slot_bytes v
unfolding slot_bytes
slot_same v s =
    rw (written_same place.Temperature v.temperature s.0, written_same place.Pressure v.pressure s.1.0, written_same place.Humidity v.humidity s.1.1)

framed-lead : (body : List ℕ) (outer : List (List ℕ)) → length body < 65536
    → unrolled (framed_onto body outer) ≡ header_bytes (length body) ++ (body ++ joined outer)
framed-lead body [] h =
    let e : length body / 256 % 256 ≡ length body / 256 = omega arith in
    rw e
framed-lead body (b ∷ bs) h =
    let e : length body / 256 % 256 ≡ length body / 256 = omega arith in
    rw (e, append_assoc body b (joined bs))

pub lead-first : (s : Step) (ss : List Step) → Small s → length (frames ss).inner < 65536
    → unrolled (frames (s ∷ ss)) ≡ lead s (length (frames ss).inner) ++ unrolled (frames ss)
unfolding frames lead
lead-first Open ss m h = framed-lead (frames ss).inner (frames ss).outer h
lead-first (Slot v) ss m l =
    append_assoc (step_bytes v) (frames ss).inner (joined (frames ss).outer)
    ∙ ap (λ (bytes : List ℕ). bytes ++ unrolled (frames ss)) (slot_same v m)
lead-first Close ss m h = refl
lead-first Stray ss m h = refl

pub lead-length : (s : Step) (held : ℕ) → length (lead s held) ≡ size s
unfolding lead slot_bytes
lead-length Open held = refl
lead-length (Slot v) held =
    let a = answer_bytes 3 v.temperature in
    let b = answer_bytes 4 v.pressure in
    let d = answer_bytes 6 v.humidity in
    omega (arith, length-append a (b ++ d), length-append b d, answer-length 3 v.temperature, answer-length 4 v.pressure, answer-length 6 v.humidity)
lead-length Close held = refl
lead-length Stray held = refl

-- ---- a checked list

none-joined : (outer : List (List ℕ)) → length outer ≡ 0 → joined outer ≡ []
none-joined [] e = refl
none-joined (b ∷ bs) e = absurd (omega arith)

pub all-inner : (ss : List Step) → checked stage.Start ss 0 ≡ fine → unrolled (frames ss) ≡ bytes_of ss
all-inner ss e = rw (none-joined (frames ss).outer (none-outer ss e)) (append-nil (frames ss).inner)

pub bytes-length : (ss : List Step) → checked stage.Start ss 0 ≡ fine → length (bytes_of ss) ≡ size_of ss
bytes-length ss e = sym (ap length (all-inner ss e)) ∙ unrolled-length ss
