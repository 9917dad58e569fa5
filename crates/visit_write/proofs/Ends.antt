-- Where the groups end that are still to be opened: the marks say it at every place of the walk back.
use Prim.Native.Nat.{ℕ, zero, suc, ◌+◌, ◌-◌, ◌≤◌}
use mathlib.Core.List.{List, [], ◌∷◌, ◌++◌}
use mathlib.Core.Path.{◌≡◌, refl}
use native.Mathlib.Omega.{arith}
use lib.ListN.{length, length-append}
use Rattle.visit.specs.declared.Step.{Step}
use Rattle.visit.specs.declared.Step.TheVariants.{Open, Slot, Close, Stray}
use Rattle.visit.specs.Tree.{framed}
use Rattle.visit.specs.Writer.{Frames, step_bytes, framed_onto, frames}
use Rattle.visit_bytes.specs.Bytes.{size}
use Rattle.visit_write.specs.declared.Marks.{Marks}
use Rattle.visit_write.specs.Walk.{size_of, moved}
use Rattle.visit_write.proofs.Frames.{joined, unrolled-length, slot-length}

-- the length of so many groups together
abbrev pub lengths : ℕ → List (List ℕ) → ℕ
lengths zero bs = 0
lengths (suc n) [] = 0
lengths (suc n) (b ∷ bs) = length b + lengths n bs

all-lengths : (n : ℕ) (bs : List (List ℕ)) → length bs ≤ n → lengths n bs ≡ length (joined bs)
all-lengths zero [] h = refl
all-lengths zero (b ∷ bs) h = absurd (omega arith)
all-lengths (suc n) [] h = refl
all-lengths (suc n) (b ∷ bs) h = omega (arith, all-lengths n bs (omega arith), length-append b (joined bs))

-- each mark is the end of one group more than the mark before it
pub record Ends (f : Frames) (m : Marks) : Type 0 where
  pub one : m.first ≡ m.at + length f.inner
  pub two : m.second ≡ m.at + length f.inner + lengths 1 f.outer
  pub three : m.third ≡ m.at + length f.inner + lengths 2 f.outer
  pub four : m.fourth ≡ m.at + length f.inner + lengths 3 f.outer

pub record Stands (ss : List Step) (total : ℕ) (m : Marks) : Type 0 where
  pub placed : m.at + size_of ss ≡ total
  pub ends : Ends (frames ss) m

pub at-start : (total : ℕ) → Stands [] total (record { at = total; first = total; second = total; third = total; fourth = total })
unfolding frames size_of
at-start total = record { placed = omega arith; ends = record { one = omega arith; two = omega arith; three = omega arith; four = omega arith } }

opened-ends : (body : List ℕ) (outer : List (List ℕ)) (total : ℕ) (m : Marks) → length outer ≤ 4 → 3 ≤ m.at
    → m.at + length (body ++ joined outer) ≡ total → Ends (record { inner = body; outer = outer }) m
    → Ends (framed_onto body outer) (moved Open total m (m.at - 3))
opened-ends body [] total m l r t e =
    let j = length-append body (joined []) in
    record {
      one = omega (arith, e.one, e.two);
      two = omega (arith, e.three);
      three = omega (arith, e.four);
      four = omega (arith, j);
    }
opened-ends body (b ∷ bs) total m l r t e =
    let i : length (framed body ++ b) ≡ 3 + length body + length b = omega (arith, length-append body b) in
    let j = length-append body (joined (b ∷ bs)) in
    let a = all-lengths 4 (b ∷ bs) l in
    record {
      one = omega (arith, i, e.two);
      two = omega (arith, i, e.three);
      three = omega (arith, i, e.four);
      four = omega (arith, i, j, a);
    }

slot-ends : (bytes : List ℕ) (f : Frames) (m : Marks) (at : ℕ) → at + length bytes ≡ m.at → Ends f m
    → Ends (record { inner = bytes ++ f.inner; outer = f.outer })
    (record { at = at; first = m.first; second = m.second; third = m.third; fourth = m.fourth })
slot-ends bytes f m at h e =
    let j = length-append bytes f.inner in
    record {
      one = omega (arith, e.one, j);
      two = omega (arith, e.two, j);
      three = omega (arith, e.three, j);
      four = omega (arith, e.four, j);
    }

moved_ends : (s : Step) (ss : List Step) (total : ℕ) (m : Marks) → length (frames ss).outer ≤ 4 → size s ≤ m.at
    → m.at + size_of ss ≡ total → Ends (frames ss) m → Ends (frames (s ∷ ss)) (moved s total m (m.at - size s))
unfolding frames
moved_ends Open ss total m l r t e =
    opened-ends (frames ss).inner (frames ss).outer total m l r (omega (arith, unrolled-length ss)) e
moved_ends (Slot v) ss total m l r q e =
    slot-ends (step_bytes v) (frames ss) m (m.at - size (Slot v)) (omega (arith, slot-length v)) e
moved_ends Close ss total m l r t e =
    record { one = omega arith; two = omega (arith, e.one); three = omega (arith, e.two); four = omega (arith, e.three) }
moved_ends Stray ss total m l r t e =
    record { one = omega (arith, e.one); two = omega (arith, e.two); three = omega (arith, e.three); four = omega (arith, e.four) }

pub moved_at : (s : Step) (total : ℕ) (m : Marks) (at : ℕ) → (moved s total m at).at ≡ at
moved_at Open total m at = refl
moved_at (Slot v) total m at = refl
moved_at Close total m at = refl
moved_at Stray total m at = refl

pub step-stands : (s : Step) (ss : List Step) (total : ℕ) (m : Marks) → length (frames ss).outer ≤ 4 → size s ≤ m.at
    → Stands ss total m → Stands (s ∷ ss) total (moved s total m (m.at - size s))
unfolding size_of
step-stands s ss total m l r w =
    record {
      placed = omega (arith, moved_at s total m (m.at - size s), w.placed);
      ends = moved_ends s ss total m l r w.placed w.ends;
    }
