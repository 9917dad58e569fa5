-- The walk back: what stands in the buffer at each place of it, how a step adds to that, and what it is at the end.
use Prim.Native.Nat.{ℕ, zero, suc, ◌+◌, ◌-◌, ◌/◌, ◌≤◌, ◌<◌}
use mathlib.Core.List.{List, [], ◌∷◌, ◌++◌, append_assoc}
use mathlib.Core.Path.{◌≡◌, sym, ap, subst, ◌∙◌}
use native.Mathlib.Omega.{arith}
use borrow.Author.Tests.{le-ltb}
use lib.ListN.{length, take, drop, length-append, length-drop, drop_of_length-le, take-append-drop}
use lib.Seq.{length-take-le, take-append-le, take-take, drop_at}
use Rattle.visit.specs.declared.Stage.TheVariants as stage
use Rattle.visit.specs.declared.Step.{Step}
use Rattle.visit.specs.Tags as tag
use Rattle.visit.specs.Words.{words_each, from_words}
use Rattle.visit.specs.Writer.{checked, fine, frames, bytes_of}
use Rattle.visit_step.specs.Places.{step_at}
use Rattle.visit_bytes.specs.Bytes.{lead, size}
use Rattle.visit_bytes.specs.Laid.{over, laid_back}
use Rattle.visit_write.specs.declared.Marks.{Marks}
use Rattle.visit_write.specs.Walk.{size_of, moved, step_back}
use Rattle.visit_write.proofs.Steps.{count_of, next-step}
use Rattle.visit_write.proofs.Sound.{Small, Sound, sound, sound-later}
use Rattle.visit_write.proofs.Frames.{unrolled, unrolled-length, inner-most, lead-first, lead-length, bytes-length}
use Rattle.visit_write.proofs.Ends.{Stands, at-start, moved_at, step-stands}

-- ---- one step

over-before : (bytes rest lent out : List ℕ) (at end : ℕ) → at + length bytes ≡ end → end ≤ length lent → out ≡ take end lent ++ rest
    → over bytes at out ≡ take at lent ++ (bytes ++ rest)
unfolding over
over-before bytes rest lent out at end h r o =
    let t : length (take end lent) ≡ end = length-take-le end lent r in
    let e₁ : take at out ≡ take at lent =
    ap (take at) o ∙ take-append-le at (take end lent) rest (omega arith) ∙ take-take at end lent (omega arith) in
    let e₂ : drop (at + length bytes) out ≡ rest = ap (drop (at + length bytes)) o ∙ rw h (drop_at (take end lent) rest end t) in
    rw (e₁, e₂)

laid-back : (s : Step) (held end : ℕ) (out : List ℕ) → end ≤ length out → size s ≤ end
    → laid_back s held end out ≡ (end - size s, over (lead s held) (end - size s) out)
unfolding laid_back
laid-back s held end out r h = rw (le-ltb (length out) end r, le-ltb end (size s) h)

-- the bytes laid so far, with what was in the buffer before and after them
abbrev pub laid_in : List ℕ → ℕ → ℕ → List Step → List ℕ
laid_in lent at total ss = take at lent ++ (unrolled (frames ss) ++ drop total lent)

laid-length : (lent : List ℕ) (at total : ℕ) (ss : List Step) → at + size_of ss ≡ total → total ≤ length lent
    → length (laid_in lent at total ss) ≡ length lent
laid-length lent at total ss e r =
    omega (
      arith,
      length-append (take at lent) (unrolled (frames ss) ++ drop total lent),
      length-append (unrolled (frames ss)) (drop total lent),
      length-take-le at lent (omega arith),
      length-drop total lent,
      unrolled-length ss,
    )

module _ (s : Step) (rest : List Step) (total : ℕ) (m : Marks) (lent out : List ℕ) where
  step-laid : Small s → size s ≤ m.at → total ≤ tag.most_bytes → total ≤ length lent → Stands rest total m
      → out ≡ laid_in lent m.at total rest
      → step_back s total m out ≡ (moved s total m (m.at - size s), laid_in lent (m.at - size s) total (s ∷ rest))
  unfolding step_back
  step-laid small r short room w o =
      let inner = length (frames rest).inner in
      let held : m.first - m.at ≡ inner = omega (arith, w.ends.one) in
      let few : inner < 65536 = omega (arith, inner-most rest, w.placed) in
      let all : length out ≡ length lent = ap length o ∙ laid-length lent m.at total rest w.placed room in
      let back = laid-back s inner m.at out (omega (arith, w.placed)) r in
      let before = over-before (lead s inner) (unrolled (frames rest) ++ drop total lent) lent out (m.at - size s) m.at
      (omega (arith, lead-length s inner)) (omega (arith, w.placed)) o in
      let joined : lead s inner ++ (unrolled (frames rest) ++ drop total lent) ≡ unrolled (frames (s ∷ rest)) ++ drop total lent =
      rw (lead-first s rest small few) (sym (append_assoc (lead s inner) (unrolled (frames rest)) (drop total lent))) in
      rw (held, back, before, joined)

-- ---- the loop

pub record Filling (w lent out : List ℕ) (total k : ℕ) (m : Marks) : Type 0 where
  pub within : k ≤ length w / words_each
  pub stands : Stands (drop k (from_words w)) total m
  pub laid : out ≡ laid_in lent m.at total (drop k (from_words w))

size-later : (k : ℕ) (ss : List Step) → size_of (drop k ss) ≤ size_of ss
unfolding size_of
size-later zero ss = omega arith
size-later (suc k) [] = omega arith
size-later (suc k) (s ∷ ss) = omega (arith, size-later k ss)

module _ (w lent : List ℕ) (total : ℕ) (fits : checked stage.Start (from_words w) 0 ≡ fine) (all : total ≡ length (bytes_of (from_words w)))
    (short : total ≤ tag.most_bytes) (room : total ≤ length lent) where
  pub filling-start : Filling w lent lent total (length w / words_each) (record { at = total; first = total; second = total; third = total; fourth = total })
  unfolding frames
  filling-start =
      let none : drop (length w / words_each) (from_words w) ≡ [] = drop_of_length-le (from_words w) {i = length w / words_each} (omega (arith, count_of w)) in
      record {
        within = omega arith;
        stands = rw none (at-start total);
        laid = rw none (sym (take-append-drop total lent));
      }

  pub filling_step : (out after : List ℕ) (k : ℕ) (s : Step) (m r : Marks) → Filling w lent out total k m → 0 < k
      → s ≡ step_at w (k - 1) → (r, after) ≡ step_back s total m out → Filling w lent after total (k - 1) r
  unfolding size_of
  filling_step out after k s m r f h e b =
      let ss = from_words w in
      let one : k - 1 + 1 ≡ k = omega arith in
      let next : drop (k - 1) ss ≡ s ∷ drop k ss = next-step w (k - 1) (omega (arith, f.within)) ∙ rw (one, e) in
      let well : Sound (s ∷ drop k ss) = subst Sound next (sound-later (k - 1) ss (sound ss fits)) in
      let sized : size_of (drop (k - 1) ss) ≡ size s + size_of (drop k ss) = ap size_of next in
      let place : size s ≤ m.at = omega (arith, sized, size-later (k - 1) ss, bytes-length ss fits, f.stands.placed) in
      let both = b ∙ step-laid s (drop k ss) total m lent out well.0 place short room f.stands f.laid in
      let marks : r ≡ moved s total m (m.at - size s) = ap (λ (p : Marks × List ℕ). p.0) both in
      let at : r.at ≡ m.at - size s = ap (λ (n : Marks). n.at) marks ∙ moved_at s total m (m.at - size s) in
      record {
        within = omega (arith, f.within);
        stands = rw (next, marks) (step-stands s (drop k ss) total m well.1.0 place f.stands);
        laid = rw (next, at) (ap (λ (p : Marks × List ℕ). p.1) both);
      }
