-- Of each conversion one of eight fates, moved by each happening. The history's four places are read off the fate, and so each conversion has one.
use Prim.Native.Nat.{ℕ, suc, ◌<◌}
use mathlib.Core.Path.{◌≡◌, refl, sym, ap, ◌∙◌, subst}
use mathlib.Core.Bool.{Bool, true, false, not, cond, ◌&&◌, ◌||◌, and-true, false≢true}
use mathlib.Core.List.{List, [], ◌∷◌}
use native.Mathlib.Omega.{arith}
use lib.Dec.{eqb, eqb-zero-suc}
use borrow.Author.Tests.{eqb-true, ne_eqb}
use Rattle.kinds.specs.declared.Kind.{Kind}
use Rattle.ledger.specs.Happening.{Happening, began, finished, lost, opened, gave, closed, changed}
use Rattle.ledger.specs.History.{begun_in, open_in, whole_in, waits_in}
use Rattle.ledger.specs.History.{Where, unbegun, running, waiting, shown, gone, finishes, closes, loses, where_is, is_begun, is_present, is_loss, delivers, finds, replaces}
use Rattle.ledger.specs.History.{delivered, abandoned, overwritten, lost_since, standing}

-- running, waiting; shown, undelivered or delivered; gone, delivered, overwritten or abandoned
pub data Fate : Type 0 where
  Unbegun Running Waiting Unread Read Delivered Overwritten Abandoned : Fate

pub every : (P : Fate → Type 0) → P Unbegun → P Running → P Waiting → P Unread → P Read → P Delivered → P Overwritten → P Abandoned → (p : Fate) → P p
every P a b c d e f g h Unbegun = a
every P a b c d e f g h Running = b
every P a b c d e f g h Waiting = c
every P a b c d e f g h Unread = d
every P a b c d e f g h Read = e
every P a b c d e f g h Delivered = f
every P a b c d e f g h Overwritten = g
every P a b c d e f g h Abandoned = h

-- what the definitions see of one conversion
pub record Sight : Type 0 where
  pub at : Where
  pub delivered : Bool
  pub overwritten : Bool
  pub abandoned : Bool

abbrev sight : Where → Bool → Bool → Bool → Sight
sight w d o a = record { at = w; delivered = d; overwritten = o; abandoned = a }

abbrev pub seen : {kind : Kind} → List (Happening kind) → ℕ → Sight
seen h k = sight (where_is h k) (delivered h k) (overwritten h k) (abandoned h k)

abbrev pub sight_of : Fate → Sight
sight_of Unbegun = sight unbegun false false false
sight_of Running = sight running false false false
sight_of Waiting = sight waiting false false false
sight_of Unread = sight shown false false false
sight_of Read = sight shown true false false
sight_of Delivered = sight gone true false false
sight_of Overwritten = sight gone false true false
sight_of Abandoned = sight gone false false true

-- One happening. o: a burst is open; g: it gave all of F7 to FE; w: a conversion waits; n: this conversion is the next to begin.
abbrev moved : {kind : Kind} → Happening kind → Bool → Bool → Bool → Where → Where
moved began o w n p = cond n running p
moved (finished x y z) o w n p = finishes o p
moved lost o w n p = loses p
moved (opened i) o w n p = p
moved (gave v) o w n p = p
moved (changed c) o w n p = p
moved closed o w n p = closes w p

abbrev sees : {kind : Kind} → Happening kind → Bool → Bool → Bool → Bool → Sight → Sight
sees x o g w n s =
    let d = s.delivered || delivers x g s.at in
    sight (moved x o w n s.at) d
    (s.overwritten || (replaces x o w s.at && not d))
    (s.abandoned || (finds x s.at && not s.delivered))

seen_more : {kind : Kind} (x : Happening kind) (h : List (Happening kind)) (k : ℕ) → seen (x ∷ h) k ≡ sees x (open_in h) (whole_in h) (waits_in h) (eqb k (suc (begun_in h))) (seen h k)
seen_more began h k = refl
seen_more (finished x y z) h k = refl
seen_more lost h k = refl
seen_more (opened i) h k = refl
seen_more (gave v) h k = refl
seen_more (changed c) h k = refl
seen_more closed h k = refl

abbrev pub move : {kind : Kind} → Happening kind → Bool → Bool → Bool → Bool → Fate → Fate
move began o g w n p = cond n Running p
move (finished x y z) o g w n Unbegun = Unbegun
move (finished x y z) o g w n Running = cond o Waiting Unread
move (finished x y z) o g w n Waiting = Overwritten
move (finished x y z) o g w n Unread = cond o Unread Overwritten
move (finished x y z) o g w n Read = cond o Read Delivered
move (finished x y z) o g w n Delivered = Delivered
move (finished x y z) o g w n Overwritten = Overwritten
move (finished x y z) o g w n Abandoned = Abandoned
move lost o g w n Unbegun = Unbegun
move lost o g w n Running = Abandoned
move lost o g w n Waiting = Abandoned
move lost o g w n Unread = Abandoned
move lost o g w n Read = Delivered
move lost o g w n Delivered = Delivered
move lost o g w n Overwritten = Overwritten
move lost o g w n Abandoned = Abandoned
move (opened i) o g w n p = p
move (gave v) o g w n p = p
move (changed c) o g w n p = p
move closed o g w n Unbegun = Unbegun
move closed o g w n Running = Running
move closed o g w n Waiting = Unread
move closed o g w n Unread = cond w (cond g Delivered Overwritten) (cond g Read Unread)
move closed o g w n Read = cond w Delivered Read
move closed o g w n Delivered = Delivered
move closed o g w n Overwritten = Overwritten
move closed o g w n Abandoned = Abandoned

abbrev pub fate : {kind : Kind} → List (Happening kind) → ℕ → Fate
fate [] k = Unbegun
fate (x ∷ h) k = move x (open_in h) (whole_in h) (waits_in h) (eqb k (suc (begun_in h))) (fate h k)

abbrev Fits : {kind : Kind} → Happening kind → Bool → Bool → Bool → Bool → Fate → Type 0
Fits x o g w n p = sees x o g w n (sight_of p) ≡ sight_of (move x o g w n p)

-- each move is, in the definitions' sight, their own
fits : {kind : Kind} (x : Happening kind) (o g w n : Bool) (p : Fate) → (n ≡ true → p ≡ Unbegun) → Fits x o g w n p
fits {kind} began o g w true p e = subst (λ q. Fits {kind = kind} began o g w true q) (sym (e refl)) refl
fits {kind} began o g w false p e = every (Fits {kind = kind} began o g w false) refl refl refl refl refl refl refl refl p
fits {kind} (finished x y z) true g w n p e = every (Fits {kind = kind} (finished x y z) true g w n) refl refl refl refl refl refl refl refl p
fits {kind} (finished x y z) false g w n p e = every (Fits {kind = kind} (finished x y z) false g w n) refl refl refl refl refl refl refl refl p
fits {kind} lost o g w n p e = every (Fits {kind = kind} lost o g w n) refl refl refl refl refl refl refl refl p
fits {kind} (opened i) o g w n p e = every (Fits {kind = kind} (opened i) o g w n) refl refl refl refl refl refl refl refl p
fits {kind} (gave v) o g w n p e = every (Fits {kind = kind} (gave v) o g w n) refl refl refl refl refl refl refl refl p
fits {kind} (changed c) o g w n p e = every (Fits {kind = kind} (changed c) o g w n) refl refl refl refl refl refl refl refl p
fits {kind} closed o true true n p e = every (Fits {kind = kind} closed o true true n) refl refl refl refl refl refl refl refl p
fits {kind} closed o true false n p e = every (Fits {kind = kind} closed o true false n) refl refl refl refl refl refl refl refl p
fits {kind} closed o false true n p e = every (Fits {kind = kind} closed o false true n) refl refl refl refl refl refl refl refl p
fits {kind} closed o false false n p e = every (Fits {kind = kind} closed o false false n) refl refl refl refl refl refl refl refl p

stays-unbegun : {kind : Kind} (x : Happening kind) (o g w : Bool) → move x o g w false Unbegun ≡ Unbegun
stays-unbegun began o g w = refl
stays-unbegun (finished x y z) o g w = refl
stays-unbegun lost o g w = refl
stays-unbegun (opened i) o g w = refl
stays-unbegun (gave v) o g w = refl
stays-unbegun (changed c) o g w = refl
stays-unbegun closed o g w = refl

-- a number above the last begun has not begun
pub above : {kind : Kind} (h : List (Happening kind)) (k : ℕ) → begun_in h < k → fate h k ≡ Unbegun
above [] k l = refl
above (began ∷ h) k l = rw (ne_eqb k (suc (begun_in h)) (λ e. omega arith)) (above h k (omega arith))
above (finished x y z ∷ h) k l = rw (above h k l)
above (lost ∷ h) k l = rw (above h k l)
above (opened i ∷ h) k l = above h k l
above (gave v ∷ h) k l = above h k l
above (changed c ∷ h) k l = above h k l
above (closed ∷ h) k l = rw (above h k l)

-- nor has 0
pub zeroth : {kind : Kind} (h : List (Happening kind)) → fate h 0 ≡ Unbegun
zeroth [] = refl
zeroth (x ∷ h) = rw (eqb-zero-suc (begun_in h), zeroth h) (stays-unbegun x (open_in h) (whole_in h) (waits_in h))

pub agree : {kind : Kind} (h : List (Happening kind)) (k : ℕ) → seen h k ≡ sight_of (fate h k)
agree [] k = refl
agree (x ∷ h) k =
    seen_more x h k
    ∙ ap (sees x (open_in h) (whole_in h) (waits_in h) (eqb k (suc (begun_in h)))) (agree h k)
    ∙ fits x (open_in h) (whole_in h) (waits_in h) (eqb k (suc (begun_in h))) (fate h k) (λ e. above h k (omega (arith, eqb-true k (suc (begun_in h)) e)))

-- ---- what a reset or power event met after its beginning is gone, so that `standing` may leave it out

stays-gone : {kind : Kind} (x : Happening kind) (h : List (Happening kind)) (k : ℕ) → where_is h k ≡ gone → where_is (x ∷ h) k ≡ gone
stays-gone began h k e =
    rw (ne_eqb k (suc (begun_in h)) (λ q. let z : (sight_of (fate h k)).at ≡ gone = sym (ap (λ (s : Sight). s.at) (agree h k)) ∙ e in
    let y : unbegun ≡ gone = rw (above h k (omega arith)) at z in
    let o : ◌≡◌ {A = ℕ} 0 1 = cc in omega arith)) e
stays-gone (finished x y z) h k e = rw e
stays-gone lost h k e = rw e
stays-gone (opened i) h k e = e
stays-gone (gave v) h k e = e
stays-gone (changed c) h k e = e
stays-gone closed h k e = rw e

loses-begun : (w : Where) → is_begun w ≡ true → loses w ≡ gone
loses-begun unbegun e = absurd (false≢true e)
loses-begun running e = refl
loses-begun waiting e = refl
loses-begun shown e = refl
loses-begun gone e = refl

met : {kind : Kind} (x : Happening kind) (h : List (Happening kind)) (k : ℕ) → is_loss x && is_begun (where_is h k) ≡ true → where_is (x ∷ h) k ≡ gone
met began h k e = absurd (false≢true e)
met (finished x y z) h k e = absurd (false≢true e)
met lost h k e = loses-begun (where_is h k) e
met (opened i) h k e = absurd (false≢true e)
met (gave v) h k e = absurd (false≢true e)
met (changed c) h k e = absurd (false≢true e)
met closed h k e = absurd (false≢true e)

lost-gone : {kind : Kind} (h : List (Happening kind)) (k : ℕ) → lost_since h k ≡ true → where_is h k ≡ gone
lost-gone [] k e = absurd (false≢true e)
lost-gone (x ∷ h) k e = go (lost_since h k) refl (lost-gone h k)
  where
    go : (t : Bool) → lost_since h k ≡ t → (lost_since h k ≡ true → where_is h k ≡ gone) → where_is (x ∷ h) k ≡ gone
    go true q i = stays-gone x h k (i q)
    go false q i = met x h k (rw q at e)

pub stands : {kind : Kind} (h : List (Happening kind)) (k : ℕ) → standing h k ≡ is_present (where_is h k) && not (delivered h k)
stands h k = go (lost_since h k) refl
  where
    go : (t : Bool) → lost_since h k ≡ t → standing h k ≡ is_present (where_is h k) && not (delivered h k)
    go true q = rw (lost-gone h k q)
    go false q = rw (q, and-true)
