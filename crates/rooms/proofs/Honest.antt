-- Why a comparison is honest: by the cases of both channels, and by the distance of two values.
use Prim.Native.Nat.{ℕ, zero, suc}
use native.Mathlib.Omega.{arith}
use mathlib.Core.Bool.{Bool, true, false, cond}
use mathlib.Core.Logic.{◌⊎◌, inl, inr}
use mathlib.Core.Path.{◌≡◌, refl, sym, ap, ◌∙◌}
use borrow.Author.Tests.{leb-true, leb-false, le-leb}
use lib.Dec.{leb}
use lib.IntN.{ℤ, pos, negsuc, neg_ℤ, nat_abs, ◌+ℤ◌, ◌-ℤ◌, neg_ℤ-neg_ℤ, neg_ℤ-+ℤ, +ℤ_comm, +ℤ_invr}
use Rattle.std.specs.Prelude.{Ok, Err}
use Rattle.paper.specs.declared.Missing.{Missing}
use Rattle.formula.specs.Answers.{TemperatureAnswer, ChannelAnswer}
use Rattle.rooms.specs.Exact.{heat}
use Rattle.rooms.specs.declared.Verdict.TheVariants.{Agree, Differ, Unknown}
use Rattle.rooms.specs.Points.{channels_of}
use Rattle.rooms.specs.Compared.{Whole, temperature_whole, channel_whole, judged, compared_channels, compared_rooms}
use Rattle.rooms.specs.Honest.{Channel, wholes, temperatures, levels, Apart, Honest, WithItself, HonestChannels, OnlyHonest, HonestRooms}

-- ---- cases that exclude each other

known-missing : {a : ℤ} {m : Missing} → ◌≡◌ {A = Whole} (Ok a) (Err m) → ⊥
known-missing e = let z : ◌≡◌ {A = ℕ} 0 1 = cc in omega arith

agree_differ : Agree ≡ Differ → ⊥
agree_differ e = let z : ◌≡◌ {A = ℕ} 0 1 = cc in omega arith

agree-unknown : Agree ≡ Unknown → ⊥
agree-unknown e = let z : ◌≡◌ {A = ℕ} 0 1 = cc in omega arith

differ-unknown : Differ ≡ Unknown → ⊥
differ-unknown e = let z : ◌≡◌ {A = ℕ} 0 1 = cc in omega arith

-- ---- two values

abbrev value : Whole → ℤ
value (Ok a) = a
value (Err m) = pos 0

distance-of : (a b : ℤ) {d : ℕ} → Apart wholes (Ok a) (Ok b) d → nat_abs (a -ℤ b) ≡ d
distance-of a b w =
    ap (λ z. nat_abs (z -ℤ b)) (ap value w.one_has) ∙ ap (λ z. nat_abs (w.first -ℤ z)) (ap value w.two-has) ∙ w.distance_is

module _ (a b : ℤ) where
  apart : Apart wholes (Ok a) (Ok b) (nat_abs (a -ℤ b))
  apart = record { first = a; second = b; one_has = refl; two-has = refl; distance_is = refl }

  none : wholes.lacks (Ok a) ⊎ wholes.lacks (Ok b) → ⊥
  none (inl m) = known-missing m.1
  none (inr m) = known-missing m.1

  judge : (tolerance : ℕ) (near : Bool) → leb (nat_abs (a -ℤ b)) tolerance ≡ near → Honest wholes (Ok a) (Ok b) tolerance (cond near Agree Differ)
  judge tolerance true e = record {
    agrees = λ is. (nat_abs (a -ℤ b), apart, leb-true _ _ e);
    agree = λ w l. refl;
    differs = λ is. absurd (agree_differ is);
    differ = λ w l. let h = leb-true (nat_abs (a -ℤ b)) tolerance e in let k = distance-of a b w in absurd (omega arith);
    is-unknown = λ is. absurd (agree-unknown is);
    unknown = λ m. absurd (none m);
  }
  judge tolerance false e = record {
    agrees = λ is. absurd (agree_differ (sym is));
    agree = λ w l. let h = leb-false (nat_abs (a -ℤ b)) tolerance e in let k = distance-of a b w in absurd (omega arith);
    differs = λ is. (nat_abs (a -ℤ b), apart, leb-false _ _ e);
    differ = λ w l. refl;
    is-unknown = λ is. absurd (differ-unknown is);
    unknown = λ m. absurd (none m);
  }

-- ---- one that is missing

module _ (one two : Whole) (m : wholes.lacks one ⊎ wholes.lacks two) where
  not-apart : {d : ℕ} → wholes.lacks one ⊎ wholes.lacks two → Apart wholes one two d → ⊥
  not-apart (inl n) w = known-missing (sym w.one_has ∙ n.1)
  not-apart (inr n) w = known-missing (sym w.two-has ∙ n.1)

  nothing : (tolerance : ℕ) → Honest wholes one two tolerance Unknown
  nothing tolerance = record {
    agrees = λ is. absurd (agree-unknown (sym is));
    agree = λ w l. absurd (not-apart m w);
    differs = λ is. absurd (differ-unknown (sym is));
    differ = λ w l. absurd (not-apart m w);
    is-unknown = λ is. m;
    unknown = λ n. refl;
  }

-- ---- both ways round

far : (z : ℤ) → nat_abs (neg_ℤ z) ≡ nat_abs z
far (pos zero) = refl
far (pos (suc n)) = refl
far (negsuc n) = refl

turned : (a b : ℤ) → nat_abs (a -ℤ b) ≡ nat_abs (b -ℤ a)
turned a b =
    ap nat_abs (+ℤ_comm a (neg_ℤ b) ∙ ap (λ z. neg_ℤ b +ℤ z) (sym (neg_ℤ-neg_ℤ a)) ∙ sym (neg_ℤ-+ℤ b (neg_ℤ a))) ∙ far (b -ℤ a)

symmetric : (one two : Whole) (tolerance : ℕ) → compared_channels one two tolerance ≡ compared_channels two one tolerance
symmetric (Ok a) (Ok b) tolerance = ap (λ d. judged d tolerance) (turned a b)
symmetric (Ok a) (Err m) tolerance = refl
symmetric (Err m) (Ok b) tolerance = refl
symmetric (Err m) (Err n) tolerance = refl

honest : (one two : Whole) (tolerance : ℕ) → Honest wholes one two tolerance (compared_channels one two tolerance)
honest (Ok a) (Ok b) tolerance = judge a b tolerance (leb (nat_abs (a -ℤ b)) tolerance) refl
honest (Ok a) (Err m) tolerance = nothing (Ok a) (Err m) (inr (m, refl)) tolerance
honest (Err m) two tolerance = nothing (Err m) two (inl (m, refl)) tolerance

itself : (one : Whole) (tolerance : ℕ) → WithItself wholes one (compared_channels one one tolerance)
itself (Ok a) tolerance = record {
  agree = λ e. ap (λ z. judged (nat_abs z) tolerance) (+ℤ_invr a) ∙ rw (le-leb 0 tolerance (omega arith));
  unknown = λ m. absurd (known-missing m.1);
}
itself (Err m) tolerance = record { agree = λ e. absurd (known-missing (sym e)); unknown = λ n. refl }

pub honest-channels : HonestChannels compared_channels
honest-channels = record { honest = honest; symmetric = symmetric; itself = itself }

pub only-honest : OnlyHonest compared_channels
only-honest other h (Ok a) (Ok b) tolerance = go (leb (nat_abs (a -ℤ b)) tolerance) refl
  where
    go : (near : Bool) → leb (nat_abs (a -ℤ b)) tolerance ≡ near → other (Ok a) (Ok b) tolerance ≡ cond near Agree Differ
    go true e = (h.honest (Ok a) (Ok b) tolerance).agree (apart a b) (leb-true _ _ e)
    go false e = (h.honest (Ok a) (Ok b) tolerance).differ (apart a b) (leb-false _ _ e)
only-honest other h (Ok a) (Err m) tolerance = (h.honest (Ok a) (Err m) tolerance).unknown (inr (m, refl))
only-honest other h (Err m) two tolerance = (h.honest (Err m) two tolerance).unknown (inl (m, refl))

-- ---- channels of another kind, by their whole numbers

-- the whole number of a channel has the values that the channel has
record Wholly {C : Type 0} (k : Channel C) (f : C → Whole) : Type 0 where
  there : {c : C} {z : ℤ} → k.has c z → wholes.has (f c) z
  back : (c : C) {z : ℤ} → wholes.has (f c) z → k.has c z
  none : {c : C} → k.lacks c → wholes.lacks (f c)
  lacking : (c : C) → wholes.lacks (f c) → k.lacks c

module _ {C : Type 0} (k : Channel C) (f : C → Whole) (w : Wholly k f) where
  apart-there : {one two : C} {d : ℕ} → Apart k one two d → Apart wholes (f one) (f two) d
  apart-there a = record { first = a.first; second = a.second; one_has = w.there a.one_has; two-has = w.there a.two-has; distance_is = a.distance_is }

  apart-back : (one two : C) {d : ℕ} → Apart wholes (f one) (f two) d → Apart k one two d
  apart-back one two a = record { first = a.first; second = a.second; one_has = w.back one a.one_has; two-has = w.back two a.two-has; distance_is = a.distance_is }

  lacks-there : {one two : C} → k.lacks one ⊎ k.lacks two → wholes.lacks (f one) ⊎ wholes.lacks (f two)
  lacks-there (inl m) = inl (w.none m)
  lacks-there (inr m) = inr (w.none m)

  lacks-back : (one two : C) → wholes.lacks (f one) ⊎ wholes.lacks (f two) → k.lacks one ⊎ k.lacks two
  lacks-back one two (inl m) = inl (w.lacking one m)
  lacks-back one two (inr m) = inr (w.lacking two m)

  honest-by : (one two : C) (tolerance : ℕ) → Honest k one two tolerance (compared_channels (f one) (f two) tolerance)
  honest-by one two tolerance =
      let h = honest (f one) (f two) tolerance in
      record {
        agrees = λ is. let (d, a, l) = h.agrees is in (d, apart-back one two a, l);
        agree = λ a l. h.agree (apart-there a) l;
        differs = λ is. let (d, a, l) = h.differs is in (d, apart-back one two a, l);
        differ = λ a l. h.differ (apart-there a) l;
        is-unknown = λ is. lacks-back one two (h.is-unknown is);
        unknown = λ m. h.unknown (lacks-there m);
      }

  itself-by : (one : C) (tolerance : ℕ) → WithItself k one (compared_channels (f one) (f one) tolerance)
  itself-by one tolerance = let h = itself (f one) tolerance in record { agree = λ e. h.agree (w.there e); unknown = λ m. h.unknown (w.none m) }

temperatures-wholly : Wholly temperatures temperature_whole
temperatures-wholly = record {
  there = λ (fine, e). ap temperature_whole e;
  back = back;
  none = λ (m, e). (m, ap temperature_whole e);
  lacking = lacking;
}
  where
    back : (c : TemperatureAnswer) {z : ℤ} → temperature_whole c ≡ Ok z → temperatures.has c z
    back (Ok t) e = (t.fine, ap (λ z. Ok (heat z t.fine)) (ap value e))
    back (Err m) e = absurd (known-missing (sym e))

    lacking : (c : TemperatureAnswer) → wholes.lacks (temperature_whole c) → temperatures.lacks c
    lacking (Ok t) n = absurd (known-missing n.1)
    lacking (Err m) n = (m, refl)

levels-wholly : Wholly levels channel_whole
levels-wholly = record {
  there = λ (n, e, p). ap channel_whole e ∙ ap Ok (sym p);
  back = back;
  none = λ (m, e). (m, ap channel_whole e);
  lacking = lacking;
}
  where
    back : (c : ChannelAnswer) {z : ℤ} → channel_whole c ≡ Ok z → levels.has c z
    back (Ok n) e = (n, refl, sym (ap value e))
    back (Err m) e = absurd (known-missing (sym e))

    lacking : (c : ChannelAnswer) → wholes.lacks (channel_whole c) → levels.lacks c
    lacking (Ok n) l = absurd (known-missing l.1)
    lacking (Err m) l = (m, refl)

-- ---- two rooms

pub honest-rooms : HonestRooms compared_rooms
honest-rooms = record {
  honest = λ r s t. record {
    temperature = honest-by temperatures temperature_whole temperatures-wholly r.temperature s.temperature t.temperature;
    pressure = honest-by levels channel_whole levels-wholly r.pressure s.pressure t.pressure;
    humidity = honest-by levels channel_whole levels-wholly r.humidity s.humidity t.humidity;
  };
  itself = λ r t. record {
    temperature = itself-by temperatures temperature_whole temperatures-wholly r.temperature t.temperature;
    pressure = itself-by levels channel_whole levels-wholly r.pressure t.pressure;
    humidity = itself-by levels channel_whole levels-wholly r.humidity t.humidity;
  };
  refused = λ n two t. refl;
  symmetric = λ one two t. rw (
    symmetric (temperature_whole (channels_of one).temperature) (temperature_whole (channels_of two).temperature) t.temperature,
    symmetric (channel_whole (channels_of one).pressure) (channel_whole (channels_of two).pressure) t.pressure,
    symmetric (channel_whole (channels_of one).humidity) (channel_whole (channels_of two).humidity) t.humidity,
  );
}
