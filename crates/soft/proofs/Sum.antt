-- The sum of two words is what IEEE 754 says of it, by the definition over whole numbers, and there is one such word. Assumes nothing.
use Prim.Native.Nat.{ℕ, ◌+◌, ◌-◌, ◌^◌, ◌≤◌, ◌<◌}
use native.Mathlib.Nat.{eq-or-lt_of_le, one-mul, le_of_lt, le_of_eq, sub_self, le_antisymm, add_comm}
use mathlib.Core.Path.{◌≡◌, refl, sym, ap, subst, ◌∙◌}
use mathlib.Core.Logic.{◌⊎◌, inl, inr}
use mathlib.Core.Bool.{Bool, true, false, ◌&&◌, cond, beq, true≢false}
use borrow.Author.Tests.{lt-ltb, le-ltb}
use lib.Dec.{lit<}
use lib.Pow.{pow_pos}
use lib.Ieee.{Format, Float, nan, inf, low, unlike, add, sub, sum, round, of_bits, to_bits}
use Rattle.format.specs.Fields.{negative, magnitude}
use Rattle.format.specs.Sign.{turned_word}
use Rattle.format.specs.Value.{units, Finite}
use Rattle.format.proofs.Nan.{nan_read, nan_written}
use Rattle.format.proofs.Order.{either}
use Rattle.format.proofs.Sign.{turned_read}
use Rattle.format.proofs.Value.{word_value, add_signed}
use Rattle.format.proofs.Larger.{units_mono, units_strict}
use Rattle.soft.specs.Rounding.{Rounded}
use Rattle.soft.specs.Operations.{Infinite, Adds, Subtracts}
use Rattle.soft.specs.Words.{add_word, sub_word}
use Rattle.soft.specs.Digits.{nearest_word}
use Rattle.soft.proofs.Classes.{operated, inf_is, inf_written, class_of, Class, a_nan, an_inf, a_number}
use lib.Arith.{lt_of_le-ne}
use Rattle.soft.proofs.Correct.{round_word_rounded, rounded_one}
use Rattle.soft.proofs.Values.{add_nan_first, add_nan_second, add_inf_inf, add_inf_first, add_inf_second}
use Rattle.soft.proofs.Shifted.{zero_round}

-- like signs, or not
like : (s t : Bool) → s ≡ t → beq s t ≡ true
like true true e = refl
like true false e = absurd (true≢false e)
like false true e = absurd (true≢false (sym e))
like false false e = refl

not_like : (s t : Bool) → (s ≡ t → ⊥) → beq s t ≡ false
not_like true true n = absurd (n refl)
not_like true false n = refl
not_like false true n = refl
not_like false false n = absurd (n refl)

pub signs_like : (s t : Bool) → unlike s t ≡ false → s ≡ t
signs_like true true e = refl
signs_like true false e = absurd (true≢false e)
signs_like false true e = absurd (true≢false e)
signs_like false false e = refl

pub signs_unlike : (s t : Bool) → unlike s t ≡ true → s ≡ t → ⊥
signs_unlike true true e i = true≢false (sym e)
signs_unlike true false e i = true≢false i
signs_unlike false true e i = true≢false (sym i)
signs_unlike false false e i = true≢false (sym e)

same_or_not : (s t : Bool) → (s ≡ t) ⊎ (s ≡ t → ⊥)
same_or_not true true = inl refl
same_or_not true false = inr true≢false
same_or_not false true = inr (λ (e : false ≡ true). true≢false (sym e))
same_or_not false false = inl refl

and_false : (s : Bool) → (s && false) ≡ false
and_false true = refl
and_false false = refl

and_true : (s : Bool) → (s && true) ≡ s
and_true true = refl
and_true false = refl

module _ (f : Format) (a b : ℕ) where
  abbrev s : Bool
  s = negative f a

  abbrev t : Bool
  t = negative f b

  abbrev x : ℕ
  x = units f a

  abbrev y : ℕ
  y = units f b

  at : (v w z : Float) → of_bits f a ≡ v → of_bits f b ≡ w → add f v w ≡ z → add_word f a b ≡ to_bits f z
  unfolding add_word
  at v w z p q e = operated f (add f) a b v w z p q e

  over_one : (s : Bool) (n : ℕ) → to_bits f (round f s n (2 ^ low f)) ≡ nearest_word f s n 1
  unfolding nearest_word
  over_one s n = ap (λ (d : ℕ). to_bits f (round f s n d)) (sym (one-mul (2 ^ low f)))

  module _ (h : Finite f a) (k : Finite f b) where
    summed : add_word f a b ≡ to_bits f (sum f s x t y (2 ^ low f))
    summed = at (of_bits f a) (of_bits f b) (sum f s x t y (2 ^ low f)) refl refl (add_signed f (of_bits f a) (of_bits f b) s t x y (2 ^ low f) (pow_pos (low f)) (word_value f a h) (word_value f b k))

    pub add_like : s ≡ t → add_word f a b ≡ nearest_word f s (x + y) 1
    unfolding sum
    add_like e = summed ∙ rw (like s t e) (over_one s (x + y))

    pub add_less : (s ≡ t → ⊥) → x < y → add_word f a b ≡ nearest_word f t (y - x) 1
    unfolding sum
    add_less n l = summed ∙ rw (not_like s t n, lt-ltb x y l) (over_one t (y - x))

    pub add_more : (s ≡ t → ⊥) → y < x → add_word f a b ≡ nearest_word f s (x - y) 1
    unfolding sum
    add_more n l = summed ∙ rw (not_like s t n, le-ltb x y (le_of_lt l), lt-ltb y x l, and_true s) (over_one s (x - y))

    pub add_level : (s ≡ t → ⊥) → x ≡ y → add_word f a b ≡ 0
    unfolding sum
    add_level n e =
        summed
        ∙ rw (not_like s t n, le-ltb x y (le_of_eq (sym e)), le-ltb y x (le_of_eq e), and_false s, e) (over_one false (y - y) ∙ zero_round f false (y - y) 1 (lit< tt) (sub_self y))

  pub add_adds : Adds f a b (add_word f a b)
  add_adds = record {
    nan_first = λ h. at nan (of_bits f b) nan (nan_read f a h) refl (add_nan_first f (of_bits f b)) ∙ nan_written f;
    nan_second = λ h. at (of_bits f a) nan nan refl (nan_read f b h) (add_nan_second f (of_bits f a)) ∙ nan_written f;
    unlike_infinite = λ h k n. at (inf s) (inf t) nan (inf_is f a h) (inf_is f b k) (add_inf_inf f s t ∙ ap (λ (z : Bool). cond z (inf s) nan) (not_like s t n)) ∙ nan_written f;
    like_infinite = λ h k e. at (inf s) (inf t) (inf s) (inf_is f a h) (inf_is f b k) (add_inf_inf f s t ∙ ap (λ (z : Bool). cond z (inf s) nan) (like s t e)) ∙ inf_written f s;
    infinite_finite = λ h k. at (inf s) (of_bits f b) (inf s) (inf_is f a h) refl (add_inf_first f s t (of_bits f b) y (2 ^ low f) (word_value f b k)) ∙ inf_written f s;
    finite_infinite = λ h k. at (of_bits f a) (inf t) (inf t) refl (inf_is f b k) (add_inf_second f s t (of_bits f a) x (2 ^ low f) (word_value f a h)) ∙ inf_written f t;
    like = λ h k e. subst (Rounded f s (x + y) 1) (sym (add_like h k e)) (round_word_rounded f s (x + y) 1 (lit< tt));
    more = λ h k n l. subst (Rounded f s (x - y) 1) (sym (add_more h k n l)) (round_word_rounded f s (x - y) 1 (lit< tt));
    less = λ h k n l. subst (Rounded f t (y - x) 1) (sym (add_less h k n l)) (round_word_rounded f t (y - x) 1 (lit< tt));
    level = λ h k n e. add_level h k n e;
  }

  -- the definition allows one word: that one
  pub adds_one : (r : ℕ) → Adds f a b r → r ≡ add_word f a b
  adds_one r m = go (class_of f a) (class_of f b)
    where
      o : Adds f a b (add_word f a b)
      o = add_adds

      infinite : Infinite f a → Infinite f b → (s ≡ t) ⊎ (s ≡ t → ⊥) → r ≡ add_word f a b
      infinite i j (inl e) = m.like_infinite i j e ∙ sym (o.like_infinite i j e)
      infinite i j (inr n) = m.unlike_infinite i j n ∙ sym (o.unlike_infinite i j n)

      rounded : (s : Bool) (n : ℕ) → Rounded f s n 1 r → Rounded f s n 1 (add_word f a b) → r ≡ add_word f a b
      rounded s n p q = rounded_one f s n 1 r (add_word f a b) (lit< tt) p q

      by_order : Finite f a → Finite f b → (s ≡ t → ⊥) → (x ≤ y) ⊎ (y < x) → r ≡ add_word f a b
      by_order h k n (inr l) = rounded s (x - y) (m.more h k n l) (o.more h k n l)
      by_order h k n (inl l) = elim (eq-or-lt_of_le l) [
        | inl e ↦ m.level h k n e ∙ sym (o.level h k n e)
        | inr g ↦ rounded t (y - x) (m.less h k n g) (o.less h k n g)
      ]

      finite : Finite f a → Finite f b → (s ≡ t) ⊎ (s ≡ t → ⊥) → r ≡ add_word f a b
      finite h k (inl e) = rounded s (x + y) (m.like h k e) (o.like h k e)
      finite h k (inr n) = by_order h k n (either x y)

      go : Class f a → Class f b → r ≡ add_word f a b
      go (a_nan n) z = m.nan_first n ∙ sym (o.nan_first n)
      go (an_inf i) (a_nan n) = m.nan_second n ∙ sym (o.nan_second n)
      go (a_number c) (a_nan n) = m.nan_second n ∙ sym (o.nan_second n)
      go (an_inf i) (an_inf j) = infinite i j (same_or_not s t)
      go (an_inf i) (a_number d) = m.infinite_finite i d ∙ sym (o.infinite_finite i d)
      go (a_number c) (an_inf j) = m.finite_infinite c j ∙ sym (o.finite_infinite c j)
      go (a_number c) (a_number d) = finite c d (same_or_not s t)

-- ---- subtract: b with its sign turned is added

pub sub_is_add : (f : Format) (a b : ℕ) → add_word f a (turned_word f b) ≡ sub_word f a b
unfolding add_word sub_word sub
sub_is_add f a b = ap (λ (y : Float). to_bits f (add f (of_bits f a) y)) (turned_read f b)

pub sub_subtracts : (f : Format) (a b : ℕ) → Subtracts f a b (sub_word f a b)
sub_subtracts f a b = subst (Subtracts f a b) (sub_is_add f a b) (add_adds f a (turned_word f b))

pub subtracts_one : (f : Format) (a b r : ℕ) → Subtracts f a b r → r ≡ sub_word f a b
subtracts_one f a b r m = adds_one f a (turned_word f b) r m ∙ sub_is_add f a b

-- ---- by the magnitudes, as the code tests them

pub sum_level : (f : Format) (a b : ℕ) → Finite f a → Finite f b → unlike (negative f a) (negative f b) ≡ true → magnitude f a ≡ magnitude f b → 0 ≡ add_word f a b
sum_level f a b h k n e = sym (add_level f a b h k (signs_unlike (negative f a) (negative f b) n) (le_antisymm (units_mono f a b (le_of_eq e)) (units_mono f b a (le_of_eq (sym e)))))

module _ (f : Format) (a b r : ℕ) (u : Bool) (h : Finite f a) (k : Finite f b) where
  pub sum_less : unlike (negative f a) (negative f b) ≡ true → magnitude f a < magnitude f b → r ≡ nearest_word f u (units f b - units f a) 1 → u ≡ negative f b → r ≡ add_word f a b
  sum_less n l e i = e ∙ ap (λ (s : Bool). nearest_word f s (units f b - units f a) 1) i ∙ sym (add_less f a b h k (signs_unlike (negative f a) (negative f b) n) (units_strict f a b l))

  pub sum_more : unlike (negative f a) (negative f b) ≡ true → (magnitude f a ≡ magnitude f b → ⊥) → magnitude f b ≤ magnitude f a → r ≡ nearest_word f u (units f a - units f b) 1 → u ≡ negative f a → r ≡ add_word f a b
  sum_more n ne l e i = e ∙ ap (λ (s : Bool). nearest_word f s (units f a - units f b) 1) i ∙ sym (add_more f a b h k (signs_unlike (negative f a) (negative f b) n) (units_strict f b a (lt_of_le-ne l (λ (z : magnitude f b ≡ magnitude f a). ne (sym z)))))

  pub sum_like : unlike (negative f a) (negative f b) ≡ false → r ≡ nearest_word f u (units f a + units f b) 1 → u ≡ negative f a → r ≡ add_word f a b
  sum_like n e i = e ∙ ap (λ (s : Bool). nearest_word f s (units f a + units f b) 1) i ∙ sym (add_like f a b h k (signs_like (negative f a) (negative f b) n))

  pub sum_like_turned : unlike (negative f a) (negative f b) ≡ false → r ≡ nearest_word f u (units f b + units f a) 1 → u ≡ negative f a → r ≡ add_word f a b
  sum_like_turned n e i = sum_like n (e ∙ ap (λ (z : ℕ). nearest_word f u z 1) (add_comm (units f b) (units f a))) i
