-- The digits' product at the sum of the places is the exact product.
use Rattle.std.proofs.Common.{◌≡◌, ℕ, ◌+◌, ◌*◌, Bool, ◌∙◌, lt_of_lt_of_le, lit≤}
use lib.Ieee.{binary32}
use Rattle.soft.specs.Digits.{digits_of, places_of, scaled_word}
use Rattle.soft.proofs.Products.{below, product_scaled}
use Rattle.soft.proofs.mul.product.Goals as goal

pub overflow_mul-digits : goal.overflow_mul-digits
overflow_mul-digits c = record { fits = lt_of_lt_of_le (below 24 c.digits.ensures.few c.digits-2.ensures.few) (lit≤ tt) }

pub rounded-requires-clause-few : goal.rounded-requires-clause-few
rounded-requires-clause-few c = lt_of_lt_of_le (below 24 c.digits.ensures.few c.digits-2.ensures.few) (lit≤ tt)

scaled_at : (s : Bool) (a b x y p q : ℕ) → x ≡ digits_of binary32 a → y ≡ digits_of binary32 b → p ≡ places_of binary32 a → q ≡ places_of binary32 b
    → scaled_word binary32 s (x * y) (p + q + 151) ≡ scaled_word binary32 s (digits_of binary32 a * digits_of binary32 b) (places_of binary32 a + places_of binary32 b + 151)
scaled_at s a b x y p q d e h k = rw (d, e, h, k)

pub returns : goal.returns
returns c =
    c.rounded.ensures
    ∙ scaled_at _ c.args.a.word c.args.b.word _ _ _ _ c.digits.ensures.value c.digits-2.ensures.value c.places.ensures.value c.places-2.ensures.value
    ∙ product_scaled c.args.a.word c.args.b.word _ c.signs_differ.ensures c.args.a.finite c.args.b.finite
