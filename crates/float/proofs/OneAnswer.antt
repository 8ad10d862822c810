-- Any two answers that a statement of this crate allows coincide: an entry for every public function, over the statement that the
-- check itself reads off its contract. Of an F32 the word is all there is to see. Assumes nothing.
use Rattle.std.proofs.Common.{ℕ}
use contract.Lifetimes.{Lfts}
use lib.Ieee.{binary32, of_bits, to_signed}
use Rattle.format.specs.Sign.{turned_word}
use Rattle.format.specs.Whole.{floor_word, ceil_word}
use Rattle.format.proofs.Pinned.{OneAnswer, pinned}
use Rattle.float.specs.declared.F32.{F32}
use Rattle.float.specs.declared.mark.Mark.{Mark}
use Rattle.float.specs.declared.mark.Marked.{Marked}
use Rattle.float.specs.declared.powi.Counted.{Counted}
use Rattle.float.specs.Marks.{mark_of}
use Rattle.float.specs.Powi.{powi_word, products_of}
use Rattle.float.proofs.F32Number.from_bits.Reads as from_bits
use Rattle.float.proofs.F32Number.to_bits.Reads as to_bits
use Rattle.float.proofs.F32.value.Reads as value
use Rattle.float.proofs.F32.of.Reads as of
use Rattle.float.proofs.F32Number.is_nan.Reads as is_nan
use Rattle.float.proofs.F32Number.is_sign_negative.Reads as is_sign_negative
use Rattle.float.proofs.F32Number.is_sign_positive.Reads as is_sign_positive
use Rattle.float.proofs.F32Number.without_sign.Reads as without_sign
use Rattle.float.proofs.F32Number.extract_exponent_bits.Reads as extract_exponent_bits
use Rattle.float.proofs.F32.extract_exponent_value.Reads as extract_exponent_value
use Rattle.float.proofs.F32Number.exponent_clamped.Reads as exponent_clamped
use Rattle.float.proofs.F32Number.less_one.Reads as less_one
use Rattle.float.proofs.F32Number.is_at_least_zero.Reads as is_at_least_zero
use Rattle.float.proofs.F32Number.is_endless.Reads as is_endless
use Rattle.float.proofs.F32Number.is_zero.Reads as is_zero
use Rattle.float.proofs.F32Number.is_small.Reads as is_small
use Rattle.float.proofs.F32Number.is_below_zero.Reads as is_below_zero
use Rattle.float.proofs.F32.set_exponent.Reads as set_exponent
use Rattle.float.proofs.F32.is_integer.Reads as is_integer
use Rattle.float.proofs.F32.is_even.Reads as is_even
use Rattle.float.proofs.F32.cast_marked.Reads as cast_marked
use Rattle.float.proofs.F32.to_i32.Reads as to_i32
use Rattle.float.proofs.F32Number.trunc.Reads as trunc
use Rattle.float.proofs.F32Number.fract.Reads as fract
use Rattle.float.proofs.F32.floor.Reads as floor
use Rattle.float.proofs.F32.floor_marked.Reads as floor_marked
use Rattle.float.proofs.F32.ceil.Reads as ceil
use Rattle.float.proofs.F32.ceil_marked.Reads as ceil_marked
use Rattle.float.proofs.F32.round.Reads as round
use Rattle.float.proofs.F32.abs.Reads as abs
use Rattle.float.proofs.F32Number.copysign.Reads as copysign
use Rattle.float.proofs.F32Number.sqrt.Reads as sqrt
use Rattle.float.proofs.F32Number.inv.Reads as inv
use Rattle.float.proofs.F32.invsqrt.Reads as invsqrt
use Rattle.float.proofs.F32.recip.Reads as recip
use Rattle.float.proofs.F32.ln.Reads as ln
use Rattle.float.proofs.F32.hypot.Reads as hypot
use Rattle.float.proofs.F32.cos.Reads as cos
use Rattle.float.proofs.F32.powi.Reads as powi
use Rattle.float.proofs.F32.powi_counted.Reads as powi_counted
use Rattle.float.proofs.F32.powf.Reads as powf
use Rattle.float.proofs.F32.signum.Reads as signum
use Rattle.float.proofs.F32.sin.Reads as sin
use Rattle.float.proofs.F32.atan_norm.Reads as atan_norm
use Rattle.float.proofs.F32.atan.Reads as atan
use Rattle.float.proofs.F32.atan2.Reads as atan2
use Rattle.float.proofs.F32.exp.Reads as exp
use Rattle.float.proofs.F32.asin.Reads as asin
use Rattle.float.proofs.F32.acos.Reads as acos
use Rattle.float.proofs.F32.tan.Reads as tan
use Rattle.float.proofs.F32.rem_euclid.Reads as rem_euclid
use Rattle.float.proofs.F32.div_euclid.Reads as div_euclid
use Rattle.float.proofs.mark.U32FromMark.from.Reads as mark_number_reads
use Rattle.float.proofs.cast.from_i32.Reads as from_i32
use Rattle.float.proofs.cast.from_u32.Reads as from_u32
use Rattle.float.proofs.cast.bits_of_i32.Reads as bits_of_i32
use Rattle.float.proofs.cast.i32_of_bits.Reads as i32_of_bits
use Rattle.format.proofs.words.U32Word.difference.Reads as difference
use Rattle.format.proofs.words.U32Word.moved_up.Reads as moved_up
use Rattle.format.proofs.words.U32Word.moved_down.Reads as moved_down
use Rattle.float.proofs.wrap.sum.Reads as sum
use Rattle.float.proofs.wrap.product.Reads as product
use Rattle.float.proofs.steps.abs_of.Reads as abs_of
use Rattle.float.proofs.steps.floor_of.Reads as floor_of
use Rattle.float.proofs.steps.is_at.Reads as is_at
use Rattle.float.proofs.cos.of_word.Reads as cos_of_word_reads

abbrev marked : ℕ → Mark → Marked F32
marked w m = record { value = record { 0 = w }; mark = m }

abbrev counted : ℕ → ℕ → Counted
counted w p = record { number = record { 0 = w }; products = p }

module _ (κs : Lfts 0) where
  -- ---- the number type and its two conversions
  pub f32_from_bits : OneAnswer (from_bits.Post κs) (λ r x. r.0)
  f32_from_bits = pinned _ (λ a r x p. p)

  pub f32_to_bits : OneAnswer (to_bits.Post κs) (λ r x. r)
  f32_to_bits = pinned _ (λ a r x p. p.0)

  pub f32_value : OneAnswer (value.Post κs) (λ r x. r)
  f32_value = pinned _ (λ a r x p. p)

  pub f32_of : OneAnswer (of.Post κs) (λ r x. r.0)
  f32_of = pinned _ (λ a r x p. p)

  -- ---- the helpers
  pub f32_is_nan : OneAnswer (is_nan.Post κs) (λ r x. r)
  f32_is_nan = pinned _ (λ a r x p. p)

  pub f32_is_sign_negative : OneAnswer (is_sign_negative.Post κs) (λ r x. r)
  f32_is_sign_negative = pinned _ (λ a r x p. p)

  pub f32_is_sign_positive : OneAnswer (is_sign_positive.Post κs) (λ r x. r)
  f32_is_sign_positive = pinned _ (λ a r x p. p)

  pub f32_without_sign : OneAnswer (without_sign.Post κs) (λ r x. r.0)
  f32_without_sign = pinned _ (λ a r x p. p)

  pub f32_extract_exponent_bits : OneAnswer (extract_exponent_bits.Post κs) (λ r x. r)
  f32_extract_exponent_bits = pinned _ (λ a r x p. p)

  pub f32_extract_exponent_value : OneAnswer (extract_exponent_value.Post κs) (λ r x. r)
  f32_extract_exponent_value = pinned _ (λ a r x p. p)

  pub f32_exponent_clamped : OneAnswer (exponent_clamped.Post κs) (λ r x. r)
  f32_exponent_clamped = pinned _ (λ a r x p. p)

  pub f32_set_exponent : OneAnswer (set_exponent.Post κs) (λ r x. r.0)
  f32_set_exponent = pinned _ (λ a r x p. p)

  pub f32_is_integer : OneAnswer (is_integer.Post κs) (λ r x. r)
  f32_is_integer = pinned _ (λ a r x p. p)

  pub f32_is_even : OneAnswer (is_even.Post κs) (λ r x. r)
  f32_is_even = pinned _ (λ a r x p. p)

  pub f32_less_one : OneAnswer (less_one.Post κs) (λ r x. r.0)
  f32_less_one = pinned _ (λ a r x p. p)

  pub f32_is_at_least_zero : OneAnswer (is_at_least_zero.Post κs) (λ r x. r)
  f32_is_at_least_zero = pinned _ (λ a r x p. p)

  pub f32_is_endless : OneAnswer (is_endless.Post κs) (λ r x. r)
  f32_is_endless = pinned _ (λ a r x p. p)

  pub f32_is_zero : OneAnswer (is_zero.Post κs) (λ r x. r)
  f32_is_zero = pinned _ (λ a r x p. p)

  pub f32_is_small : OneAnswer (is_small.Post κs) (λ r x. r)
  f32_is_small = pinned _ (λ a r x p. p)

  pub f32_is_below_zero : OneAnswer (is_below_zero.Post κs) (λ r x. r)
  f32_is_below_zero = pinned _ (λ a r x p. p)

  -- ---- the casts
  pub mark_number : OneAnswer (mark_number_reads.Post κs) (λ r x. r)
  mark_number = pinned _ (λ a r x p. p)

  pub f32_cast_marked : OneAnswer (cast_marked.Post κs) (λ r x. r)
  f32_cast_marked = pinned (λ a. record { value = to_signed 31 (of_bits binary32 a.0.0); mark = mark_of a.0.0 }) (λ a r x p. rw (p.0, p.1.0))

  pub f32_to_i32 : OneAnswer (to_i32.Post κs) (λ r x. r)
  f32_to_i32 = pinned _ (λ a r x p. p)

  pub cast_from_i32 : OneAnswer (from_i32.Post κs) (λ r x. r)
  cast_from_i32 = pinned _ (λ a r x p. p)

  pub cast_from_u32 : OneAnswer (from_u32.Post κs) (λ r x. r)
  cast_from_u32 = pinned _ (λ a r x p. p)

  pub cast_bits_of_i32 : OneAnswer (bits_of_i32.Post κs) (λ r x. r)
  cast_bits_of_i32 = pinned _ (λ a r x p. p)

  pub cast_i32_of_bits : OneAnswer (i32_of_bits.Post κs) (λ r x. r)
  cast_i32_of_bits = pinned _ (λ a r x p. p)

  -- ---- arithmetic on words
  pub wrap_sum : OneAnswer (sum.Post κs) (λ r x. r)
  wrap_sum = pinned _ (λ a r x p. p)

  pub wrap_product : OneAnswer (product.Post κs) (λ r x. r)
  wrap_product = pinned _ (λ a r x p. p)

  pub wrap_difference : OneAnswer (difference.Post κs) (λ r x. r)
  wrap_difference = pinned _ (λ a r x p. p)

  pub wrap_shl : OneAnswer (moved_up.Post κs) (λ r x. r)
  wrap_shl = pinned _ (λ a r x p. p)

  pub wrap_shr : OneAnswer (moved_down.Post κs) (λ r x. r)
  wrap_shr = pinned _ (λ a r x p. p)

  pub steps_abs_of : OneAnswer (abs_of.Post κs) (λ r x. r)
  steps_abs_of = pinned _ (λ a r x p. p)

  pub steps_floor_of : OneAnswer (floor_of.Post κs) (λ r x. r)
  steps_floor_of = pinned _ (λ a r x p. p)

  pub steps_is_at : OneAnswer (is_at.Post κs) (λ r x. r)
  steps_is_at = pinned _ (λ a r x p. p)

  pub cos_of_word : OneAnswer (cos_of_word_reads.Post κs) (λ r x. r)
  cos_of_word = pinned _ (λ a r x p. p)

  -- ---- the kernels
  pub f32_trunc : OneAnswer (trunc.Post κs) (λ r x. r.0)
  f32_trunc = pinned _ (λ a r x p. p.0)

  pub f32_fract : OneAnswer (fract.Post κs) (λ r x. r.0)
  f32_fract = pinned _ (λ a r x p. p.0)

  pub f32_floor : OneAnswer (floor.Post κs) (λ r x. r.0)
  f32_floor = pinned _ (λ a r x p. p.0)

  pub f32_floor_marked : OneAnswer (floor_marked.Post κs) (λ r x. r)
  f32_floor_marked = pinned (λ a. marked (floor_word binary32 a.0.0) (mark_of a.0.0)) (λ a r x p. rw (p.0, p.1.1))

  pub f32_ceil : OneAnswer (ceil.Post κs) (λ r x. r.0)
  f32_ceil = pinned _ (λ a r x p. p.0)

  pub f32_ceil_marked : OneAnswer (ceil_marked.Post κs) (λ r x. r)
  f32_ceil_marked = pinned (λ a. marked (ceil_word binary32 a.0.0) (mark_of (turned_word binary32 a.0.0))) (λ a r x p. rw (p.0, p.1.1))

  pub f32_round : OneAnswer (round.Post κs) (λ r x. r.0)
  f32_round = pinned _ (λ a r x p. p.0)

  pub f32_abs : OneAnswer (abs.Post κs) (λ r x. r.0)
  f32_abs = pinned _ (λ a r x p. p.0)

  pub f32_copysign : OneAnswer (copysign.Post κs) (λ r x. r.0)
  f32_copysign = pinned _ (λ a r x p. p.0)

  pub f32_signum : OneAnswer (signum.Post κs) (λ r x. r.0)
  f32_signum = pinned _ (λ a r x p. p)

  pub f32_sqrt : OneAnswer (sqrt.Post κs) (λ r x. r.0)
  f32_sqrt = pinned _ (λ a r x p. p.0)

  pub f32_inv : OneAnswer (inv.Post κs) (λ r x. r.0)
  f32_inv = pinned _ (λ a r x p. p.0)

  pub f32_invsqrt : OneAnswer (invsqrt.Post κs) (λ r x. r.0)
  f32_invsqrt = pinned _ (λ a r x p. p.0)

  pub f32_recip : OneAnswer (recip.Post κs) (λ r x. r.0)
  f32_recip = pinned _ (λ a r x p. p)

  pub f32_ln : OneAnswer (ln.Post κs) (λ r x. r.0)
  f32_ln = pinned _ (λ a r x p. p)

  pub f32_hypot : OneAnswer (hypot.Post κs) (λ r x. r.0)
  f32_hypot = pinned _ (λ a r x p. p)

  pub f32_powf : OneAnswer (powf.Post κs) (λ r x. r.0)
  f32_powf = pinned _ (λ a r x p. p)

  pub f32_powi : OneAnswer (powi.Post κs) (λ r x. r.0)
  f32_powi = pinned _ (λ a r x p. p)

  pub f32_powi_counted : OneAnswer (powi_counted.Post κs) (λ r x. r)
  f32_powi_counted = pinned (λ a. counted (powi_word a.0.0 a.1.0) (products_of a.0.0 a.1.0)) (λ a r x p. rw (p.0, p.1))

  pub f32_cos : OneAnswer (cos.Post κs) (λ r x. r.0)
  f32_cos = pinned _ (λ a r x p. p)

  pub f32_sin : OneAnswer (sin.Post κs) (λ r x. r.0)
  f32_sin = pinned _ (λ a r x p. p)

  pub f32_atan_norm : OneAnswer (atan_norm.Post κs) (λ r x. r.0)
  f32_atan_norm = pinned _ (λ a r x p. p)

  pub f32_atan : OneAnswer (atan.Post κs) (λ r x. r.0)
  f32_atan = pinned _ (λ a r x p. p)

  pub f32_atan2 : OneAnswer (atan2.Post κs) (λ r x. r.0)
  f32_atan2 = pinned _ (λ a r x p. p)

  pub f32_exp : OneAnswer (exp.Post κs) (λ r x. r.0)
  f32_exp = pinned _ (λ a r x p. p)

  pub f32_asin : OneAnswer (asin.Post κs) (λ r x. r.0)
  f32_asin = pinned _ (λ a r x p. p)

  pub f32_acos : OneAnswer (acos.Post κs) (λ r x. r.0)
  f32_acos = pinned _ (λ a r x p. p)

  pub f32_tan : OneAnswer (tan.Post κs) (λ r x. r.0)
  f32_tan = pinned _ (λ a r x p. p)

  pub f32_rem_euclid : OneAnswer (rem_euclid.Post κs) (λ r x. r.0)
  f32_rem_euclid = pinned _ (λ a r x p. p)

  pub f32_div_euclid : OneAnswer (div_euclid.Post κs) (λ r x. r.0)
  f32_div_euclid = pinned _ (λ a r x p. p)
