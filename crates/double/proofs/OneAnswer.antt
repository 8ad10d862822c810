-- Any two answers that a statement of this crate allows coincide: an entry for every public function. Of an F64 the word is all there
-- is to see. Assumes nothing.
use contract.Lifetimes.{Lfts}
use Rattle.format.proofs.Pinned.{OneAnswer, pinned}
use Rattle.double.proofs.F64Number.from_bits.Reads as from_bits
use Rattle.double.proofs.F64Number.to_bits.Reads as to_bits
use Rattle.refusals.proofs.Given.{told, told_with}
use Rattle.double.proofs.F64.value.Reads as value
use Rattle.double.proofs.F64.of.Reads as of
use Rattle.double.proofs.F64Number.is_nan.Reads as is_nan
use Rattle.double.proofs.F64Number.is_sign_negative.Reads as is_sign_negative
use Rattle.double.proofs.F64Number.is_sign_positive.Reads as is_sign_positive
use Rattle.double.proofs.F64Number.without_sign.Reads as without_sign
use Rattle.double.proofs.F64Number.copysign.Reads as copysign
use Rattle.double.proofs.F64Number.extract_exponent_bits.Reads as extract_exponent_bits
use Rattle.double.proofs.F64Number.exponent_clamped.Reads as exponent_clamped
use Rattle.double.proofs.F64Number.less_one.Reads as less_one
use Rattle.double.proofs.F64Number.is_at_least_zero.Reads as is_at_least_zero
use Rattle.double.proofs.F64Number.is_endless.Reads as is_endless
use Rattle.double.proofs.F64Number.is_zero.Reads as is_zero
use Rattle.double.proofs.F64Number.is_small.Reads as is_small
use Rattle.double.proofs.F64Number.is_below_zero.Reads as is_below_zero
use Rattle.double.proofs.F64Number.trunc.Reads as trunc
use Rattle.double.proofs.F64Number.fract.Reads as fract
use Rattle.double.proofs.F64Number.sqrt.Reads as sqrt
use Rattle.double.proofs.F64Number.inv.Reads as inv
use Rattle.format.proofs.words.U64Word.difference.Reads as difference
use Rattle.format.proofs.words.U64Word.moved_up.Reads as moved_up
use Rattle.format.proofs.words.U64Word.moved_down.Reads as moved_down
use Rattle.double.proofs.gate.of.Reads as gate_of_reads
use Rattle.double.proofs.gate.passes.Reads as gate_passes_reads
use Rattle.double.proofs.refusal.first.Reads as first
use Rattle.double.proofs.guarded.word.Reads as word
use Rattle.double.proofs.guarded.trunc.Reads as guarded_trunc_reads
use Rattle.double.proofs.guarded.fract.Reads as guarded_fract_reads
use Rattle.double.proofs.guarded.sqrt.Reads as guarded_sqrt_reads
use Rattle.double.proofs.guarded.inv.Reads as guarded_inv_reads
use Rattle.double.proofs.guarded.call.Reads as call
use Rattle.double.proofs.words.answer.Reads as answer

module _ (κs : Lfts 0) where
  -- ---- the number type
  pub f64_from_bits : OneAnswer (from_bits.Post κs) (λ r x. r.0)
  f64_from_bits = pinned _ (λ a r x p. p)

  pub f64_to_bits : OneAnswer (to_bits.Post κs) (λ r x. r)
  f64_to_bits = pinned _ (λ a r x p. p.0)

  pub f64_value : OneAnswer (value.Post κs) (λ r x. r)
  f64_value = pinned _ (λ a r x p. p)

  pub f64_of : OneAnswer (of.Post κs) (λ r x. r.0)
  f64_of = pinned _ (λ a r x p. p)

  pub f64_is_nan : OneAnswer (is_nan.Post κs) (λ r x. r)
  f64_is_nan = pinned _ (λ a r x p. p)

  pub f64_is_sign_negative : OneAnswer (is_sign_negative.Post κs) (λ r x. r)
  f64_is_sign_negative = pinned _ (λ a r x p. p)

  pub f64_is_sign_positive : OneAnswer (is_sign_positive.Post κs) (λ r x. r)
  f64_is_sign_positive = pinned _ (λ a r x p. p)

  pub f64_without_sign : OneAnswer (without_sign.Post κs) (λ r x. r.0)
  f64_without_sign = pinned _ (λ a r x p. p)

  pub f64_copysign : OneAnswer (copysign.Post κs) (λ r x. r.0)
  f64_copysign = pinned _ (λ a r x p. p.0)

  pub f64_extract_exponent_bits : OneAnswer (extract_exponent_bits.Post κs) (λ r x. r)
  f64_extract_exponent_bits = pinned _ (λ a r x p. p)

  pub f64_exponent_clamped : OneAnswer (exponent_clamped.Post κs) (λ r x. r)
  f64_exponent_clamped = pinned _ (λ a r x p. p)

  pub f64_less_one : OneAnswer (less_one.Post κs) (λ r x. r.0)
  f64_less_one = pinned _ (λ a r x p. p)

  pub f64_is_at_least_zero : OneAnswer (is_at_least_zero.Post κs) (λ r x. r)
  f64_is_at_least_zero = pinned _ (λ a r x p. p)

  pub f64_is_endless : OneAnswer (is_endless.Post κs) (λ r x. r)
  f64_is_endless = pinned _ (λ a r x p. p)

  pub f64_is_zero : OneAnswer (is_zero.Post κs) (λ r x. r)
  f64_is_zero = pinned _ (λ a r x p. p)

  pub f64_is_small : OneAnswer (is_small.Post κs) (λ r x. r)
  f64_is_small = pinned _ (λ a r x p. p)

  pub f64_is_below_zero : OneAnswer (is_below_zero.Post κs) (λ r x. r)
  f64_is_below_zero = pinned _ (λ a r x p. p)

  -- ---- the raw kernels
  pub f64_trunc : OneAnswer (trunc.Post κs) (λ r x. r.0)
  f64_trunc = pinned _ (λ a r x p. p.0)

  pub f64_fract : OneAnswer (fract.Post κs) (λ r x. r.0)
  f64_fract = pinned _ (λ a r x p. p.0)

  pub f64_sqrt : OneAnswer (sqrt.Post κs) (λ r x. r.0)
  f64_sqrt = pinned _ (λ a r x p. p.0)

  pub f64_inv : OneAnswer (inv.Post κs) (λ r x. r.0)
  f64_inv = pinned _ (λ a r x p. p.0)

  -- ---- arithmetic on words
  pub wrap_difference : OneAnswer (difference.Post κs) (λ r x. r)
  wrap_difference = pinned _ (λ a r x p. p)

  pub wrap_shl : OneAnswer (moved_up.Post κs) (λ r x. r)
  wrap_shl = pinned _ (λ a r x p. p)

  pub wrap_shr : OneAnswer (moved_down.Post κs) (λ r x. r)
  wrap_shr = pinned _ (λ a r x p. p)

  -- ---- the gates and the refusals
  pub gate_of : OneAnswer (gate_of_reads.Post κs) (λ r x. r)
  gate_of = pinned _ (λ a r x p. p)

  pub gate_passes : OneAnswer (gate_passes_reads.Post κs) (λ r x. r)
  gate_passes = pinned _ (λ a r x p. p)

  pub refusal_first : OneAnswer (first.Post κs) (λ r x. r)
  refusal_first = pinned _ (λ a r x p. told _ r p)

  -- ---- the guarded calls
  pub guarded_word : OneAnswer (word.Post κs) (λ r x. r)
  guarded_word = pinned _ (λ a r x p. p)

  pub guarded_trunc : OneAnswer (guarded_trunc_reads.Post κs) (λ r x. r)
  guarded_trunc = pinned _ (λ a r x p. p.0.answer)

  pub guarded_fract : OneAnswer (guarded_fract_reads.Post κs) (λ r x. r)
  guarded_fract = pinned _ (λ a r x p. p.0.answer)

  pub guarded_sqrt : OneAnswer (guarded_sqrt_reads.Post κs) (λ r x. r)
  guarded_sqrt = pinned _ (λ a r x p. p.0.answer)

  pub guarded_inv : OneAnswer (guarded_inv_reads.Post κs) (λ r x. r)
  guarded_inv = pinned _ (λ a r x p. p.0.answer)

  pub guarded_call : OneAnswer (call.Post κs) (λ r x. r)
  guarded_call = pinned _ (λ a r x p. p.answer)

  -- ---- by number, raw or guarded
  pub words_answer : OneAnswer (answer.Post κs) (λ r x. r)
  words_answer = pinned _ (λ a r x p. told_with _ _ 0 r p.0 p.1)
