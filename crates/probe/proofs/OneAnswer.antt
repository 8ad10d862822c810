-- Any two answers that a statement of this crate allows coincide: an entry for every exported call. Assumes nothing.
use contract.Lifetimes.{Lfts}
use Rattle.format.proofs.Pinned.{OneAnswer, pinned}
use Rattle.probe.proofs.probe_to_i32.Reads as to_i32
use Rattle.probe.proofs.probe_cast_marked.Reads as cast_marked
use Rattle.probe.proofs.probe_from_i32.Reads as from_i32
use Rattle.probe.proofs.probe_from_u32.Reads as from_u32
use Rattle.probe.proofs.probe_powi_products.Reads as powi_products
use Rattle.probe.proofs.probe_value.Reads as value
use Rattle.probe.proofs.probe_exponent_bits.Reads as exponent_bits
use Rattle.probe.proofs.probe_exponent_value.Reads as exponent_value
use Rattle.probe.proofs.probe_without_sign.Reads as without_sign
use Rattle.probe.proofs.probe_set_exponent.Reads as set_exponent
use Rattle.probe.proofs.probe_is_integer.Reads as is_integer
use Rattle.probe.proofs.probe_is_even.Reads as is_even
use Rattle.probe.proofs.probe_constant.Reads as constant
use Rattle.probe.proofs.studio.probe_double_constant.Reads as double_constant
use Rattle.probe.proofs.studio.probe_columns.Reads as columns

module _ (κs : Lfts 0) where
  pub probe_to_i32 : OneAnswer (to_i32.Post κs) (λ r x. r)
  probe_to_i32 = pinned _ (λ a r x p. p)

  pub probe_cast_marked : OneAnswer (cast_marked.Post κs) (λ r x. r)
  probe_cast_marked = pinned _ (λ a r x p. p)

  pub probe_from_i32 : OneAnswer (from_i32.Post κs) (λ r x. r)
  probe_from_i32 = pinned _ (λ a r x p. p)

  pub probe_from_u32 : OneAnswer (from_u32.Post κs) (λ r x. r)
  probe_from_u32 = pinned _ (λ a r x p. p)

  pub probe_powi_products : OneAnswer (powi_products.Post κs) (λ r x. r)
  probe_powi_products = pinned _ (λ a r x p. p)

  pub probe_value : OneAnswer (value.Post κs) (λ r x. r)
  probe_value = pinned _ (λ a r x p. p)

  pub probe_exponent_bits : OneAnswer (exponent_bits.Post κs) (λ r x. r)
  probe_exponent_bits = pinned _ (λ a r x p. p)

  pub probe_exponent_value : OneAnswer (exponent_value.Post κs) (λ r x. r)
  probe_exponent_value = pinned _ (λ a r x p. p)

  pub probe_without_sign : OneAnswer (without_sign.Post κs) (λ r x. r)
  probe_without_sign = pinned _ (λ a r x p. p)

  pub probe_set_exponent : OneAnswer (set_exponent.Post κs) (λ r x. r)
  probe_set_exponent = pinned _ (λ a r x p. p)

  pub probe_is_integer : OneAnswer (is_integer.Post κs) (λ r x. r)
  probe_is_integer = pinned _ (λ a r x p. p)

  pub probe_is_even : OneAnswer (is_even.Post κs) (λ r x. r)
  probe_is_even = pinned _ (λ a r x p. p)

  pub studio_probe_double_constant : OneAnswer (double_constant.Post κs) (λ r x. r)
  studio_probe_double_constant = pinned _ (λ a r x p. p)

  pub probe_constant : OneAnswer (constant.Post κs) (λ r x. r)
  probe_constant = pinned _ (λ a r x p. p)

pub studio_probe_columns : (κs : Lfts 1) → OneAnswer (columns.Post κs) (λ r x. r)
studio_probe_columns κs = pinned _ (λ a r x p. p)
