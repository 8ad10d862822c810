-- Any two answers that a statement of this crate allows coincide: an entry for every exported call, over the statement that the check itself
-- reads off its contract. Of the four operations what IEEE 754 says pins the word, by itself. Assumes nothing.
use contract.Lifetimes.{Lfts}
use lib.Ieee.{binary32}
use Rattle.format.proofs.Pinned.{OneAnswer, pinned}
use Rattle.soft.proofs.Divide.{divides_one}
use Rattle.soft.proofs.Multiply.{multiplies_one}
use Rattle.soft.proofs.Sum.{adds_one, subtracts_one}
use Rattle.soft_c.proofs.dampmeadow_soft_add.Reads as soft_add
use Rattle.soft_c.proofs.dampmeadow_soft_sub.Reads as soft_sub
use Rattle.soft_c.proofs.dampmeadow_soft_mul.Reads as soft_mul
use Rattle.soft_c.proofs.dampmeadow_soft_div.Reads as soft_div
use Rattle.soft_c.proofs.dampmeadow_soft_cos.Reads as soft_cos
use Rattle.soft_c.proofs.dampmeadow_soft_sin.Reads as soft_sin
use Rattle.soft_c.proofs.dampmeadow_soft_atan_norm.Reads as soft_atan_norm
use Rattle.soft_c.proofs.dampmeadow_soft_atan.Reads as soft_atan

pub dampmeadow_soft_add : (κs : Lfts 0) → OneAnswer (soft_add.Post κs) (λ r x. r)
dampmeadow_soft_add κs = pinned _ (λ a r x p. adds_one binary32 _ _ r p.1)

pub dampmeadow_soft_sub : (κs : Lfts 0) → OneAnswer (soft_sub.Post κs) (λ r x. r)
dampmeadow_soft_sub κs = pinned _ (λ a r x p. subtracts_one binary32 a.0 a.1.0 r p.1)

pub dampmeadow_soft_mul : (κs : Lfts 0) → OneAnswer (soft_mul.Post κs) (λ r x. r)
dampmeadow_soft_mul κs = pinned _ (λ a r x p. multiplies_one binary32 _ _ r p.1)

pub dampmeadow_soft_div : (κs : Lfts 0) → OneAnswer (soft_div.Post κs) (λ r x. r)
dampmeadow_soft_div κs = pinned _ (λ a r x p. divides_one binary32 _ _ r p.1)

pub dampmeadow_soft_cos : (κs : Lfts 0) → OneAnswer (soft_cos.Post κs) (λ r x. r)
dampmeadow_soft_cos κs = pinned _ (λ a r x p. p)

pub dampmeadow_soft_sin : (κs : Lfts 0) → OneAnswer (soft_sin.Post κs) (λ r x. r)
dampmeadow_soft_sin κs = pinned _ (λ a r x p. p)

pub dampmeadow_soft_atan_norm : (κs : Lfts 0) → OneAnswer (soft_atan_norm.Post κs) (λ r x. r)
dampmeadow_soft_atan_norm κs = pinned _ (λ a r x p. p)

pub dampmeadow_soft_atan : (κs : Lfts 0) → OneAnswer (soft_atan.Post κs) (λ r x. r)
dampmeadow_soft_atan κs = pinned _ (λ a r x p. p)
