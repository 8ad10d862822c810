-- Any two answers that a statement of this crate allows coincide: an entry for every public function, over the statement that the check itself
-- reads off its contract. Of the four operations what IEEE 754 says pins the word, by itself. Assumes nothing.
use contract.Lifetimes.{Lfts}
use lib.Ieee.{binary32}
use Rattle.format.proofs.Pinned.{OneAnswer, pinned}
use Rattle.soft.proofs.Divide.{divides_one}
use Rattle.soft.proofs.Multiply.{multiplies_one}
use Rattle.soft.proofs.Sum.{adds_one, subtracts_one}
use Rattle.soft.proofs.add.add.Reads as add_reads
use Rattle.soft.proofs.add.sub.Reads as sub_reads
use Rattle.soft.proofs.mul.mul.Reads as mul_reads
use Rattle.soft.proofs.div.div.Reads as div_reads
use Rattle.soft.proofs.floor.floor.Reads as floor_reads
use Rattle.soft.proofs.cos.cos.Reads as cos_reads
use Rattle.soft.proofs.sin.sin.Reads as sin_reads
use Rattle.soft.proofs.atan.atan_norm.Reads as atan_norm_reads
use Rattle.soft.proofs.atan.atan.Reads as atan_reads

pub add_add : (κs : Lfts 0) → OneAnswer (add_reads.Post κs) (λ r x. r)
add_add κs = pinned _ (λ a r x p. adds_one binary32 _ _ r p.1)

pub add_sub : (κs : Lfts 0) → OneAnswer (sub_reads.Post κs) (λ r x. r)
add_sub κs = pinned _ (λ a r x p. subtracts_one binary32 a.0 a.1.0 r p.1)

pub mul_mul : (κs : Lfts 0) → OneAnswer (mul_reads.Post κs) (λ r x. r)
mul_mul κs = pinned _ (λ a r x p. multiplies_one binary32 _ _ r p.1)

pub div_div : (κs : Lfts 0) → OneAnswer (div_reads.Post κs) (λ r x. r)
div_div κs = pinned _ (λ a r x p. divides_one binary32 _ _ r p.1)

pub floor_floor : (κs : Lfts 0) → OneAnswer (floor_reads.Post κs) (λ r x. r)
floor_floor κs = pinned _ (λ a r x p. p)

pub cos_cos : (κs : Lfts 0) → OneAnswer (cos_reads.Post κs) (λ r x. r)
cos_cos κs = pinned _ (λ a r x p. p.0)

pub sin_sin : (κs : Lfts 0) → OneAnswer (sin_reads.Post κs) (λ r x. r)
sin_sin κs = pinned _ (λ a r x p. p.0)

pub atan_atan_norm : (κs : Lfts 0) → OneAnswer (atan_norm_reads.Post κs) (λ r x. r)
atan_atan_norm κs = pinned _ (λ a r x p. p.0)

pub atan_atan : (κs : Lfts 0) → OneAnswer (atan_reads.Post κs) (λ r x. r)
atan_atan κs = pinned _ (λ a r x p. p.0)
