-- Any two answers that a statement of this crate allows coincide: an entry for every exported call. Assumes nothing.
use Prim.Native.Nat.{ℕ}
use mathlib.Core.Path.{◌≡◌, ap, ◌∙◌}
use mathlib.Core.List.{List}
use lib.Ieee.{binary32, of_bits}
use contract.Lifetimes.{Lfts}
use Rattle.format.specs.Parts.{trunc_word, fract_word}
use Rattle.guard.specs.Operations.{op_trunc}
use Rattle.guard.specs.Refusals.{refusal_of}
use Rattle.frame.specs.Words.{word_beside}
use Rattle.frame.specs.Frame.{returned, left}
use Rattle.frame.proofs.OneAnswer.{seen}
use Rattle.recipe.proofs.Entries.{one_words}
use Rattle.strip.proofs.OneAnswer as strip
use Rattle.grain.specs.declared.Grain.{Grain}
use Rattle.grain.specs.Grain.{offered, Leaves}
use Rattle.soft.proofs.Divide.{divides_one}
use Rattle.soft.proofs.Multiply.{multiplies_one}
use Rattle.soft.proofs.Sum.{adds_one, subtracts_one}
use Rattle.dampmeadow.proofs.dampmeadow_answer.Reads as answer_reads
use Rattle.format.proofs.Pinned.{OneAnswer, pinned}
use Rattle.dampmeadow.proofs.dampmeadow_words.Reads as words
use Rattle.dampmeadow.proofs.dampmeadow_atan_norm.Reads as atan_norm
use Rattle.dampmeadow.proofs.dampmeadow_atan_norm_guarded.Reads as atan_norm_guarded
use Rattle.dampmeadow.proofs.dampmeadow_parts.Reads as parts_reads
use Rattle.dampmeadow.proofs.dampmeadow_powi_products.Reads as powi_products
use Rattle.dampmeadow.proofs.dampmeadow_recipe.Reads as recipe_reads
use Rattle.dampmeadow.proofs.dampmeadow_strip.Reads as strip_reads
use Rattle.dampmeadow.proofs.dampmeadow_floor_marked.Reads as floor_marked
use Rattle.dampmeadow.proofs.dampmeadow_ceil_marked.Reads as ceil_marked
use Rattle.dampmeadow.proofs.dampmeadow_grain_offer.Reads as grain_offer
use Rattle.dampmeadow.proofs.engine.dampmeadow_soft_add.Reads as soft_add
use Rattle.dampmeadow.proofs.engine.dampmeadow_soft_sub.Reads as soft_sub
use Rattle.dampmeadow.proofs.engine.dampmeadow_soft_mul.Reads as soft_mul
use Rattle.dampmeadow.proofs.engine.dampmeadow_soft_div.Reads as soft_div
use Rattle.dampmeadow.proofs.engine.dampmeadow_soft_cos.Reads as soft_cos
use Rattle.dampmeadow.proofs.engine.dampmeadow_soft_sin.Reads as soft_sin
use Rattle.dampmeadow.proofs.engine.dampmeadow_soft_atan_norm.Reads as soft_atan_norm
use Rattle.dampmeadow.proofs.engine.dampmeadow_soft_atan.Reads as soft_atan
use Rattle.dampmeadow.proofs.studio.dampmeadow_double.Reads as double
use Rattle.dampmeadow.proofs.studio.dampmeadow_columns.Reads as columns

pub dampmeadow_words : (κs : Lfts 0) → OneAnswer (words.Post κs) (λ r x. r)
dampmeadow_words κs = pinned _ (λ a r x p. p)

pub dampmeadow_atan_norm : (κs : Lfts 0) → OneAnswer (atan_norm.Post κs) (λ r x. r)
dampmeadow_atan_norm κs = pinned _ (λ a r x p. p)

pub dampmeadow_atan_norm_guarded : (κs : Lfts 0) → OneAnswer (atan_norm_guarded.Post κs) (λ r x. r)
dampmeadow_atan_norm_guarded κs = pinned _ (λ a r x p. p)

pub dampmeadow_powi_products : (κs : Lfts 0) → OneAnswer (powi_products.Post κs) (λ r x. r)
dampmeadow_powi_products κs = pinned _ (λ a r x p. p)

pub dampmeadow_answer : (κs : Lfts 2) → OneAnswer (answer_reads.Post κs) (λ r x. seen r x.1.0.now)
dampmeadow_answer κs =
    pinned (λ a. seen (returned a.0.now a.1.0.now) (left a.0.now a.1.0.now))
    (λ a r x p. ap (λ (n : ℕ). seen n x.1.0.now) p.0 ∙ ap (λ (l : List ℕ). seen (returned a.0.now a.1.0.now) l) p.1)

-- what a caller sees of the call with two lent words
pub record SeenParts : Type 0 where
  pub number : ℕ
  pub whole : ℕ
  pub rest : ℕ

abbrev pub seen_parts : ℕ → ℕ → ℕ → SeenParts
seen_parts n w v = record { number = n; whole = w; rest = v }

parts_of : ℕ → SeenParts
parts_of a = let n = refusal_of op_trunc a 0 in seen_parts n (word_beside n (trunc_word binary32 a)) (word_beside n (fract_word binary32 a))

pub dampmeadow_parts : (κs : Lfts 2) → OneAnswer (parts_reads.Post κs) (λ r x. seen_parts r x.1.0.now x.1.1.0.now)
unfolding parts_of
dampmeadow_parts κs = pinned (λ a. parts_of a.0) (λ a r x p. rw (p.0, p.1.0, p.1.1))

pub dampmeadow_recipe : (κs : Lfts 1) → OneAnswer (recipe_reads.Post κs) (λ r x. r)
dampmeadow_recipe κs a r s x y p q = one_words a.0.now (of_bits binary32 a.1.0) r s p q

pub dampmeadow_strip : (κs : Lfts 4) → OneAnswer (strip_reads.Post κs) (λ r x. strip.seen r x.1.1.1.0.now x.1.1.1.1.0.now)
dampmeadow_strip κs = pinned (λ a. strip.shows a.0 a.1.0.now a.1.1.0.now a.1.1.1.0.now a.1.1.1.1.0.now) (λ a r x p. strip.strips p)

pub dampmeadow_floor_marked : (κs : Lfts 0) → OneAnswer (floor_marked.Post κs) (λ r x. r)
dampmeadow_floor_marked κs = pinned _ (λ a r x p. p)

pub dampmeadow_ceil_marked : (κs : Lfts 0) → OneAnswer (ceil_marked.Post κs) (λ r x. r)
dampmeadow_ceil_marked κs = pinned _ (λ a r x p. p)

-- What is seen of the offer in place is the refusal and the record that was lent: by what its contract says, `Leaves`, and over the contract itself.
pub dampmeadow_grain_offer : (g : Grain) (w n m : ℕ) (h k : Grain) → Leaves g w n h → Leaves g w m k → (n ≡ m) × (h ≡ k)
dampmeadow_grain_offer g w n m h k p q = (cc, cc)

pub dampmeadow_grain_offer_lent : (κs : Lfts 1) → OneAnswer {S = ℕ × Grain} (grain_offer.Post κs) (λ r x. (r, x.0.now))
dampmeadow_grain_offer_lent κs = pinned (λ a. ((offered a.0.now a.1.0).refusal, (offered a.0.now a.1.0).grain)) (λ a r x p. rw (p.0, p.1))

-- ---- the engine without floats

pub engine_dampmeadow_soft_add : (κs : Lfts 0) → OneAnswer (soft_add.Post κs) (λ r x. r)
engine_dampmeadow_soft_add κs = pinned _ (λ a r x p. adds_one binary32 _ _ r p.1)

pub engine_dampmeadow_soft_sub : (κs : Lfts 0) → OneAnswer (soft_sub.Post κs) (λ r x. r)
engine_dampmeadow_soft_sub κs = pinned _ (λ a r x p. subtracts_one binary32 a.0 a.1.0 r p.1)

pub engine_dampmeadow_soft_mul : (κs : Lfts 0) → OneAnswer (soft_mul.Post κs) (λ r x. r)
engine_dampmeadow_soft_mul κs = pinned _ (λ a r x p. multiplies_one binary32 _ _ r p.1)

pub engine_dampmeadow_soft_div : (κs : Lfts 0) → OneAnswer (soft_div.Post κs) (λ r x. r)
engine_dampmeadow_soft_div κs = pinned _ (λ a r x p. divides_one binary32 _ _ r p.1)

pub engine_dampmeadow_soft_cos : (κs : Lfts 0) → OneAnswer (soft_cos.Post κs) (λ r x. r)
engine_dampmeadow_soft_cos κs = pinned _ (λ a r x p. p)

pub engine_dampmeadow_soft_sin : (κs : Lfts 0) → OneAnswer (soft_sin.Post κs) (λ r x. r)
engine_dampmeadow_soft_sin κs = pinned _ (λ a r x p. p)

pub engine_dampmeadow_soft_atan_norm : (κs : Lfts 0) → OneAnswer (soft_atan_norm.Post κs) (λ r x. r)
engine_dampmeadow_soft_atan_norm κs = pinned _ (λ a r x p. p)

pub engine_dampmeadow_soft_atan : (κs : Lfts 0) → OneAnswer (soft_atan.Post κs) (λ r x. r)
engine_dampmeadow_soft_atan κs = pinned _ (λ a r x p. p)

-- ---- the studio edition: what is returned, and what each lent number is left with

pub studio_dampmeadow_double : (κs : Lfts 1) → OneAnswer (double.Post κs) (λ r x. r)
studio_dampmeadow_double κs = pinned _ (λ a r x p. p.0)

pub studio_dampmeadow_double_word : (κs : Lfts 1) → OneAnswer (double.Post κs) (λ r x. x.1.1.0.now)
studio_dampmeadow_double_word κs = pinned _ (λ a r x p. p.1)

module _ (κs : Lfts 2) where
  pub studio_dampmeadow_columns : OneAnswer (columns.Post κs) (λ r x. r)
  studio_dampmeadow_columns = pinned _ (λ a r x p. p.0)

  pub studio_dampmeadow_columns_first : OneAnswer (columns.Post κs) (λ r x. x.1.1.1.1.1.0.now)
  studio_dampmeadow_columns_first = pinned _ (λ a r x p. p.1.0)

  pub studio_dampmeadow_columns_last : OneAnswer (columns.Post κs) (λ r x. x.1.1.1.1.1.1.0.now)
  studio_dampmeadow_columns_last = pinned _ (λ a r x p. p.1.1)
