-- Any two answers that a statement of a word's functions allows coincide, at either width. Assumes nothing.
use contract.Lifetimes.{Lfts}
use Rattle.format.proofs.Pinned.{OneAnswer, pinned}
use Rattle.format.proofs.words.U32Word.difference.Reads as difference_32
use Rattle.format.proofs.words.U32Word.moved_up.Reads as moved_up_32
use Rattle.format.proofs.words.U32Word.moved_down.Reads as moved_down_32
use Rattle.format.proofs.words.U32Word.half.Reads as half_32
use Rattle.format.proofs.words.U64Word.difference.Reads as difference_64
use Rattle.format.proofs.words.U64Word.moved_up.Reads as moved_up_64
use Rattle.format.proofs.words.U64Word.moved_down.Reads as moved_down_64
use Rattle.format.proofs.words.U64Word.half.Reads as half_64

module _ (κs : Lfts 0) where
  pub u32_difference : OneAnswer (difference_32.Post κs) (λ r x. r)
  u32_difference = pinned _ (λ a r x p. p)

  pub u32_moved_up : OneAnswer (moved_up_32.Post κs) (λ r x. r)
  u32_moved_up = pinned _ (λ a r x p. p)

  pub u32_moved_down : OneAnswer (moved_down_32.Post κs) (λ r x. r)
  u32_moved_down = pinned _ (λ a r x p. p)

  pub u32_half : OneAnswer (half_32.Post κs) (λ r x. r)
  u32_half = pinned _ (λ a r x p. p)

  pub u64_difference : OneAnswer (difference_64.Post κs) (λ r x. r)
  u64_difference = pinned _ (λ a r x p. p)

  pub u64_moved_up : OneAnswer (moved_up_64.Post κs) (λ r x. r)
  u64_moved_up = pinned _ (λ a r x p. p)

  pub u64_moved_down : OneAnswer (moved_down_64.Post κs) (λ r x. r)
  u64_moved_down = pinned _ (λ a r x p. p)

  pub u64_half : OneAnswer (half_64.Post κs) (λ r x. r)
  u64_half = pinned _ (λ a r x p. p)
