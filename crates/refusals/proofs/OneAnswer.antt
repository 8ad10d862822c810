-- Any two answers that a statement of this crate allows coincide, whatever an answer is: an entry for every public function. Assumes nothing.
use contract.Lifetimes.{Lfts}
use denote.RattleType.{RattleType}
use denote.Param.Laws.{Laws, IsCopy}
use mir.Syntax.{Dict}
use Rattle.std.specs.declared.clone.Clone.{Ghosts}
use Rattle.format.proofs.Pinned.{OneAnswer, pinned}
use Rattle.refusals.proofs.U32FromRefusal.from.Reads as refusal_number_reads
use Rattle.refusals.proofs.number.Reads as number_reads
use Rattle.refusals.proofs.numbered.Reads as numbered_reads

pub numbered : (κs : Lfts 0) → OneAnswer (numbered_reads.Post κs) (λ r x. r)
numbered κs = pinned _ (λ a r x p. p)

pub refusal_number : (κs : Lfts 0) → OneAnswer (refusal_number_reads.Post κs) (λ r x. r)
refusal_number κs = pinned _ (λ a r x p. p)

pub number : (T : RattleType) (L : Laws T) (C : IsCopy T) (G : Ghosts T.Denot) (D : Dict) (κs : Lfts 1) → OneAnswer (number_reads.Post T L C G D κs) (λ r x. r)
number T L C G D κs = pinned _ (λ a r x p. p)
