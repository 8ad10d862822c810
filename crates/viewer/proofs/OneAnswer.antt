-- Any two answers that a statement of this crate allows coincide. Of a part that is lent back what stands in it is seen, and where it stands.
-- Assumes nothing.
use contract.Lifetimes.{Lfts}
use Rattle.format.proofs.Pinned.{OneAnswer, pinned}
use Rattle.viewer.proofs.columns.Reads as columns_reads
use Rattle.viewer.proofs.span.Reads as span_reads

pub span : (κs : Lfts 0) → OneAnswer (span_reads.Post κs) (λ r x. r)
span κs = pinned _ (λ a r x p. p)

pub columns : (κs : Lfts 1) → OneAnswer (columns_reads.Post κs) (λ r x. r.now)
columns κs = pinned _ (λ a r x p. p.0)

pub columns_place : (κs : Lfts 1) → OneAnswer (columns_reads.Post κs) (λ r x. r.ref_ptr)
columns_place κs = pinned _ (λ a r x p. p.1)
