-- Any two answers that a statement of this crate allows coincide: an entry for every public function. Assumes nothing.
use Prim.Native.Nat.{ℕ}
use mathlib.Core.Path.{sym, ◌∙◌}
use contract.Lifetimes.{Lfts}
use Rattle.format.proofs.Pinned.{OneAnswer, pinned}
use Rattle.refusals.proofs.Given.{told}
use Rattle.guard.proofs.word.Reads as word_reads
use Rattle.guard.proofs.products.Reads as products_reads
use Rattle.guard.proofs.part_words.Reads as part_words_reads
use Rattle.guard.proofs.gate.of.Reads as gate_of_reads
use Rattle.guard.proofs.gate.passes.Reads as gate_passes_reads
use Rattle.guard.proofs.gate.judged.Reads as gate_judged_reads
use Rattle.guard.proofs.refusal.first.Reads as refusal_first_reads
use Rattle.guard.proofs.trunc.Reads as trunc_reads
use Rattle.guard.proofs.fract.Reads as fract_reads
use Rattle.guard.proofs.floor.Reads as floor_reads
use Rattle.guard.proofs.ceil.Reads as ceil_reads
use Rattle.guard.proofs.round.Reads as round_reads
use Rattle.guard.proofs.abs.Reads as abs_reads
use Rattle.guard.proofs.copysign.Reads as copysign_reads
use Rattle.guard.proofs.signum.Reads as signum_reads
use Rattle.guard.proofs.sqrt.Reads as sqrt_reads
use Rattle.guard.proofs.invsqrt.Reads as invsqrt_reads
use Rattle.guard.proofs.inv.Reads as inv_reads
use Rattle.guard.proofs.recip.Reads as recip_reads
use Rattle.guard.proofs.exp.Reads as exp_reads
use Rattle.guard.proofs.ln.Reads as ln_reads
use Rattle.guard.proofs.powi.Reads as powi_reads
use Rattle.guard.proofs.powf.Reads as powf_reads
use Rattle.guard.proofs.atan.Reads as atan_reads
use Rattle.guard.proofs.atan2.Reads as atan2_reads
use Rattle.guard.proofs.cos.Reads as cos_reads
use Rattle.guard.proofs.sin.Reads as sin_reads
use Rattle.guard.proofs.hypot.Reads as hypot_reads
use Rattle.guard.proofs.asin.Reads as asin_reads
use Rattle.guard.proofs.acos.Reads as acos_reads
use Rattle.guard.proofs.tan.Reads as tan_reads
use Rattle.guard.proofs.rem_euclid.Reads as rem_euclid_reads
use Rattle.guard.proofs.div_euclid.Reads as div_euclid_reads
use Rattle.guard.proofs.atan_norm.Reads as atan_norm_reads
use Rattle.guard.proofs.parts.Reads as parts_reads
use Rattle.guard.proofs.call.Reads as call_reads

pub word : (κs : Lfts 0) → OneAnswer (word_reads.Post κs) (λ r x. r)
word κs = pinned _ (λ a r x p. p)

pub products : (κs : Lfts 0) → OneAnswer (products_reads.Post κs) (λ r x. r)
products κs = pinned _ (λ a r x p. p)

pub part_words : (κs : Lfts 0) → OneAnswer {S = ℕ × ℕ} (part_words_reads.Post κs) (λ r x. (r.0, r.1))
part_words κs = λ a r s x y p q. let e = p.0 ∙ sym q.0 in let d = p.1 ∙ sym q.1 in cc

pub gate_of : (κs : Lfts 0) → OneAnswer (gate_of_reads.Post κs) (λ r x. r)
gate_of κs = pinned _ (λ a r x p. p)

pub gate_passes : (κs : Lfts 0) → OneAnswer (gate_passes_reads.Post κs) (λ r x. r)
gate_passes κs = pinned _ (λ a r x p. p)

pub gate_judged : (κs : Lfts 0) → OneAnswer (gate_judged_reads.Post κs) (λ r x. r)
gate_judged κs = pinned _ (λ a r x p. p)

pub refusal_first : (κs : Lfts 0) → OneAnswer (refusal_first_reads.Post κs) (λ r x. r)
refusal_first κs = pinned _ (λ a r x p. told _ r p)

pub trunc : (κs : Lfts 0) → OneAnswer (trunc_reads.Post κs) (λ r x. r)
trunc κs = pinned _ (λ a r x p. p.0.answer)

pub fract : (κs : Lfts 0) → OneAnswer (fract_reads.Post κs) (λ r x. r)
fract κs = pinned _ (λ a r x p. p.0.answer)

pub floor : (κs : Lfts 0) → OneAnswer (floor_reads.Post κs) (λ r x. r)
floor κs = pinned _ (λ a r x p. p.0.answer)

pub ceil : (κs : Lfts 0) → OneAnswer (ceil_reads.Post κs) (λ r x. r)
ceil κs = pinned _ (λ a r x p. p.0.answer)

pub round : (κs : Lfts 0) → OneAnswer (round_reads.Post κs) (λ r x. r)
round κs = pinned _ (λ a r x p. p.0.answer)

pub abs : (κs : Lfts 0) → OneAnswer (abs_reads.Post κs) (λ r x. r)
abs κs = pinned _ (λ a r x p. p.answer)

pub copysign : (κs : Lfts 0) → OneAnswer (copysign_reads.Post κs) (λ r x. r)
copysign κs = pinned _ (λ a r x p. p.answer)

pub signum : (κs : Lfts 0) → OneAnswer (signum_reads.Post κs) (λ r x. r)
signum κs = pinned _ (λ a r x p. p.answer)

pub sqrt : (κs : Lfts 0) → OneAnswer (sqrt_reads.Post κs) (λ r x. r)
sqrt κs = pinned _ (λ a r x p. p.0.answer)

pub invsqrt : (κs : Lfts 0) → OneAnswer (invsqrt_reads.Post κs) (λ r x. r)
invsqrt κs = pinned _ (λ a r x p. p.0.answer)

pub inv : (κs : Lfts 0) → OneAnswer (inv_reads.Post κs) (λ r x. r)
inv κs = pinned _ (λ a r x p. p.0.answer)

pub recip : (κs : Lfts 0) → OneAnswer (recip_reads.Post κs) (λ r x. r)
recip κs = pinned _ (λ a r x p. p.answer)

pub exp : (κs : Lfts 0) → OneAnswer (exp_reads.Post κs) (λ r x. r)
exp κs = pinned _ (λ a r x p. p.answer)

pub ln : (κs : Lfts 0) → OneAnswer (ln_reads.Post κs) (λ r x. r)
ln κs = pinned _ (λ a r x p. p.answer)

pub powi : (κs : Lfts 0) → OneAnswer (powi_reads.Post κs) (λ r x. r)
powi κs = pinned _ (λ a r x p. p.answer)

pub powf : (κs : Lfts 0) → OneAnswer (powf_reads.Post κs) (λ r x. r)
powf κs = pinned _ (λ a r x p. p.answer)

pub atan : (κs : Lfts 0) → OneAnswer (atan_reads.Post κs) (λ r x. r)
atan κs = pinned _ (λ a r x p. p.answer)

pub atan2 : (κs : Lfts 0) → OneAnswer (atan2_reads.Post κs) (λ r x. r)
atan2 κs = pinned _ (λ a r x p. p.answer)

pub cos : (κs : Lfts 0) → OneAnswer (cos_reads.Post κs) (λ r x. r)
cos κs = pinned _ (λ a r x p. p.answer)

pub sin : (κs : Lfts 0) → OneAnswer (sin_reads.Post κs) (λ r x. r)
sin κs = pinned _ (λ a r x p. p.answer)

pub hypot : (κs : Lfts 0) → OneAnswer (hypot_reads.Post κs) (λ r x. r)
hypot κs = pinned _ (λ a r x p. p.answer)

pub asin : (κs : Lfts 0) → OneAnswer (asin_reads.Post κs) (λ r x. r)
asin κs = pinned _ (λ a r x p. p.answer)

pub acos : (κs : Lfts 0) → OneAnswer (acos_reads.Post κs) (λ r x. r)
acos κs = pinned _ (λ a r x p. p.answer)

pub tan : (κs : Lfts 0) → OneAnswer (tan_reads.Post κs) (λ r x. r)
tan κs = pinned _ (λ a r x p. p.answer)

pub rem_euclid : (κs : Lfts 0) → OneAnswer (rem_euclid_reads.Post κs) (λ r x. r)
rem_euclid κs = pinned _ (λ a r x p. p.0.answer)

pub div_euclid : (κs : Lfts 0) → OneAnswer (div_euclid_reads.Post κs) (λ r x. r)
div_euclid κs = pinned _ (λ a r x p. p.answer)

pub atan_norm : (κs : Lfts 0) → OneAnswer (atan_norm_reads.Post κs) (λ r x. r)
atan_norm κs = pinned _ (λ a r x p. p.answer)

pub parts : (κs : Lfts 0) → OneAnswer (parts_reads.Post κs) (λ r x. r)
parts κs = pinned _ (λ a r x p. p.0.answer)

pub call : (κs : Lfts 0) → OneAnswer (call_reads.Post κs) (λ r x. r)
call κs = pinned _ (λ a r x p. p.answer)
